-- Tables of conflicts that grow.
use Rattle.std.proofs.Common.{◌≡◌, ◌⊎◌, inl, inr, refl, sym, ap, ap₂, ◌∙◌, subst, ℕ, suc, ◌<◌, ◌≤◌, Bool, true, false, not, nat_eq, ◌&&◌, ◌||◌, List, [], drop, length, get_or, set, arith, eq-eqb, drop-cons}
use lib.Lanes.{zip2}
use Rattle.std.proofs.lemmas.List.{length-set, get_or-set_same, get_or-set_other, drop_all}
use Rattle.std.proofs.lemmas.Simd.{length-zip2, get_or-zip2}
use Rattle.mir_renaming.proofs.Memory.{same_or_not}
use Rattle.bit_rows.specs.Rows.{row_at, flag, HasSize}
use Rattle.bit_rows.proofs.Marks.{length-marked}
use Rattle.mir_syntax.specs.Crate.{TypedStmt}
use Rattle.liveness.specs.Live.{stmt_reads, stmt_fills}
use Rattle.liveness.specs.Rows.{cleared, before_stmt}
use Rattle.liveness.specs.Bits.{length-cleared}
use Rattle.dest_prop.specs.Merged.{any_from}
use Rattle.dest_prop.specs.Code.{Grows}

pub or_false : (a : Bool) → (a || false) ≡ a
or_false true = refl
or_false false = refl

or_assoc : (a b c : Bool) → ((a || b) || c) ≡ (a || (b || c))
or_assoc true b c = refl
or_assoc false b c = refl

pub or_swap : (a b : Bool) → (a || b) ≡ (b || a)
or_swap true true = refl
or_swap true false = refl
or_swap false true = refl
or_swap false false = refl

and_false : (a : Bool) → (a && false) ≡ false
and_false true = refl
and_false false = refl

and_true : (a : Bool) → (a && true) ≡ a
and_true true = refl
and_true false = refl

pub size_set : (rows : List (List Bool)) (c n i : ℕ) (row : List Bool) → HasSize rows c n → length row ≡ n → HasSize (set rows i row) c n
size_set rows c n i row size long = record { count_is = length-set rows i row ∙ size.count_is; bits_is = λ r l. go r l (same_or_not r i) }
  where
    go : (r : ℕ) → r < c → ((nat_eq r i ≡ true) × (r ≡ i)) ⊎ ((nat_eq r i ≡ false) × (r ≡ i → ⊥)) → length (row_at (set rows i row) r) ≡ n
    go r l (inl e) = ap (λ r. length (row_at (set rows i row) r)) e.1 ∙ ap length (get_or-set_same rows i row [] (omega (arith, l, e.1, size.count_is))) ∙ long
    go r l (inr e) = ap length (get_or-set_other rows i r row [] e.1) ∙ size.bits_is r l

pub back_long : (s : TypedStmt) (row : List Bool) → length (before_stmt s row) ≡ length row
back_long s row = length-marked (cleared row (stmt_fills s)) (stmt_reads s) ∙ length-cleared row (stmt_fills s)

pub or_long : (xs ys : List Bool) (n : ℕ) → length xs ≡ n → length ys ≡ n → length (zip2 (λ a b. a || b) xs ys) ≡ n
or_long xs ys n a b = length-zip2 (λ a b. a || b) xs ys (a ∙ sym b) ∙ a

module _ (n : ℕ) where
  pub grows_as : (f g : ℕ → ℕ → Bool) (old new : List (List Bool)) → ((x y : ℕ) → x < n → y < n → f x y ≡ g x y) → Grows n f old new → Grows n g old new
  grows_as f g old new same h = record { size = h.size; each = λ x y l m. h.each x y l m ∙ ap (λ b. flag old x y || b) (same x y l m) }

  pub grows_then : (f g : ℕ → ℕ → Bool) (old mid new : List (List Bool)) → Grows n f old mid → Grows n g mid new → Grows n (λ x y. f x y || g x y) old new
  grows_then f g old mid new h k = record { size = k.size; each = λ x y l m. k.each x y l m ∙ ap (λ b. b || g x y) (h.each x y l m) ∙ or_assoc (flag old x y) (f x y) (g x y) }

  pub grows_none : (f : ℕ → ℕ → Bool) (old : List (List Bool)) → HasSize old n n → ((x y : ℕ) → x < n → y < n → f x y ≡ false) → Grows n f old old
  grows_none f old size none = record { size = size; each = λ x y l m. sym (or_false (flag old x y)) ∙ ap (λ b. flag old x y || b) (sym (none x y l m)) }

  module _ (old new : List (List Bool)) (i : ℕ) (row : List Bool) (size : HasSize old n n) (long : length row ≡ n) (low : i < n) (is : new ≡ set old i (zip2 (λ a b. a || b) (row_at old i) row)) where
    abbrev added : List Bool
    added = zip2 (λ a b. a || b) (row_at old i) row

    pub grows_row : Grows n (λ x y. nat_eq x i && get_or row y false) old new
    grows_row = record {
      size = subst (λ t. HasSize t n n) (sym is) (size_set old n n i added size (or_long (row_at old i) row n (size.bits_is i low) long));
      each = λ x y l m. ap (λ t. flag t x y) is ∙ at x y m (same_or_not x i);
    }
      where
        at : (x y : ℕ) → y < n → ((nat_eq x i ≡ true) × (x ≡ i)) ⊎ ((nat_eq x i ≡ false) × (x ≡ i → ⊥)) → flag (set old i added) x y ≡ (flag old x y || (nat_eq x i && get_or row y false))
        at x y m (inl e) =
            ap (λ x. flag (set old i added) x y) e.1
            ∙ ap (λ (r : List Bool). get_or r y false) (get_or-set_same old i added [] (omega (arith, low, size.count_is)))
            ∙ get_or-zip2 (λ a b. a || b) (row_at old i) row y false false false (omega (arith, m, size.bits_is i low)) (omega (arith, m, long))
            ∙ ap₂ (λ x b. flag old x y || (b && get_or row y false)) (sym e.1) (sym e.0)
        at x y m (inr e) = ap (λ (r : List Bool). get_or r y false) (get_or-set_other old i x added [] e.1) ∙ sym (or_false (flag old x y)) ∙ ap (λ b. flag old x y || (b && get_or row y false)) (sym e.0)

    -- one mark stays as it was
    pub grows_copy : (j : ℕ) (was : Bool) (last : List (List Bool)) → was ≡ flag old i j → last ≡ set new i (set (row_at new i) j was) → Grows n (λ x y. nat_eq x i && (get_or row y false && not (nat_eq i x && nat_eq j y))) old last
    grows_copy j was last was_is last_is = record {
      size = subst (λ t. HasSize t n n) (sym last_is) (size_set new n n i (set (row_at new i) j was) grows_row.size (length-set (row_at new i) j was ∙ grows_row.size.bits_is i low));
      each = λ x y l m. ap (λ t. flag t x y) last_is ∙ at x y l m (same_or_not x i) (same_or_not y j);
    }
      where
        wide : length (row_at new i) ≡ n
        wide = grows_row.size.bits_is i low

        here : (y : ℕ) → flag (set new i (set (row_at new i) j was)) i y ≡ get_or (set (row_at new i) j was) y false
        here y = ap (λ (r : List Bool). get_or r y false) (get_or-set_same new i (set (row_at new i) j was) [] (omega (arith, low, grows_row.size.count_is)))

        self : nat_eq i i ≡ true
        self = eq-eqb i i refl

        at : (x y : ℕ) → x < n → y < n → ((nat_eq x i ≡ true) × (x ≡ i)) ⊎ ((nat_eq x i ≡ false) × (x ≡ i → ⊥)) → ((nat_eq y j ≡ true) × (y ≡ j)) ⊎ ((nat_eq y j ≡ false) × (y ≡ j → ⊥)) → flag (set new i (set (row_at new i) j was)) x y ≡ (flag old x y || (nat_eq x i && (get_or row y false && not (nat_eq i x && nat_eq j y))))
        at x y l m (inl e) (inl f) =
            ap₂ (λ x y. flag (set new i (set (row_at new i) j was)) x y) e.1 f.1
            ∙ here j
            ∙ get_or-set_same (row_at new i) j was false (omega (arith, m, f.1, wide))
            ∙ was_is
            ∙ ap₂ (λ x y. flag old x y) (sym e.1) (sym f.1)
            ∙ sym (or_false (flag old x y))
            ∙ ap (λ b. flag old x y || b) (sym (and_false (nat_eq x i)))
            ∙ ap (λ b. flag old x y || (nat_eq x i && b)) (sym (and_false (get_or row y false)))
            ∙ ap₂ (λ b c. flag old x y || (nat_eq x i && (get_or row y false && not (b && c)))) (sym (eq-eqb i x (sym e.1))) (sym (eq-eqb j y (sym f.1)))
        at x y l m (inl e) (inr f) =
            ap (λ x. flag (set new i (set (row_at new i) j was)) x y) e.1
            ∙ here y
            ∙ get_or-set_other (row_at new i) j y was false f.1
            ∙ ap (λ x. flag new x y) (sym e.1)
            ∙ grows_row.each x y l m
            ∙ ap (λ b. flag old x y || (nat_eq x i && b)) (sym (and_true (get_or row y false)))
            ∙ ap (λ b. flag old x y || (nat_eq x i && (get_or row y false && not b))) (sym (and_false (nat_eq i x)))
            ∙ ap (λ b. flag old x y || (nat_eq x i && (get_or row y false && not (nat_eq i x && b)))) (sym (other j y f.1))
          where
            other : (a b : ℕ) → (b ≡ a → ⊥) → nat_eq a b ≡ false
            other a b ne = elim (same_or_not a b) [ inl h ↦ absurd (ne (sym h.1)) | inr h ↦ h.0 ]
        at x y l m (inr e) f =
            ap (λ (r : List Bool). get_or r y false) (get_or-set_other new i x (set (row_at new i) j was) [] e.1)
            ∙ grows_row.each x y l m
            ∙ ap₂ (λ a b. flag old x y || (a && get_or row y false)) e.0 e.0
            ∙ ap (λ b. flag old x y || (b && (get_or row y false && not (nat_eq i x && nat_eq j y)))) (sym e.0)

  -- nothing is written past the locals
  pub grows_past : (old : List (List Bool)) (i : ℕ) (g : ℕ → ℕ → Bool) → HasSize old n n → n ≤ i → Grows n (λ x y. nat_eq x i && g x y) old old
  grows_past old i g size high = grows_none (λ x y. nat_eq x i && g x y) old size (λ x y l m. ap (λ b. b && g x y) (go x l (same_or_not x i)))
    where
      go : (x : ℕ) → x < n → ((nat_eq x i ≡ true) × (x ≡ i)) ⊎ ((nat_eq x i ≡ false) × (x ≡ i → ⊥)) → nat_eq x i ≡ false
      go x l (inl e) = absurd (omega (arith, l, e.1, high))
      go x l (inr e) = e.0

  -- ---- items that are taken from the last one on

  module _ {A : Type 0} (test : ℕ → ℕ → ℕ → A → Bool) (items : List A) where
    abbrev From : ℕ → List (List Bool) → List (List Bool) → Type 0
    From at old new = Grows n (λ x y. any_from (test x y) at (drop at items)) old new

    pub grows_end : (old : List (List Bool)) → HasSize old n n → Grows n (λ x y. any_from (test x y) (length items) (drop (length items) items)) old old
    grows_end old size = grows_none _ old size (λ x y l m. ap (any_from (test x y) (length items)) (drop_all (length items) items (omega arith)))

    pub grows_item : (old mid new : List (List Bool)) (i : ℕ) (d : A) → i < length items → Grows n (λ x y. any_from (test x y) (suc i) (drop (suc i) items)) old mid → Grows n (λ x y. test x y i (get_or items i d)) mid new → Grows n (λ x y. any_from (test x y) i (drop i items)) old new
    grows_item old mid new i d l h k =
        grows_as _ _ old new (λ x y l2 m. or_swap (any_from (test x y) (suc i) (drop (suc i) items)) (test x y i (get_or items i d)) ∙ sym (ap (any_from (test x y) i) (drop-cons items i d l)))
        (grows_then (λ x y. any_from (test x y) (suc i) (drop (suc i) items)) (λ x y. test x y i (get_or items i d)) old mid new h k)
