-- The locals that the code marks are those that share their home.
use Rattle.std.proofs.Common.{◌≡◌, ◌⊎◌, inl, inr, refl, sym, ap, ◌∙◌, ℕ, zero, suc, ◌+◌, ◌<◌, ◌≤◌, Bool, true, false, nat_eq, ◌||◌, List, [], ◌∷◌, ◌++◌, length, get_or, set, replicate, arith, eq-eqb, eqb-true}
use Rattle.std.proofs.Math.Path.{fun_ext}
use Rattle.std.specs.List.{flat_map, range_with_len}
use Rattle.std.proofs.lemmas.Bool.{cases_lt, or_cases, or_left, or_right}
use Rattle.std.proofs.lemmas.List.{append-nil, get_or_default, get_or_past, get_or-replicate, length-replicate}
use Rattle.std.proofs.lemmas.List.Folds.{list_any-append}
use Rattle.std.proofs.lemmas.Grind.{flat_map-append}
use Rattle.mir_syntax.specs.Crate.{TypedBody}
use Rattle.mir_syntax.specs.Shapes.{Shape}
use Rattle.mir_syntax.proofs.Bools.{if_true, if_false, same_tests}
use Rattle.mir_syntax.proofs.Lists.{range_more}
use Rattle.mir_renaming.proofs.Memory.{same_or_not}
use Rattle.bit_rows.specs.Rows.{row_at, marked, stands}
use Rattle.bit_rows.proofs.Marks.{marked-append, marked-at, length-marked}
use Rattle.dest_prop.specs.Merged.{home_of, is_shared}
use Rattle.dest_prop.specs.Code.{home_in, shared_marks, marked_shared, shared_in}
use Rattle.dest_prop.proofs.Homes.{above, good, other, shared_of, Both}

pub not_eq : (a c : ℕ) → (a ≡ c → ⊥) → nat_eq a c ≡ false
not_eq a c ne = elim (same_or_not a c) [ inl h ↦ absurd (ne h.1) | inr h ↦ h.0 ]

pub shared_more : (homes : List ℕ) (row row2 : List (List Bool)) (blank : List Bool) (i d : ℕ) → i < length homes → row ≡ marked blank (flat_map (marked_shared homes) (range_with_len 0 i)) ∷ [] → row2 ≡ set row 0 (marked (row_at row 0) (shared_marks i (get_or homes i d))) → row2 ≡ marked blank (flat_map (marked_shared homes) (range_with_len 0 (i + 1))) ∷ []
shared_more homes row row2 blank i d l e h =
    let before : List ℕ = flat_map (marked_shared homes) (range_with_len 0 i) in
    h
    ∙ ap (λ t. set t 0 (marked (row_at t 0) (shared_marks i (get_or homes i d)))) e
    ∙ ap (λ (r : List Bool). r ∷ []) (
    ap (λ (x : ℕ). marked (marked blank before) (shared_marks i x)) (get_or_default homes i d i l)
    ∙ sym (marked-append blank before (marked_shared homes i))
    ∙ ap (marked blank) (ap (λ xs. before ++ xs) (sym (append-nil (marked_shared homes i))) ∙ sym (flat_map-append (marked_shared homes) (range_with_len 0 i) (i ∷ [])) ∙ ap (flat_map (marked_shared homes)) (sym (range_more i))))

-- ---- numbers in lists of lists

flat_to : (f : ℕ → List ℕ) (x a n : ℕ) → stands x (flat_map f (range_with_len a n)) ≡ true → (y : ℕ) × (stands x (f y) ≡ true)
flat_to f x a zero e = absurd (grind arith)
flat_to f x a (suc n) e = elim (or_cases (stands x (f a)) (stands x (flat_map f (range_with_len (a + 1) n))) (sym (list_any-append (λ y. nat_eq x y) (f a) (flat_map f (range_with_len (a + 1) n))) ∙ e)) [
  | inl h ↦ (a, h)
  | inr h ↦ flat_to f x (a + 1) n h
]

flat_from : (f : ℕ → List ℕ) (x a n y : ℕ) → a ≤ y → y < a + n → stands x (f y) ≡ true → stands x (flat_map f (range_with_len a n)) ≡ true
flat_from f x a zero y l m e = absurd (omega (arith, l, m))
flat_from f x a (suc n) y l m e = list_any-append (λ y. nat_eq x y) (f a) (flat_map f (range_with_len (a + 1) n)) ∙ elim (same_or_not y a) [
  | inl h ↦ or_left (stands x (f a)) (stands x (flat_map f (range_with_len (a + 1) n))) (ap (λ (y : ℕ). stands x (f y)) (sym h.1) ∙ e)
  | inr h ↦ or_right (stands x (f a)) (stands x (flat_map f (range_with_len (a + 1) n))) (flat_from f x (a + 1) n y (above y a l h.1) (omega (arith, m)) e)
]

-- ---- the row

module _ (D : List Shape) (b : TypedBody) (homes : List ℕ) (row : List (List Bool)) (long : length homes ≡ length b.locals) (are : home_in homes ≡ home_of D b) (is : row ≡ marked (replicate (length homes) false) (flat_map (marked_shared homes) (range_with_len 0 (length homes))) ∷ []) where
  abbrev home : ℕ → ℕ
  home = home_of D b

  home_at : (x : ℕ) → home_in homes x ≡ home_of D b x
  home_at x = ap (λ (h : ℕ → ℕ). h x) are

  marks_are : (y : ℕ) → marked_shared homes y ≡ shared_marks y (home_of D b y)
  marks_are y = ap (shared_marks y) (home_at y)

  -- a mark is one of a local that shares its home
  mark_shared : (x y : ℕ) → stands x (shared_marks y (home_of D b y)) ≡ true → is_shared b (home_of D b) x ≡ true
  mark_shared x y e = elim (same_or_not (home y) y) [
    | inl h ↦ absurd (let z : false ≡ true = sym (ap (stands x) (if_true [] (y ∷ home y ∷ []) h.0)) ∙ e in grind arith)
    | inr h ↦ elim (or_cases (nat_eq x y) (nat_eq x (home y) || false) (sym (ap (stands x) (if_false [] (y ∷ home y ∷ []) h.0)) ∙ e)) [
      | inl q ↦ shared_of D b x (home x) ((good D b).again x) (λ z. h.1 (let s = eqb-true x y q in ap home (sym s) ∙ z ∙ s))
      | inr q ↦ elim (or_cases (nat_eq x (home y)) false q) [
        | inl q ↦ (let s = eqb-true x (home y) q in shared_of D b x y (sym (ap home s ∙ (good D b).again y)) (λ z. h.1 (sym s ∙ sym z)))
        | inr q ↦ absurd (grind arith)
      ]
    ]
  ]

  -- and each such local has one
  shared_mark : (x : ℕ) → x < length homes → is_shared b (home_of D b) x ≡ true → stands x (flat_map (marked_shared homes) (range_with_len 0 (length homes))) ≡ true
  shared_mark x l s = elim (same_or_not (home x) x) [
    | inr h ↦ flat_from (marked_shared homes) x 0 (length homes) x (omega arith) (omega (arith, l)) (ap (stands x) (marks_are x ∙ if_false [] (x ∷ home x ∷ []) h.0) ∙ or_left (nat_eq x x) (nat_eq x (home x) || false) (eq-eqb x x refl))
    | inl h ↦ (let (y, e, ne) = other D b x s in
        let is_x : home y ≡ x = e ∙ h.1 in
        flat_from (marked_shared homes) x 0 (length homes) y (omega arith) (within y e ne) (ap (stands x) (marks_are y ∙ if_false [] (y ∷ home y ∷ []) (not_eq (home y) y (λ z. ne (sym z ∙ is_x)))) ∙ or_right (nat_eq x y) (nat_eq x (home y) || false) (or_left (nat_eq x (home y)) false (eq-eqb x (home y) (sym is_x)))))
  ]
    where
      within : (y : ℕ) → home_of D b y ≡ home_of D b x → (y ≡ x → ⊥) → y < 0 + length homes
      within y e ne = go ((good D b).pairs y x e)
        where
          go : (y ≡ x) ⊎ Both D b y x → y < 0 + length homes
          go (inl q) = absurd (ne q)
          go (inr h) = (let l = h.first_within in omega (arith, l, long))

  abbrev all : List ℕ
  all = flat_map (marked_shared homes) (range_with_len 0 (length homes))

  pub row_is : shared_in (row_at row 0) ≡ is_shared b (home_of D b)
  row_is = fun_ext at
    where
      blank : (x : ℕ) → x < length homes → get_or (marked (replicate (length homes) false) all) x false ≡ stands x all
      blank x l = marked-at (replicate (length homes) false) all x (omega (arith, l, length-replicate (length homes) false)) ∙ ap (λ b. b || stands x all) (get_or-replicate (length homes) x false false l)

      past : (x : ℕ) → length homes ≤ x → is_shared b (home_of D b) x ≡ false
      past x l = go (is_shared b (home_of D b) x) refl
        where
          out : (y : ℕ) → (y ≡ x) ⊎ Both D b y x → (y ≡ x → ⊥) → ⊥
          out y (inl q) ne = ne q
          out y (inr h) ne = (let m = h.second_within in absurd (omega (arith, m, l, long)))

          go : (c : Bool) → is_shared b (home_of D b) x ≡ c → is_shared b (home_of D b) x ≡ false
          go true q = (let (y, e, ne) = other D b x q in absurd (out y ((good D b).pairs y x e) ne))
          go false q = q

      at : (x : ℕ) → get_or (row_at row 0) x false ≡ is_shared b (home_of D b) x
      at x = ap (λ t. get_or (row_at t 0) x false) is ∙ elim (cases_lt x (length homes)) [
        | inl l ↦ blank x l ∙ same_tests (stands x all) (is_shared b (home_of D b) x) (λ e. (let (y, h) = flat_to (marked_shared homes) x 0 (length homes) e in mark_shared x y (sym (ap (stands x) (marks_are y)) ∙ h))) (shared_mark x l)
        | inr l ↦ get_or_past (marked (replicate (length homes) false) all) x false (omega (arith, l, length-marked (replicate (length homes) false) all, length-replicate (length homes) false)) ∙ sym (past x l)
      ]
