-- A walk over candidates goes on by one.
use Rattle.std.proofs.Common.{◌≡◌, refl, sym, ap, ap₂, ◌∙◌, subst, ℕ, zero, suc, ◌+◌, ◌<◌, ◌≤◌, Bool, true, false, not, ◌&&◌, ◌||◌, List, [], ◌∷◌, ◌++◌, append_assoc, append-nil, length, get_or, set, take, drop, map, inl, inr, arith}
use Rattle.std.specs.Prelude.{Some, None, if◌then◌else◌}
use Rattle.bit_rows.specs.Rows.{row_at, flag, marked, stands, HasSize}
use Rattle.bit_rows.proofs.Marks.{marked-append}
use Rattle.std.proofs.lemmas.List.{length-set, map-append, take_more}
use Rattle.call_graph.proofs.Once.{stands_cases, stands_first, stands_later, stands_append}
use Rattle.candidates.specs.declared.walk.Walk.{Walk}
use Rattle.candidates.specs.Walk.{new_by, coming_from, coming, AllBelow, IsWalk, coming_with, IsSettled, Took, Brings}

pub drop_at : (xs : List ℕ) (i d : ℕ) → i < length xs → drop i xs ≡ get_or xs i d ∷ drop (i + 1) xs
drop_at [] i d l = absurd (omega arith)
drop_at (x ∷ xs) zero d l = refl
drop_at (x ∷ xs) (suc i) d l = drop_at xs i d (omega (arith, l)) ∙ ap (λ (k : ℕ). get_or xs i d ∷ drop k (x ∷ xs)) (let e : suc (i + 1) ≡ suc i + 1 = omega arith in e)

pub drop_all : (xs : List ℕ) (i : ℕ) → length xs ≤ i → drop i xs ≡ []
drop_all [] zero l = refl
drop_all [] (suc i) l = refl
drop_all (x ∷ xs) zero l = absurd (omega arith)
drop_all (x ∷ xs) (suc i) l = drop_all xs i (omega (arith, l))

none_long : (xs : List ℕ) → length xs ≤ 0 → xs ≡ []
none_long [] l = refl
none_long (x ∷ xs) l = absurd (omega arith)

pub stands_at : (xs : List ℕ) (i d : ℕ) → i < length xs → stands (get_or xs i d) xs ≡ true
stands_at [] i d l = absurd (omega arith)
stands_at (x ∷ xs) zero d l = stands_first x xs
stands_at (x ∷ xs) (suc i) d l = stands_later (get_or xs i d) x xs (stands_at xs i d (omega (arith, l)))

pub stands_mapped : {A : Type 0} (number : A → ℕ) (xs : List A) (i : ℕ) (d : A) → i < length xs → stands (number (get_or xs i d)) (map number xs) ≡ true
stands_mapped number [] i d l = absurd (omega arith)
stands_mapped number (x ∷ xs) zero d l = stands_first (number x) (map number xs)
stands_mapped number (x ∷ xs) (suc i) d l = stands_later (number (get_or xs i d)) (number x) (map number xs) (stands_mapped number xs i d (omega (arith, l)))

pub mapped_more : {A : Type 0} (number : A → ℕ) (xs : List A) (i : ℕ) (d : A) → i < length xs → map number (take (i + 1) xs) ≡ map number (take i xs) ++ number (get_or xs i d) ∷ []
mapped_more number xs i d l = ap (map number) (take_more xs i d l) ∙ map-append number (take i xs) (get_or xs i d ∷ [])

module _ (never : ℕ → Bool) (b : ℕ → List ℕ) where
  nobody : (d : ℕ) (known : List Bool) → coming_from never b d known [] [] ≡ []
  nobody zero known = refl
  nobody (suc d) known = nobody d known

  goes_on : (d : ℕ) (known : List Bool) (fresh : List ℕ) (g : ℕ) (gs : List ℕ) → coming_from never b d known fresh (g ∷ gs) ≡ g ∷ coming_from never b d (marked known (b g)) (fresh ++ new_by never known (b g)) gs
  goes_on zero known fresh g gs = refl
  goes_on (suc d) known fresh g gs = refl

  pub settled_same : (w v : Walk) → IsSettled w v → coming never b w ≡ coming never b v
  settled_same w v (inr s) = ap (coming never b) (sym s.1)
  settled_same w v (inl (e, pos, n)) =
      let rest : drop w.at w.layer ≡ [] = drop_all w.layer w.at (omega (arith, e)) in
      let el = sym n.layers in
      let ek = sym n.known in
      let ef = sym n.fresh in
      let here : coming never b w ≡ coming_from never b (suc v.layers) (row_at w.known 0) w.fresh [] = λ i. coming_from never b (el i) (row_at w.known 0) w.fresh (rest i) in
      here ∙ (λ i. coming_from never b v.layers (row_at (ek i) 0) (ef i) (there i))
    where
      there : w.fresh ≡ drop v.at v.layer
      there = sym n.layer ∙ ap (λ (k : ℕ). drop k v.layer) (sym n.at)

  pub settled_end : (w v : Walk) → IsSettled w v → length v.layer ≤ v.at → w.at ≤ length w.layer → coming never b v ≡ []
  settled_end w v (inr s) l at =
      let e : w.at ≡ length w.layer = (let k : length w.layer ≤ w.at = subst (λ (u : Walk). length u.layer ≤ u.at) s.1 l in omega (arith, k, at)) in
      let z : v.layers ≡ 0 = ap (λ (u : Walk). u.layers) s.1 ∙ s.0 e in
      ap (λ (d : ℕ). coming_from never b d (row_at v.known 0) v.fresh (drop v.at v.layer)) z ∙ drop_all v.layer v.at l
  settled_end w v (inl s) l at =
      let n = s.2 in
      let e : drop v.at v.layer ≡ [] = drop_all v.layer v.at l in
      ap₂ (λ (f r : List ℕ). coming_from never b v.layers (row_at v.known 0) f r) n.fresh e ∙ nobody v.layers (row_at v.known 0)

pub settled_walk : (n : ℕ) (w v : Walk) → IsSettled w v → IsWalk n w → IsWalk n v
settled_walk n w v (inr s) i = subst (IsWalk n) (sym s.1) i
settled_walk n w v (inl s) i = let l = s.2 in record {
  size = subst (λ rs. HasSize rs 1 n) (sym l.known) i.size;
  at = (let e = l.at in omega (arith, e));
  layer = subst (AllBelow n) (sym l.layer) i.fresh;
  fresh = subst (AllBelow n) (sym l.fresh) (λ x h. absurd (cc));
}

pub took_none : (w v : Walk) → IsSettled w v → w.at ≤ length w.layer → length v.layer ≤ v.at → Took w v None
took_none w v s at l = record {
  walk = λ n i. (settled_walk n w v s i, tt);
  next = λ never b. settled_same never b w v s ∙ settled_end never b w v s l at;
}

pub took_some : (w v u : Walk) (g d : ℕ) → IsSettled w v → v.at < length v.layer → g ≡ get_or v.layer v.at d
    → (u.layers ≡ v.layers) → (u.layer ≡ v.layer) → (u.at ≡ v.at + 1) → (u.fresh ≡ v.fresh) → (u.known ≡ v.known) → Took w u (Some g)
took_some w v u g d s l is el ey ea ef ek = record {
  walk = λ n i. let j = settled_walk n w v s i in (
    record {
      size = subst (λ rs. HasSize rs 1 n) (sym ek) j.size;
      at = (let e = ap (λ (xs : List ℕ). length xs) ey in omega (arith, e, ea, l));
      layer = subst (AllBelow n) (sym ey) j.layer;
      fresh = subst (AllBelow n) (sym ef) j.fresh;
    },
    j.layer g (subst (λ (x : ℕ). stands x v.layer ≡ true) (sym is) (stands_at v.layer v.at d l)),
  );
  next = λ never b. settled_same never b w v s
      ∙ ap (λ (r : List ℕ). coming_from never b v.layers (row_at v.known 0) v.fresh r) (drop_at v.layer v.at d l ∙ ap₂ (λ (x : ℕ) (xs : List ℕ). x ∷ xs) (sym is) (let fa = sym ea in let fy = sym ey in λ i. drop (fa i) (fy i)))
      ∙ goes_on never b v.layers (row_at v.known 0) v.fresh g (drop u.at u.layer)
      ∙ (let fl = sym el in let fk = sym ek in let ff = sym ef in λ i. g ∷ coming_from never b (fl i) (marked (row_at (fk i) 0) (b g)) (ff i ++ new_by never (row_at (fk i) 0) (b g)) (drop u.at u.layer));
}

-- ---- the last one brings others

pub new_join : (never : ℕ → Bool) (known : List Bool) (xs ys : List ℕ) → new_by never known (xs ++ ys) ≡ new_by never known xs ++ new_by never (marked known xs) ys
new_join never known [] ys = refl
new_join never known (x ∷ xs) ys =
    let own : List ℕ = if get_or known x false || never x then [] else x ∷ [] in
    ap (λ (zs : List ℕ). own ++ zs) (new_join never (set known x true) xs ys) ∙ sym (append_assoc own (new_by never (set known x true) xs) (new_by never (marked (set known x true) xs) ys))

pub new_below : (never : ℕ → Bool) (known : List Bool) (xs : List ℕ) (n : ℕ) → AllBelow n xs → AllBelow n (new_by never known xs)
new_below never known [] n h x k = absurd (cc)
new_below never known (y ∷ ys) n h x k = go (get_or known y false || never y) k (new_below never (set known y true) ys n (λ z m. h z (stands_later z y ys m)) x)
  where
    go : (b : Bool) → stands x ((if b then [] else y ∷ []) ++ new_by never (set known y true) ys) ≡ true → (stands x (new_by never (set known y true) ys) ≡ true → x < n) → x < n
    go true m r = r m
    go false m r = elim (stands_cases x y (new_by never (set known y true) ys) m) [ inl e ↦ subst (λ (z : ℕ). z < n) (sym e) (h y (stands_first y ys)) | inr l ↦ r l ]

-- one more after these
pub brings_more : (never : ℕ → Bool) (n : ℕ) (w v u : Walk) (xs ys zs : List ℕ) → Brings never n w v xs → Brings never n v u ys → zs ≡ xs ++ ys → Brings never n w u zs
brings_more never n w v u xs ys zs a b e =
    let row : row_at v.known 0 ≡ marked (row_at w.known 0) xs = ap (λ rs. row_at rs 0) a.known in
    record {
      layers = b.layers ∙ a.layers;
      layer = b.layer ∙ a.layer;
      at = b.at ∙ a.at;
      fresh = b.fresh ∙ ap₂ (λ (f : List ℕ) (r : List Bool). f ++ new_by never r ys) a.fresh row ∙ append_assoc w.fresh (new_by never (row_at w.known 0) xs) (new_by never (marked (row_at w.known 0) xs) ys) ∙ ap (λ (f : List ℕ). w.fresh ++ f) (sym (new_join never (row_at w.known 0) xs ys) ∙ ap (new_by never (row_at w.known 0)) (sym e));
      known = b.known ∙ ap (λ (r : List Bool). r ∷ []) (ap (λ (r : List Bool). marked r ys) row ∙ sym (marked-append (row_at w.known 0) xs ys) ∙ ap (marked (row_at w.known 0)) (sym e));
      below = b.below;
      size = b.size;
    }

pub brings_none : (never : ℕ → Bool) (n : ℕ) (w : Walk) → IsWalk n w → Brings never n w w []
brings_none never n w i = record { layers = refl; layer = refl; at = refl; fresh = sym (append-nil w.fresh); known = one_row w.known i.size.count_is; below = i.fresh; size = i.size }
  where
    one_row : (rows : List (List Bool)) → length rows ≡ 1 → rows ≡ row_at rows 0 ∷ []
    one_row [] e = absurd (omega arith)
    one_row (a ∷ []) e = refl
    one_row (a ∷ b ∷ rows) e = absurd (omega arith)

pub brings_one : (never : ℕ → Bool) (n c : ℕ) (w v : Walk) (new : Bool) → IsWalk n w → c < n → new ≡ (not (flag w.known 0 c) && not (never c))
    → (v.layers ≡ w.layers) → (v.layer ≡ w.layer) → (v.at ≡ w.at) → (v.fresh ≡ (if new then w.fresh ++ c ∷ [] else w.fresh)) → (v.known ≡ set w.known 0 (set (row_at w.known 0) c true)) → Brings never n w v (c ∷ [])
brings_one never n c w v new i l is el ey ea ef ek = record {
  layers = el;
  layer = ey;
  at = ea;
  fresh = ef ∙ freshly new (flag w.known 0 c) (never c) is;
  known = known_is;
  below = subst (AllBelow n) (sym ef) (both_below new);
  size = record { count_is = ap length known_is; bits_is = λ r lt. ap (λ rs. length (row_at rs r)) known_is ∙ row_long r lt };
}
  where
    freshly : (new known nev : Bool) → new ≡ (not known && not nev) → ◌≡◌ {A = List ℕ} (if new then w.fresh ++ c ∷ [] else w.fresh) (w.fresh ++ ((if known || nev then [] else c ∷ []) ++ []))
    freshly true true nev e = absurd (cc)
    freshly true false true e = absurd (cc)
    freshly true false false e = refl
    freshly false true nev e = sym (append-nil w.fresh)
    freshly false false true e = sym (append-nil w.fresh)
    freshly false false false e = absurd (cc)

    known_is : v.known ≡ set (row_at w.known 0) c true ∷ []
    known_is = ek ∙ go w.known i.size.count_is
      where
        go : (rows : List (List Bool)) → length rows ≡ 1 → set rows 0 (set (row_at rows 0) c true) ≡ set (row_at rows 0) c true ∷ []
        go [] e = absurd (omega arith)
        go (a ∷ []) e = refl
        go (a ∷ b ∷ rows) e = absurd (omega arith)

    row_long : (r : ℕ) → r < 1 → length (row_at (set (row_at w.known 0) c true ∷ []) r) ≡ n
    row_long zero lt = length-set (row_at w.known 0) c true ∙ i.size.bits_is 0 (omega arith)
    row_long (suc r) lt = absurd (omega arith)

    both_below : (new : Bool) → AllBelow n (if new then w.fresh ++ c ∷ [] else w.fresh)
    both_below false x h = i.fresh x h
    both_below true x h = elim (stands_append x w.fresh (c ∷ []) h) [ inl a ↦ i.fresh x a | inr b ↦ elim (stands_cases x c [] b) [ inl e ↦ subst (λ (z : ℕ). z < n) (sym e) l | inr k ↦ absurd (cc) ] ]

pub brings_walk : (never : ℕ → Bool) (n : ℕ) (w v : Walk) (xs : List ℕ) → IsWalk n w → Brings never n w v xs → IsWalk n v
brings_walk never n w v xs i b = record { size = b.size; at = (let e = ap (λ (ys : List ℕ). length ys) b.layer in let a = b.at in let k = i.at in omega (arith, e, a, k)); layer = subst (AllBelow n) (sym b.layer) i.layer; fresh = b.below }

pub brings_coming : (never : ℕ → Bool) (n : ℕ) (w v : Walk) (xs : List ℕ) → Brings never n w v xs → (b : ℕ → List ℕ) → coming never b v ≡ coming_with never b w xs
brings_coming never n w v xs br b =
    let el = br.layers in let ef = br.fresh in let ek = br.known in let ea = br.at in let ey = br.layer in
    λ i. coming_from never b (el i) (row_at (ek i) 0) (ef i) (drop (ea i) (ey i))
