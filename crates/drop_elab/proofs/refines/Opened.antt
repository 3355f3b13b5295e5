-- The slots of new frames, one by one.
use Rattle.std.proofs.Common.{◌≡◌, refl, sym, ap, ◌∙◌, subst, ℕ, zero, suc, ◌+◌, ◌<◌, ◌≤◌, true, List, [], ◌∷◌, ◌++◌, map, length, drop, Some, None, slice_get, arith}
use Rattle.mir_syntax.specs.Tree.{Tree}
use Rattle.mir_syntax.specs.Shapes.{Shape}
use Rattle.mir_semantics.specs.Values.{Value, whole, blank}
use Rattle.mir_semantics.specs.Step.{blanks, new_slots}
use Rattle.mir_relate.specs.Alike.{AllWhole}

map_at : {A B : Type 0} (f : A → B) (xs : List A) (i : ℕ) (x : A) → slice_get xs i ≡ Some x → slice_get (map f xs) i ≡ Some (f x)
map_at f [] i x e = absurd (grind arith)
map_at f (y ∷ xs) zero x e = ap (λ y. Some (f y)) (let z : y ≡ x = grind arith in z)
map_at f (y ∷ xs) (suc i) x e = map_at f xs i x e

map_none : {A B : Type 0} (f : A → B) (xs : List A) (i : ℕ) → slice_get xs i ≡ None → slice_get (map f xs) i ≡ None
map_none f [] i e = refl
map_none f (y ∷ xs) zero e = absurd (grind arith)
map_none f (y ∷ xs) (suc i) e = map_none f xs i e

-- what holds of each argument and of blanks elsewhere holds of the slots of a new frame
module _ (D : List Shape) (P : ℕ → Tree → Value → Type 0) where
  rest_there : (n : ℕ) (vs : List Value) (ts : List Tree) → ((k : ℕ) (t : Tree) (v : Value) → slice_get ts k ≡ Some t → slice_get vs k ≡ Some v → P (n + k) t v) → ((k : ℕ) (t : Tree) → length vs ≤ k → P (n + k) t (blank D t)) → (y : ℕ) (t : Tree) → slice_get ts y ≡ Some t → (v : Value) × (slice_get (vs ++ blanks D (drop (length vs) ts)) y ≡ Some v) × P (n + y) t v
  rest_there n [] ts arg bl y t e = (blank D t, map_at (blank D) ts y t e, bl y t (omega arith))
  rest_there n (v ∷ vs) [] arg bl y t e = absurd (grind arith)
  rest_there n (v ∷ vs) (u ∷ ts) arg bl zero t e = (v, refl, arg 0 t v e refl)
  rest_there n (v ∷ vs) (u ∷ ts) arg bl (suc y) t e =
      let next : (k : ℕ) → n + suc k ≡ suc n + k = λ k. omega arith in
      let (w, ew, pw) = rest_there (suc n) vs ts (λ k t v e1 e2. subst (λ m. P m t v) (next k) (arg (suc k) t v e1 e2)) (λ k t l. subst (λ m. P m t (blank D t)) (next k) (bl (suc k) t (omega (arith, l)))) y t e in
      (w, ew, subst (λ m. P m t w) (sym (next y)) pw)

  pub slots_there : (ts : List Tree) (vs : List Value) → ((t : Tree) → P 0 t (blank D t)) → ((k : ℕ) (t : Tree) (v : Value) → slice_get ts (suc k) ≡ Some t → slice_get vs k ≡ Some v → P (suc k) t v) → ((k : ℕ) (t : Tree) → length vs ≤ k → P (suc k) t (blank D t)) → (x : ℕ) (t : Tree) → slice_get ts x ≡ Some t → (v : Value) × (slice_get (new_slots D ts vs) x ≡ Some v) × P x t v
  unfolding new_slots
  slots_there [] vs first arg bl x t e = absurd (grind arith)
  slots_there (u ∷ ts) vs first arg bl zero t e = (blank D u, refl, subst (λ t. P 0 t (blank D u)) (let z : u ≡ t = grind arith in z) (first u))
  slots_there (u ∷ ts) vs first arg bl (suc y) t e =
      let z : (k : ℕ) → 1 + k ≡ suc k = λ k. omega arith in
      let (w, ew, pw) = rest_there 1 vs ts (λ k t v e1 e2. subst (λ m. P m t v) (sym (z k)) (arg k t v e1 e2)) (λ k t l. subst (λ m. P m t (blank D t)) (sym (z k)) (bl k t l)) y t e in
      (w, ew, subst (λ m. P m t w) (z y) pw)

-- there are no more slots than locals
rest_none : (D : List Shape) (vs : List Value) (ts : List Tree) (y : ℕ) → length vs ≤ length ts → slice_get ts y ≡ None → slice_get (vs ++ blanks D (drop (length vs) ts)) y ≡ None
rest_none D [] ts y l e = map_none (blank D) ts y e
rest_none D (v ∷ vs) [] y l e = absurd (omega (arith, l))
rest_none D (v ∷ vs) (u ∷ ts) zero l e = absurd (grind arith)
rest_none D (v ∷ vs) (u ∷ ts) (suc y) l e = rest_none D vs ts y (omega (arith, l)) e

pub slots_none : (D : List Shape) (ts : List Tree) (vs : List Value) (x : ℕ) → length vs < length ts → slice_get ts x ≡ None → slice_get (new_slots D ts vs) x ≡ None
unfolding new_slots
slots_none D [] vs x l e = absurd (omega (arith, l))
slots_none D (u ∷ ts) vs zero l e = absurd (grind arith)
slots_none D (u ∷ ts) vs (suc y) l e = rest_none D vs ts y (omega (arith, l)) e

-- further locals change nothing of the slots
rest_more : (D : List Shape) (vs : List Value) (ts us : List Tree) (y : ℕ) (t : Tree) → slice_get ts y ≡ Some t → slice_get (vs ++ blanks D (drop (length vs) (ts ++ us))) y ≡ slice_get (vs ++ blanks D (drop (length vs) ts)) y
rest_more D [] ts us y t e = map_at (blank D) (ts ++ us) y t (front ts y e) ∙ sym (map_at (blank D) ts y t e)
  where
    front : (ts : List Tree) (y : ℕ) → slice_get ts y ≡ Some t → slice_get (ts ++ us) y ≡ Some t
    front [] y e = absurd (grind arith)
    front (u ∷ ts) zero e = e
    front (u ∷ ts) (suc y) e = front ts y e
rest_more D (v ∷ vs) [] us y t e = absurd (grind arith)
rest_more D (v ∷ vs) (u ∷ ts) us zero t e = refl
rest_more D (v ∷ vs) (u ∷ ts) us (suc y) t e = rest_more D vs ts us y t e

pub slots_more : (D : List Shape) (ts us : List Tree) (vs : List Value) (x : ℕ) (t : Tree) → slice_get ts x ≡ Some t → slice_get (new_slots D (ts ++ us) vs) x ≡ slice_get (new_slots D ts vs) x
unfolding new_slots
slots_more D [] us vs x t e = absurd (grind arith)
slots_more D (u ∷ ts) us vs zero t e = refl
slots_more D (u ∷ ts) us vs (suc y) t e = rest_more D vs ts us y t e

pub whole_in : (vs : List Value) (k : ℕ) (v : Value) → AllWhole vs → slice_get vs k ≡ Some v → whole v ≡ true
whole_in [] k v h e = absurd (grind arith)
whole_in (w ∷ vs) zero v h e = subst (λ v. whole v ≡ true) (let z : w ≡ v = grind arith in z) h.0
whole_in (w ∷ vs) (suc k) v h e = whole_in vs k v h.1 e
