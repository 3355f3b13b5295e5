-- What stands in lists: where one was changed, mapped or put behind another one, and where its ids lie in a table.
use Rattle.std.proofs.Common.{IsTrue, ◌≡◌, ◌∙◌, ℕ, zero, suc, ◌+◌, ◌<◌, ◌≤◌, List, [], ◌∷◌, ◌++◌, map, length, set, get_or, slice_get, Some, None, refl, sym, ap, arith, rules}
use Rattle.std.specs.List.{range_with_len}
use Rattle.std.proofs.lemmas.List.{map-id}
use Rattle.std.proofs.lemmas.List.FromFn.{map-range_with_len_more}
use Rattle.mir_syntax.specs.declared.types.TyId.{TyId}
use Rattle.mir_syntax.specs.Table.{all_below}

-- what was put into a list stands there
pub set_there : {A : Type 0} (xs : List A) (i : ℕ) (v x : A) → slice_get xs i ≡ Some x → slice_get (set xs i v) i ≡ Some v
set_there [] i v x e = absurd cc
set_there (y ∷ xs) zero v x e = refl
set_there (y ∷ xs) (suc i) v x e = set_there xs i v x e

-- what stands there already changes nothing
pub set_same : {A : Type 0} (xs : List A) (i : ℕ) (v : A) → slice_get xs i ≡ Some v → set xs i v ≡ xs
set_same [] i v e = refl
set_same (x ∷ xs) zero v e = let same : v ≡ x = cc in ap (λ y. y ∷ xs) same
set_same (x ∷ xs) (suc i) v e = ap (λ ys. x ∷ ys) (set_same xs i v e)

-- an element of a mapped list comes from one of the list
pub map_back : {A B : Type 0} (f : A → B) (xs : List A) (i : ℕ) (y : B) → slice_get (map f xs) i ≡ Some y → (x : A) × (slice_get xs i ≡ Some x) × (f x ≡ y)
map_back f [] i y e = absurd cc
map_back f (x ∷ xs) zero y e = let same : f x ≡ y = cc in (x, refl, same)
map_back f (x ∷ xs) (suc i) y e = map_back f xs i y e

pub map_there : {A B : Type 0} (f : A → B) (xs : List A) (i : ℕ) (x : A) → slice_get xs i ≡ Some x → slice_get (map f xs) i ≡ Some (f x)
map_there f [] i x e = absurd cc
map_there f (y ∷ xs) zero x e = let same : y ≡ x = cc in ap (λ z. Some (f z)) same
map_there f (y ∷ xs) (suc i) x e = map_there f xs i x e

-- where nothing stands lies past the end
pub slice_get-none : {A : Type 0} (xs : List A) (i : ℕ) → slice_get xs i ≡ None → length xs ≤ i
slice_get-none [] i h = omega arith
slice_get-none (x ∷ xs) zero h = absurd cc
slice_get-none (x ∷ xs) (suc i) h = let past = slice_get-none xs i h in omega arith

-- what stands in a list stands behind another one
pub slice_get-behind : {A : Type 0} (xs ys : List A) (i : ℕ) → slice_get (xs ++ ys) (length xs + i) ≡ slice_get ys i
slice_get-behind [] ys i = let same : 0 + i ≡ i = omega arith in ap (slice_get ys) same
slice_get-behind (x ∷ xs) ys i = let more : suc (length xs) + i ≡ suc (length xs + i) = omega arith in ap (slice_get (x ∷ xs ++ ys)) more ∙ slice_get-behind xs ys i

-- the numbers below the next one
pub range_more : (n : ℕ) → range_with_len 0 (n + 1) ≡ range_with_len 0 n ++ n ∷ []
range_more n = sym (map-id (range_with_len 0 (n + 1))) ∙ map-range_with_len_more (λ k. k) 0 n n (omega arith) ∙ ap (λ xs. xs ++ n ∷ []) (map-id (range_with_len 0 n))

-- an id of a list lies in the table
pub id_below : (n : ℕ) (ids : List TyId) (i : ℕ) (d : TyId) → IsTrue (all_below n ids) → i < length ids → (get_or ids i d).0 < n
id_below n [] i d h within = absurd (omega arith)
id_below n (id ∷ ids) zero d h within = let both : (id.0 < n) × IsTrue (all_below n ids) = search rules in both.0
id_below n (id ∷ ids) (suc i) d h within = let both : (id.0 < n) × IsTrue (all_below n ids) = search rules in id_below n ids i d both.1 (omega arith)
