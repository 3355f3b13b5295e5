-- Functions that are listed once each, block by block.
use Rattle.std.proofs.Common.{◌≡◌, refl, sym, ap, ◌∙◌, ℕ, zero, suc, ◌+◌, ◌<◌, Bool, true, false, ◌==◌, ◌||◌, List, [], ◌∷◌, ◌++◌, append_assoc, append-nil, map, length, get_or, take, arith}
use Rattle.std.specs.Prelude.{if◌then◌else◌}
use Rattle.std.specs.List.{flat_map}
use Rattle.std.proofs.lemmas.List.{map-append, take_more}
use Rattle.std.proofs.lemmas.Grind.{flat_map-append}
use Rattle.bit_rows.specs.Rows.{stands}
use Rattle.call_graph.specs.Callees.{once_after}
use Rattle.call_graph.specs.Walk.{added, all_added}
use Rattle.call_graph.proofs.Bits.{stands_snoc}
use Rattle.call_graph.proofs.Entering.{Below, below_left, below_right, added_append}

or_swap : (a b : Bool) → (a || b) ≡ (b || a)
or_swap true true = refl
or_swap true false = refl
or_swap false true = refl
or_swap false false = refl

pub once_is : (seen acc xs : List ℕ) → ((y : ℕ) → stands y seen ≡ stands y acc) → all_added acc xs ≡ acc ++ once_after seen xs
once_is seen acc [] same = sym (append-nil acc)
once_is seen acc (x ∷ xs) same = go (stands x seen) refl (once_is seen acc xs same) (λ k. once_is (x ∷ seen) (acc ++ x ∷ []) xs k)
  where
    go : (b : Bool) → stands x seen ≡ b → all_added acc xs ≡ acc ++ once_after seen xs → (((y : ℕ) → stands y (x ∷ seen) ≡ stands y (acc ++ x ∷ [])) → all_added (acc ++ x ∷ []) xs ≡ (acc ++ x ∷ []) ++ once_after (x ∷ seen) xs) → all_added (added acc x) xs ≡ acc ++ (if stands x seen then once_after seen xs else x ∷ once_after (x ∷ seen) xs)
    go true e old new =
        ap (λ (b : Bool). let ys : List ℕ = if b then acc else acc ++ x ∷ [] in all_added ys xs) (sym (same x) ∙ e) ∙ old
        ∙ ap (λ (b : Bool). let ys : List ℕ = if b then once_after seen xs else x ∷ once_after (x ∷ seen) xs in acc ++ ys) (sym e)
    go false e old new =
        ap (λ (b : Bool). let ys : List ℕ = if b then acc else acc ++ x ∷ [] in all_added ys xs) (sym (same x) ∙ e)
        ∙ new (λ y. or_swap (y == x) (stands y seen) ∙ ap (λ (b : Bool). b || (y == x)) (same y) ∙ sym (stands_snoc y x acc))
        ∙ append_assoc acc (x ∷ []) (once_after (x ∷ seen) xs)
        ∙ ap (λ (b : Bool). let ys : List ℕ = if b then once_after seen xs else x ∷ once_after (x ∷ seen) xs in acc ++ ys) (sym e)

-- what one block calls is below a bound where all is
pub block_inside : {A B : Type 0} (f : B → List ℕ) (g : A → B) (xs : List A) (i n : ℕ) (d : A) → i < length xs → Below n (flat_map f (map g xs)) → Below n (f (g (get_or xs i d)))
block_inside f g [] i n d l a = absurd (omega arith)
block_inside f g (x ∷ xs) zero n d l a = below_left n (f (g x)) (flat_map f (map g xs)) a
block_inside f g (x ∷ xs) (suc i) n d l a = block_inside f g xs i n d (omega (arith, l)) (below_right n (f (g x)) (flat_map f (map g xs)) a)

-- one block more
pub block_more : {A B : Type 0} (f : B → List ℕ) (g : A → B) (xs : List A) (i : ℕ) (d : A) (found found2 : List ℕ) → i < length xs → found ≡ all_added [] (flat_map f (map g (take i xs))) → found2 ≡ all_added found (f (g (get_or xs i d))) → found2 ≡ all_added [] (flat_map f (map g (take (i + 1) xs)))
block_more f g xs i d found found2 l e more =
    more ∙ ap (λ (ys : List ℕ). all_added ys (f (g (get_or xs i d)))) e
    ∙ sym (added_append [] (flat_map f (map g (take i xs))) (f (g (get_or xs i d))))
    ∙ ap (all_added [])
    (ap (λ (ys : List ℕ). flat_map f (map g (take i xs)) ++ ys) (sym (append-nil (f (g (get_or xs i d)))))
    ∙ sym (flat_map-append f (map g (take i xs)) (g (get_or xs i d) ∷ []))
    ∙ ap (flat_map f) (sym (map-append g (take i xs) (get_or xs i d ∷ [])) ∙ ap (map g) (sym (take_more xs i d l))))
