-- What is found item by item, told by lines or by codes.
use Rattle.std.proofs.Common.{◌≡◌, ℕ, zero, suc, ◌+◌, List, [], ◌∷◌, ◌++◌, map, take, Some, slice_get, refl, sym, ap, ap₂, ◌∙◌, arith}
use Rattle.std.proofs.lemmas.List.{append-nil, map-append}
use Rattle.mir_text.specs.NameFaults.{first_fault}
use Rattle.mir_rules.specs.Broken.{Spot, gather}
use Rattle.mir_rules.proofs.Least.{first_fault_append}
use Rattle.mir_limits.specs.Answer.{either}

pub append_more : {A : Type 0} (xs ys zs : List A) → xs ++ (ys ++ zs) ≡ (xs ++ ys) ++ zs
append_more [] ys zs = refl
append_more (x ∷ xs) ys zs = ap (λ l. x ∷ l) (append_more xs ys zs)

gather_take_from : {A B : Type 0} (find : ℕ → A → List B) (n : ℕ) (xs : List A) (k : ℕ) (x : A) → slice_get xs k ≡ Some x → gather find n (take (suc k) xs) ≡ gather find n (take k xs) ++ find (k + n) x
gather_take_from find n [] k x e = absurd cc
gather_take_from find n (y ∷ xs) zero x e =
    let same : y ≡ x = cc in
    let zeroth : n ≡ 0 + n = omega arith in
    append-nil (find n y) ∙ ap₂ find zeroth same
gather_take_from find n (y ∷ xs) (suc k) x e =
    let next : k + suc n ≡ suc k + n = omega arith in
    ap (λ l. find n y ++ l) (gather_take_from find (suc n) xs k x e ∙ ap (λ m. gather find (suc n) (take k xs) ++ find m x) next)
    ∙ append_more (find n y) (gather find (suc n) (take k xs)) (find (suc k + n) x)

-- one more item
pub gather_take : {A B : Type 0} (find : ℕ → A → List B) (xs : List A) (k : ℕ) (x : A) → slice_get xs k ≡ Some x → gather find 0 (take (k + 1) xs) ≡ gather find 0 (take k xs) ++ find k x
gather_take find xs k x e =
    let here : k + 0 ≡ k = omega arith in
    let next : k + 1 ≡ suc k = omega arith in
    ap (λ n. gather find 0 (take n xs)) next ∙ (gather_take_from find 0 xs k x e ∙ ap (λ m. gather find 0 (take k xs) ++ find m x) here)

-- two walks, one after the other
pub both_walks : (tell : Spot × ℕ → ℕ × ℕ) (xs ys : List (Spot × ℕ)) → either (first_fault (map tell xs)) (first_fault (map tell ys)) ≡ first_fault (map tell (xs ++ ys))
both_walks tell xs ys = sym (ap first_fault (map-append tell xs ys) ∙ first_fault_append (map tell xs) (map tell ys))

pub gathered_more : {A : Type 0} (tell : Spot × ℕ → ℕ × ℕ) (find : ℕ → A → List (Spot × ℕ)) (xs : List A) (k : ℕ) (x : A) → slice_get xs k ≡ Some x
    → either (first_fault (map tell (gather find 0 (take k xs)))) (first_fault (map tell (find k x))) ≡ first_fault (map tell (gather find 0 (take (k + 1) xs)))
gathered_more tell find xs k x e = both_walks tell (gather find 0 (take k xs)) (find k x) ∙ ap (λ l. first_fault (map tell l)) (sym (gather_take find xs k x e))

pub three_walks : (tell : Spot × ℕ → ℕ × ℕ) (xs ys zs : List (Spot × ℕ)) → either (either (first_fault (map tell xs)) (first_fault (map tell ys))) (first_fault (map tell zs)) ≡ first_fault (map tell (xs ++ (ys ++ zs)))
three_walks tell xs ys zs =
    ap (λ o. either o (first_fault (map tell zs))) (both_walks tell xs ys) ∙ (both_walks tell (xs ++ ys) zs ∙ ap (λ l. first_fault (map tell l)) (sym (append_more xs ys zs)))
