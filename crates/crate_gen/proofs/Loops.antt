-- Lists that a loop makes item by item: what is made so far, before what is still to come, is the whole.
use Rattle.std.proofs.Common.{◌≡◌, ◌<◌, ◌≤◌, ◌+◌, ◌-◌, ◌*◌, ◌++◌, ℕ, suc, List, [], ◌∷◌, Bool, true, ap, ◌∙◌, refl, arith}
use Rattle.std.specs.List.{list_all}
use Rattle.std.proofs.lemmas.Bool.{and_from}
use Rattle.std.proofs.lemmas.List.{append_assoc}
use Rattle.std.proofs.lemmas.List.Folds.{list_all-append}
use Rattle.crate_gen.specs.Draws.{next, drawn, draws}
use Rattle.crate_gen.specs.Made.{choice, after_choice, made_function, made_functions, function_lines, functions_lines}

-- the first item to come is made
pub one_made : {A : Type 0} (xs : List A) (y : A) (ys all : List A) → xs ++ y ∷ ys ≡ all → xs ++ y ∷ [] ++ ys ≡ all
one_made xs y ys all h = append_assoc xs (y ∷ []) ys ∙ h

pub four_pushed : {A : Type 0} (a b c d : A) (l0 l1 l2 l3 l4 : List A) → l0 ≡ [] → l1 ≡ l0 ++ a ∷ [] → l2 ≡ l1 ++ b ∷ [] → l3 ≡ l2 ++ c ∷ [] → l4 ≡ l3 ++ d ∷ [] → l4 ≡ a ∷ b ∷ c ∷ d ∷ []
four_pushed a b c d l0 l1 l2 l3 l4 e0 e1 e2 e3 e4 = e4 ∙ ap (λ l. l ++ d ∷ []) (e3 ∙ ap (λ l. l ++ c ∷ []) (e2 ∙ ap (λ l. l ++ b ∷ []) (e1 ∙ ap (λ l. l ++ a ∷ []) e0)))

pub list_all_end : {A : Type 0} (p : A → Bool) (xs : List A) (y : A) → list_all p xs ≡ true → p y ≡ true → list_all p (xs ++ y ∷ []) ≡ true
list_all_end p xs y h e = list_all-append p xs (y ∷ []) ∙ and_from (list_all p xs) (list_all p (y ∷ [])) h (and_from (p y) true e refl)

pub draws_more : (below n i x : ℕ) → i < n → draws below (n - i) x ≡ drawn below x ∷ draws below (n - (i + 1)) (next x)
unfolding draws
draws_more below n i x low =
    let left : n - i ≡ suc (n - (i + 1)) = omega arith in
    ap (λ k. draws below k x) left

pub draws_none : (below n i x : ℕ) → n ≤ i → draws below (n - i) x ≡ []
unfolding draws
draws_none below n i x end =
    let left : n - i ≡ 0 = omega arith in
    ap (λ k. draws below k x) left

pub lines_more : (n i : ℕ) → i < n → functions_lines (1 + 26 * i) (n - i) ≡ function_lines (1 + 26 * i) ∷ functions_lines (1 + 26 * (i + 1)) (n - (i + 1))
lines_more n i low =
    let left : n - i ≡ suc (n - (i + 1)) = omega arith in
    let line : 1 + 26 * i + 26 ≡ 1 + 26 * (i + 1) = omega arith in
    ap (λ k. functions_lines (1 + 26 * i) k) left ∙ ap (λ l. function_lines (1 + 26 * i) ∷ functions_lines l (n - (i + 1))) line

pub functions_more : (functions n i x : ℕ) → i < n → made_functions functions i (n - i) x ≡ made_function i (choice functions x) ∷ made_functions functions (i + 1) (n - (i + 1)) (after_choice x)
functions_more functions n i x low =
    let left : n - i ≡ suc (n - (i + 1)) = omega arith in
    let number : suc i ≡ i + 1 = omega arith in
    ap (λ k. made_functions functions i k x) left ∙ ap (λ j. made_function i (choice functions x) ∷ made_functions functions j (n - (i + 1)) (after_choice x)) number
