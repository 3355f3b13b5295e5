-- The lines of locals, set declaration by declaration, the last one first.
use Rattle.std.proofs.Common.{◌≡◌, ℕ, zero, suc, ◌+◌, ◌<◌, ◌≤◌, cond, List, [], ◌∷◌, length, get_or, drop, set, replicate, refl, sym, ap, ap₂, ◌∙◌, arith, eq-eqb, add-one}
use Rattle.std.proofs.Math.Seq.{drop-cons}
use Rattle.mir_text.specs.GrammarItems.{ArgRule}
use Rattle.mir_text.specs.PartLines.{Lined}
use Rattle.mir_text.specs.ReadLines.{local_line, local_lines}
use Rattle.mir_file.proofs.HeadSteps.{not-eq}

pub set_past : (l : List ℕ) (i v : ℕ) → length l ≤ i → set l i v ≡ l
set_past [] i v h = refl
set_past (x ∷ l) zero v h = absurd (omega arith)
set_past (x ∷ l) (suc i) v h = ap (λ t. x ∷ t) (set_past l i v (omega arith))

line-skip : (a : Lined ArgRule) (done : List (Lined ArgRule)) (x n : ℕ) → a.1.0 < x → local_lines (a ∷ done) x n ≡ local_lines done x n
line-skip a done x zero h = refl
line-skip a done x (suc n) h =
    ap₂ (λ v vs. v ∷ vs) (ap (λ b. cond b a.0 (local_line done x)) (not-eq a.1.0 x (λ e. omega arith))) (line-skip a done (suc x) n (omega arith))

line-set : (a : Lined ArgRule) (done : List (Lined ArgRule)) (x k n : ℕ) → a.1.0 ≡ x + k → set (local_lines done x n) k a.0 ≡ local_lines (a ∷ done) x n
line-set a done x k zero e = refl
line-set a done x zero (suc n) e =
    let same : a.1.0 ≡ x = omega arith in
    let past : a.1.0 < suc x = omega arith in
    ap₂ (λ v vs. v ∷ vs) (sym (ap (λ b. cond b a.0 (local_line done x)) (eq-eqb a.1.0 x same))) (sym (line-skip a done (suc x) n past))
line-set a done x (suc k) (suc n) e =
    let later : a.1.0 ≡ suc x + k = omega arith in
    ap₂ (λ v vs. v ∷ vs) (sym (ap (λ b. cond b a.0 (local_line done x)) (not-eq a.1.0 x (λ same. omega arith)))) (line-set a done (suc x) k n later)

-- one declaration more
pub line_set : (a : Lined ArgRule) (done : List (Lined ArgRule)) (n : ℕ) → set (local_lines done 0 n) a.1.0 a.0 ≡ local_lines (a ∷ done) 0 n
line_set a done n = let here : a.1.0 ≡ 0 + a.1.0 = omega arith in line-set a done 0 a.1.0 n here

none-from : (x n : ℕ) → replicate n 0 ≡ local_lines [] x n
none-from x zero = refl
none-from x (suc n) = ap (λ l. 0 ∷ l) (none-from (suc x) n)

pub none_lined : (n : ℕ) → replicate n 0 ≡ local_lines [] 0 n
none_lined n = none-from 0 n

-- what stands from a place on begins with what stands there
pub from_place : {Z : Type 0} (xs : List Z) (n : ℕ) (x : Z) → n < length xs → x ≡ get_or xs n x → drop n xs ≡ x ∷ drop (n + 1) xs
from_place xs n x h is = drop-cons xs n x h ∙ ap₂ (λ y m. y ∷ drop m xs) (sym is) (sym (add-one n))
