-- Each query of a function has a number of its own.
use Rattle.std.proofs.Common.{◌≡◌, ◌≢◌, refl, sym, ap, ◌∙◌, ℕ, zero, suc, ◌+◌, ◌*◌, ◌/◌, ◌%◌, ◌<◌, ◌≤◌, arith}
use Rattle.std.proofs.lemmas.Nat.{div-mul-add, mod-mul-add}
use Rattle.std.proofs.Math.Nat.{div-add-mod, mod-lt, div-zero}
use Rattle.query_plan.specs.declared.kind.Kind.{Kind}
use Rattle.query_plan.specs.declared.kind.Kind.TheVariants.{Built, Qualif, Prom, Callees, Cost, Reach, Elab, Opt}
use Rattle.query_plan.specs.Needs.{kind_at, kind_number, query}

kind_back : (k : Kind) → kind_at (kind_number k) ≡ k
kind_back Built = refl
kind_back Qualif = refl
kind_back Prom = refl
kind_back Callees = refl
kind_back Cost = refl
kind_back Reach = refl
kind_back Elab = refl
kind_back Opt = refl

at_most_seven : (k : Kind) → kind_number k ≤ 7
at_most_seven Built = omega arith
at_most_seven Qualif = omega arith
at_most_seven Prom = omega arith
at_most_seven Callees = omega arith
at_most_seven Cost = omega arith
at_most_seven Reach = omega arith
at_most_seven Elab = omega arith
at_most_seven Opt = omega arith

number_back : (m : ℕ) → kind_at m ≢ Built → kind_number (kind_at m) ≡ m
number_back zero h = absurd (h refl)
number_back (suc zero) h = refl
number_back (suc (suc zero)) h = refl
number_back (suc (suc (suc zero))) h = refl
number_back (suc (suc (suc (suc zero)))) h = refl
number_back (suc (suc (suc (suc (suc zero))))) h = refl
number_back (suc (suc (suc (suc (suc (suc zero)))))) h = refl
number_back (suc (suc (suc (suc (suc (suc (suc zero))))))) h = refl
number_back (suc (suc (suc (suc (suc (suc (suc (suc m)))))))) h = absurd (h refl)

pub kind_of_query : (n : ℕ) (k : Kind) (f : ℕ) → f < n → kind_at (query n k f / n) ≡ k
unfolding query
kind_of_query n k f lt = ap kind_at (div-mul-add (kind_number k) n f lt) ∙ kind_back k

pub function_of_query : (n : ℕ) (k : Kind) (f : ℕ) → f < n → query n k f % n ≡ f
unfolding query
function_of_query n k f lt = mod-mul-add (kind_number k) n f lt

pub query_below : (n : ℕ) (k : Kind) (f : ℕ) → f < n → query n k f < 8 * n
unfolding query
query_below n k f lt = let p : kind_number k * n ≤ 7 * n = (let a = at_most_seven k in grind arith) in omega (arith, p, lt)

-- a number whose kind isn't the first is that of a query
pub query_back : (n q : ℕ) → kind_at (q / n) ≢ Built → (q ≡ query n (kind_at (q / n)) (q % n)) × (q % n < n)
unfolding query
query_back zero q h = absurd (h (ap kind_at (div-zero q)))
query_back (suc n) q h =
    let d = div-add-mod q (suc n) in
    let k = number_back (q / suc n) h in
    (sym (ap (λ (m : ℕ). m * suc n + q % suc n) k ∙ (let c : (q / suc n) * suc n + q % suc n ≡ suc n * (q / suc n) + q % suc n = grind arith in c) ∙ d), mod-lt q (omega arith))

-- different kinds have different numbers
pub same_query : (n : ℕ) (k l : Kind) (f g : ℕ) → f < n → g < n → query n k f ≡ query n l g → (k ≡ l) × (f ≡ g)
same_query n k l f g a b e =
    (sym (kind_of_query n k f a) ∙ ap (λ (q : ℕ). kind_at (q / n)) e ∙ kind_of_query n l g b, sym (function_of_query n k f a) ∙ ap (λ (q : ℕ). q % n) e ∙ function_of_query n l g b)
