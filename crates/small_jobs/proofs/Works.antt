-- What a work of the small jobs was given, where query 3 reads query 1.
use Rattle.std.proofs.Common.{◌≡◌, ◌≢◌, ℕ, zero, suc, ◌+◌, ◌<◌, Bool, true, false, refl, ap, ◌∙◌, arith}
use Rattle.std.proofs.lemmas.Bool.Decides.{nat_tests}
use Rattle.std.specs.Prelude.{Option, Some, None, MatchOption, option_to_list, unwrap_or}
use Rattle.sched_core.specs.Plan.{has}
use Rattle.small_jobs.specs.Small.{small_reads, small_needs, small_steals, small_out, given_of, added}

-- where all needs of a query were given but the one that it steals, it was given what it reads
pub was_given : (q : ℕ) (given : Bool) → q < 4 → ((n : ℕ) → has n (small_needs 1 q) ≡ true → small_steals q ≢ Some n → has n (given_of 1 q given) ≡ true) → given_of 1 q given ≡ small_reads 1 q
was_given q true lt all = refl
was_given zero false lt all = refl
was_given (suc zero) false lt all = absurd (let k = all 0 (grind (arith, nat_tests)) (λ e. (cc)) in (cc))
was_given (suc (suc zero)) false lt all = absurd (let k = all 1 (grind (arith, nat_tests)) (λ e. (cc)) in (cc))
was_given (suc (suc (suc zero))) false lt all = absurd (let k = all 1 (grind (arith, nat_tests)) (λ e. (cc)) in (cc))
was_given (suc (suc (suc (suc q)))) false lt all = absurd (omega arith)

pub taken_is : (o taken : Option ℕ) → MatchOption o (taken ≡ None) (λ s. taken ≡ Some (small_out s)) → unwrap_or taken 0 ≡ added (option_to_list o)
taken_is None taken h = ap (λ (t : Option ℕ). unwrap_or t 0) h
taken_is (Some s) taken h = ap (λ (t : Option ℕ). unwrap_or t 0) h ∙ (omega arith)

pub answers : (q : ℕ) → q < 4 → ((added (small_reads 1 q) + added (option_to_list (small_steals q))) + q) + 5 ≡ small_out q
answers zero lt = refl
answers (suc zero) lt = refl
answers (suc (suc zero)) lt = refl
answers (suc (suc (suc zero))) lt = refl
answers (suc (suc (suc (suc q)))) lt = absurd (omega arith)
