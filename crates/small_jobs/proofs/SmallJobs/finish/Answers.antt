use Rattle.std.proofs.Common.{◌≡◌, ◌≢◌, ℕ, ◌+◌, true, ap, subst, ◌∙◌}
use Rattle.std.specs.Prelude.{Some, option_to_list}
use Rattle.sched_core.specs.Plan.{has}
use Rattle.small_jobs.specs.Small.{small_reads, small_needs, small_steals, given_of, added}
use Rattle.small_jobs.proofs.Laws.{carried_one}
use Rattle.small_jobs.proofs.Works.{was_given, taken_is, answers}
use Rattle.small_jobs.proofs.SmallJobs.finish.Goals as goal

pub returns : goal.returns
returns c =
    let q = c.args.q in
    let given = c.args.work.given in
    let one = carried_one c.args.self.now.thief_reads c.args.self.now.lawful in
    let all = subst (λ (r : ℕ). (n : ℕ) → has n (small_needs r q) ≡ true → small_steals q ≢ Some n → has n (given_of r q given) ≡ true) one c.requires.needs in
    let read : c.args.work.read ≡ added (small_reads 1 q) = c.requires.work.1 ∙ ap (λ (r : ℕ). added (given_of r q given)) one ∙ ap added (was_given q given c.requires.work.0 all) in
    let stolen : c.unwrap_or.result ≡ added (option_to_list (small_steals q)) = c.unwrap_or.ensures ∙ taken_is (small_steals q) c.args.taken c.requires.taken in
    ap (λ (x : ℕ). ((x + c.unwrap_or.result) + q) + 5) read ∙ ap (λ (x : ℕ). ((added (small_reads 1 q) + x) + q) + 5) stolen ∙ answers q c.requires.work.0
