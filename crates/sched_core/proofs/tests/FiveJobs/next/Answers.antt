use Rattle.std.proofs.Common.{◌≡◌, ◌≤◌, ◌∙◌, ℕ, sym, ap, length, arith}
use Rattle.sched_core.specs.TestJobs.{reads, stolen}
use Rattle.sched_core.proofs.TestJobs.{reads_chosen, nothing_next, not_none, not_one}
use Rattle.sched_core.proofs.tests.FiveJobs.next.Goals as goal

pub returns-in-4-eq1 : goal.returns-in-4-eq1
returns-in-4-eq1 c =
    c.copied.ensures ∙ c.get.ensures ∙ reads_chosen c.args.self.now.far c.args.q c.args.work.now.given c.args.work.now.items c.in-4-eq1.is-0 c.requires.1 (sym c.len.ensures ∙ c.in-4-eq1.is-1)

pub returns-in_default : goal.returns-in_default
returns-in_default c =
    let far = c.args.self.now.far in
    let given = c.args.work.now.given in
    let reads_one : length (reads far c.args.q) ≡ 1 = ap (λ (x : ℕ). length (reads far x)) c.in_default.is-0 in
    let some : 1 ≤ length given = not_none (length given) (λ k. c.in_default.is-1.1 (c.len.ensures ∙ k)) in
    nothing_next far c.args.q given c.args.work.now.items c.requires.1 (omega (arith, reads_one, some)) (ap stolen c.in_default.is-0)

pub returns-in_default-3 : goal.returns-in_default-3
returns-in_default-3 c =
    let far = c.args.self.now.far in
    let given = c.args.work.now.given in
    let reads_two : length (reads far c.args.q) ≡ 2 = ap (λ (x : ℕ). length (reads far x)) c.in_default.is-0 in
    let two : 2 ≤ length given = not_one (length given) (λ k. c.in_default.is-1.0.1 (c.len.ensures ∙ k)) (λ k. c.in_default.is-1.1 (c.len.ensures ∙ k)) in
    nothing_next far c.args.q given c.args.work.now.items c.requires.1 (omega (arith, reads_two, two)) (ap stolen c.in_default.is-0)
