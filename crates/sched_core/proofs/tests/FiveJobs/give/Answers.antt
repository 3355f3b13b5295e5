use Rattle.std.proofs.Common.{◌++◌, List, ℕ, ap, ◌∙◌, subst, sym}
use Rattle.sched_core.specs.TestJobs.{IsWork}
use Rattle.sched_core.proofs.TestJobs.{gave}
use Rattle.sched_core.proofs.tests.FiveJobs.give.Goals as goal

pub returns : goal.returns
returns c =
    let far = c.args.self.now.far in
    let work = c.args.work.now in
    let more = c.in_ok-extend.ensures.ok ∙ ap (λ (xs : List ℕ). work.items ++ xs) c.as_slice.ensures in (
      subst (λ (xs : List ℕ). IsWork far c.args._q xs c.extend.new.self) (sym c.in_ok-push.ensures.ok)
          (gave far c.args._q work.given work.items c.args.need c.args.answer.now c.extend.new.self c.requires.work.1 c.requires.need.0 c.requires.need.1 c.requires.answer more),
      c.in_ok-push.ensures.ok,
    )
