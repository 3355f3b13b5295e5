use Rattle.std.proofs.Common.{◌∙◌, sym, ap}
use Rattle.sched_core.proofs.TestJobs.{finished, items_of}
use Rattle.sched_core.proofs.tests.FiveJobs.finish.Goals.{in-Some, in-None}
use Rattle.sched_core.proofs.tests.FiveJobs.finish.Goals as goal

pub returns : goal.returns
returns c =
    finished c.args.self.now.far c.args.q c.args.work.given c.args.work.items c.args.taken c.match-taken-2.answer c.append.new.self c.push.new.self c.own.result
    c.requires.work.0 c.requires.work.1 c.requires.needs c.requires.taken
    (elim c.match-taken-2.branch [ in-Some w ↦ w.answer-is ∙ sym (ap items_of w.in-Some.is) | in-None w ↦ w.answer-is ∙ w.new-answer.ensures ∙ sym (ap items_of w.in-None.is) ])
    c.in_ok-append.ensures.ok
    c.own.ensures
    c.in_ok-push.ensures.ok
