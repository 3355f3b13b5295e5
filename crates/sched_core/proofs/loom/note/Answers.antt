use Rattle.std.proofs.Common.{◌++◌, sym, ap, ◌∙◌}
use Rattle.std.specs.Prelude.{option_to_list}
use Rattle.sched_core.proofs.Weaving.{append_none}
use Rattle.sched_core.proofs.loom.note.Goals as goal

pub returns-in-None : goal.returns-in-None
returns-in-None c = sym (ap (λ o. c.args.trail.now ++ option_to_list o) c.in-None.is ∙ append_none c.args.trail.now)
