use Rattle.std.proofs.Common.{◌-◌, ◌∙◌, is_some, ap}
use Rattle.mir_bodies.specs.Locals.{declared_in}
use Rattle.mir_file.proofs.Declaring.{declared_some}
use Rattle.mir_file.proofs.HeadSteps.{below_at}
use Rattle.mir_file.proofs.head.has_below.Goals as goal

pub returns-else-local-eq0 : goal.returns-else-local-eq0
returns-else-local-eq0 c = λ trees.
    c.is_some.ensures ∙ ap is_some c.get.ensures ∙ declared_some trees c.args.locals.now (c.args.local - 1)
    ∙ below_at (declared_in trees c.args.locals.now) c.args.local c.if-local-eq0.false
