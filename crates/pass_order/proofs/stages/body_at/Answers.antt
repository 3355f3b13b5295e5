use Rattle.std.proofs.Common.{sym}
use Rattle.mir_syntax.specs.Tree.{trees_of}
use Rattle.mir_syntax.specs.Crate.{crate_of, body_of}
use Rattle.mir_syntax.specs.Shapes.{shapes_of}
use Rattle.pass_order.proofs.Staged.{stage_given}
use Rattle.pass_order.proofs.stages.body_at.Goals as goal

pub returns-clause-at : goal.returns-clause-at
returns-clause-at c =
    let p = c.args.program.now in
    let trees = trees_of p.types in
    stage_given trees c.args.stage c.in-Some.count (shapes_of (crate_of p)) (body_of trees c.args.body) c.after_all.result (sym c.in-Some.ensures) c.after_all.ensures.passed
