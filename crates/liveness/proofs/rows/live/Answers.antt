use Rattle.mir_syntax.specs.Tree.{trees_of}
use Rattle.mir_syntax.specs.Crate.{crate_of}
use Rattle.mir_syntax.specs.Shapes.{shapes_of}
use Rattle.liveness.proofs.Whole.{ends_size, ends_are}
use Rattle.liveness.proofs.rows.live.Goals as goal

pub returns-clause-ends_size : goal.returns-clause-ends_size
returns-clause-ends_size c = (let p = c.args.program.now in ends_size (shapes_of (crate_of p)) (trees_of p.types) c.args.body.now c.requires.closed c.in_ok-starts.starts c.in_ok-ends.ends c.in_ok-starts.ensures.size c.in_ok-starts.ensures.live c.in_ok-ends.ensures)

pub returns-clause-ends : goal.returns-clause-ends
returns-clause-ends c = (let p = c.args.program.now in ends_are (shapes_of (crate_of p)) (trees_of p.types) c.args.body.now c.requires.closed c.in_ok-starts.starts c.in_ok-ends.ends c.in_ok-starts.ensures.size c.in_ok-starts.ensures.live c.in_ok-ends.ensures)
