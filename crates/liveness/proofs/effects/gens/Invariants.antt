use Rattle.std.proofs.Common.{length}
use Rattle.mir_syntax.specs.Tree.{trees_of}
use Rattle.mir_syntax.specs.Crate.{crate_of, body_of}
use Rattle.mir_syntax.specs.Shapes.{shapes_of}
use Rattle.liveness.specs.Rows.{blank, gen_row, block_at}
use Rattle.liveness.proofs.Filling.{Filled}
use Rattle.liveness.proofs.effects.gens.Given as goal

abbrev pub invariant-loop-at : goal.invariant-loop-at
invariant-loop-at l =
    let b = body_of (trees_of l.program.types) l.body in
    Filled (length l.body.blocks) l.at (λ i. gen_row (shapes_of (crate_of l.program)) b.locals (block_at b.blocks i)) (blank (length l.body.locals)) l.rows
