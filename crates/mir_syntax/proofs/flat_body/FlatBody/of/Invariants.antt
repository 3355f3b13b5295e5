use Rattle.std.specs.Vec.Iter.{into_iter_items}
use Rattle.mir_syntax.proofs.Flat.{Gathers}
use Rattle.mir_syntax.proofs.flat_body.FlatBody.of.Given as goal

abbrev pub invariant-loop-block : goal.invariant-loop-block
invariant-loop-block l = Gathers l.fn.body.blocks l.ends l.terms l.stmts (into_iter_items l.block-iterator)
