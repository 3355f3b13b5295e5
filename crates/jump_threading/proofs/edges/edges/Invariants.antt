use Rattle.std.proofs.Common.{map}
use Rattle.jump_threading.specs.Code.{text_in, block_in}
use Rattle.jump_threading.proofs.equal.Edges.{SoFar}
use Rattle.jump_threading.proofs.edges.edges.Given as goal

abbrev pub invariant-loop-from : goal.invariant-loop-from
invariant-loop-from l = SoFar (text_in l.sight) (map (block_in l.sight) l.body.blocks) l.rows l.from l.edges
