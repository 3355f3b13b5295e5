use Rattle.std.proofs.Common.{List}
use Rattle.mir_syntax.specs.declared.body.Block.{Block}
use Rattle.const_rewrite.specs.Points.{here, trees_in}
use Rattle.const_rewrite.proofs.equal.Whole.{Going}
use Rattle.const_rewrite.proofs.fold.folded_blocks.Given as goal

abbrev pub invariant-loop-at : goal.invariant-loop-at
invariant-loop-at l = (front : List Block) × Going (trees_in l.text) (here l.text) l.rows l.fn.blocks l.block-items front l.at
