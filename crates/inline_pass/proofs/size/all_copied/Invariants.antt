use Rattle.std.proofs.Common.{◌≡◌, List, map, take}
use Rattle.std.specs.Prelude.{sum_by}
use Rattle.mir_syntax.specs.Tree.{Tree}
use Rattle.mir_syntax.specs.Crate.{block_of}
use Rattle.inline_pass.specs.Code.{capped, copied_in}
use Rattle.inline_pass.proofs.size.all_copied.Given as goal

abbrev pub invariant-loop-block : goal.invariant-loop-block
invariant-loop-block l = (trees : List Tree) → l.total ≡ capped (sum_by copied_in (map (block_of trees) (take l.block l.callee.blocks)))
