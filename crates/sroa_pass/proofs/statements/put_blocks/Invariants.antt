use Rattle.std.proofs.Common.{◌≡◌, ◌++◌, map, take, drop}
use Rattle.sroa_pass.specs.Code.{put_block}
use Rattle.sroa_pass.proofs.statements.put_blocks.Given as goal

abbrev pub invariant-loop-block : goal.invariant-loop-block
invariant-loop-block l = l.block-items ≡ map (put_block l.table) (take l.block-index l.fn.blocks) ++ drop l.block-index l.fn.blocks
