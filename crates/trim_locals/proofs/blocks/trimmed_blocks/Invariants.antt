use Rattle.std.proofs.Common.{◌≡◌, ◌++◌, map, take, drop}
use Rattle.bit_rows.specs.Rows.{row_at}
use Rattle.trim_locals.specs.Code.{bare_trimmed_block}
use Rattle.trim_locals.proofs.blocks.trimmed_blocks.Given as goal

abbrev pub invariant-loop-block : goal.invariant-loop-block
invariant-loop-block l = l.block-items ≡ map (bare_trimmed_block (row_at l.used 0) l.numbers) (take l.block-index l.fn.blocks) ++ drop l.block-index l.fn.blocks
