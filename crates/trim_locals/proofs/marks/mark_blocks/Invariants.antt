use Rattle.std.proofs.Common.{◌≡◌, set, take}
use Rattle.std.specs.List.{flat_map}
use Rattle.bit_rows.specs.Rows.{row_at, marked}
use Rattle.trim_locals.specs.Code.{bare_block_uses}
use Rattle.trim_locals.proofs.marks.mark_blocks.Given as goal

abbrev pub invariant-loop-block : goal.invariant-loop-block
invariant-loop-block l = l.rows ≡ set l.fn.rows 0 (marked (row_at l.fn.rows 0) (flat_map bare_block_uses (take l.block-index l.blocks)))
