use Rattle.std.proofs.Common.{◌≡◌, set, take}
use Rattle.std.specs.List.{flat_map}
use Rattle.bit_rows.specs.Rows.{row_at, marked}
use Rattle.sroa_pass.specs.Code.{held_block}
use Rattle.sroa_pass.proofs.held.hold_blocks.Given as goal

abbrev pub invariant-loop-block : goal.invariant-loop-block
invariant-loop-block l = l.rows ≡ set l.fn.rows 0 (marked (row_at l.fn.rows 0) (flat_map held_block (take l.block-index l.blocks)))
