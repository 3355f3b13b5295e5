use Rattle.std.proofs.Common.{◌≡◌, take}
use Rattle.std.specs.List.{flat_map}
use Rattle.bit_rows.specs.Rows.{row_at}
use Rattle.dest_prop.specs.Code.{block_copies}
use Rattle.dest_prop.proofs.candidates.in_blocks.Given as goal

abbrev pub invariant-loop-block : goal.invariant-loop-block
invariant-loop-block l = l.found ≡ flat_map (block_copies l.locals (row_at l.lent 0)) (take l.block-index l.blocks)
