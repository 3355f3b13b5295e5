use Rattle.std.proofs.Common.{◌≡◌, ◌++◌, map, take, drop}
use Rattle.bit_rows.specs.Rows.{row_at}
use Rattle.dest_prop.specs.Code.{home_in, shared_in, bare_block_home}
use Rattle.dest_prop.proofs.merge.blocks_at_home.Given as goal

abbrev pub invariant-loop-block : goal.invariant-loop-block
invariant-loop-block l = l.block-items ≡ map (bare_block_home (shared_in (row_at l.shared 0)) (home_in l.homes)) (take l.block-index l.fn.blocks) ++ drop l.block-index l.fn.blocks
