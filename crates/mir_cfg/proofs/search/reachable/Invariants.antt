use Rattle.std.proofs.Common.{◌+◌, ◌*◌, length}
use Rattle.bit_rows.specs.Rows.{row_at, HasSize}
use Rattle.mir_cfg.specs.Paths.{block_term}
use Rattle.std.proofs.Common.{map}
use Rattle.mir_cfg.specs.Search.{IsSearch, missing}
use Rattle.mir_cfg.proofs.search.reachable.Given as goal

abbrev pub invariant-loop-block : goal.invariant-loop-block
invariant-loop-block l = HasSize l.found 1 (length l.blocks) × IsSearch (map block_term l.blocks) (row_at l.found 0) l.opened.items

abbrev pub decreases-loop-block : goal.decreases-loop-block
decreases-loop-block l = 2 * missing (row_at l.found 0) + length l.opened.items
