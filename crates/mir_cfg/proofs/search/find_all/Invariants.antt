use Rattle.std.proofs.Common.{take, length}
use Rattle.bit_rows.specs.Rows.{row_at, HasSize}
use Rattle.mir_cfg.specs.Search.{Finds}
use Rattle.mir_cfg.proofs.search.find_all.Given as goal

abbrev pub invariant-loop-block : goal.invariant-loop-block
invariant-loop-block l = HasSize l.found 1 (length (row_at l.fn.found 0)) × Finds (row_at l.fn.found 0) (row_at l.found 0) l.fn.opened.items l.opened.items (take l.block-index l.blocks)
