use Rattle.std.proofs.Common.{[], length, get_or, arith}
use Rattle.bit_rows.specs.Rows.{row_at}
use Rattle.liveness.specs.Rows.{blank}
use Rattle.liveness.proofs.Filling.{filled_all, rows_mapped}
use Rattle.move_paths.proofs.rows.one_table.Goals as goal

pub returns : goal.returns
returns c =
    let rows = c.args.rows.now in
    rows_mapped (λ row. row_at row 0) rows [] c.loop-at.table (filled_all (length rows) c.loop-at.at (λ r. row_at (get_or rows r []) 0) (blank c.args.bits) c.loop-at.table (omega arith) c.loop-at.invariant)
