use Rattle.std.proofs.Common.{arith}
use Rattle.bit_rows.specs.Rows.{row_at}
use Rattle.liveness.specs.Rows.{blank}
use Rattle.liveness.proofs.Filling.{filled_all}
use Rattle.move_paths.proofs.Fill.{other_row, others_size, others_flags}
use Rattle.move_paths.proofs.rows.turned_over.Goals as goal

pub returns-clause-size : goal.returns-clause-size
returns-clause-size c = others_size c.args.bits c.args.count c.args.rows.now c.loop-row.made c.requires (filled_all c.args.count c.loop-row.row (λ r. other_row c.args.bits (row_at c.args.rows.now r)) (blank c.args.bits) c.loop-row.made (omega (arith, c.loop-row-test.false)) c.loop-row.invariant)

pub returns-clause-flags : goal.returns-clause-flags
returns-clause-flags c = others_flags c.args.bits c.args.count c.args.rows.now c.loop-row.made c.requires (filled_all c.args.count c.loop-row.row (λ r. other_row c.args.bits (row_at c.args.rows.now r)) (blank c.args.bits) c.loop-row.made (omega (arith, c.loop-row-test.false)) c.loop-row.invariant)
