use Rattle.std.proofs.Common.{arith}
use Rattle.bit_rows.specs.Rows.{row_at, flag}
use Rattle.dest_prop.proofs.equal.Grown.{grows_row, grows_past}
use Rattle.dest_prop.proofs.conflicts.note_live.Goals as goal

pub returns-then-local-locals : goal.returns-then-local-locals
returns-then-local-locals c = grows_row c.args.locals c.args.hurts.now c.or_other.new.self c.args.local (row_at c.args.live.now c.args.row) c.requires.size c.requires.bits (omega arith) c.or_other.ensures.row

pub returns-else-local-locals : goal.returns-else-local-locals
returns-else-local-locals c = grows_past c.args.locals c.args.hurts.now c.args.local (λ x y. flag c.args.live.now c.args.row y) c.requires.size (omega arith)
