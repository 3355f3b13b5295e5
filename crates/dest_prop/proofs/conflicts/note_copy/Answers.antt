use Rattle.std.proofs.Common.{arith}
use Rattle.bit_rows.specs.Rows.{row_at}
use Rattle.dest_prop.proofs.equal.Grown.{grows_copy}
use Rattle.dest_prop.proofs.conflicts.note_copy.Goals as goal

pub returns-then-copy-locals : goal.returns-then-copy-locals
returns-then-copy-locals c = grows_copy c.args.locals c.args.hurts.now c.or_other.new.self c.args.copy.into (row_at c.args.live.now 0) c.requires.size (c.requires.live_size.bits_is 0 (omega arith)) (omega arith) c.or_other.ensures.row c.args.copy.from c.has-was.result c.write.new.self c.has-was.ensures c.write.ensures
