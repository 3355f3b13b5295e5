use Rattle.std.proofs.Common.{sym, ltb-true, ◌<◌, length}
use Rattle.mir_validate.proofs.Seeing.{same_ids}
use Rattle.mir_validate.proofs.inside.Inside.is.Goals as goal

pub returns-in-InTable : goal.returns-in-InTable
returns-in-InTable c =
    let types = c.args.self.now.program.now.types in
    let below = rw c.in-InTable.is at c.requires.seen_in_table in
    let inside : c.in-InTable.other.0 < length types = ltb-true c.in-InTable.other.0 (length types) below in
    rw c.in-InTable.is (sym (same_ids types c.in-InTable.other c.args.id c.args.self.now.program.now.table inside c.requires.in_table))
