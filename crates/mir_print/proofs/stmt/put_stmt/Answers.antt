use Rattle.mir_text.specs.StatementText.{stmt_text}
use Rattle.mir_print.proofs.Printing.{goes_then}
use Rattle.mir_print.proofs.stmt.put_stmt.Goals as goal

pub returns-in-StorageDead : goal.returns-in-StorageDead
unfolding stmt_text
returns-in-StorageDead g c =
    rw c.in-StorageDead.is (goes_then c.put-in-StorageDead.ensures (goes_then c.put_local-in-StorageDead.ensures c.put-in-StorageDead-2.ensures))
