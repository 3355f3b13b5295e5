use Rattle.mir_resolve.proofs.NoneTwice.{seen_new, seen_again}
use Rattle.mir_resolve.proofs.once.is_new.Goals as goal

pub returns-in-Ok-clause-seen : goal.returns-in-Ok-clause-seen
returns-in-Ok-clause-seen c = rw c.in-Ok.ensures.appended (seen_new c.args.seen.now c.args.text.now)

pub returns-in-Err-Twice-clause-seen : goal.returns-in-Err-Twice-clause-seen
returns-in-Err-Twice-clause-seen c =
    rw c.in-Err-Twice.ensures.unchanged
    (seen_again c.args.seen.now c.args.text.now c.in-Err-Twice.field-0-0 (rw c.in-Err-Twice.field-0-is at c.in-Err-Twice.ensures.twice))
