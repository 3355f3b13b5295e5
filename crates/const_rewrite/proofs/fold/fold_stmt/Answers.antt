use Rattle.std.proofs.Common.{◌∙◌, ap}
use Rattle.mir_syntax.specs.Ids.{stmt_below}
use Rattle.const_rewrite.proofs.equal.Found.{stmt_ids}
use Rattle.const_rewrite.proofs.fold.fold_stmt.Goals as goal

pub returns-clause-ids : goal.returns-clause-ids
returns-clause-ids c = λ n below.
    ap (stmt_below n) c.in_ok-left.ensures
    ∙ stmt_ids n c.in_ok-value.value c.as_slice.result.now c.replace-old.result (ap (stmt_below n) c.replace-old.ensures.value ∙ below)
