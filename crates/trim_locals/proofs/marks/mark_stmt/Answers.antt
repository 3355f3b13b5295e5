use Rattle.std.proofs.Common.{[], ◌∷◌, sym, ap, ◌∙◌, set}
use Rattle.bit_rows.specs.Rows.{row_at, marked}
use Rattle.bit_rows.proofs.Marks.{marks_then}
use Rattle.mir_syntax.specs.declared.body.Stmt.{Stmt}
use Rattle.liveness.specs.Rows.{bare_rvalue_reads}
use Rattle.trim_locals.specs.Code.{bare_stmt_uses}
use Rattle.trim_locals.proofs.marks.mark_stmt.Goals as goal

pub returns-in-Assign : goal.returns-in-Assign
returns-in-Assign c =
    let rows = c.args.rows.now in
    marks_then rows c.read_rvalue.new.rows c.write.new.self 0 (bare_rvalue_reads c.in-Assign.rvalue) (c.in-Assign.place.local ∷ []) c.requires c.read_rvalue.ensures c.write.ensures
    ∙ ap (λ (s : Stmt). set rows 0 (marked (row_at rows 0) (bare_stmt_uses s))) (sym c.in-Assign.is)
