use Rattle.std.proofs.Common.{List, ap, ◌∙◌, set}
use Rattle.std.specs.List.{flat_map}
use Rattle.bit_rows.specs.Rows.{row_at, marked}
use Rattle.bit_rows.proofs.Marks.{marks_then}
use Rattle.mir_syntax.specs.declared.body.Stmt.{Stmt}
use Rattle.trim_locals.specs.Code.{bare_stmt_uses, bare_term_uses}
use Rattle.trim_locals.proofs.marks.mark_block.Goals as goal

pub returns : goal.returns
returns c =
    let rows = c.args.rows.now in
    let block = c.args.block.now in
    marks_then rows c.mark_stmts.new.rows c.mark_term.new.rows 0 (flat_map bare_stmt_uses block.stmts) (bare_term_uses block.term) c.requires
    (c.mark_stmts.ensures ∙ ap (λ (ss : List Stmt). set rows 0 (marked (row_at rows 0) (flat_map bare_stmt_uses ss))) c.as_slice.ensures)
    c.mark_term.ensures
