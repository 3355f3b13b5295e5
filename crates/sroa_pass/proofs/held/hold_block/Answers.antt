use Rattle.std.proofs.Common.{List, ap, ◌∙◌, set}
use Rattle.std.specs.List.{flat_map}
use Rattle.bit_rows.specs.Rows.{row_at, marked}
use Rattle.bit_rows.proofs.Marks.{marks_then}
use Rattle.mir_syntax.specs.declared.body.Stmt.{Stmt}
use Rattle.sroa_pass.specs.Code.{held_stmt, held_term}
use Rattle.sroa_pass.proofs.held.hold_block.Goals as goal

pub returns : goal.returns
returns c =
    let rows = c.args.rows.now in
    let block = c.args.block.now in
    marks_then rows c.hold_stmts.new.rows c.hold_term.new.rows 0 (flat_map held_stmt block.stmts) (held_term block.term) c.requires
    (c.hold_stmts.ensures ∙ ap (λ (ss : List Stmt). set rows 0 (marked (row_at rows 0) (flat_map held_stmt ss))) c.as_slice.ensures)
    c.hold_term.ensures
