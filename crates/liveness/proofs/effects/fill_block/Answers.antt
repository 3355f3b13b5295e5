use Rattle.std.proofs.Common.{◌++◌, List, ap, ◌∙◌, set}
use Rattle.std.specs.List.{flat_map}
use Rattle.bit_rows.specs.Rows.{row_at, marked}
use Rattle.bit_rows.proofs.Marks.{marks_then}
use Rattle.mir_syntax.specs.declared.body.Stmt.{Stmt}
use Rattle.liveness.specs.Live.{term_fills}
use Rattle.liveness.specs.Rows.{bare_fills}
use Rattle.liveness.proofs.Carried.{fills_same}
use Rattle.liveness.proofs.effects.fill_block.Goals as goal

pub returns : goal.returns
returns c = λ trees.
    let rows = c.args.rows.now in
    let row = c.args.row in
    let block = c.args.block.now in
    marks_then rows c.mark_all_filled.new.rows c.mark_filled_by_term.new.rows row (flat_map bare_fills block.stmts) (term_fills block.term) c.requires
    (c.mark_all_filled.ensures ∙ ap (λ (xs : List Stmt). set rows row (marked (row_at rows row) (flat_map bare_fills xs))) c.as_slice.ensures)
    c.mark_filled_by_term.ensures
    ∙ ap (λ xs. set rows row (marked (row_at rows row) (xs ++ term_fills block.term))) (fills_same trees block.stmts)
