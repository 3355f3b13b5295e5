use Rattle.std.proofs.Common.{◌≡◌, ◌<◌, ◌++◌, ap, ◌∙◌, sym, set, length}
use Rattle.std.proofs.lemmas.List.{length-set}
use Rattle.bit_rows.specs.Rows.{row_at, marked}
use Rattle.bit_rows.proofs.Marks.{marks_then}
use Rattle.mir_syntax.specs.Crate.{stmt_of}
use Rattle.mir_syntax.specs.declared.body.Stmt.{Stmt}
use Rattle.liveness.specs.Live.{written_reads, whole}
use Rattle.liveness.specs.Rows.{cleared, before_stmt, bare_rvalue_reads}
use Rattle.liveness.proofs.Carried.{reads_same, row_then}
use Rattle.liveness.proofs.backward.back.Goals as goal

pub returns-in-Assign : goal.returns-in-Assign
returns-in-Assign c = λ trees.
    let rows = c.args.rows.now in
    let row = c.args.row in
    let p = c.in-Assign.place in
    let r = c.in-Assign.rvalue in
    let low : row < length c.fill.new.rows = rw c.fill.ensures (rw length-set c.requires) in
    let reads : c.read_written.new.rows ≡ set c.fill.new.rows row (marked (row_at c.fill.new.rows row) (bare_rvalue_reads r ++ written_reads p)) = marks_then c.fill.new.rows c.read_rvalue.new.rows c.read_written.new.rows row (bare_rvalue_reads r) (written_reads p) low c.read_rvalue.ensures c.read_written.ensures in
    row_then rows c.fill.new.rows c.read_written.new.rows row (λ x. cleared x (whole p)) (λ x. marked x (bare_rvalue_reads r ++ written_reads p)) c.requires c.fill.ensures reads
    ∙ ap (λ xs. set rows row (marked (cleared (row_at rows row) (whole p)) (xs ++ written_reads p))) (sym (reads_same trees r))
    ∙ ap (λ (s : Stmt). set rows row (before_stmt (stmt_of trees s) (row_at rows row))) (sym c.in-Assign.is)
