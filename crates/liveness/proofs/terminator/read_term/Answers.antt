use Rattle.std.proofs.Common.{List, ap, ◌∙◌, sym, map, set}
use Rattle.std.specs.List.{flat_map}
use Rattle.bit_rows.specs.Rows.{row_at, marked}
use Rattle.bit_rows.proofs.Marks.{marks_then}
use Rattle.mir_syntax.specs.Tree.{at_id, trees_of}
use Rattle.mir_syntax.specs.Crate.{crate_of}
use Rattle.mir_syntax.specs.Shapes.{shapes_of}
use Rattle.mir_syntax.specs.declared.body.Operand.{Operand}
use Rattle.mir_syntax.specs.declared.body.Term.{Term}
use Rattle.liveness.specs.Live.{operand_locals, result_reads, term_reads}
use Rattle.liveness.proofs.terminator.read_term.Goals as goal

pub returns-in-Call : goal.returns-in-Call
returns-in-Call c =
    let p = c.args.program.now in
    let D = shapes_of (crate_of p) in
    let locals = map (at_id (trees_of p.types)) c.args.body.now.locals in
    let rows = c.args.rows.now in
    let row = c.args.row in
    marks_then rows c.read_operands.new.rows c.read_result.new.rows row (flat_map operand_locals c.in-Call.args) (result_reads D locals c.in-Call.place) c.requires.row
    (c.read_operands.ensures ∙ ap (λ (xs : List Operand). set rows row (marked (row_at rows row) (flat_map operand_locals xs))) c.as_slice.ensures)
    c.read_result.ensures
    ∙ ap (λ (t : Term). set rows row (marked (row_at rows row) (term_reads D locals t))) (sym c.in-Call.is)

pub returns-in-Assert : goal.returns-in-Assert
returns-in-Assert c =
    let p = c.args.program.now in
    let D = shapes_of (crate_of p) in
    let locals = map (at_id (trees_of p.types)) c.args.body.now.locals in
    let rows = c.args.rows.now in
    let now = c.read_operand-in-Assert.new.rows in
    let row = c.args.row in
    marks_then rows now c.read_operands-in-Assert.new.rows row (operand_locals c.in-Assert.operand) (flat_map operand_locals c.in-Assert.values) c.requires.row
    c.read_operand-in-Assert.ensures
    (c.read_operands-in-Assert.ensures ∙ ap (λ (xs : List Operand). set now row (marked (row_at now row) (flat_map operand_locals xs))) c.as_slice-in-Assert.ensures)
    ∙ ap (λ (t : Term). set rows row (marked (row_at rows row) (term_reads D locals t))) (sym c.in-Assert.is)
