use Rattle.std.proofs.Common.{[], ◌∷◌, List, sym, ap, ◌∙◌, set}
use Rattle.std.specs.List.{flat_map}
use Rattle.bit_rows.specs.Rows.{row_at, marked}
use Rattle.bit_rows.proofs.Marks.{marks_then}
use Rattle.mir_syntax.specs.declared.body.Operand.{Operand}
use Rattle.mir_syntax.specs.declared.body.Term.{Term}
use Rattle.liveness.specs.Live.{operand_locals}
use Rattle.trim_locals.specs.Code.{bare_term_uses}
use Rattle.trim_locals.proofs.marks.mark_term.Goals as goal

pub returns-in-Call : goal.returns-in-Call
returns-in-Call c =
    let rows = c.args.rows.now in
    let now = c.write-in-Call.new.self in
    marks_then rows now c.read_operands.new.rows 0 (c.in-Call.place.local ∷ []) (flat_map operand_locals c.in-Call.args) c.requires c.write-in-Call.ensures
    (c.read_operands.ensures ∙ ap (λ (xs : List Operand). set now 0 (marked (row_at now 0) (flat_map operand_locals xs))) c.as_slice.ensures)
    ∙ ap (λ (t : Term). set rows 0 (marked (row_at rows 0) (bare_term_uses t))) (sym c.in-Call.is)

pub returns-in-Assert : goal.returns-in-Assert
returns-in-Assert c =
    let rows = c.args.rows.now in
    let now = c.read_operand-in-Assert.new.rows in
    marks_then rows now c.read_operands-in-Assert.new.rows 0 (operand_locals c.in-Assert.operand) (flat_map operand_locals c.in-Assert.values) c.requires c.read_operand-in-Assert.ensures
    (c.read_operands-in-Assert.ensures ∙ ap (λ (xs : List Operand). set now 0 (marked (row_at now 0) (flat_map operand_locals xs))) c.as_slice-in-Assert.ensures)
    ∙ ap (λ (t : Term). set rows 0 (marked (row_at rows 0) (bare_term_uses t))) (sym c.in-Assert.is)
