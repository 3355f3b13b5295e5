use Rattle.std.proofs.Common.{refl, sym, ap, ◌∙◌, [], arith}
use Rattle.mir_syntax.specs.declared.body.Stmt.{Stmt}
use Rattle.mir_syntax.specs.Crate.{rvalue_of, stmt_of}
use Rattle.mir_syntax.specs.Parts.{rvalue_operands}
use Rattle.move_paths.specs.Effects.{in_local, effect}
use Rattle.move_paths.specs.Rows.{written, passed}
use Rattle.move_paths.proofs.Each.{does_nothing, does_count, does_long, does_then, does_as}
use Rattle.move_paths.proofs.Moves.{moves, moves_written}
use Rattle.move_paths.proofs.passing.Passing.pass_stmt.Goals as goal

pub write_under-requires-clause-within : goal.write_under-requires-clause-within
write_under-requires-clause-within c = (let s = c.args.self.now in let count = does_count (moves s.status (rvalue_operands (rvalue_of [] c.in-Assign.rvalue))) s.units.now.places c.args.row c.args.rows.now c.pass_rvalue.new.rows (c.pass_rvalue.ensures []) in omega (arith, c.requires.within))

pub write_under-requires-clause-bits : goal.write_under-requires-clause-bits
write_under-requires-clause-bits c = (let s = c.args.self.now in does_long (moves s.status (rvalue_operands (rvalue_of [] c.in-Assign.rvalue))) s.units.now.places c.args.row c.args.rows.now c.pass_rvalue.new.rows c.requires.within c.requires.bits (c.pass_rvalue.ensures []))

pub returns-in-Assign : goal.returns-in-Assign
returns-in-Assign c = λ trees.
    let s = c.args.self.now in
    let us = s.units.now.places in
    let p = c.in-Assign.place in
    let os = rvalue_operands (rvalue_of trees c.in-Assign.rvalue) in
    let before = moves s.status os in
    let here = written (in_local p.local c.as_slice-path.result.now) s.status in
    does_as (λ u b. here u (before u b)) (λ u. passed s.status (effect u (stmt_of trees c.args.stmt.now))) us c.args.row c.args.rows.now c.write_under.new.rows
    (λ u b. ap (λ ps. written (in_local p.local ps) s.status u (before u b)) c.as_slice-path.ensures ∙ moves_written s.status p os u b ∙ ap (λ (t : Stmt). passed s.status (effect u (stmt_of trees t)) b) (sym c.in-Assign.is))
    (does_then before here us c.args.row c.args.rows.now c.pass_rvalue.new.rows c.write_under.new.rows c.requires.within c.requires.bits (c.pass_rvalue.ensures trees) c.write_under.ensures)

pub returns-in-SetDiscriminant : goal.returns-in-SetDiscriminant
returns-in-SetDiscriminant c = λ trees. (let s = c.args.self.now in does_nothing (λ u. passed s.status (effect u (stmt_of trees c.args.stmt.now))) s.units.now.places c.args.row c.args.rows.now c.requires.bits (λ u b. rw c.in-SetDiscriminant.is refl))
