use Rattle.std.proofs.Common.{refl, sym, ap, ◌∙◌, ◌∷◌, List, arith}
use Rattle.mir_syntax.specs.declared.body.Operand.{Operand}
use Rattle.mir_syntax.specs.declared.body.Term.{Term}
use Rattle.move_paths.specs.Effects.{in_local, is_under, term_effect}
use Rattle.move_paths.specs.Rows.{written, passed}
use Rattle.move_paths.proofs.Each.{does_nothing, does_count, does_long, does_then, does_as}
use Rattle.move_paths.proofs.Moves.{moves, moves_operand, moves_then, moves_written, moves_passed}
use Rattle.move_paths.proofs.passing.Passing.pass_term.Goals as goal

pub write_under-requires-in-Call-clause-bits : goal.write_under-requires-in-Call-clause-bits
write_under-requires-in-Call-clause-bits c = (let s = c.args.self.now in does_long (moves s.status c.as_slice.result.now) s.units.now.places c.args.row c.args.rows.now c.pass_operands.new.rows c.requires.within c.requires.bits c.pass_operands.ensures)

pub pass_operands-requires-in-Assert-clause-bits : goal.pass_operands-requires-in-Assert-clause-bits
pass_operands-requires-in-Assert-clause-bits c = (let s = c.args.self.now in does_long (moves_operand s.status c.in-Assert.operand) s.units.now.places c.args.row c.args.rows.now c.pass_operand-in-Assert.new.rows c.requires.within c.requires.bits c.pass_operand-in-Assert.ensures)

pub returns-in-Call : goal.returns-in-Call
returns-in-Call c =
    let s = c.args.self.now in
    let us = s.units.now.places in
    let p = c.in-Call.place in
    let before = moves s.status c.as_slice.result.now in
    let here = written (in_local p.local c.as_slice-path-in-Call.result.now) s.status in
    does_as (λ u b. here u (before u b)) (λ u. passed s.status (term_effect u c.args.term.now)) us c.args.row c.args.rows.now c.write_under-in-Call.new.rows
    (λ u b. ap (λ ps. written (in_local p.local ps) s.status u (before u b)) c.as_slice-path-in-Call.ensures
    ∙ ap (λ (os : List Operand). written p s.status u (moves s.status os u b)) c.as_slice.ensures
    ∙ moves_written s.status p c.in-Call.args u b ∙ ap (λ (t : Term). passed s.status (term_effect u t) b) (sym c.in-Call.is))
    (does_then before here us c.args.row c.args.rows.now c.pass_operands.new.rows c.write_under-in-Call.new.rows c.requires.within c.requires.bits c.pass_operands.ensures c.write_under-in-Call.ensures)

pub returns-in-Assert : goal.returns-in-Assert
returns-in-Assert c =
    let s = c.args.self.now in
    let us = s.units.now.places in
    let o = c.in-Assert.operand in
    let before = moves_operand s.status o in
    let here = moves s.status c.as_slice-in-Assert.result.now in
    does_as (λ u b. here u (before u b)) (λ u. passed s.status (term_effect u c.args.term.now)) us c.args.row c.args.rows.now c.pass_operands-in-Assert.new.rows
    (λ u b. ap (λ (os : List Operand). moves s.status os u (before u b)) c.as_slice-in-Assert.ensures
    ∙ moves_then s.status o c.in-Assert.values u b ∙ moves_passed s.status (o ∷ c.in-Assert.values) u b ∙ ap (λ (t : Term). passed s.status (term_effect u t) b) (sym c.in-Assert.is))
    (does_then before here us c.args.row c.args.rows.now c.pass_operand-in-Assert.new.rows c.pass_operands-in-Assert.new.rows c.requires.within c.requires.bits c.pass_operand-in-Assert.ensures c.pass_operands-in-Assert.ensures)

pub returns-in-Goto : goal.returns-in-Goto
returns-in-Goto c = (let s = c.args.self.now in does_nothing (λ u. passed s.status (term_effect u c.args.term.now)) s.units.now.places c.args.row c.args.rows.now c.requires.bits (λ u b. rw c.in-Goto.is refl))

pub returns-in-Return : goal.returns-in-Return
returns-in-Return c = (let s = c.args.self.now in does_nothing (λ u. passed s.status (term_effect u c.args.term.now)) s.units.now.places c.args.row c.args.rows.now c.requires.bits (λ u b. rw c.in-Return.is refl))

pub returns-in-Unreachable : goal.returns-in-Unreachable
returns-in-Unreachable c = (let s = c.args.self.now in does_nothing (λ u. passed s.status (term_effect u c.args.term.now)) s.units.now.places c.args.row c.args.rows.now c.requires.bits (λ u b. rw c.in-Unreachable.is refl))
