use Rattle.std.proofs.Common.{ap, ◌∙◌, ◌+◌, take, arith}
use Rattle.mir_syntax.specs.declared.body.Operand.{Operand}
use Rattle.move_paths.proofs.Each.{does_none, does_long, does_then, does_as}
use Rattle.move_paths.proofs.Moves.{moves, moves_operand, moves_more}
use Rattle.move_paths.proofs.passing.Passing.pass_operands.Goals as goal

pub loop-operand-init : goal.loop-operand-init
loop-operand-init c = does_none c.args.self.now.units.now.places c.args.row c.args.rows.now c.requires.bits

pub pass_operand-requires-clause-bits : goal.pass_operand-requires-clause-bits
pass_operand-requires-clause-bits c = (let s = c.args.self.now in does_long (moves s.status (take c.loop-operand.operand-index c.args.operands.now)) s.units.now.places c.args.row c.args.rows.now c.loop-operand.rows c.requires.within c.requires.bits c.loop-operand.invariant)

pub loop-operand-preserved : goal.loop-operand-preserved
loop-operand-preserved c =
    let s = c.args.self.now in
    let us = s.units.now.places in
    let os = c.args.operands.now in
    let i = c.loop-operand.operand-index in
    let o = c.operand-item.result in
    let before = moves s.status (take i os) in
    let here = moves_operand s.status o in
    does_as (λ u b. here u (before u b)) (moves s.status (take (i + 1) os)) us c.args.row c.args.rows.now c.pass_operand.new.rows
    (λ u b. ap (λ (p : Operand). moves_operand s.status p u (before u b)) c.operand-item.is ∙ moves_more s.status os i o (omega (arith, c.loop-operand-test.true)) u b)
    (does_then before here us c.args.row c.args.rows.now c.loop-operand.rows c.pass_operand.new.rows c.requires.within c.requires.bits c.loop-operand.invariant c.pass_operand.ensures)
