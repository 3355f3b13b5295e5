use Rattle.std.proofs.Common.{[], ◌∷◌}
use Rattle.move_paths.proofs.Each.{does_long, does_then, does_as}
use Rattle.move_paths.proofs.Moves.{moves, moves_operand, moves_two}
use Rattle.move_paths.proofs.passing.Passing.pass_both.Goals as goal

pub pass_operand-requires-2-clause-bits : goal.pass_operand-requires-2-clause-bits
pass_operand-requires-2-clause-bits c = (let s = c.args.self.now in does_long (moves_operand s.status c.args.a.now) s.units.now.places c.args.row c.args.rows.now c.pass_operand.new.rows c.requires.within c.requires.bits c.pass_operand.ensures)

pub returns : goal.returns
returns c =
    let s = c.args.self.now in
    let us = s.units.now.places in
    let first = moves_operand s.status c.args.a.now in
    let second = moves_operand s.status c.args.b.now in
    does_as (λ u b. second u (first u b)) (moves s.status (c.args.a.now ∷ c.args.b.now ∷ [])) us c.args.row c.args.rows.now c.pass_operand-2.new.rows (moves_two s.status c.args.a.now c.args.b.now)
    (does_then first second us c.args.row c.args.rows.now c.pass_operand.new.rows c.pass_operand-2.new.rows c.requires.within c.requires.bits c.pass_operand.ensures c.pass_operand-2.ensures)
