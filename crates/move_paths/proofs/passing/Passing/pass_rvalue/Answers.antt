use Rattle.std.proofs.Common.{refl}
use Rattle.mir_syntax.specs.Crate.{rvalue_of}
use Rattle.mir_syntax.specs.Parts.{rvalue_operands}
use Rattle.move_paths.proofs.Each.{does_nothing}
use Rattle.move_paths.proofs.Moves.{moves}
use Rattle.move_paths.proofs.passing.Passing.pass_rvalue.Goals as goal

pub returns-in-Ref : goal.returns-in-Ref
returns-in-Ref c = λ trees. (let s = c.args.self.now in does_nothing (moves s.status (rvalue_operands (rvalue_of trees c.args.rvalue.now))) s.units.now.places c.args.row c.args.rows.now c.requires.bits (λ u b. rw c.in-Ref.is refl))

pub returns-in-RefMut : goal.returns-in-RefMut
returns-in-RefMut c = λ trees. (let s = c.args.self.now in does_nothing (moves s.status (rvalue_operands (rvalue_of trees c.args.rvalue.now))) s.units.now.places c.args.row c.args.rows.now c.requires.bits (λ u b. rw c.in-RefMut.is refl))

pub returns-in-Discriminant : goal.returns-in-Discriminant
returns-in-Discriminant c = λ trees. (let s = c.args.self.now in does_nothing (moves s.status (rvalue_operands (rvalue_of trees c.args.rvalue.now))) s.units.now.places c.args.row c.args.rows.now c.requires.bits (λ u b. rw c.in-Discriminant.is refl))
