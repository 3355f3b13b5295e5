use Rattle.mir_rules.proofs.Statements.{assign_typed}
use Rattle.mir_rules.proofs.assignments_are_typed.Goals as goal

pub returns : goal.returns
returns c D args locals p r h = let a = assign_typed D args locals p r h in (a.ty, a.place, a.rvalue)
