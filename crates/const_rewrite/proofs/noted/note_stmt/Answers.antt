use Rattle.std.proofs.lemmas.Result.{IfOk-weaker}
use Rattle.const_rewrite.specs.Points.{here, trees_in}
use Rattle.const_rewrite.proofs.equal.Found.{assign_noted, other_noted}
use Rattle.const_rewrite.proofs.noted.note_stmt.Goals as goal

pub returns-in-Assign : goal.returns-in-Assign
returns-in-Assign c = IfOk-weaker c.note_rvalue.result _ _ (λ v e. assign_noted (trees_in c.args.text) (here c.args.text) c.args.facts.now c.args.stmt.now _ _ v c.note_rvalue.new.constants c.in-Assign.is e) c.note_rvalue.ensures

pub returns-in_default : goal.returns-in_default
returns-in_default c = other_noted (trees_in c.args.text) (here c.args.text) c.args.facts.now c.args.stmt.now c.args.constants.now c.in_default.not-Assign
