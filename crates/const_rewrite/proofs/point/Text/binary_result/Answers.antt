use Rattle.const_rewrite.specs.Points.{here}
use Rattle.const_rewrite.proofs.equal.Found.{result_made, no_result}
use Rattle.const_rewrite.proofs.point.Text.binary_result.Goals as goal

pub returns-in-Some : goal.returns-in-Some
returns-in-Some c = result_made (here c.args.self) c.args.op c.args.left.now _ c.in-Some.ty c.made.result c.scalar_ty.ensures c.in-Some.is c.made.ensures

pub returns-in-None : goal.returns-in-None
returns-in-None c = no_result (here c.args.self) c.args.op c.args.left.now _ c.scalar_ty.ensures c.in-None.is
