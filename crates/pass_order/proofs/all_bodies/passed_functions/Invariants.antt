use Rattle.pass_order.specs.Programs.{PassesTo}
use Rattle.pass_order.proofs.Going.{Going}
use Rattle.pass_order.proofs.all_bodies.passed_functions.Given as goal

abbrev pub invariant-loop-function : goal.invariant-loop-function
invariant-loop-function l = Going (PassesTo l.program) l.fn.functions l.function-items l.function-index
