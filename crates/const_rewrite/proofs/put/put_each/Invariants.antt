use Rattle.std.proofs.Common.{List}
use Rattle.mir_syntax.specs.declared.body.Operand.{Operand}
use Rattle.const_rewrite.proofs.equal.Found.{Putting}
use Rattle.const_rewrite.proofs.put.put_each.Given as goal

abbrev pub invariant-loop-at : goal.invariant-loop-at
invariant-loop-at l = (front : List Operand) × Putting l.constants l.fn.operands l.operand-items front l.at
