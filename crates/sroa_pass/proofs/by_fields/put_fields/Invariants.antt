use Rattle.std.proofs.Common.{◌≡◌, ◌++◌}
use Rattle.std.specs.Vec.Iter.{into_iter_items}
use Rattle.sroa_pass.specs.Code as code
use Rattle.sroa_pass.proofs.by_fields.put_fields.Given as goal

abbrev pub invariant-loop-operand : goal.invariant-loop-operand
invariant-loop-operand l = l.stmts ++ code.put_fields l.table l.local l.end (into_iter_items l.operand-iterator) ≡ l.fn.stmts ++ code.put_fields l.table l.fn.parts.first l.end l.fn.operands
