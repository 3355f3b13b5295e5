use Rattle.std.proofs.Common.{◌≡◌, ◌++◌, map, take}
use Rattle.const_rewrite.specs.Points.{here, constant_at}
use Rattle.const_rewrite.proofs.noted.note_all.Given as goal

abbrev pub invariant-loop-operand : goal.invariant-loop-operand
invariant-loop-operand l = l.constants ≡ l.fn.constants ++ map (constant_at (here l.text) l.facts) (take l.operand-index l.operands)
