use Rattle.std.proofs.Common.{◌≡◌, ◌++◌, ◌+◌, ◌-◌, ◌*◌}
use Rattle.crate_gen.specs.Made.{functions_lines}
use Rattle.crate_gen.proofs.lines.functions_lines.Given as goal

abbrev pub invariant-loop-at : goal.invariant-loop-at
invariant-loop-at l = l.lines ++ functions_lines (1 + 26 * l.at) (l.functions - l.at) ≡ functions_lines 1 l.functions
