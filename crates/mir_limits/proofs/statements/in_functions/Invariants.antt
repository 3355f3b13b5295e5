use Rattle.std.proofs.Common.{◌≡◌, ◌+◌, IsTrue, length, take}
use Rattle.mir_syntax.specs.Crate.{Crate}
use Rattle.mir_rules.specs.Broken.{gather}
use Rattle.mir_rules.specs.Faults.{lines_fit}
use Rattle.mir_rules.specs.Limits.{function_spots}
use Rattle.mir_limits.proofs.statements.in_functions.Given as goal

abbrev pub invariant-loop-at : goal.invariant-loop-at
invariant-loop-at l = (C : Crate) → IsTrue (lines_fit l.lines C) → l.start ≡ length (gather function_spots 0 (take l.at C.functions)) + l.left
