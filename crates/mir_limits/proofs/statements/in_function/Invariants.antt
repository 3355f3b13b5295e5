use Rattle.std.proofs.Common.{◌≡◌, ◌+◌, ℕ, IsTrue, Some, length, take, slice_get}
use Rattle.mir_syntax.specs.declared.lines.Lines.{Lines}
use Rattle.mir_syntax.specs.Crate.{TypedFunction}
use Rattle.mir_rules.specs.Broken.{gather}
use Rattle.mir_rules.specs.Faults.{function_fits}
use Rattle.mir_rules.specs.Limits.{block_spots}
use Rattle.mir_limits.proofs.statements.in_function.Given as goal

abbrev pub invariant-loop-at : goal.invariant-loop-at
invariant-loop-at l = (all : Lines) (f : ℕ) (typed : TypedFunction) → slice_get all.functions f ≡ Some l.lines → IsTrue (function_fits l.lines typed) → l.start ≡ length (gather (block_spots f) 0 (take l.at typed.body.blocks)) + l.left
