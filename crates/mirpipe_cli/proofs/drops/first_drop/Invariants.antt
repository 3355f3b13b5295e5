use Rattle.std.proofs.Common.{◌≡◌, drop}
use Rattle.mir_syntax.specs.Tree.{trees_of}
use Rattle.mirpipe_cli.proofs.Dropping.{first_spot}
use Rattle.mirpipe_cli.proofs.drops.first_drop.Given as goal

abbrev pub invariant-loop-function : goal.invariant-loop-function
invariant-loop-function l = (l.number ≡ l.function-index) × (first_spot (trees_of l.program.types) 0 l.program.functions ≡ first_spot (trees_of l.program.types) l.function-index (drop l.function-index l.program.functions))
