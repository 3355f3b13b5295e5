use Rattle.std.proofs.Common.{◌≡◌, ℕ, ◌<◌, ◌≤◌, length, None, get_or, drop}
use Rattle.std.specs.Option.{option_map}
use Rattle.mir_syntax.specs.Crate.{crate_of}
use Rattle.mir_syntax.specs.Shapes.{destructor_from}
use Rattle.mir_syntax.specs.Drops.{fn_number}
use Rattle.drop_tables.proofs.destructors.destructors.Given as goal

abbrev pub invariant-functions : goal.invariant-functions
invariant-functions l =
    (length l.found.items ≡ length l.program.defs) × (l.left ≤ length l.program.functions)
    × ((d : ℕ) → d < length l.program.defs → option_map fn_number (get_or l.found.items d None) ≡ destructor_from d l.left (drop l.left (crate_of l.program).functions))

abbrev pub decreases-functions : goal.decreases-functions
decreases-functions l = l.left
