use Rattle.std.proofs.Common.{◌≡◌, ◌≤◌, length}
use Rattle.mir_items.specs.Decls.{debug_end}
use Rattle.mir_items.proofs.decl.read_debug.Given as goal

abbrev pub invariant-symbols : goal.invariant-symbols
invariant-symbols l = (debug_end l.symbols ≡ debug_end l.rest) × (length l.rest ≤ length l.symbols)

abbrev pub decreases-symbols : goal.decreases-symbols
decreases-symbols l = length l.rest
