use Rattle.std.proofs.Common.{◌≡◌, ◌+◌, ◌≤◌, List, length, map}
use Rattle.std.specs.List.{count_by}
use Rattle.mir_syntax.specs.Tree.{Tree}
use Rattle.mir_syntax.specs.Crate.{block_of}
use Rattle.mir_rules.specs.Limits.{ends_in_call}
use Rattle.mir_limits.proofs.bodies.calls.Given as goal

abbrev pub invariant-walk : goal.invariant-walk
invariant-walk l =
    (l.found + length l.rest ≤ length l.blocks)
    × ((trees : List Tree) → l.found + count_by ends_in_call (map (block_of trees) l.rest) ≡ count_by ends_in_call (map (block_of trees) l.blocks))

abbrev pub decreases-walk : goal.decreases-walk
decreases-walk l = length l.rest
