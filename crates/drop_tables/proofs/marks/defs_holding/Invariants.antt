use Rattle.std.proofs.Common.{◌≡◌, ◌||◌, ℕ, ◌<◌, length, slice_get}
use Rattle.mir_syntax.specs.Crate.{crate_of}
use Rattle.mir_syntax.specs.Shapes.{shapes_of}
use Rattle.mir_rules.specs.DefinitionRules.{holds_one}
use Rattle.drop_tables.specs.Marks.{is_marked}
use Rattle.drop_tables.proofs.marks.defs_holding.Given as goal

abbrev pub invariant-loop-at : goal.invariant-loop-at
invariant-loop-at l =
    (length l.held ≡ l.at) × ((d : ℕ) → d < l.at → is_marked l.held d ≡ (is_marked l.own d || holds_one (is_marked l.marks) (slice_get (shapes_of (crate_of l.program)) d)))
