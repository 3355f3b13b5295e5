use Rattle.std.proofs.Common.{ℕ, ◌≤◌}
use Rattle.mir_syntax.specs.Crate.{crate_of}
use Rattle.mir_syntax.specs.Shapes.{shapes_of}
use Rattle.type_sizes.specs.Measures.{most, told, level, Told}
use Rattle.type_sizes.proofs.sizing.Sizing.all_sizes.Given as goal

abbrev pub invariant-loop-round : goal.invariant-loop-round
invariant-loop-round l =
    let m = l.self.measure in
    ((k : ℕ) → told m l.sizes k ≤ most m) × Told m l.sizes (level (shapes_of (crate_of l.self.program.now)) m l.round)
