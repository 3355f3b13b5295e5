use Rattle.std.proofs.Common.{◌≡◌, ℕ, ◌≤◌, length}
use Rattle.mir_syntax.specs.Tree.{trees_of}
use Rattle.mir_syntax.specs.Crate.{crate_of}
use Rattle.mir_syntax.specs.Shapes.{shapes_of}
use Rattle.type_sizes.specs.Measures.{most, told, Told, TypesTold}
use Rattle.type_sizes.proofs.sizing.Sizing.type_sizes.Given as goal

abbrev pub invariant-loop-at : goal.invariant-loop-at
invariant-loop-at l =
    let m = l.self.measure in
    let p = l.self.program.now in
    (length l.sizes ≡ l.at) × ((k : ℕ) → told m l.sizes k ≤ most m)
    × ((g : ℕ → ℕ) → Told m l.defs g → TypesTold (shapes_of (crate_of p)) (trees_of p.types) m l.sizes g)
