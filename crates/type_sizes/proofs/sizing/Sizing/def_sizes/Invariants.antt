use Rattle.std.proofs.Common.{◌≡◌, ℕ, ◌<◌, ◌≤◌, length, slice_get}
use Rattle.mir_syntax.specs.Tree.{named}
use Rattle.mir_syntax.specs.Crate.{crate_of}
use Rattle.mir_syntax.specs.Shapes.{shapes_of, needs_drop}
use Rattle.type_sizes.specs.UpTo.{Tells}
use Rattle.type_sizes.specs.Measures.{most, told, whole, Told}
use Rattle.type_sizes.proofs.sizing.Sizing.def_sizes.Given as goal

abbrev pub invariant-loop-at : goal.invariant-loop-at
invariant-loop-at l =
    let m = l.self.measure in
    let D = shapes_of (crate_of l.self.program.now) in
    (length l.sizes ≡ l.at) × ((k : ℕ) → told m l.sizes k ≤ most m)
    × ((g : ℕ → ℕ) → Told m l.defs g → (d : ℕ) → d < l.at → Tells (most m) (told m l.sizes d) (whole D m g (needs_drop D (named d)) (slice_get D d)))
