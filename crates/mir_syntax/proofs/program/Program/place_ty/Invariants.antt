use Rattle.std.proofs.Common.{◌≡◌, ◌<◌, length}
use Rattle.mir_syntax.specs.Tree.{at_id, trees_of}
use Rattle.mir_syntax.specs.Ids.{IdsInTable, BodyInTable}
use Rattle.mir_syntax.specs.Crate.{crate_of}
use Rattle.mir_syntax.specs.Shapes.{shapes_of, whole_path_ty}
use Rattle.mir_syntax.proofs.program.Program.place_ty.Given as goal

abbrev pub invariant-loop-projs : goal.invariant-loop-projs
invariant-loop-projs l =
    let D = shapes_of (crate_of l.self) in
    let trees = trees_of l.self.types in
    (whole_path_ty D (at_id trees l.id) l.projs ≡ whole_path_ty D (at_id trees l.initial.id) l.place.proj)
    × (IdsInTable l.self → BodyInTable l.self.types l.body → l.id.0 < length l.self.types)

abbrev pub decreases-loop-projs : goal.decreases-loop-projs
decreases-loop-projs l = length l.projs
