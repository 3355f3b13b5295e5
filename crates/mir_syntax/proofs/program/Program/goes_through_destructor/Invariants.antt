use Rattle.std.proofs.Common.{◌≡◌, ◌<◌, Some, length}
use Rattle.mir_syntax.specs.Tree.{at_id, trees_of}
use Rattle.mir_syntax.specs.Crate.{crate_of, body_of}
use Rattle.mir_syntax.specs.Shapes.{shapes_of, path_through, goes_through_destructor}
use Rattle.mir_syntax.proofs.program.Program.goes_through_destructor.Given as goal

abbrev pub invariant-loop-projs : goal.invariant-loop-projs
invariant-loop-projs l =
    let D = shapes_of (crate_of l.self) in
    let trees = trees_of l.self.types in
    (goes_through_destructor D (body_of trees l.body).locals l.place ≡ path_through D (Some (at_id trees l.id)) l.projs) × (l.id.0 < length l.self.types)

abbrev pub decreases-loop-projs : goal.decreases-loop-projs
decreases-loop-projs l = length l.projs
