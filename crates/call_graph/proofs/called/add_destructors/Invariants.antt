use Rattle.std.proofs.Common.{◌≡◌, length, map}
use Rattle.std.specs.Prelude.{sum_by}
use Rattle.bit_rows.specs.Rows.{row_at}
use Rattle.mir_syntax.specs.Tree.{at_id, trees_of}
use Rattle.mir_syntax.specs.Crate.{crate_of}
use Rattle.mir_syntax.specs.Shapes.{shapes_of}
use Rattle.mir_syntax.specs.Drops.{fn_number}
use Rattle.call_graph.specs.Callees.{destructors_in}
use Rattle.call_graph.specs.Walk.{size_at}
use Rattle.call_graph.proofs.Entering.{Going}
use Rattle.call_graph.proofs.called.add_destructors.Given as goal

abbrev pub invariant-loop-part : goal.invariant-loop-part
invariant-loop-part l =
    Going (shapes_of (crate_of l.program)) (trees_of l.program.types) (length (row_at l.fn.found.marks 0)) (map fn_number l.fn.found.list) (destructors_in (shapes_of (crate_of l.program)) (at_id (trees_of l.program.types) l.fn.ty)) (map fn_number l.found.list) l.stack.items
    × (length (row_at l.found.marks 0) ≡ length (row_at l.fn.found.marks 0))

abbrev pub decreases-loop-part : goal.decreases-loop-part
decreases-loop-part l = sum_by (size_at (shapes_of (crate_of l.program)) (trees_of l.program.types)) l.stack.items
