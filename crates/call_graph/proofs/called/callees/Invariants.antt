use Rattle.std.proofs.Common.{◌≡◌, [], length, map, take}
use Rattle.std.specs.List.{flat_map}
use Rattle.bit_rows.specs.Rows.{row_at}
use Rattle.mir_syntax.specs.Tree.{trees_of}
use Rattle.mir_syntax.specs.Crate.{crate_of, body_of, block_of}
use Rattle.mir_syntax.specs.Shapes.{shapes_of}
use Rattle.mir_syntax.specs.Drops.{fn_number}
use Rattle.call_graph.specs.Callees.{called_in}
use Rattle.call_graph.specs.Walk.{all_added}
use Rattle.call_graph.proofs.called.callees.Given as goal

abbrev pub invariant-loop-block : goal.invariant-loop-block
invariant-loop-block l =
    (map fn_number l.found.list ≡ all_added [] (flat_map (called_in (shapes_of (crate_of l.program)) (body_of (trees_of l.program.types) l.body).locals) (map (block_of (trees_of l.program.types)) (take l.block-index l.body.blocks))))
    × (length (row_at l.found.marks 0) ≡ length l.program.functions)
