use Rattle.std.proofs.Common.{◌≡◌, ◌∷◌, [], false, map, length, replicate, take}
use Rattle.std.specs.List.{flat_map}
use Rattle.bit_rows.specs.Rows.{marked}
use Rattle.mir_syntax.specs.Tree.{trees_of}
use Rattle.mir_syntax.specs.Crate.{crate_of, body_of, block_of}
use Rattle.mir_syntax.specs.Shapes.{shapes_of}
use Rattle.escape_info.specs.Borrowed.{lent_in}
use Rattle.escape_info.proofs.address_taken.Given as goal

abbrev pub invariant-loop-block : goal.invariant-loop-block
invariant-loop-block l =
    l.row ≡ marked (replicate (length l.body.locals) false) (flat_map (lent_in (shapes_of (crate_of l.program)) (body_of (trees_of l.program.types) l.body).locals) (map (block_of (trees_of l.program.types)) (take l.block-index l.body.blocks))) ∷ []
