use Rattle.std.proofs.Common.{◌≡◌, ◌++◌, map, take}
use Rattle.move_paths.specs.Rows.{edge_on}
use Rattle.move_paths.proofs.edges.add_edges.Given as goal

abbrev pub invariant-loop-target : goal.invariant-loop-target
invariant-loop-target l = l.edges ≡ l.fn.edges ++ map (edge_on l.block) (take l.target-index l.targets)
