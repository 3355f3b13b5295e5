use Rattle.std.proofs.Common.{◌≡◌, ◌++◌, map, take}
use Rattle.liveness.specs.Rows.{edge_back}
use Rattle.liveness.proofs.turned.add_edges.Given as goal

abbrev pub invariant-loop-target : goal.invariant-loop-target
invariant-loop-target l = l.edges ≡ l.fn.edges ++ map (edge_back l.block) (take l.target-index l.targets)
