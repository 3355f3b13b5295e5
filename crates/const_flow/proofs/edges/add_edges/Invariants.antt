use Rattle.std.proofs.Common.{◌≡◌, ◌+◌, ◌*◌, ◌++◌, map, take}
use Rattle.const_flow.specs.Nodes.{out, overs_to}
use Rattle.const_flow.proofs.edges.add_edges.Given as goal

abbrev pub invariant-loop-target : goal.invariant-loop-target
invariant-loop-target l = l.edges ≡ ((l.fn.edges ++ overs_to l.block (3 * l.block) l.targets) ++ overs_to l.block (3 * l.block + 2) l.targets) ++ map (out l.block) (take l.target-index l.targets)
