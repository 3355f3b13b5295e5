use Rattle.std.proofs.Common.{◌≡◌, false, nat_eq, take}
use Rattle.std.specs.List.{list_any}
use Rattle.const_flow.specs.Nodes.{end_node}
use Rattle.const_flow.proofs.edges.add_over.Given as goal

abbrev pub invariant-loop-target : goal.invariant-loop-target
invariant-loop-target l = record {
  same : l.edges ≡ l.fn.edges;
  none : list_any (λ t. nat_eq (end_node l.block t) l.end) (take l.target-index l.targets) ≡ false;
}
