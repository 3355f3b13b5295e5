use Rattle.std.proofs.Common.{◌≡◌, take}
use Rattle.const_flow.specs.Nodes.{join_cells}
use Rattle.const_flow.proofs.Joins.{IsJoining}
use Rattle.const_flow.proofs.flow.join_cells.Given as goal

abbrev pub invariant-loop-at : goal.invariant-loop-at
invariant-loop-at l = record {
  joined : l.into ≡ join_cells l.fn.into (take l.at l.from);
  marks : IsJoining l.fn.into l.into l.changed;
}
