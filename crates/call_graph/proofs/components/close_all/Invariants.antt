use Rattle.std.proofs.Common.{◌≡◌, take}
use Rattle.call_graph.specs.declared.components.Mark.TheVariants.{Closed}
use Rattle.call_graph.specs.Search.{all_set}
use Rattle.call_graph.proofs.components.close_all.Given as goal

abbrev pub invariant-loop-f : goal.invariant-loop-f
invariant-loop-f l = record {
  marks : l.marks ≡ all_set l.fn.marks (take l.f-index l.closed) Closed;
  component : l.component ≡ all_set l.fn.component (take l.f-index l.closed) l.number;
}
