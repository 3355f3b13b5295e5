use Rattle.std.proofs.Common.{◌≡◌, length}
use Rattle.call_graph.specs.Search.{state_of}
use Rattle.call_graph.proofs.Rising.{Joins}
use Rattle.call_graph.proofs.components.Search.join.Given as goal

abbrev pub invariant-parts : goal.invariant-parts
invariant-parts l = record {
  rest : state_of l.self ≡ record (state_of l.fn.self) { starts = l.self.starts.items };
  joins : Joins l.fn.self.starts.items l.self.starts.items l.place;
}

abbrev pub decreases-parts : goal.decreases-parts
decreases-parts l = length l.self.starts.items
