use Rattle.std.proofs.Common.{◌≢◌}
use Rattle.call_graph.specs.declared.components.Mark.TheVariants.{Unseen}
use Rattle.call_graph.specs.Search.{state_of, graph_by, mark_of, IsSearch, Sees, work}
use Rattle.call_graph.proofs.components.Search.explore.Given as goal

abbrev pub invariant-loop-self : goal.invariant-loop-self
invariant-loop-self g l = record {
  search : IsSearch (graph_by g.T.Node.number l.targets) (state_of l.self);
  seen : Sees (state_of l.fn.self) (state_of l.self);
  root : mark_of (state_of l.self) l.root ≢ Unseen;
}

abbrev pub decreases-loop-self : goal.decreases-loop-self
decreases-loop-self g l = work l.targets (state_of l.self)
