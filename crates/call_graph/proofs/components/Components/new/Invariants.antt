use Rattle.std.proofs.Common.{◌≡◌, ◌≢◌, ℕ, ◌<◌, []}
use Rattle.call_graph.specs.declared.components.Mark.TheVariants.{Unseen}
use Rattle.call_graph.specs.Search.{state_of, graph_by, mark_of, IsSearch}
use Rattle.call_graph.proofs.components.Components.new.Given as goal

abbrev pub invariant-loop-root : goal.invariant-loop-root
invariant-loop-root g l = record {
  search : IsSearch (graph_by g.T.Node.number l.targets) (state_of l.search);
  none : l.search.path.items ≡ [];
  seen : (f : ℕ) → f < l.root → mark_of (state_of l.search) f ≢ Unseen;
}
