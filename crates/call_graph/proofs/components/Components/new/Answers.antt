use Rattle.std.proofs.Common.{refl, arith}
use Rattle.call_graph.specs.Graph.{component_in}
use Rattle.call_graph.specs.Search.{state_of, graph_by}
use Rattle.call_graph.proofs.Searched.{numbers_low, are_components, both_ways}
use Rattle.call_graph.proofs.components.Components.new.Goals as goal

pub loop-root-init : goal.loop-root-init
loop-root-init g c = record {
  search = c.in_ok-search.ensures.search (graph_by g.T.Node.number c.args.targets.now) refl;
  none = c.in_ok-search.ensures.none;
  seen = λ f l. absurd (omega (arith, l));
}

pub returns-clause-below : goal.returns-clause-below
returns-clause-below g c =
    numbers_low g.T.Node.number c.args.targets.now c.requires.inside (graph_by g.T.Node.number c.args.targets.now) (record { nodes = refl; listed = λ f l. refl }) (state_of c.loop-root.search) c.loop-root.invariant.search c.loop-root.invariant.none
    (λ f l. c.loop-root.invariant.seen f (let end = c.loop-root-test.false in omega (arith, l, end)))

pub returns-clause-components : goal.returns-clause-components
returns-clause-components g c = λ G has.
    are_components g.T.Node.number c.args.targets.now c.requires.inside G has (state_of c.loop-root.search) c.loop-root.invariant.search c.loop-root.invariant.none
    (λ f l. c.loop-root.invariant.seen f (let end = c.loop-root-test.false in omega (arith, l, end)))

pub returns-clause-both_ways : goal.returns-clause-both_ways
returns-clause-both_ways g c = λ G has.
    both_ways g.T.Node.number c.args.targets.now c.requires.inside G has (component_in c.loop-root.search.component.items)
    (are_components g.T.Node.number c.args.targets.now c.requires.inside G has (state_of c.loop-root.search) c.loop-root.invariant.search c.loop-root.invariant.none
    (λ f l. c.loop-root.invariant.seen f (let end = c.loop-root-test.false in omega (arith, l, end))))
