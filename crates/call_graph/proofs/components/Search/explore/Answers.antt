use Rattle.call_graph.specs.Search.{state_of}
use Rattle.call_graph.proofs.Stepped.{root_search, root_sees, root_seen}
use Rattle.call_graph.proofs.components.Search.explore.Goals as goal

pub loop-self-init : goal.loop-self-init
loop-self-init g c =
    let s = state_of c.args.self.now in
    let t = state_of c.enter.new.self in
    record {
      search = root_search g.T.Node.number c.args.targets.now s c.requires.search c.requires.none c.args.root c.requires.root c.requires.fresh t c.in_ok-enter.ensures;
      seen = root_sees g.T.Node.number c.args.targets.now s c.requires.search c.requires.none c.args.root c.requires.root c.requires.fresh t c.in_ok-enter.ensures;
      root = root_seen g.T.Node.number c.args.targets.now s c.requires.search c.requires.none c.args.root c.requires.root c.requires.fresh t c.in_ok-enter.ensures;
    }
