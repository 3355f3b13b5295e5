use Rattle.std.proofs.Common.{arith}
use Rattle.std.proofs.lemmas.List.{length-map}
use Rattle.mir_syntax.specs.Tree.{trees_of}
use Rattle.mir_syntax.specs.Crate.{crate_of, function_of}
use Rattle.call_graph.specs.Graph.{graph_of}
use Rattle.call_graph.proofs.Told.{asked_below_is, asked_back_is}
use Rattle.call_graph.proofs.asking.asks.Goals as goal

pub returns-then-below : goal.returns-then-below
returns-then-below c = λ callees l e some. asked_below_is (graph_of (crate_of c.args.program.now) callees) c.args.f.0 c.args.g.0 c.below.result some c.below.ensures c.if-below.true

pub returns-else-below : goal.returns-else-below
returns-else-below c = λ callees l e some.
    let many = length-map c.args.program.now.functions (function_of (trees_of c.args.program.now.types)) in
    asked_back_is (graph_of (crate_of c.args.program.now) callees) c.args.f.0 c.args.g.0 c.below.result c.has.result some c.below.ensures c.if-below.false
    (c.has.ensures.finished (graph_of (crate_of c.args.program.now) callees) c.args.g.0 l (let s = c.requires.second in omega (arith, s, many)) e)
