-- A crate with each of its bodies optimised.
use Rattle.std.specs.Prelude.{map, length}
use Rattle.mir_syntax.specs.Crate.{TypedBody, Crate}
use Rattle.mir_syntax.specs.Shapes.{shapes_of}
use Rattle.call_graph.specs.Callees.{callees}
use Rattle.call_graph.specs.Cost.{cost}
use Rattle.call_graph.specs.Qualif.{terms_qualify}
use Rattle.call_graph.specs.Graph.{path_below}
use Rattle.cfg_simplify.specs.Simple.{term_of, simple}
use Rattle.drop_elab.specs.Elaborated.{elaborated}
use Rattle.inline_pass.specs.Takes.{takes}
use Rattle.inline_pass.specs.Spliced.{spliced}
use Rattle.pass_order.specs.Passes.{after_passes}
use Rattle.query_plan.specs.Queries.{Pipeline, opt}
use Rattle.pass_order.specs.Bodies.{body_at, inlining_at, with_bodies}

-- a crate's bodies, and the steps that they go through. After calls are replaced come the passes in their order
abbrev pub pipeline : Crate → Pipeline TypedBody
pipeline C = record {
  functions = length C.functions;
  body = body_at C;
  inlining = inlining_at C;
  below = path_below C;
  simple = simple;
  elab = elaborated (shapes_of C);
  qualif = λ b. terms_qualify (map term_of b.blocks);
  callees = callees (shapes_of C);
  cost = cost;
  takes = takes;
  spliced = spliced;
  rest = after_passes (shapes_of C);
}

abbrev pub opt_crate : Crate → Crate
opt_crate C = with_bodies C (opt (pipeline C))
