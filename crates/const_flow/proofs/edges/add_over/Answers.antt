use Rattle.std.proofs.Common.{◌≡◌, ◌≢◌, ap, ap₂, sym, ◌∙◌, List, [], ◌∷◌, ◌++◌, length, get_or, take, arith}
use Rattle.std.specs.List.{Contains, list_any}
use Rattle.std.proofs.lemmas.List.Elements.{Contains-get_or}
use Rattle.std.proofs.Math.Seq.{take-length}
use Rattle.std.proofs.lemmas.Result.{on_ok_weaker}
use Rattle.flow_engine.specs.declared.edges.Edge.{Edge}
use Rattle.const_flow.specs.Nodes.{end_node, edge_to}
use Rattle.const_flow.proofs.EachEdge.{leaves_to, overs_past, overs_found, overs_none}
use Rattle.const_flow.proofs.edges.add_over.Goals as goal

pub loop-target-preserved : goal.loop-target-preserved
loop-target-preserved c =
    let us = c.args.targets.now in
    let i = c.loop-target.target-index in
    let other : end_node c.args.block (get_or us i 0) ≢ c.args.end = λ e. c.if-end_node-end.false (c.end_node.ensures ∙ e) in
    record {
      same = c.loop-target.invariant.same;
      none = overs_past c.args.block c.args.end us i (omega arith) other c.loop-target.invariant.none;
    }

pub returns-then-end_node-end : goal.returns-then-end_node-end
returns-then-end_node-end c =
    let us = c.args.targets.now in
    let t = get_or us c.loop-target.target-index 0 in
    let there : Contains us t = Contains-get_or us c.loop-target.target-index 0 (omega arith) in
    let found : end_node c.args.block t ≡ c.args.end = sym c.end_node.ensures ∙ c.if-end_node-end.true in
    on_ok_weaker c.push.result (λ pushed. pushed ∙ ap₂ (λ (es : List Edge) k. es ++ edge_to k c.args.end ∷ []) c.loop-target.invariant.same c.start_node.ensures ∙ overs_found c.args.block c.args.end us t c.args.edges.now there found) c.push.ensures.ok

pub returns : goal.returns
returns c =
    let us = c.args.targets.now in
    let all : c.loop-target.target-index ≡ length us = omega arith in
    c.loop-target.invariant.same ∙ overs_none c.args.block c.args.end us c.args.edges.now (ap (list_any (leaves_to c.args.block c.args.end)) (sym (ap (λ n. take n us) all ∙ take-length us)) ∙ c.loop-target.invariant.none)
