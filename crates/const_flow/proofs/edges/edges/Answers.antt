use Rattle.std.proofs.Common.{◌≡◌, ◌<◌, ◌^◌, ap, ◌∙◌, sym, subst, map, length, get_or, arith}
use Rattle.std.specs.List.{All}
use Rattle.std.proofs.lemmas.List.{get_or-map, length-map}
use Rattle.mir_syntax.specs.declared.body.Block.{Block}
use Rattle.mir_syntax.specs.declared.body.Term.TheVariants.{Unreachable}
use Rattle.mir_syntax.specs.Parts.{targets}
use Rattle.mir_cfg.specs.Paths.{block_term, exits}
use Rattle.const_flow.specs.Nodes.{HasEdges}
use Rattle.const_flow.proofs.EachEdge.{edges_more}
use Rattle.const_flow.proofs.edges.edges.Goals as goal

pub add_edges-requires-clause-targets : goal.add_edges-requires-clause-targets
add_edges-requires-clause-targets c =
    let blocks = c.args.blocks.now in
    let at = c.loop-at.at in
    let item = c.index-blocks-at.result in
    let term : get_or (map block_term blocks) at Unreachable ≡ block_term (get_or blocks at item) = get_or-map block_term blocks at item Unreachable (omega arith) in
    let next : c.as_slice.result.now ≡ exits (map block_term blocks) at = c.as_slice.ensures ∙ c.in_ok-targets.ensures ∙ ap (λ (b : Block). targets b.term) c.index-blocks-at.is ∙ ap targets (sym term) in
    subst (All (λ u. u < 2 ^ 30)) (sym next) (λ k d l. (let low = c.requires.closed at k d l in omega (arith, c.requires.few, length-map blocks block_term)))

pub loop-at-preserved : goal.loop-at-preserved
loop-at-preserved c =
    let blocks = c.args.blocks.now in
    let at = c.loop-at.at in
    let item = c.index-blocks-at.result in
    let here : item ≡ get_or blocks at item = c.index-blocks-at.is in
    let term : get_or (map block_term blocks) at Unreachable ≡ block_term (get_or blocks at item) = get_or-map block_term blocks at item Unreachable (omega arith) in
    let next : c.as_slice.result.now ≡ exits (map block_term blocks) at = c.as_slice.ensures ∙ c.in_ok-targets.ensures ∙ ap (λ (b : Block). targets b.term) here ∙ ap targets (sym term) in
    edges_more (map block_term blocks) at c.loop-at.edges c.add_edges.new.edges c.as_slice.result.now c.loop-at.invariant next c.in_ok-add_edges.ensures

pub returns : goal.returns
returns c =
    let all : c.loop-at.at ≡ length c.args.blocks.now = omega arith in
    subst (λ n. HasEdges (map block_term c.args.blocks.now) n c.loop-at.edges) all c.loop-at.invariant
