use Rattle.std.proofs.Common.{◌≡◌, ap, ◌∙◌, sym, subst, map, length, get_or, arith}
use Rattle.std.proofs.lemmas.List.{get_or-map}
use Rattle.mir_syntax.specs.Crate.{TypedBlock, block_of}
use Rattle.mir_syntax.specs.declared.body.Block.{Block}
use Rattle.mir_syntax.specs.Parts.{targets}
use Rattle.liveness.specs.Rows.{block_at, no_block, IsTurned}
use Rattle.liveness.proofs.Filling.{turned_more}
use Rattle.liveness.proofs.turned.turned_edges.Goals as goal

pub loop-at-preserved : goal.loop-at-preserved
loop-at-preserved c = λ trees.
    let blocks = c.args.blocks.now in
    let at = c.loop-at.at in
    let item = c.index-blocks-at.result in
    let here : item ≡ get_or blocks at item = c.index-blocks-at.is in
    let typed : get_or (map (block_of trees) blocks) at no_block ≡ block_of trees (get_or blocks at item) = get_or-map (block_of trees) blocks at item no_block (omega arith) in
    let next : c.as_slice.result.now ≡ targets (block_at (map (block_of trees) blocks) at).term =
    c.as_slice.ensures ∙ c.in_ok-targets.ensures ∙ ap (λ (b : Block). targets b.term) here ∙ ap (λ (b : TypedBlock). targets b.term) (sym typed) in
    turned_more (map (block_of trees) blocks) at c.loop-at.edges c.add_edges.new.edges c.as_slice.result.now (c.loop-at.invariant trees) next c.in_ok-add_edges.ensures

pub returns : goal.returns
returns c = λ trees.
    let all : c.loop-at.at ≡ length c.args.blocks.now = omega arith in
    subst (λ n. IsTurned (map (block_of trees) c.args.blocks.now) n c.loop-at.edges) all (c.loop-at.invariant trees)
