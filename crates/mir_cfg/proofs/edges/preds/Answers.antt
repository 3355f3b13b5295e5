use Rattle.std.proofs.Common.{◌≡◌, ◌<◌, ◌==◌, ℕ, List, [], ◌++◌, map, length, get_or, sym, ap, ◌∙◌, subst, arith}
use Rattle.std.specs.List.{filter, flat_map, range_with_len, All}
use Rattle.std.proofs.lemmas.List.{length-replicate, get_or-replicate, length-map}
use Rattle.std.proofs.lemmas.List.FromFn.{fill_by_all}
use Rattle.mir_syntax.specs.declared.body.Block.{Block}
use Rattle.mir_syntax.specs.Parts.{targets}
use Rattle.mir_cfg.specs.Paths.{block_term, terms_of, exits, edges_between, sources}
use Rattle.mir_cfg.proofs.Sources.{sources_more, exits_at}
use Rattle.mir_cfg.proofs.edges.preds.Goals as goal

pub loop-block-init : goal.loop-block-init
loop-block-init c =
    let n = length c.as_slice-blocks.result.now in
    (ap length c.in_ok-lists.ensures ∙ length-replicate {A = List ℕ} n [], λ b l. ap (λ ls. get_or ls b []) c.in_ok-lists.ensures ∙ get_or-replicate {A = List ℕ} n b [] [] l)

pub add_edges-requires : goal.add_edges-requires
add_edges-requires c =
    let blocks = c.as_slice-blocks.result.now in
    let body = c.args.body.now in
    let i = c.loop-block.block in
    let item = c.index-blocks-block.result in
    let low : i < length blocks = omega arith in
    let e : c.as_slice.result.now ≡ exits (terms_of body) i = c.as_slice.ensures ∙ c.in_ok-to.ensures ∙ ap (λ (b : Block). targets b.term) c.index-blocks-block.is ∙ sym (exits_at blocks i item low) ∙ ap (λ bs. exits (map block_term bs) i) c.as_slice-blocks.ensures in
    let long : length c.loop-block.lists.items ≡ length (terms_of body) = c.loop-block.invariant.0 ∙ ap length c.as_slice-blocks.ensures ∙ sym (length-map body.blocks block_term) in
    subst (λ n. All (λ b. b < n) c.as_slice.result.now) (sym long) (subst (λ ts. All (λ b. b < length (terms_of body)) ts) (sym e) (c.requires.closed i))

pub loop-block-preserved : goal.loop-block-preserved
loop-block-preserved c =
    let blocks = c.as_slice-blocks.result.now in
    let terms = map block_term blocks in
    let i = c.loop-block.block in
    let item = c.index-blocks-block.result in
    let low : i < length blocks = omega arith in
    let e : c.as_slice.result.now ≡ exits terms i = c.as_slice.ensures ∙ c.in_ok-to.ensures ∙ ap (λ (b : Block). targets b.term) c.index-blocks-block.is ∙ sym (exits_at blocks i item low) in
    let lists = c.loop-block.lists.items in
    let long : length lists ≡ length blocks = c.loop-block.invariant.0 in (
      c.add_edges.ensures.len ∙ c.loop-block.invariant.0,
      λ b l. sources_more terms b i (get_or lists b []) (get_or c.add_edges.new.lists.items b []) (c.loop-block.invariant.1 b l)
          (c.in_ok-add_edges.ensures.added b (omega (arith, long, l)) ∙ ap (λ ts. get_or lists b [] ++ map (λ _. i) (filter (λ c. c == b) ts)) e),
    )

pub returns : goal.returns
returns c =
    let blocks = c.as_slice-blocks.result.now in
    let body = c.args.body.now in
    let terms = map block_term blocks in
    let over : c.loop-block.block ≡ length terms = (let k = length-map blocks block_term in omega arith) in
    c.from_vec.ensures
    ∙ fill_by_all (sources terms) c.loop-block.lists.items (length blocks) [] c.loop-block.invariant.0 (λ b l. c.loop-block.invariant.1 b l ∙ ap (λ n. flat_map (edges_between terms b) (range_with_len 0 n)) over)
    ∙ ap (λ (bs : List Block). map (sources (map block_term bs)) (range_with_len 0 (length bs))) c.as_slice-blocks.ensures
