use Rattle.std.proofs.Common.{◌≡◌, ℕ, ◌<◌, ◌∷◌, ◌++◌, [], Bool, List, map, length, get_or, sym, ap, ◌∙◌, subst, arith}
use Rattle.std.specs.List.{All}
use Rattle.std.proofs.lemmas.List.{length-map, nil_from_length}
use Rattle.bit_rows.specs.Rows.{row_at, HasSize}
use Rattle.mir_syntax.specs.declared.body.Block.{Block}
use Rattle.mir_syntax.specs.declared.body.Term.{Term}
use Rattle.mir_syntax.specs.Parts.{targets}
use Rattle.mir_cfg.specs.Paths.{block_term, exits, Closed}
use Rattle.mir_cfg.specs.Search.{IsSearch, Finds}
use Rattle.mir_cfg.proofs.Sources.{exits_at}
use Rattle.mir_cfg.proofs.Searching.{search_made, search_step, search_ends, popped_within}
use Rattle.mir_cfg.proofs.search.reachable.Goals as goal

-- a block is taken out of those that are open, and `to` are the blocks that its edges lead to
module _ (blocks bs : List Block) (same : blocks ≡ bs) (closed : Closed (map block_term bs)) (rows : List (List Bool)) (opened rest : List ℕ) (block : ℕ) (item : Block) (to : List ℕ) (held : HasSize rows 1 (length blocks) × IsSearch (map block_term blocks) (row_at rows 0) opened) (popped : opened ≡ rest ++ block ∷ []) (leads : to ≡ targets (get_or blocks block item).term) where
  abbrev terms : List Term
  terms = map block_term blocks

  long : length terms ≡ length blocks
  long = length-map blocks block_term

  are_exits : to ≡ exits terms block
  are_exits = (let low = popped_within terms (row_at rows 0) opened rest block held.1 popped in let l = long in leads ∙ sym (exits_at blocks block item (omega (arith, l, low))))

  exits_within : All (λ b. b < length terms) (exits terms block)
  exits_within = subst (λ (bs : List Block). Closed (map block_term bs)) (sym same) closed block

  bits : length (row_at rows 0) ≡ length blocks
  bits = held.0.bits_is 0 (omega arith)

  edges_within : All (λ b. b < length (row_at rows 0)) to
  edges_within = subst (λ n. All (λ b. b < n) to) (long ∙ sym bits) (subst (λ ts. All (λ b. b < length terms) ts) (sym are_exits) exits_within)

  edges_followed : (rows2 : List (List Bool)) (opened2 : List ℕ) → HasSize rows2 1 (length (row_at rows 0)) → Finds (row_at rows 0) (row_at rows2 0) rest opened2 to → HasSize rows2 1 (length blocks) × IsSearch terms (row_at rows2 0) opened2
  edges_followed rows2 opened2 one finds = (
    subst (HasSize rows2 1) bits one,
    search_step terms (row_at rows 0) (row_at rows2 0) opened rest opened2 block held.1 popped (subst (λ ts. Finds (row_at rows 0) (row_at rows2 0) rest opened2 ts) are_exits finds) exits_within,
  )

pub loop-block-init : goal.loop-block-init
loop-block-init c =
    let blocks = c.as_slice-blocks.result.now in
    let terms = map block_term blocks in
    let long : length terms ≡ length blocks = length-map blocks block_term in
    let same : length blocks ≡ length c.args.body.now.blocks = ap length c.as_slice-blocks.ensures in
    let some : 0 < length terms = omega (arith, long, same, c.requires.some_block) in
    let r = search_made terms (length blocks) c.in_ok-found.found c.set.new.self c.push.new.self.items some (sym long) c.in_ok-found.ensures c.set.ensures (c.in_ok-push.ensures.items ∙ ap (λ xs. xs ++ 0 ∷ []) c.new-opened.ensures.items) in
    (subst (HasSize c.set.new.self 1) long r.0, r.1)

pub find_all-requires-clause-within : goal.find_all-requires-clause-within
find_all-requires-clause-within c = edges_within c.as_slice-blocks.result.now c.args.body.now.blocks c.as_slice-blocks.ensures c.requires.closed c.loop-block.found c.loop-block.opened.items c.pop.new.self.items c.in-Some.block c.index-blocks-block.result c.as_slice.result.now c.loop-block.invariant c.in-Some.ensures.items (c.as_slice.ensures ∙ c.in_ok-to.ensures ∙ ap (λ (b : Block). targets b.term) c.index-blocks-block.is)

pub loop-block-preserved-in_ok-find_all : goal.loop-block-preserved-in_ok-find_all
loop-block-preserved-in_ok-find_all c = edges_followed c.as_slice-blocks.result.now c.args.body.now.blocks c.as_slice-blocks.ensures c.requires.closed c.loop-block.found c.loop-block.opened.items c.pop.new.self.items c.in-Some.block c.index-blocks-block.result c.as_slice.result.now c.loop-block.invariant c.in-Some.ensures.items (c.as_slice.ensures ∙ c.in_ok-to.ensures ∙ ap (λ (b : Block). targets b.term) c.index-blocks-block.is) c.find_all.new.found c.find_all.new.opened.items c.in_ok-find_all.ensures.one c.in_ok-find_all.ensures.finds

pub loop-block-preserved : goal.loop-block-preserved
loop-block-preserved c = edges_followed c.as_slice-blocks.result.now c.args.body.now.blocks c.as_slice-blocks.ensures c.requires.closed c.loop-block.found c.loop-block.opened.items c.pop.new.self.items c.in-Some.block c.index-blocks-block.result c.as_slice.result.now c.loop-block.invariant c.in-Some.ensures.items (c.as_slice.ensures ∙ c.in_ok-to.ensures ∙ ap (λ (b : Block). targets b.term) c.index-blocks-block.is) c.find_all.new.found c.find_all.new.opened.items c.in_ok-find_all.ensures.one c.in_ok-find_all.ensures.finds

pub returns-clause-reached : goal.returns-clause-reached
returns-clause-reached c =
    let body = c.args.body.now in
    let terms = map block_term body.blocks in
    let now = row_at c.loop-block.found 0 in
    let found : IsSearch terms now c.loop-block.opened.items = subst (λ (bs : List Block). IsSearch (map block_term bs) now c.loop-block.opened.items) c.as_slice-blocks.ensures c.loop-block.invariant.1 in
    let none : c.loop-block.opened.items ≡ [] = nil_from_length c.loop-block.opened.items (omega (arith, c.in_default.ensures.cases.0, c.loop-block.opened.ok.0)) in
    λ b. (λ t. found.path b t, λ r. search_ends terms now (subst (IsSearch terms now) none found) b r)
