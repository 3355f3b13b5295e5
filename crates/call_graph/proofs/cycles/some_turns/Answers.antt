use Rattle.std.proofs.Common.{◌≡◌, sym, ap, subst, ◌∙◌, true, [], length, get_or, arith}
use Rattle.std.specs.List.{list_any}
use Rattle.std.proofs.lemmas.List.{get_or_default, map-id}
use Rattle.bit_rows.specs.Rows.{stands}
use Rattle.call_graph.specs.Search.{is_with, turns}
use Rattle.call_graph.proofs.Rising.{stands_at}
use Rattle.call_graph.proofs.Turning.{some_below, none_at_all}
use Rattle.call_graph.proofs.cycles.some_turns.Goals as goal

pub turns_at-requires-clause-sources : goal.turns_at-requires-clause-sources
turns_at-requires-clause-sources c =
    let lists = c.args.sources.now in
    let b = c.loop-block.block in
    let xs = c.as_slice.result.now in
    let same : xs ≡ get_or lists b [] = c.as_slice.ensures ∙ c.index-sources-block.is ∙ get_or_default lists b c.index-sources-block.result [] c.loop-block-test.true in
    λ k d l.
    let low = c.requires.inside b (get_or xs k 0) (subst (λ ys. stands (get_or xs k 0) ys ≡ true) (same ∙ sym (map-id (get_or lists b []))) (stands_at xs k l)) in
    let e = get_or_default xs k d 0 l in
    let m = c.requires.blocks in
    omega (arith, low, e, m)

pub returns-then-turns_at : goal.returns-then-turns_at
returns-then-turns_at c =
    let lists = c.args.sources.now in
    let b = c.loop-block.block in
    let same : c.as_slice.result.now ≡ get_or lists b [] = c.as_slice.ensures ∙ c.index-sources-block.is ∙ get_or_default lists b c.index-sources-block.result [] c.loop-block-test.true in
    sym (some_below (turns c.args.components.now lists) (length lists) b c.loop-block-test.true
    (sym (ap (λ xs. list_any (is_with c.args.components.now b) xs) same) ∙ sym c.turns_at.ensures ∙ c.if-turns_at.true))

pub returns : goal.returns
returns c = sym (none_at_all (turns c.args.components.now c.args.sources.now) (length c.args.sources.now)
    (λ b l. c.loop-block.invariant b (let e = c.loop-block-test.false in omega (arith, l, e))))
