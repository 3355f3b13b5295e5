use Rattle.std.proofs.Common.{sym, ap, ◌∙◌, length, arith}
use Rattle.std.specs.List.{list_any, range_with_len}
use Rattle.std.proofs.lemmas.List.{length-map}
use Rattle.mir_cfg.specs.Paths.{block_term, terms_of}
use Rattle.call_graph.specs.Search.{turns}
use Rattle.call_graph.proofs.Turning.{by_terms, lists_long, inside, turned, has_lists, cycle_is}
use Rattle.call_graph.proofs.cycles.has_cycle.Goals as goal

pub new-requires-clause-few : goal.new-requires-clause-few
new-requires-clause-few c =
    let lists = by_terms c.args.body.now.blocks c.as_slice.result.now (c.as_slice.ensures ∙ c.in_ok-sources.ensures) in
    let long = lists_long (terms_of c.args.body.now) c.requires.closed c.as_slice.result.now lists in
    let many = length-map c.args.body.now.blocks block_term in
    let few = c.requires.few in
    omega (arith, long, many, few)

pub new-requires-clause-inside : goal.new-requires-clause-inside
new-requires-clause-inside c =
    inside (terms_of c.args.body.now) c.requires.closed c.as_slice.result.now (by_terms c.args.body.now.blocks c.as_slice.result.now (c.as_slice.ensures ∙ c.in_ok-sources.ensures))

pub some_turns-requires-clause-few : goal.some_turns-requires-clause-few
some_turns-requires-clause-few c =
    let lists = by_terms c.args.body.now.blocks c.as_slice-2.result.now (c.as_slice-2.ensures ∙ c.in_ok-sources.ensures) in
    let long = lists_long (terms_of c.args.body.now) c.requires.closed c.as_slice-2.result.now lists in
    let many = length-map c.args.body.now.blocks block_term in
    let few = c.requires.few in
    omega (arith, long, many, few)

pub some_turns-requires-clause-inside : goal.some_turns-requires-clause-inside
some_turns-requires-clause-inside c =
    inside (terms_of c.args.body.now) c.requires.closed c.as_slice-2.result.now (by_terms c.args.body.now.blocks c.as_slice-2.result.now (c.as_slice-2.ensures ∙ c.in_ok-sources.ensures))

pub returns : goal.returns
returns c =
    let terms = terms_of c.args.body.now in
    let lists = c.as_slice.result.now in
    let numbers = c.in_ok-components.components in
    let ensured = c.in_ok-components.ensures in
    let is = by_terms c.args.body.now.blocks lists (c.as_slice.ensures ∙ c.in_ok-sources.ensures) in
    c.some_turns.ensures
    ∙ ap (λ xs. list_any (turns numbers xs) (range_with_len 0 (length xs))) (c.as_slice-2.ensures ∙ sym c.as_slice.ensures)
    ∙ cycle_is terms c.requires.closed lists is numbers (ensured.components (turned terms c.requires.closed lists is) (has_lists terms c.requires.closed lists is)) ensured.below
