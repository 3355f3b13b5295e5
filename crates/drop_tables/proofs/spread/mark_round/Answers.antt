use Rattle.std.proofs.Common.{◌≡◌, ◌<◌, ◌∙◌, get_or, length, sym, subst, arith}
use Rattle.std.specs.List.{All}
use Rattle.std.proofs.lemmas.List.Elements.{All-get_or, Contains-get_or}
use Rattle.drop_tables.specs.Holders.{Finds, holders_at}
use Rattle.drop_tables.proofs.Rounds.{round_more, list_at}
use Rattle.drop_tables.proofs.spread.mark_round.Goals as goal

pub mark_all-requires : goal.mark_all-requires
mark_all-requires c =
    let holders = c.args.holders.now in
    let i = c.loop-def.def-index in
    let e = get_or c.args.front.now i 0 in
    let low : e < length holders = All-get_or (λ x. x < length holders) c.args.front.now i 0 (omega arith) c.requires.front in
    let slice : c.as_slice.result.now ≡ holders_at holders e = c.as_slice.ensures ∙ (c.index-holders-def.is ∙ list_at holders e c.index-holders-def.result low) in
    subst (All (λ x. x < length c.loop-def.marks.items)) (sym slice)
    (λ k d l. omega (arith, c.loop-def.invariant.long, c.requires.long, c.requires.inside e (get_or (holders_at holders e) k d) (Contains-get_or (holders_at holders e) k d l)))

pub loop-def-preserved : goal.loop-def-preserved
loop-def-preserved c =
    let holders = c.args.holders.now in
    let i = c.loop-def.def-index in
    let e = get_or c.args.front.now i 0 in
    let low : e < length holders = All-get_or (λ x. x < length holders) c.args.front.now i 0 (omega arith) c.requires.front in
    let slice : c.as_slice.result.now ≡ holders_at holders e = c.as_slice.ensures ∙ (c.index-holders-def.is ∙ list_at holders e c.index-holders-def.result low) in
    let finds = subst (Finds c.loop-def.marks.items c.mark_all.new.marks.items c.loop-def.found.items c.mark_all.new.found.items) slice c.in_ok-mark_all.ensures in
    round_more holders c.args.marks.now.items c.loop-def.marks.items c.mark_all.new.marks.items c.args.front.now c.loop-def.found.items c.mark_all.new.found.items i 0 (omega arith) c.loop-def.invariant finds
