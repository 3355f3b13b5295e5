use Rattle.std.proofs.Common.{◌<◌, ◌+◌, ◌∙◌, true, get_or, set, length, take, sym, subst, arith}
use Rattle.drop_tables.specs.Holders.{Finds}
use Rattle.drop_tables.proofs.Rounds.{finds_old, finds_new, mark_at}
use Rattle.drop_tables.proofs.spread.mark_all.Goals as goal

pub loop-def-preserved-then-index : goal.loop-def-preserved-then-index
loop-def-preserved-then-index c =
    let i = c.loop-def.def-index in
    let def = get_or c.args.held.now i 0 in
    let below : def < length c.loop-def.marks.items = omega (arith, c.loop-def.invariant.long, c.requires i 0 (omega arith)) in
    finds_old c.args.marks.now.items c.loop-def.marks.items c.args.found.now.items c.loop-def.found.items c.args.held.now i 0 (omega arith) c.loop-def.invariant
    (mark_at c.loop-def.marks.items def c.index.result.now below c.index.ensures ∙ c.if-index.true)

pub loop-def-preserved : goal.loop-def-preserved
loop-def-preserved c =
    let i = c.loop-def.def-index in
    let def = get_or c.args.held.now i 0 in
    subst (λ f. Finds c.args.marks.now.items (set c.loop-def.marks.items def true) c.args.found.now.items f (take (i + 1) c.args.held.now)) (sym c.in_ok-push.ensures.items)
    (finds_new c.args.marks.now.items c.loop-def.marks.items c.args.found.now.items c.loop-def.found.items c.args.held.now i 0 (omega arith) c.loop-def.invariant (c.requires i 0 (omega arith)))
