use Rattle.std.proofs.Common.{◌≡◌, ◌∙◌, length, rules, subst, arith}
use Rattle.drop_tables.specs.Holders.{Looked, holders_at}
use Rattle.drop_tables.proofs.Numbering.{ordered_none, ordered_more}
use Rattle.drop_tables.proofs.Rounds.{list_at}
use Rattle.drop_tables.proofs.cycles.on_level.Goals as goal

pub loop-def-init : goal.loop-def-init
loop-def-init c = ordered_none c.args.holders.now c.args.numbers.now c.in_ok-marks.marks.items (length c.args.holders.now) (search rules) (search rules)

pub loop-def-preserved : goal.loop-def-preserved
loop-def-preserved c =
    let holders = c.args.holders.now in
    let e = c.loop-def.def in
    let slice : c.as_slice-held.result.now ≡ holders_at holders e = c.as_slice-held.ensures ∙ (c.index-holders-def.is ∙ list_at holders e c.index-holders-def.result (omega arith)) in
    ordered_more holders c.args.numbers.now c.loop-def.marks.items c.look_over.new.marks.items e c.loop-def.invariant
    (subst (λ xs. Looked c.args.numbers.now e xs c.loop-def.marks.items c.look_over.new.marks.items) slice (c.look_over.ensures c.if-not-look_over.false))
