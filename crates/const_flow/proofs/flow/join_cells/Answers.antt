use Rattle.std.proofs.Common.{◌≡◌, refl, sym, ap, ◌∙◌, get_or, arith}
use Rattle.const_flow.specs.declared.cell.Cell.TheVariants.{Nothing}
use Rattle.const_flow.proofs.Joins.{joined_none, joined_more, joined_later, joining_more}
use Rattle.const_flow.proofs.flow.join_cells.Goals as goal

pub loop-at-init : goal.loop-at-init
loop-at-init c = record { joined = sym (joined_none c.args.into.now); marks = record { same = λ e. refl; differs = λ e. absurd (grind arith) } }

pub loop-at-preserved : goal.loop-at-preserved
loop-at-preserved c =
    let old = c.args.into.now in
    let into = c.loop-at.into in
    let from = c.args.from.now in
    let at = c.loop-at.at in
    let was : get_or into at Nothing ≡ get_or old at Nothing = ap (λ xs. get_or xs at Nothing) c.loop-at.invariant.joined ∙ joined_later old from at Nothing in
    record {
      joined = joined_more old from into at Nothing c.join-joined.result (omega arith) c.requires c.loop-at.invariant.joined c.join-joined.ensures;
      marks = joining_more old into c.loop-at.changed c.is_same.result at Nothing c.join-joined.result (omega arith) was c.is_same.ensures.same c.is_same.ensures.other c.loop-at.invariant.marks;
    }
