use Rattle.std.proofs.Common.{◌≡◌, ◌<◌, refl, sym, ap, ◌∙◌, false, length, get_or, set, replicate, arith}
use Rattle.std.proofs.lemmas.List.{length-map, get_or-map}
use Rattle.mir_syntax.specs.declared.body.Place.{Place}
use Rattle.move_paths.specs.Inits.{is_argument}
use Rattle.move_paths.specs.Rows.{has, first_row}
use Rattle.move_paths.proofs.Fill.{fill_none, fill_more, fill_done}
use Rattle.move_paths.proofs.rows.first_row.Goals as goal

pub loop-at-init : goal.loop-at-init
loop-at-init c = (let us = c.args.units.now.places in fill_none (length us) (λ k. get_or (first_row c.args.status c.args.args us) k false) c.in_ok-row.row (c.in_ok-row.ensures ∙ ap (λ n. replicate 1 (replicate n false)) c.len.ensures))

pub write-requires : goal.write-requires
write-requires c = (let one = c.loop-at.invariant.size.count_is in omega arith)

pub loop-at-preserved : goal.loop-at-preserved
loop-at-preserved c =
    let us = c.args.units.now.places in
    let at = c.loop-at.at in
    let u = c.unit-item.result in
    let low : at < length us = omega (arith, c.loop-at-test.true, ap length c.as_slice-unit-items.ensures) in
    let here : u ≡ get_or us at u = c.unit-item.is ∙ ap (λ xs. get_or xs at u) c.as_slice-unit-items.ensures in
    let value : c.has.result ≡ get_or (first_row c.args.status c.args.args us) at false =
    c.has.ensures ∙ ap (has c.args.status) c.is_argument.ensures ∙ ap (λ (v : Place). has c.args.status (is_argument c.args.args v)) here ∙ sym (get_or-map (λ v. has c.args.status (is_argument c.args.args v)) us at u false low) in
    fill_more (length us) at (λ k. get_or (first_row c.args.status c.args.args us) k false) c.loop-at.row c.write.new.self c.has.result low c.loop-at.invariant c.write.ensures value

pub returns : goal.returns
returns c =
    let us = c.args.units.now.places in
    fill_done (length us) c.loop-at.at (λ k. get_or (first_row c.args.status c.args.args us) k false) c.loop-at.row (first_row c.args.status c.args.args us) c.loop-at.invariant (omega (arith, c.loop-at-test.false, ap length c.as_slice-unit-items.ensures)) (length-map us (λ v. has c.args.status (is_argument c.args.args v))) (λ k l. refl)
