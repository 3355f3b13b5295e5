use Rattle.std.proofs.Common.{◌≡◌, sym, ap, ◌∙◌, subst, ◌+◌, List, get_or, Some, slice_get, arith}
use Rattle.std.proofs.lemmas.Option.{slice_get-get_or}
use Rattle.mir_syntax.specs.declared.body.Place.{Place}
use Rattle.move_paths.specs.Effects.{in_local}
use Rattle.move_paths.specs.Rows.{written}
use Rattle.move_paths.proofs.Writing.{WritingAt, writing_none, writing_begins, writing_ends, writing_skips, writing_on}
use Rattle.move_paths.proofs.units.BodyUnits.write_under.Goals.{then-is_under_path, else-is_under_path}
use Rattle.move_paths.proofs.units.BodyUnits.write_under.Goals as goal

pub returns-in_default : goal.returns-in_default
returns-in_default c = (let s = c.args.self.now in writing_none s.places s.spans s.spanned c.args.local c.args.path.now c.args.on c.args.rows.now c.args.row c.requires.within c.requires.bits (sym c.in_default.ensures))

pub loop-at-init : goal.loop-at-init
loop-at-init c = (let s = c.args.self.now in writing_begins s.places s.spans s.spanned c.args.local c.args.path.now c.args.on c.args.rows.now c.args.row c.requires.within c.requires.bits c.in-Some.span.now (sym c.in-Some.ensures))

pub loop-at-preserved : goal.loop-at-preserved
loop-at-preserved c =
    let s = c.args.self.now in
    let at = c.loop-at.at in
    let u = c.index-places-at.result in
    let now = c.loop-at.rows in
    let f = written (in_local c.args.local c.args.path.now) c.args.on in
    let low = s.spanned.within c.args.local c.in-Some.span.now (sym c.in-Some.ensures) in
    let here : slice_get s.places at ≡ Some u = slice_get-get_or s.places at u (omega (arith, c.loop-at-test.true)) ∙ ap Some (sym (c.index-places-at.is ∙ ap (λ (us : List Place). get_or us at u) c.as_slice-places.ensures)) in
    elim c.if-is_under_path.branch [
      | then-is_under_path v ↦ subst (λ t. WritingAt f s.places c.args.rows.now t c.args.row (at + 1)) (sym v.rows-is) (writing_on s.places s.spans s.spanned c.args.local c.args.path.now c.args.on c.args.rows.now c.args.row c.requires.within c.requires.bits now at u here c.loop-at.invariant v.write.new.self v.write.ensures (sym c.is_under_path.ensures ∙ v.if-is_under_path.true))
      | else-is_under_path v ↦ subst (λ t. WritingAt f s.places c.args.rows.now t c.args.row (at + 1)) (sym v.rows-is) (writing_skips s.places s.spans s.spanned c.args.local c.args.path.now c.args.on c.args.rows.now c.args.row c.requires.within c.requires.bits now at u here c.loop-at.invariant (sym c.is_under_path.ensures ∙ v.if-is_under_path.false))
    ]

pub returns : goal.returns
returns c = (let s = c.args.self.now in writing_ends s.places s.spans s.spanned c.args.local c.args.path.now c.args.on c.args.rows.now c.args.row c.requires.within c.requires.bits c.in-Some.span.now (sym c.in-Some.ensures) c.loop-at.rows c.loop-at.at (omega (arith, c.loop-at-test.false)) c.loop-at.invariant)
