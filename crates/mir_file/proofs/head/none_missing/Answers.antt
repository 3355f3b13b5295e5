use Rattle.std.proofs.Common.{◌≡◌, ℕ, ◌&&◌, ◌∷◌, get_or, is_some, ◌∙◌, ap, ap₂, refl, sym}
use Rattle.mir_syntax.specs.declared.types.TyId.{TyId}
use Rattle.mir_text.specs.NameFaults.{below_declared, none_missing_in}
use Rattle.mir_resolve.proofs.Making.{later_of, and_step}
use Rattle.mir_bodies.specs.Locals.{declared_in}
use Rattle.mir_file.proofs.Declaring.{declared_some}
use Rattle.mir_file.proofs.HeadSteps.{first_read, missing_ended}
use Rattle.mir_file.proofs.head.none_missing.Goals as goal

pub locals-init : goal.locals-init
locals-init c = λ trees.
    ap₂ (λ a l. a && none_missing_in (declared_in trees c.args.locals.now) (declared_in trees l))
    (c.is_some-whole.ensures ∙ ap is_some c.get.ensures ∙ declared_some trees c.args.locals.now 0) c.as_slice-left.ensures

pub locals-preserved : goal.locals-preserved
locals-preserved c = λ trees.
    let left = c.locals.left.now in
    let none : TyId = record { 0 = 0 } in
    let item : ℕ × TyId = get_or left 0 (0, none) in
    let later = later_of left in
    let first : left ≡ item ∷ later = first_read left (0, none) c.in-len1-up.len_at_least in
    let all = declared_in trees c.args.locals.now in
    ap (λ b. b && none_missing_in all (declared_in trees later)) (c.both-whole.ensures ∙ ap (λ b. c.locals.whole && b) (c.has_below-below.ensures trees))
    ∙ and_step c.locals.whole (below_declared all item.0) (none_missing_in all (declared_in trees later)) _
    (ap (λ l. c.locals.whole && none_missing_in all (declared_in trees l)) (sym first) ∙ c.locals.invariant trees)

pub returns : goal.returns
returns c = λ trees.
    missing_ended (declared_in trees) (declared_in trees c.args.locals.now) c.locals.left.now c.locals.whole _ c.in_default.len_below refl (c.locals.invariant trees)
