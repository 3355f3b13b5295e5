-- A crate with a body as it is at a stage.
use Rattle.std.proofs.Common.{◌≡◌, refl, sym, ap, ◌∙◌, subst, ℕ, ◌<◌, List, map, take, length, get_or, Option, Some, None, Result, Ok, Err, option_map, slice_get}
use Rattle.std.specs.Prelude.{IfOk}
use Rattle.std.proofs.lemmas.Option.{slice_get-get_or}
use Rattle.mir_syntax.specs.declared.body.Body.{Body}
use Rattle.mir_syntax.specs.declared.body.Function.{Function}
use Rattle.mir_syntax.specs.Tree.{Tree}
use Rattle.mir_syntax.specs.declared.stage.Stage.{Stage}
use Rattle.mir_syntax.specs.declared.stage.Stage.TheVariants as at
use Rattle.mir_syntax.specs.Crate.{TypedBody, TypedFunction, Crate, body_of}
use Rattle.mir_syntax.specs.Shapes.{Shape, shapes_of}
use Rattle.mir_semantics.specs.Refines.{Refines}
use Rattle.mir_rules.specs.Drops.{NoDrops}
use Rattle.mir_rules.specs.Valid.{Valid, Within, at_function}
use Rattle.pass_order.specs.Passes.{passes, after, after_passes}
use Rattle.pass_order.specs.Steps.{pass_of}
use Rattle.pass_order.specs.Stages.{passes_behind, at_stage}
use Rattle.pass_order.specs.Fits.{FitsAt}
use Rattle.pass_order.proofs.Order.{entries, front_keeps}
use Rattle.pass_order.proofs.Running.{fronts}
use Rattle.pass_order.proofs.Fits.{as_valid, shapes_fit, fits_after}
use Rattle.pass_order.proofs.Alone.{blocks_within, locals_within}
use Rattle.pass_order.proofs.Crates.{own, own_fits}

-- ---- stages and numbers of passes

pub stage_reached : (stage : Stage) (n : ℕ) (D : List Shape) (b c : TypedBody) → passes_behind stage ≡ Some n → c ≡ after (take n passes) D b → at_stage stage D b ≡ Some c
unfolding at_stage
stage_reached stage n D b c e h = ap (option_map (λ n. after (take n passes) D b)) e ∙ ap Some (sym h)

behind : (o : Option ℕ) (D : List Shape) (b c : TypedBody) → option_map (λ n. after (take n passes) D b) o ≡ Some c → (n : ℕ) × (after (take n passes) D b ≡ c)
behind None D b c e = absurd cc
behind (Some n) D b c e = (n, (let z : Some (after (take n passes) D b) ≡ Some c = e in cc))

stage_is : (stage : Stage) (D : List Shape) (b c : TypedBody) → at_stage stage D b ≡ Some c → (n : ℕ) × (after (take n passes) D b ≡ c)
unfolding at_stage
stage_is stage D b c e = behind (passes_behind stage) D b c e

pub first_stage : (D : List Shape) (b : TypedBody) → at_stage at.Built D b ≡ Some b
unfolding at_stage
first_stage D b = refl

pub last_stage : (D : List Shape) (b : TypedBody) → at_stage at.Optimised D b ≡ Some (after_passes D b)
unfolding at_stage after_passes
last_stage D b = refl

-- a body that was given by the first entries of the code's list is that at the stage
pub stage_given : {E : Type 0} (trees : List Tree) (stage : Stage) (n : ℕ) (D : List Shape) (b : TypedBody) (r : Result Body E) → passes_behind stage ≡ Some n
    → IfOk r (λ left. body_of trees left ≡ after (map pass_of (take n entries)) D b) → IfOk r (λ left. at_stage stage D b ≡ Some (body_of trees left))
stage_given trees stage n D b (Ok left) e h = stage_reached stage n D b (body_of trees left) e (h ∙ ap (λ ps. after ps D b) (fronts n entries))
stage_given trees stage n D b (Err x) e h = h

-- ---- the function that is dumped

pub function_there : (fs list : List Function) (i : ℕ) (g : Function) → list ≡ fs → i < length fs → g ≡ get_or list i g → slice_get fs i ≡ Some g
function_there fs list i g same l is = slice_get-get_or fs i g l ∙ ap Some (sym (is ∙ ap (λ xs. get_or xs i g) same))

same_function : (g g2 : Function) → Some g ≡ Some g2 → g ≡ g2
same_function g g2 e = cc

pub dumped_head : {E : Type 0} (r : Result Function E) (g g2 : Function) (b : Body) → Some g ≡ Some g2 → IfOk r (λ made. made ≡ record g { body = b }) → IfOk r (λ made. made ≡ record g2 { body = made.body })
dumped_head (Ok made) g g2 b e h =
    let own : made.body ≡ b = ap (λ (m : Function). m.body) h in
    let whole : made ≡ record g { body = made.body } = h ∙ ap (λ c. let m : Function = record g { body = c } in m) (sym own) in
    subst (λ (f : Function). made ≡ record f { body = made.body }) (same_function g g2 e) whole
dumped_head (Err x) g g2 b e h = h

pub dumped_at : {E : Type 0} (trees : List Tree) (stage : Stage) (D : List Shape) (r : Result Function E) (g g2 : Function) (built b : Body) → Some g ≡ Some g2 → built ≡ g.body
    → at_stage stage D (body_of trees built) ≡ Some (body_of trees b) → IfOk r (λ made. made ≡ record g { body = b }) → IfOk r (λ made. at_stage stage D (body_of trees g2.body) ≡ Some (body_of trees made.body))
dumped_at trees stage D (Ok made) g g2 built b e was at h =
    let from : built ≡ g2.body = was ∙ ap (λ (f : Function). f.body) (same_function g g2 e) in
    let own : made.body ≡ b = ap (λ (m : Function). m.body) h in
    subst (λ (k : Body). at_stage stage D (body_of trees k) ≡ Some (body_of trees made.body)) from (at ∙ ap (λ (k : Body). Some (body_of trees k)) (sym own))
dumped_at trees stage D (Err x) g g2 built b e was at h = h

-- ---- the laws

module _ (C : Crate) (valid : Valid C) (within : Within C) (f : ℕ) (g : TypedFunction) (is : slice_get C.functions f ≡ Some g) where
  pub function_fits : FitsAt C f g g.body
  function_fits = own_fits C valid f g is (blocks_within C within f g is) (locals_within C within f g is)

  module _ (n : ℕ) where
    valid_after : Valid (at_function C f g (after (take n passes) (shapes_of C) g.body))
    valid_after = (fits_after C f g (after (take n passes)) (front_keeps n) g.body function_fits).valid

    refines_after : NoDrops g.body → Refines (at_function C f g (after (take n passes) (shapes_of C) g.body)) C
    refines_after none =
        let r = (front_keeps n).laws.refines C f g.body (as_valid C f g g.body function_fits) none in
        let r2 : Refines (at_function C f g (after (take n passes) (shapes_of C) g.body)) (at_function C f g g.body) = subst (λ (D : List Shape). Refines (at_function C f g (after (take n passes) D g.body)) (at_function C f g g.body)) (shapes_fit C f g g.body function_fits) r in
        subst (Refines (at_function C f g (after (take n passes) (shapes_of C) g.body))) (own C valid f g is) r2

  pub staged_valid : (stage : Stage) (b : TypedBody) → at_stage stage (shapes_of C) g.body ≡ Some b → Valid (at_function C f g b)
  staged_valid stage b e = let (n, same) = stage_is stage (shapes_of C) g.body b e in subst (λ b. Valid (at_function C f g b)) same (valid_after n)

  pub staged_refines : NoDrops g.body → (stage : Stage) (b : TypedBody) → at_stage stage (shapes_of C) g.body ≡ Some b → Refines (at_function C f g b) C
  staged_refines none stage b e = let (n, same) = stage_is stage (shapes_of C) g.body b e in subst (λ b. Refines (at_function C f g b) C) same (refines_after n none)
