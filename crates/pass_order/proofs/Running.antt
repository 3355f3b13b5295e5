-- A body on its way through the entries of the code's list of passes.
use Rattle.std.proofs.Common.{◌≡◌, refl, sym, ap, ◌∙◌, subst, ℕ, zero, suc, ◌+◌, ◌<◌, List, [], ◌∷◌, map, take, drop, length, get_or, arith}
use Rattle.mir_syntax.specs.Crate.{TypedBody, TypedFunction, Crate}
use Rattle.mir_syntax.specs.Shapes.{Shape, shapes_of}
use Rattle.pass_order.specs.declared.passes.Pass.{Pass}
use Rattle.pass_order.specs.Passes.{after}
use Rattle.pass_order.specs.Steps.{pass_of}
use Rattle.pass_order.specs.Fits.{FitsAt}
use Rattle.pass_order.proofs.Order.{each_keeps}
use Rattle.pass_order.proofs.Fits.{fits_after}

-- the body goes on to fit
pub fits_more : (C : Crate) (p : Pass) (b c : TypedBody) → c ≡ pass_of p (shapes_of C) b → (f : ℕ) × (g : TypedFunction) × FitsAt C f g b → (f : ℕ) × (g : TypedFunction) × FitsAt C f g c
fits_more C p b c e (f, g, fits) = (f, g, subst (FitsAt C f g) (sym e) (fits_after C f g (pass_of p) (each_keeps p) b fits))

drop_more : (ps : List Pass) (i : ℕ) (d : Pass) → i < length ps → drop i ps ≡ get_or ps i d ∷ drop (suc i) ps
drop_more [] i d l = absurd (omega (arith, l))
drop_more (p ∷ ps) zero d l = refl
drop_more (p ∷ ps) (suc i) d l = drop_more ps i d (omega (arith, l))

-- what is still to be done makes the same of it
pub goes_on : (D : List Shape) (ps : List Pass) (i : ℕ) (d : Pass) (b c start : TypedBody) → i < length ps → c ≡ pass_of (get_or ps i d) D b
    → after (map pass_of (drop i ps)) D b ≡ after (map pass_of ps) D start → after (map pass_of (drop (i + 1) ps)) D c ≡ after (map pass_of ps) D start
goes_on D ps i d b c start l e h =
    let step : after (map pass_of (drop i ps)) D b ≡ after (map pass_of (drop (suc i) ps)) D (pass_of (get_or ps i d) D b) = ap (λ qs. after (map pass_of qs) D b) (drop_more ps i d l) in
    let more : suc i ≡ i + 1 = omega arith in
    subst (λ n. after (map pass_of (drop n ps)) D c ≡ after (map pass_of ps) D start) more (ap (after (map pass_of (drop (suc i) ps)) D) e ∙ sym step ∙ h)

-- the first entries stand for the first passes
pub fronts : (n : ℕ) (ps : List Pass) → map pass_of (take n ps) ≡ take n (map pass_of ps)
fronts zero ps = refl
fronts (suc n) [] = refl
fronts (suc n) (p ∷ ps) = ap (λ qs. pass_of p ∷ qs) (fronts n ps)
