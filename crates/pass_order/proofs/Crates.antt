-- A crate of which each body went through a pass that keeps meaning and rules.
use Rattle.std.proofs.Common.{◌≡◌, refl, sym, ap, ◌∙◌, subst, ℕ, zero, suc, ◌<◌, ◌≤◌, List, [], ◌∷◌, map, set, length, Some, slice_get, arith}
use Rattle.std.proofs.lemmas.List.{length-map}
use Rattle.std.proofs.lemmas.Option.{slice_get_within}
use Rattle.mir_syntax.specs.Crate.{TypedFunction, Crate}
use Rattle.mir_syntax.specs.Shapes.{Shape, shapes_of}
use Rattle.mir_syntax.proofs.Lists.{set_same, map_there}
use Rattle.mir_semantics.specs.Refines.{Refines}
use Rattle.mir_rules.specs.Calls.{AddsNoCall}
use Rattle.mir_rules.specs.Drops.{NoDrops}
use Rattle.mir_rules.specs.Limits.{most_in_body}
use Rattle.mir_rules.specs.Valid.{Valid, Within, with_body, at_function}
use Rattle.mir_rules.proofs.Terminators.{slice_get_there}
use Rattle.mir_relate.proofs.Refine.{refines_refl, refines_trans}
use Rattle.pass_order.specs.Passes.{BodyPass, after_passes, each_body, optimised}
use Rattle.pass_order.specs.Fits.{FitsAt}
use Rattle.pass_order.proofs.Keeps.{PassKeeps}
use Rattle.pass_order.proofs.Order.{passes_keep}
use Rattle.pass_order.proofs.Fits.{as_valid, shapes_fit, fits_after}
use Rattle.pass_order.proofs.Alone.{blocks_within, locals_within}

-- ---- one function

module _ (C : Crate) (valid : Valid C) (f : ℕ) (g : TypedFunction) (is : slice_get C.functions f ≡ Some g) where
  pub own : at_function C f g g.body ≡ C
  own = ap (λ fs. let c : Crate = record C { functions = fs } in c) (set_same C.functions f g is)

  pub own_fits : length g.body.blocks ≤ most_in_body → length g.body.locals ≤ most_in_body → FitsAt C f g g.body
  own_fits blocks locals = record { is = is; valid = subst Valid (sym own) valid; args = refl; start = refl; blocks = blocks; locals = locals }

-- ---- the first functions of one list, and the others of another

front : ℕ → List TypedFunction → List TypedFunction → List TypedFunction
front zero ys xs = xs
front (suc k) [] xs = xs
front (suc k) (y ∷ ys) [] = []
front (suc k) (y ∷ ys) (x ∷ xs) = y ∷ front k ys xs

front_all : (ys xs : List TypedFunction) → length ys ≡ length xs → front (length xs) ys xs ≡ ys
unfolding front
front_all [] [] e = refl
front_all (y ∷ ys) (x ∷ xs) e = ap (λ zs. y ∷ zs) (front_all ys xs (omega (arith, e)))
front_all [] (x ∷ xs) e = absurd (omega (arith, e))
front_all (y ∷ ys) [] e = absurd (omega (arith, e))

front_there : (k : ℕ) (ys xs : List TypedFunction) (x : TypedFunction) → slice_get xs k ≡ Some x → slice_get (front k ys xs) k ≡ Some x
unfolding front
front_there zero ys xs x e = e
front_there (suc k) [] xs x e = e
front_there (suc k) (y ∷ ys) [] x e = e
front_there (suc k) (y ∷ ys) (z ∷ xs) x e = front_there k ys xs x e

front_more : (k : ℕ) (ys xs : List TypedFunction) (y : TypedFunction) → slice_get ys k ≡ Some y → k < length xs → front (suc k) ys xs ≡ set (front k ys xs) k y
unfolding front
front_more k [] xs y e l = absurd (grind arith)
front_more k (z ∷ ys) [] y e l = absurd (omega (arith, l))
front_more zero (z ∷ ys) (x ∷ xs) y e l = ap (λ (z : TypedFunction). z ∷ xs) (let w : z ≡ y = grind arith in w)
front_more (suc k) (z ∷ ys) (x ∷ xs) y e l = ap (λ zs. z ∷ zs) (front_more k ys xs y e (omega (arith, l)))

-- ---- all functions

module _ (pass : BodyPass) (keeps : PassKeeps pass) (C : Crate) (valid : Valid C) (within : Within C) where
  abbrev passed : TypedFunction → TypedFunction
  passed g = with_body g (pass (shapes_of C) g.body)

  -- the crate with the first functions after the pass
  upto : ℕ → Crate
  upto k = record C { functions = front k (map passed C.functions) C.functions }

  -- such a crate is valid, and its definitions are seen as before
  record Good (K : Crate) : Type 0 where
    pub rules : Valid K
    pub shapes : shapes_of K ≡ shapes_of C

  -- the function that comes next
  module _ (k : ℕ) (l : k < length C.functions) (g : TypedFunction) (was : slice_get C.functions k ≡ Some g) (good : Good (upto k)) where
    there : slice_get (upto k).functions k ≡ Some g
    unfolding upto
    there = front_there k (map passed C.functions) C.functions g was

    fits : FitsAt (upto k) k g g.body
    fits = own_fits (upto k) good.rules k g there (blocks_within C within k g was) (locals_within C within k g was)

    after : at_function (upto k) k g (pass (shapes_of C) g.body) ≡ upto (suc k)
    unfolding upto
    after = ap (λ fs. let c : Crate = record C { functions = fs } in c) (sym (front_more k (map passed C.functions) C.functions (passed g) (map_there passed C.functions k g was) l))

    good_more : Good (upto (suc k))
    good_more =
        let h : FitsAt (upto k) k g (pass (shapes_of C) g.body) = subst (λ (D : List Shape). FitsAt (upto k) k g (pass D g.body)) good.shapes (fits_after (upto k) k g pass keeps g.body fits) in
        subst Good after (record { rules = h.valid; shapes = shapes_fit (upto k) k g (pass (shapes_of C) g.body) h ∙ good.shapes })

    refines_more : NoDrops g.body → Refines (upto (suc k)) (upto k)
    refines_more none =
        let r = keeps.laws.refines (upto k) k g.body (as_valid (upto k) k g g.body fits) none in
        let same : shapes_of (at_function (upto k) k g g.body) ≡ shapes_of C = shapes_fit (upto k) k g g.body fits ∙ good.shapes in
        let r2 : Refines (at_function (upto k) k g (pass (shapes_of C) g.body)) (at_function (upto k) k g g.body) = subst (λ (D : List Shape). Refines (at_function (upto k) k g (pass D g.body)) (at_function (upto k) k g g.body)) same r in
        subst (λ K. Refines K (upto k)) after (subst (Refines (at_function (upto k) k g (pass (shapes_of C) g.body))) (own (upto k) good.rules k g there) r2)

    adds_no_call : AddsNoCall (pass (shapes_of C) g.body) g.body
    adds_no_call =
        let same : shapes_of (at_function (upto k) k g g.body) ≡ shapes_of C = shapes_fit (upto k) k g g.body fits ∙ good.shapes in
        subst (λ (D : List Shape). AddsNoCall (pass D g.body) g.body) same (keeps.laws.no_calls (upto k) k g.body (as_valid (upto k) k g g.body fits))

  good : (k : ℕ) → k ≤ length C.functions → Good (upto k)
  unfolding upto front
  good zero l = record { rules = valid; shapes = refl }
  good (suc k) l = let (g, was) = slice_get_there C.functions k (omega (arith, l)) in good_more k (omega (arith, l)) g was (good k (omega (arith, l)))

  refines : ((f : ℕ) (g : TypedFunction) → slice_get C.functions f ≡ Some g → NoDrops g.body) → (k : ℕ) → k ≤ length C.functions → Refines (upto k) C
  unfolding upto front
  refines none zero l = refines_refl C
  refines none (suc k) l =
      let (g, was) = slice_get_there C.functions k (omega (arith, l)) in
      refines_trans (upto (suc k)) (upto k) C (refines_more k (omega (arith, l)) g was (good k (omega (arith, l))) (none k g was)) (refines none k (omega (arith, l)))

  -- the last of them is the crate after the pass
  last : upto (length C.functions) ≡ each_body pass C
  unfolding upto
  last = ap (λ fs. let c : Crate = record C { functions = fs } in c) (front_all (map passed C.functions) C.functions (length-map C.functions passed))

  pub each_valid : Valid (each_body pass C)
  each_valid = subst Valid last (good (length C.functions) (omega arith)).rules

  pub each_refines : ((f : ℕ) (g : TypedFunction) → slice_get C.functions f ≡ Some g → NoDrops g.body) → Refines (each_body pass C) C
  each_refines none = subst (λ K. Refines K C) last (refines none (length C.functions) (omega arith))

  pub each_adds_no_call : (f : ℕ) (g : TypedFunction) → slice_get C.functions f ≡ Some g → AddsNoCall (pass (shapes_of C) g.body) g.body
  each_adds_no_call f g was = let l = slice_get_within C.functions f g was in adds_no_call f l g was (good f (omega (arith, l)))

-- ---- the passes in their order

pub optimised_valid : (C : Crate) → Valid C → Within C → Valid (optimised C)
unfolding optimised
optimised_valid C valid within = each_valid after_passes passes_keep C valid within

pub optimised_refines : (C : Crate) → Valid C → Within C → ((f : ℕ) (g : TypedFunction) → slice_get C.functions f ≡ Some g → NoDrops g.body) → Refines (optimised C) C
unfolding optimised
optimised_refines C valid within none = each_refines after_passes passes_keep C valid within none

pub optimised_adds_no_call : (C : Crate) → Valid C → Within C → (f : ℕ) (g : TypedFunction) → slice_get C.functions f ≡ Some g → AddsNoCall (after_passes (shapes_of C) g.body) g.body
optimised_adds_no_call C valid within f g there = each_adds_no_call after_passes passes_keep C valid within f g there
