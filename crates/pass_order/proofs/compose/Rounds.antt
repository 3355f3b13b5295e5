-- The third phase: all bodies are optimised, those of lesser weight first, so that each body that is taken stands in its place.
use Rattle.std.proofs.Common.{◌≡◌, ◌⊎◌, inl, inr, refl, sym, ◌∙◌, subst, ℕ, zero, suc, ◌+◌, ◌*◌, ◌<◌, ◌≤◌, true, false, ◌==◌, length, arith}
use Rattle.std.specs.Prelude.{if◌then◌else◌, nat_lt}
use Rattle.std.proofs.lemmas.Bool.Decides.{nat_tests}
use Rattle.mir_syntax.specs.Crate.{TypedBody, Crate}
use Rattle.mir_semantics.specs.Refines.{Refines}
use Rattle.mir_rules.specs.Drops.{NoDrops}
use Rattle.mir_rules.specs.Valid.{Valid, Within}
use Rattle.mir_rules.proofs.Terminators.{slice_get_there}
use Rattle.mir_relate.proofs.Refine.{refines_refl, refines_trans}
use Rattle.call_graph.specs.Graph.{asks, weight}
use Rattle.call_graph.proofs.Falls.{weight_falls, asked_below, weight_few}
use Rattle.query_plan.specs.Queries.{Pipeline, prom, elab, graph, opt}
use Rattle.pass_order.specs.Bodies.{with_bodies}
use Rattle.pass_order.specs.OptCrate.{pipeline, opt_crate}
use Rattle.pass_order.specs.Tupled.{BodiesTupled}
use Rattle.pass_order.proofs.compose.Bodies.{Bodies, same_bodies, own_bodies}
use Rattle.pass_order.proofs.compose.Replace.{Mixed, Step, all_replaced}
use Rattle.pass_order.proofs.compose.Phases.{cleaned, elaborates}
use Rattle.pass_order.proofs.compose.Inlined.{Bare, free_all, graph_is, Optimises, put_bare, put_refines, put_optimises}

module _ (C : Crate) (rules : Valid C) (within : Within C) (tupled : BodiesTupled C) where
  abbrev S : Pipeline TypedBody
  S = pipeline C

  w : ℕ → ℕ
  w f = weight (graph S) f

  -- those of weight below r are optimised
  light : ℕ → Bodies
  light r f = if nat_lt (w f) r then opt S f else elab S f

  is_light : (r f : ℕ) → w f < r → light r f ≡ opt S f
  unfolding light
  is_light r f h = let a : nat_lt (w f) r ≡ true = grind (arith, nat_tests) in grind arith

  is_heavy : (r f : ℕ) → r ≤ w f → light r f ≡ elab S f
  unfolding light
  is_heavy r f h = let a : nat_lt (w f) r ≡ false = grind (arith, nat_tests) in grind arith

  abbrev Fits : Crate → Type 0
  Fits = Bare C

  abbrev After : ℕ → Type 0
  After = Optimises C rules within

  record Round (r : ℕ) : Type 0 where
    pub fits : Bare C (with_bodies C (light r))
    pub refines : Refines (with_bodies C (light r)) (with_bodies C (elab S))
    pub after : (f : ℕ) → f < length C.functions → w f < r → Optimises C rules within f

  module _ (r : ℕ) (round : Round r) where
    opt_step : (bs : Bodies) (f : ℕ) → f < length C.functions → (w f == r) ≡ true → Mixed Fits After C (light r) (opt S) (λ g. w g == r) bs → bs f ≡ light r f → Fits (with_bodies C bs) → Step Fits After C (light r) (opt S) (λ g. w g == r) bs f
    unfolding w
    opt_step bs f lt a m own fits =
        let weighs : w f ≡ r = grind (arith, nat_tests) in
        let heavy : bs f ≡ elab S f = own ∙ is_heavy r f (omega (arith, weighs)) in
        let (g, at) = slice_get_there C.functions f lt in
        let others : (h : ℕ) → asks (graph S) f h ≡ true → (bs h ≡ opt S h) × NoDrops (opt S h) =
        λ h k.
        (let falls = weight_falls (graph S) (graph_is C rules within) f h lt k in
        let low : w h < r = omega (arith, falls, weighs) in
        let there = asked_below (graph S) (graph_is C rules within) f h k in
        (stays h low (m h) ∙ is_light r h low, (round.after h there low).none)) in
        record {
          fits = put_bare C rules within bs fits f lt g at heavy others;
          refines = put_refines C rules within bs fits f lt g at heavy others;
          after = put_optimises C rules within bs fits f lt g at heavy others;
        }
      where
        stays : (g : ℕ) → w g < r → (bs g ≡ light r g) ⊎ (((w g == r) ≡ true) × (bs g ≡ opt S g)) → bs g ≡ light r g
        stays g low (inl e) = e
        stays g low (inr e) = absurd (let k = e.0 in let is : w g ≡ r = grind (arith, nat_tests) in omega (arith, is, low))

    next_light : (f : ℕ) → (if w f == r then opt S f else light r f) ≡ light (suc r) f
    next_light f = go (let c : (w f < r) ⊎ ((w f ≡ r) ⊎ (r < w f)) = grind arith in c)
      where
        go : (w f < r) ⊎ ((w f ≡ r) ⊎ (r < w f)) → (if w f == r then opt S f else light r f) ≡ light (suc r) f
        go (inl l) =
            let fails : (w f == r) ≡ false = grind (arith, nat_tests) in
            let e : (if w f == r then opt S f else light r f) ≡ light r f = grind arith in
            e ∙ is_light r f l ∙ sym (is_light (suc r) f (omega (arith, l)))
        go (inr (inl s)) =
            let passes : (w f == r) ≡ true = grind (arith, nat_tests) in
            let e : (if w f == r then opt S f else light r f) ≡ opt S f = grind arith in
            e ∙ sym (is_light (suc r) f (omega (arith, s)))
        go (inr (inr l)) =
            let fails : (w f == r) ≡ false = grind (arith, nat_tests) in
            let e : (if w f == r then opt S f else light r f) ≡ light r f = grind arith in
            e ∙ is_heavy r f (omega (arith, l)) ∙ sym (is_heavy (suc r) f (omega (arith, l)))

    next_round : Round (suc r)
    next_round =
        let s = all_replaced Fits After C (light r) (opt S) (λ g. w g == r) opt_step round.fits in
        let same : with_bodies C (λ f. if w f == r then opt S f else light r f) ≡ with_bodies C (light (suc r)) = same_bodies C (λ f. if w f == r then opt S f else light r f) (light (suc r)) (λ f h. next_light f) in
        record {
          fits = subst Fits same s.fits;
          refines = refines_trans (with_bodies C (light (suc r))) (with_bodies C (light r)) (with_bodies C (elab S)) (subst (λ c. Refines c (with_bodies C (light r))) same s.refines) round.refines;
          after = λ f lt h. elim (let c : (w f < r) ⊎ (w f ≡ r) = grind arith in c) [ inl l ↦ round.after f lt l | inr e ↦ s.after f lt (grind (arith, nat_tests)) ];
        }

  rounds : (r : ℕ) → Round r
  rounds zero =
      let e = elaborates C rules within tupled in
      let same : with_bodies C (elab S) ≡ with_bodies C (light zero) = same_bodies C (elab S) (light zero) (λ f h. sym (is_heavy zero f (omega arith))) in
      let bare : Bare C (with_bodies C (elab S)) = record { stays = e.fits; free = free_all C (elab S) (λ f low. e.after f low refl) } in
      record {
        fits = subst Fits same bare;
        refines = subst (λ c. Refines c (with_bodies C (elab S))) same (refines_refl (with_bodies C (elab S)));
        after = λ f lt h. absurd (omega (arith, h));
      }
  rounds (suc r) = next_round r (rounds r)

  top : ℕ
  top = suc (length C.functions * suc (length C.functions) + length C.functions)

  is_low : (f : ℕ) → f < length C.functions → w f < top
  unfolding top w
  is_low f lt = let k = weight_few (graph S) (graph_is C rules within) f lt in omega (arith, k)

  all_light : with_bodies C (light top) ≡ with_bodies C (opt S)
  all_light = same_bodies C (light top) (opt S) (λ f lt. is_light top f (is_low f lt))

  pub optimises : (f : ℕ) → f < length C.functions → Optimises C rules within f
  optimises f lt = (rounds top).after f lt (is_low f lt)

  pub opt_bare : Bare C (opt_crate C)
  opt_bare = subst Fits all_light (rounds top).fits

  pub opt_refines : Refines (opt_crate C) C
  opt_refines =
      let last = subst (λ c. Refines c (with_bodies C (elab S))) all_light (rounds top).refines in
      let first = subst (Refines (with_bodies C (prom S))) (own_bodies C) (cleaned C rules within).refines in
      refines_trans (with_bodies C (opt S)) (with_bodies C (elab S)) C last
      (refines_trans (with_bodies C (elab S)) (with_bodies C (prom S)) C (elaborates C rules within tupled).refines first)
