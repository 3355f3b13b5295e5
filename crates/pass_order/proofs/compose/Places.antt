-- A crate of which bodies are replaced: it stays valid, its definitions are seen as before, and its bodies stay small.
use Rattle.std.proofs.Common.{◌≡◌, ◌⊎◌, inl, inr, refl, sym, ◌∙◌, subst, ℕ, ◌≤◌, List, length, Some, slice_get}
use Rattle.mir_syntax.specs.Crate.{TypedBody, TypedFunction, Crate}
use Rattle.mir_syntax.specs.Shapes.{Shape, shapes_of}
use Rattle.mir_semantics.specs.Refines.{Refines}
use Rattle.mir_rules.specs.Calls.{AddsNoCall}
use Rattle.mir_rules.specs.Drops.{NoDrops}
use Rattle.mir_rules.specs.Limits.{most_in_body}
use Rattle.mir_rules.specs.Valid.{Valid, Within, with_body, at_function, ValidAt}
use Rattle.mir_rules.proofs.Bodies.{set_cases}
use Rattle.sched_core.specs.State.{upd}
use Rattle.pass_order.specs.Passes.{BodyPass}
use Rattle.pass_order.specs.Fits.{FitsAt}
use Rattle.pass_order.specs.Bodies.{with_bodies}
use Rattle.pass_order.proofs.Keeps.{PassKeeps}
use Rattle.pass_order.proofs.Fits.{as_valid, shapes_fit, fits_after}
use Rattle.pass_order.proofs.Alone.{blocks_within, locals_within}
use Rattle.pass_order.proofs.Crates.{own, own_fits}
use Rattle.pass_order.proofs.compose.Bodies.{Bodies, stands_there, one_replaced}

module _ (C : Crate) where
  pub record Sound (K : Crate) : Type 0 where
    pub rules : Valid K
    pub shapes : shapes_of K ≡ shapes_of C
    pub blocks : (f : ℕ) (g : TypedFunction) → slice_get K.functions f ≡ Some g → length g.body.blocks ≤ most_in_body
    pub locals : (f : ℕ) (g : TypedFunction) → slice_get K.functions f ≡ Some g → length g.body.locals ≤ most_in_body

  pub sound_first : Valid C → Within C → Sound C
  sound_first valid within = record { rules = valid; shapes = refl; blocks = blocks_within C within; locals = locals_within C within }

  sound_at : (K : Crate) (f : ℕ) (g : TypedFunction) (c : TypedBody) → Sound K → FitsAt K f g c → Sound (at_function K f g c)
  sound_at K f g c s h = record {
    rules = h.valid;
    shapes = shapes_fit K f g c h ∙ s.shapes;
    blocks = λ j n e. blocks j n (set_cases K.functions f j (with_body g c) n e);
    locals = λ j n e. locals j n (set_cases K.functions f j (with_body g c) n e);
  }
    where
      blocks : (j : ℕ) (n : TypedFunction) → (n ≡ with_body g c) ⊎ (slice_get K.functions j ≡ Some n) → length n.body.blocks ≤ most_in_body
      blocks j n (inl q) = subst (λ (n : TypedFunction). length n.body.blocks ≤ most_in_body) (sym q) h.blocks
      blocks j n (inr q) = s.blocks j n q

      locals : (j : ℕ) (n : TypedFunction) → (n ≡ with_body g c) ⊎ (slice_get K.functions j ≡ Some n) → length n.body.locals ≤ most_in_body
      locals j n (inl q) = subst (λ (n : TypedFunction). length n.body.locals ≤ most_in_body) (sym q) h.locals
      locals j n (inr q) = s.locals j n q

  -- ---- at a function of a crate with other bodies

  module _ (bs : Bodies) (sound : Sound (with_bodies C bs)) (f : ℕ) (g : TypedFunction) (at : slice_get C.functions f ≡ Some g) where
    abbrev pub K : Crate
    K = with_bodies C bs

    abbrev pub here : TypedFunction
    here = with_body g (bs f)

    pub is_there : slice_get K.functions f ≡ Some here
    is_there = stands_there C bs f g at

    pub fits : FitsAt K f here (bs f)
    fits = own_fits K sound.rules f here is_there (sound.blocks f here is_there) (sound.locals f here is_there)

    abbrev pub valid : ValidAt K f (bs f)
    valid = as_valid K f here (bs f) fits

    pub itself : at_function K f here (bs f) ≡ K
    itself = own K sound.rules f here is_there

    -- another body that fits is put in place
    pub record Put (c : TypedBody) : Type 0 where
      pub stays : Sound (with_bodies C (upd bs f c))
      pub refines : Refines (with_bodies C (upd bs f c)) (with_bodies C bs)

    pub put : (c : TypedBody) → FitsAt K f here c → Refines (at_function K f here c) K → Put c
    put c h r =
        let same = one_replaced C bs f g c at in
        record { stays = subst Sound same (sound_at K f here c sound h); refines = subst (λ X. Refines X K) same r }

    -- ---- a pass that keeps meaning and rules, where the body holds no `drop`

    module _ (pass : BodyPass) (keeps : PassKeeps pass) where
      -- the definitions as the pass sees them
      seen : shapes_of (at_function K f here (bs f)) ≡ shapes_of C
      seen = shapes_fit K f here (bs f) fits ∙ sound.shapes

      pub passed_fits : FitsAt K f here (pass (shapes_of C) (bs f))
      passed_fits = subst (λ (D : List Shape). FitsAt K f here (pass D (bs f))) sound.shapes (fits_after K f here pass keeps (bs f) fits)

      pub passed_refines : NoDrops (bs f) → Refines (at_function K f here (pass (shapes_of C) (bs f))) K
      passed_refines none =
          let r = keeps.laws.refines K f (bs f) valid none in
          let r2 : Refines (at_function K f here (pass (shapes_of C) (bs f))) (at_function K f here (bs f)) = subst (λ (D : List Shape). Refines (at_function K f here (pass D (bs f))) (at_function K f here (bs f))) seen r in
          subst (Refines (at_function K f here (pass (shapes_of C) (bs f)))) itself r2

      pub passed_no_drops : NoDrops (bs f) → NoDrops (pass (shapes_of C) (bs f))
      passed_no_drops none = subst (λ (D : List Shape). NoDrops (pass D (bs f))) seen (keeps.laws.no_drops K f (bs f) valid none)

      pub passed_calls : AddsNoCall (pass (shapes_of C) (bs f)) (bs f)
      passed_calls = subst (λ (D : List Shape). AddsNoCall (pass D (bs f)) (bs f)) seen (keeps.laws.no_calls K f (bs f) valid)
