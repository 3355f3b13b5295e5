-- One body is optimised in its place, where the bodies that it takes stand in theirs and no body holds a `drop`.
use Rattle.std.proofs.Common.{◌≡◌, ◌≢◌, ◌⊎◌, inl, inr, refl, sym, ap, ◌∙◌, subst, ℕ, suc, ◌<◌, ◌≤◌, true, ◌++◌, List, [], length, length-append, take, Option, Some, None, slice_get, arith}
use Rattle.std.proofs.lemmas.List.{take-append-le}
use Rattle.std.proofs.lemmas.Option.{slice_get_past}
use Rattle.bit_rows.specs.Rows.{stands}
use Rattle.mir_syntax.specs.Crate.{TypedBody, TypedFunction, Crate}
use Rattle.mir_syntax.specs.Shapes.{Shape, shapes_of}
use Rattle.mir_semantics.specs.Refines.{Refines}
use Rattle.mir_rules.specs.Calls.{AddsNoCall}
use Rattle.mir_rules.specs.Drops.{NoDrops}
use Rattle.mir_rules.specs.Valid.{Valid, Within, with_body, at_function, ValidAt}
use Rattle.mir_rules.proofs.Terminators.{slice_get_there}
use Rattle.mir_rules.proofs.ValidCrates.{args_below, body_formed_at}
use Rattle.mir_relate.proofs.Refine.{refines_trans}
use Rattle.sched_core.specs.State.{upd}
use Rattle.sched_core.proofs.Upd.{upd_same, upd_other, upd_tells, upd_at}
use Rattle.call_graph.specs.Callees.{callees}
use Rattle.call_graph.specs.Graph.{IsGraph, asks}
use Rattle.call_graph.proofs.Once.{both}
use Rattle.call_graph.proofs.Falls.{asked_below}
use Rattle.call_graph.proofs.Told.{in_order, not_itself}
use Rattle.cfg_simplify.specs.Simple.{simple}
use Rattle.inline_pass.specs.Spliced.{kept_local, fits, spliced}
use Rattle.inline_pass.specs.Lent.{DropFree, Lent}
use Rattle.inline_pass.proofs.Bodies.{Site, inlined_body}
use Rattle.inline_pass.proofs.Rounds.{keeps_all}
use Rattle.inline_pass.proofs.Terms.{spliced_no_drops}
use Rattle.inline_pass.proofs.Whole.{valid_in_place, refines_in_place}
use Rattle.pass_order.specs.Passes.{after_passes}
use Rattle.query_plan.specs.Queries.{Pipeline, elab, graph, callees_of, taken, inlined, optimised, opt}
use Rattle.pass_order.specs.Bodies.{body_or_none, with_bodies}
use Rattle.pass_order.specs.OptCrate.{pipeline}
use Rattle.pass_order.specs.Fits.{FitsAt}
use Rattle.pass_order.proofs.Order.{passes_keep}
use Rattle.pass_order.proofs.Fits.{fits_again}
use Rattle.query_plan.proofs.Outs.{opt_is}
use Rattle.query_plan.proofs.Calls.{taken_is}
use Rattle.pass_order.proofs.compose.Bodies.{Bodies, same_bodies, stands_there, comes_from}
use Rattle.pass_order.proofs.compose.Places.{Sound, is_there, valid, itself, Put, put, passed_fits, passed_refines, passed_no_drops, passed_calls}
use Rattle.pass_order.proofs.compose.Places as place
use Rattle.pass_order.proofs.compose.Phases.{cleaned}

-- ---- the header of a body in which calls are replaced

module _ (takes : ℕ → Option TypedBody) (b : TypedBody) (args_in : b.args < length b.locals) where
  pub record Begins (c : TypedBody) : Type 0 where
    pub args : c.args ≡ b.args
    pub start : take (suc b.args) c.locals ≡ take (suc b.args) b.locals
    pub long : suc b.args ≤ length c.locals

  begins_again : (c : TypedBody) → Begins c → (s : Site c) (h : TypedBody) → takes s.called.0 ≡ Some h → fits (inlined_body c s h) ≡ true → Begins (inlined_body c s h)
  begins_again c i s h q fit =
      let others = h.locals ++ kept_local h.locals s.dest in
      record {
        args = i.args;
        start = take-append-le (suc b.args) c.locals others i.long ∙ i.start;
        long = (let l = i.long in omega (arith, l, length-append c.locals others));
      }

  pub spliced_begins : Begins (spliced takes b)
  spliced_begins = keeps_all takes Begins begins_again b (record { args = refl; start = refl; long = omega (arith, args_in) })

-- ---- bodies without `drop`

module _ (C : Crate) where
  pub free_all : (bs : Bodies) → ((f : ℕ) → f < length C.functions → NoDrops (bs f)) → DropFree (with_bodies C bs)
  free_all bs none = record { bodies = λ j n e. let (low, is) = comes_from C bs j n e in subst NoDrops (sym is) (none j low) }

  pub free_at : (bs : Bodies) → DropFree (with_bodies C bs) → (f : ℕ) → f < length C.functions → NoDrops (bs f)
  free_at bs free f low = let (g, at) = slice_get_there C.functions f low in free.bodies f (with_body g (bs f)) (stands_there C bs f g at)

  free_put : (bs : Bodies) (f : ℕ) (c : TypedBody) → DropFree (with_bodies C bs) → NoDrops c → DropFree (with_bodies C (upd bs f c))
  free_put bs f c free none = free_all (upd bs f c) (λ j low. upd_at bs f c NoDrops j (λ e. none) (λ ne. free_at bs free j low))

  set_again : (bs : Bodies) (f : ℕ) (b c : TypedBody) → with_bodies C (upd (upd bs f b) f c) ≡ with_bodies C (upd bs f c)
  set_again bs f b c = same_bodies C (upd (upd bs f b) f c) (upd bs f c) (λ g h. go g (upd_tells (upd bs f b) f c g))
    where
      go : (g : ℕ) → ((g ≡ f) × (upd (upd bs f b) f c g ≡ c)) ⊎ ((g ≢ f) × (upd (upd bs f b) f c g ≡ upd bs f b g)) → upd (upd bs f b) f c g ≡ upd bs f c g
      go g (inl e) = e.1 ∙ sym (subst (λ (x : ℕ). upd bs f c x ≡ c) (sym e.0) (upd_same bs f c))
      go g (inr e) = e.1 ∙ upd_other bs f b g e.0 ∙ sym (upd_other bs f c g e.0)

  pub record Bare (K : Crate) : Type 0 where
    pub stays : Sound C K
    pub free : DropFree K

module _ (C : Crate) (rules : Valid C) (within : Within C) where
  abbrev D : List Shape
  D = shapes_of C

  abbrev S : Pipeline TypedBody
  S = pipeline C

  -- past the last function nothing is called
  past : (f : ℕ) → length C.functions ≤ f → callees_of (pipeline C) f ≡ []
  unfolding callees
  past f l = ap (λ o. callees (shapes_of C) (simple (body_or_none o))) (slice_get_past C.functions f l)

  pub graph_is : IsGraph (graph (pipeline C))
  graph_is = in_order C (callees_of (pipeline C)) below
    where
      below : (f g : ℕ) → stands g (callees_of (pipeline C) f) ≡ true → g < length C.functions
      below f g h = elim (let c : (f < length C.functions) ⊎ (length C.functions ≤ f) = grind arith in c) [
        | inl low ↦ ((cleaned C rules within).after f low refl).below g h
        | inr l ↦ absurd (let k : stands g [] ≡ true = subst (λ xs. stands g xs ≡ true) (past f l) h in cc)
      ]

  -- what is shown of each optimised body, and of the body in which its calls are replaced
  pub record Optimises (f : ℕ) : Type 0 where
    pub none : NoDrops (opt (pipeline C) f)
    pub between : NoDrops (inlined (pipeline C) (opt (pipeline C)) f)
    pub calls : AddsNoCall (optimised (pipeline C) (opt (pipeline C)) f) (inlined (pipeline C) (opt (pipeline C)) f)

  module _ (bs : Bodies) (bare : Bare C (with_bodies C bs)) (f : ℕ) (low : f < length C.functions) (g : TypedFunction) (at : slice_get C.functions f ≡ Some g) (own : bs f ≡ elab (pipeline C) f)
      (others : (h : ℕ) → asks (graph (pipeline C)) f h ≡ true → (bs h ≡ opt (pipeline C) h) × NoDrops (opt (pipeline C) h)) where
    abbrev X : Crate
    X = with_bodies C bs

    abbrev fn : TypedFunction
    fn = with_body g (bs f)

    abbrev takes : ℕ → Option TypedBody
    takes = taken (pipeline C) (opt (pipeline C)) f

    none_here : NoDrops (bs f)
    none_here = free_at C bs bare.free f low

    not_own : takes f ≡ None
    not_own = go (takes f) refl
      where
        go : (o : Option TypedBody) → takes f ≡ o → o ≡ None
        go None e = refl
        go (Some c) e = absurd (both (asks (graph (pipeline C)) f f) (taken_is (pipeline C) (opt (pipeline C)) f f c e).0 (not_itself (graph (pipeline C)) graph_is f low))

    lends : Lent X f takes
    lends = record {
      other = not_own;
      stands = λ h c e.
          (let (asked, is) = taken_is (pipeline C) (opt (pipeline C)) f h c e in
          let (n, there) = slice_get_there C.functions h (asked_below (graph (pipeline C)) graph_is f h asked) in
          (with_body n (bs h), stands_there C bs h n there, (others h asked).0 ∙ is));
    }

    taken_none : (h : ℕ) (c : TypedBody) → takes h ≡ Some c → NoDrops c
    taken_none h c e = let (asked, is) = taken_is (pipeline C) (opt (pipeline C)) f h c e in subst NoDrops is (others h asked).1

    -- ---- calls are replaced

    abbrev half : TypedBody
    half = spliced takes (bs f)

    abbrev v : ValidAt X f (bs f)
    v = valid C bs bare.stays f g at

    lends_here : Lent (at_function X f fn (bs f)) f takes
    lends_here = subst (λ K. Lent K f takes) (sym (itself C bs bare.stays f g at)) lends

    half_refines : Refines (at_function X f fn half) X
    half_refines =
        subst (Refines (at_function X f fn half)) (itself C bs bare.stays f g at)
        (refines_in_place X f (bs f) v takes lends_here (subst DropFree (sym (itself C bs bare.stays f g at)) bare.free))

    half_fits : FitsAt X f fn half
    half_fits =
        let long = args_below X (bs f) (body_formed_at X bare.stays.rules f fn (is_there C bs bare.stays f g at)) in
        let begins = spliced_begins takes (bs f) long in
        fits_again X f fn (bs f) half (place.fits C bs bare.stays f g at) (valid_in_place X f (bs f) v takes lends_here) begins.args begins.start

    half_put : Put C bs bare.stays f g at half
    half_put = put C bs bare.stays f g at half half_fits half_refines

    half_none : NoDrops half
    half_none = spliced_no_drops takes (bs f) none_here taken_none

    -- ---- then the other steps

    mid : Bodies
    mid = upd bs f half

    mid_is : mid f ≡ half
    unfolding mid
    mid_is = upd_same bs f half

    mid_sound : Sound C (with_bodies C mid)
    unfolding mid
    mid_sound = half_put.stays

    mid_none : NoDrops (mid f)
    mid_none = subst NoDrops (sym mid_is) half_none

    whole_put : Put C mid mid_sound f g at (after_passes (shapes_of C) (mid f))
    whole_put = put C mid mid_sound f g at (after_passes (shapes_of C) (mid f)) (passed_fits C mid mid_sound f g at after_passes passes_keep) (passed_refines C mid mid_sound f g at after_passes passes_keep mid_none)

    -- ---- and that is the optimised body

    half_is : half ≡ inlined (pipeline C) (opt (pipeline C)) f
    unfolding inlined
    half_is = ap (spliced takes) own

    whole_is : after_passes (shapes_of C) half ≡ opt (pipeline C) f
    unfolding optimised
    whole_is = ap (after_passes (shapes_of C)) half_is ∙ sym (opt_is (pipeline C) graph_is f low)

    placed : with_bodies C (upd mid f (after_passes (shapes_of C) (mid f))) ≡ with_bodies C (upd bs f (opt (pipeline C) f))
    unfolding mid
    placed = set_again C bs f half (after_passes (shapes_of C) (mid f)) ∙ ap (λ b. with_bodies C (upd bs f b)) (ap (after_passes (shapes_of C)) mid_is ∙ whole_is)

    whole_none : NoDrops (opt (pipeline C) f)
    whole_none = subst NoDrops (ap (after_passes (shapes_of C)) mid_is ∙ whole_is) (passed_no_drops C mid mid_sound f g at after_passes passes_keep mid_none)

    whole_calls : AddsNoCall (after_passes (shapes_of C) half) half
    whole_calls = subst (λ b. AddsNoCall (after_passes (shapes_of C) b) b) mid_is (passed_calls C mid mid_sound f g at after_passes passes_keep)

    pub put_bare : Bare C (with_bodies C (upd bs f (opt (pipeline C) f)))
    put_bare = record { stays = subst (Sound C) placed whole_put.stays; free = free_put C bs f (opt (pipeline C) f) bare.free whole_none }

    pub put_refines : Refines (with_bodies C (upd bs f (opt (pipeline C) f))) (with_bodies C bs)
    unfolding mid
    put_refines =
        refines_trans (with_bodies C (upd bs f (opt (pipeline C) f))) (with_bodies C mid) (with_bodies C bs)
        (subst (λ K. Refines K (with_bodies C mid)) placed whole_put.refines) half_put.refines

    pub put_optimises : Optimises f
    unfolding optimised
    put_optimises = record {
      none = whole_none;
      between = subst NoDrops half_is half_none;
      calls = subst (λ b. AddsNoCall (after_passes (shapes_of C) b) b) half_is whole_calls;
    }
