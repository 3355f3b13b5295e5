-- The first two phases: all bodies are cleaned, and then the drops of all are elaborated.
use Rattle.std.proofs.Common.{◌≡◌, refl, sym, ap, ◌∙◌, subst, ℕ, suc, ◌<◌, ◌≤◌, true, List, length, take, set, Some, slice_get, arith}
use Rattle.std.specs.List.{All}
use Rattle.std.proofs.lemmas.List.{length-set, take-append-le}
use Rattle.bit_rows.specs.Rows.{stands}
use Rattle.mir_syntax.specs.Crate.{TypedBody, TypedFunction, Crate}
use Rattle.mir_syntax.specs.Shapes.{Shape, shapes_of}
use Rattle.mir_semantics.specs.Refines.{Refines}
use Rattle.mir_rules.specs.Drops.{NoDrops}
use Rattle.mir_rules.specs.Limits.{most_in_body, blocks_count, locals_count}
use Rattle.mir_rules.specs.Valid.{Valid, Within, with_body, at_function, Elaborable}
use Rattle.mir_rules.proofs.Terminators.{slice_get_there}
use Rattle.mir_rules.proofs.ValidCrates.{args_below, body_formed_at, holds_body}
use Rattle.sched_core.specs.State.{upd}
use Rattle.call_graph.specs.Callees.{all_called, callees}
use Rattle.call_graph.proofs.Inside.{all_inside}
use Rattle.cfg_simplify.specs.Simple.{simple}
use Rattle.cfg_simplify.proofs.refines.Refined as cleaning
use Rattle.cfg_simplify.proofs.valid.Limits.{simple_blocks_count, simple_locals_count}
use Rattle.drop_elab.specs.Elaborated.{elaborated}
use Rattle.drop_elab.proofs.NoDrop.{no_drop, args_stay, locals_stay}
use Rattle.drop_elab.specs.Tupled.{TypesTupled, FewVariants}
use Rattle.drop_elab.proofs.Elaborated.{is_elab}
use Rattle.drop_elab.proofs.InPlace.{refines_crate, valid_where_few}
use Rattle.drop_elab.proofs.Types.{few_variants}
use Rattle.query_plan.specs.Queries.{Pipeline, prom, elab, callees_of}
use Rattle.pass_order.specs.Bodies.{body_at, with_bodies}
use Rattle.pass_order.specs.OptCrate.{pipeline}
use Rattle.pass_order.specs.Tupled.{BodiesTupled}
use Rattle.pass_order.specs.Fits.{FitsAt}
use Rattle.pass_order.proofs.Order.{simple_keeps}
use Rattle.pass_order.proofs.Fits.{as_valid, shapes_fit, fits_again, fits_after}
use Rattle.pass_order.proofs.Alone.{blocks_counted, locals_counted}
use Rattle.pass_order.proofs.compose.Bodies.{Bodies, own_body, own_bodies, as_many}
use Rattle.pass_order.proofs.compose.Calls.{below_all, listed_called}
use Rattle.pass_order.proofs.compose.Places.{Sound, sound_first, is_there, fits, valid, itself, Put, put}
use Rattle.pass_order.proofs.compose.Replace.{Mixed, Step, Replaced, all_replaced}

-- what a body that fits calls, or may run by a drop, is a function of the crate
fits_calls : (X : Crate) (f : ℕ) (g : TypedFunction) (c : TypedBody) → FitsAt X f g c → (x : ℕ) → stands x (callees (shapes_of X) c) ≡ true → x < length X.functions
fits_calls X f g c h x k =
    let formed = body_formed_at (at_function X f g c) h.valid f (with_body g c) (holds_body X f c (as_valid X f g c h)) in
    let inside = subst (λ (D : List Shape). All (λ x. x < length (set X.functions f (with_body g c))) (all_called D c)) (shapes_fit X f g c h) (all_inside (at_function X f g c) c formed) in
    let low = below_all (length (set X.functions f (with_body g c))) (all_called (shapes_of X) c) inside x (listed_called (shapes_of X) c x k) in
    omega (arith, low, length-set X.functions f (with_body g c))

module _ (C : Crate) (rules : Valid C) (within : Within C) where
  abbrev D : List Shape
  D = shapes_of C

  abbrev P : Pipeline TypedBody
  P = pipeline C

  -- ---- cleaned bodies

  pub record Cleaned (f : ℕ) : Type 0 where
    pub blocks : blocks_count (shapes_of C) (prom (pipeline C) f) ≤ most_in_body
    pub locals : locals_count (shapes_of C) (prom (pipeline C) f) ≤ most_in_body
    pub below : (x : ℕ) → stands x (callees_of (pipeline C) f) ≡ true → x < length C.functions

  module _ (bs : Bodies) (sound : Sound C (with_bodies C bs)) (f : ℕ) (g : TypedFunction) (at : slice_get C.functions f ≡ Some g) where
    abbrev X : Crate
    X = with_bodies C bs

    abbrev fn : TypedFunction
    fn = with_body g (bs f)

    clean_fits : FitsAt X f fn (simple (bs f))
    clean_fits = fits_after X f fn (λ (D : List Shape). simple) simple_keeps (bs f) (fits C bs sound f g at)

    clean_put : Put C bs sound f g at (simple (bs f))
    clean_put =
        put C bs sound f g at (simple (bs f)) clean_fits
        (subst (Refines (at_function X f fn (simple (bs f)))) (itself C bs sound f g at) (cleaning.in_its_place X f (bs f) (valid C bs sound f g at)))

    clean_below : (x : ℕ) → stands x (callees (shapes_of C) (simple (bs f))) ≡ true → x < length C.functions
    clean_below x h =
        let low = fits_calls X f fn (simple (bs f)) clean_fits x (subst (λ (D : List Shape). stands x (callees D (simple (bs f))) ≡ true) (sym sound.shapes) h) in
        omega (arith, low, as_many C bs)

    clean_blocks : blocks_count (shapes_of C) (bs f) ≤ most_in_body → blocks_count (shapes_of C) (simple (bs f)) ≤ most_in_body
    clean_blocks few = let less = simple_blocks_count (shapes_of C) X f (bs f) (valid C bs sound f g at) in omega (arith, few, less)

    clean_locals : locals_count (shapes_of C) (bs f) ≤ most_in_body → locals_count (shapes_of C) (simple (bs f)) ≤ most_in_body
    clean_locals few = let less = simple_locals_count (shapes_of C) X f (bs f) (valid C bs sound f g at) in omega (arith, few, less)

  clean_step : (bs : Bodies) (f : ℕ) → f < length C.functions → true ≡ true → Mixed (Sound C) Cleaned C (body_at C) (prom P) (λ g. true) bs → bs f ≡ body_at C f → Sound C (with_bodies C bs) → Step (Sound C) Cleaned C (body_at C) (prom P) (λ g. true) bs f
  clean_step bs f lt a m own sound =
      let (g, at) = slice_get_there C.functions f lt in
      let read : bs f ≡ g.body = own ∙ own_body C f g at in
      let p = clean_put bs sound f g at in
      record {
        fits = subst (λ (b : TypedBody). Sound C (with_bodies C (upd bs f (simple b)))) own p.stays;
        refines = subst (λ (b : TypedBody). Refines (with_bodies C (upd bs f (simple b))) (with_bodies C bs)) own p.refines;
        after = record {
          blocks = subst (λ (b : TypedBody). blocks_count (shapes_of C) (simple b) ≤ most_in_body) own (clean_blocks bs sound f g at (subst (λ (b : TypedBody). blocks_count (shapes_of C) b ≤ most_in_body) (sym read) (blocks_counted C within f g at)));
          locals = subst (λ (b : TypedBody). locals_count (shapes_of C) (simple b) ≤ most_in_body) own (clean_locals bs sound f g at (subst (λ (b : TypedBody). locals_count (shapes_of C) b ≤ most_in_body) (sym read) (locals_counted C within f g at)));
          below = subst (λ (b : TypedBody). (x : ℕ) → stands x (callees (shapes_of C) (simple b)) ≡ true → x < length C.functions) own (clean_below bs sound f g at);
        };
      }

  pub cleaned : Replaced (Sound C) Cleaned C (body_at C) (prom (pipeline C)) (λ g. true) (prom (pipeline C)) (length C.functions)
  cleaned = all_replaced (Sound C) Cleaned C (body_at C) (prom P) (λ g. true) clean_step (subst (Sound C) (sym (own_bodies C)) (sound_first C rules within))

  -- ---- elaborated bodies

  abbrev pub Elaborates : ℕ → Type 0
  Elaborates f = NoDrops (elab (pipeline C) f)

  -- cleaning keeps the types of locals
  clean_tupled : (b : TypedBody) → TypesTupled (shapes_of C) b → TypesTupled (shapes_of C) (simple b)
  clean_tupled b t = record { fields = t.fields; locals = t.locals }

  module _ (tupled : BodiesTupled C) where
    module _ (bs : Bodies) (sound : Sound C (with_bodies C bs)) (f : ℕ) (g : TypedFunction) (at : slice_get C.functions f ≡ Some g) (few_blocks : blocks_count (shapes_of C) (bs f) ≤ most_in_body) (few_locals : locals_count (shapes_of C) (bs f) ≤ most_in_body) (types : TypesTupled (shapes_of C) (bs f)) where
      abbrev Y : Crate
      Y = with_bodies C bs

      abbrev own_fn : TypedFunction
      own_fn = with_body g (bs f)

      there : slice_get Y.functions f ≡ Some own_fn
      there = is_there C bs sound f g at

      few : Elaborable Y (bs f)
      few = record {
        blocks = subst (λ (D : List Shape). blocks_count D (bs f) ≤ most_in_body) (sym sound.shapes) few_blocks;
        locals = subst (λ (D : List Shape). locals_count D (bs f) ≤ most_in_body) (sym sound.shapes) few_locals;
      }

      types_there : TypesTupled (shapes_of Y) (bs f)
      types_there = subst (λ (D : List Shape). TypesTupled D (bs f)) (sym sound.shapes) types

      variants_there : FewVariants (shapes_of Y)
      variants_there = subst FewVariants (sym sound.shapes) (few_variants C rules within C refl)

      abbrev made : TypedBody
      made = elaborated (shapes_of Y) (bs f)

      made_start : take (suc (bs f).args) made.locals ≡ take (suc (bs f).args) (bs f).locals
      made_start =
          let (others, more) = locals_stay (shapes_of Y) (bs f) made (is_elab (shapes_of Y) (bs f)) in
          let long = args_below Y (bs f) (body_formed_at Y sound.rules f own_fn there) in
          ap (take (suc (bs f).args)) more ∙ take-append-le (suc (bs f).args) (bs f).locals others (omega (arith, long))

      made_fits : FitsAt Y f own_fn made
      made_fits = fits_again Y f own_fn (bs f) made (fits C bs sound f g at) (valid_where_few Y sound.rules f own_fn there types_there variants_there few made (is_elab (shapes_of Y) (bs f))) (args_stay (shapes_of Y) (bs f) made (is_elab (shapes_of Y) (bs f))) made_start

      elab_put : Put C bs sound f g at (elaborated (shapes_of C) (bs f))
      elab_put = subst (λ (D : List Shape). Put C bs sound f g at (elaborated D (bs f))) sound.shapes (put C bs sound f g at made made_fits (refines_crate Y sound.rules f own_fn there types_there variants_there made (is_elab (shapes_of Y) (bs f))))

    elab_step : (bs : Bodies) (f : ℕ) → f < length C.functions → true ≡ true → Mixed (Sound C) Elaborates C (prom P) (elab P) (λ g. true) bs → bs f ≡ prom P f → Sound C (with_bodies C bs) → Step (Sound C) Elaborates C (prom P) (elab P) (λ g. true) bs f
    elab_step bs f lt a m own sound =
        let (g, at) = slice_get_there C.functions f lt in
        let c = cleaned.after f lt refl in
        let few_blocks = subst (λ (b : TypedBody). blocks_count (shapes_of C) b ≤ most_in_body) (sym own) c.blocks in
        let few_locals = subst (λ (b : TypedBody). locals_count (shapes_of C) b ≤ most_in_body) (sym own) c.locals in
        let read : TypesTupled (shapes_of C) (body_at C f) = subst (TypesTupled (shapes_of C)) (sym (own_body C f g at)) (tupled f g at) in
        let types : TypesTupled (shapes_of C) (bs f) = subst (TypesTupled (shapes_of C)) (sym own) (clean_tupled (body_at C f) read) in
        let p = elab_put bs sound f g at few_blocks few_locals types in
        record {
          fits = subst (λ (b : TypedBody). Sound C (with_bodies C (upd bs f (elaborated (shapes_of C) b)))) own p.stays;
          refines = subst (λ (b : TypedBody). Refines (with_bodies C (upd bs f (elaborated (shapes_of C) b))) (with_bodies C bs)) own p.refines;
          after = no_drop (shapes_of C) (prom P f) (elab P f) (is_elab (shapes_of C) (prom P f));
        }

    pub elaborates : Replaced (Sound C) Elaborates C (prom (pipeline C)) (elab (pipeline C)) (λ g. true) (elab (pipeline C)) (length C.functions)
    elaborates = all_replaced (Sound C) Elaborates C (prom P) (elab P) (λ g. true) elab_step cleaned.fits
