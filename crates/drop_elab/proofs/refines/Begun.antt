-- The first step of a drop in a frame of the elaborated function, over the layer.
use Rattle.std.proofs.Common.{◌≡◌, inl, inr, refl, sym, ap, ◌∙◌, subst, ℕ, ◌≤◌, true, false, List, [], ◌∷◌, ◌++◌, length, map, drop, Some, None, slice_get, arith}
use Rattle.mir_syntax.specs.declared.body.Place.{Place}
use Rattle.mir_syntax.specs.declared.body.Term.TheVariants.{Drop}
use Rattle.mir_syntax.specs.Tree.{Tree}
use Rattle.mir_syntax.specs.Crate.{TypedBlock, TypedBody}
use Rattle.mir_syntax.specs.Shapes.{Shape, path_ty, place_ty, needs_drop}
use Rattle.mir_rules.specs.DefinitionRules.{holds}
use Rattle.mir_rules.specs.Weights.{units}
use Rattle.mir_semantics.specs.Step.{Visit, Dropping, State, Next, visit_if, work_off, step}
use Rattle.mir_renaming.proofs.Types.{AddrTy}
use Rattle.mir_renaming.proofs.Typed.{Typed}
use Rattle.mir_renaming.proofs.Items.{Drops, OwnDrop}
use Rattle.move_paths.specs.Effects.{in_local}
use Rattle.drop_elab.specs.Elab.{Inits, statuses_at, lay_end, with_settings}
use Rattle.drop_elab.specs.Plan.{Plan, done, Laid, lay}
use Rattle.mir_relate.specs.Frames.{Change, Pass, Below}
use Rattle.mir_relate.specs.Pass.{Valids, FrameLaws, Answers, Related}
use Rattle.mir_relate.proofs.Rest.{drop_none}
use Rattle.drop_elab.proofs.refines.Places.{Stands}
use Rattle.drop_elab.proofs.refines.Propers.{direct_proper}
use Rattle.drop_elab.proofs.refines.Items.{Proper, ProperShapes}
use Rattle.drop_elab.proofs.refines.Outer.{outer_units, plan_at}
use Rattle.drop_elab.proofs.refines.Weights.{weigh}
use Rattle.drop_elab.proofs.refines.Sound.{Has, SoundBefore}
use Rattle.drop_elab.proofs.refines.Begins.{kept_units, units_in, kept_are}
use Rattle.drop_elab.proofs.refines.Bodies.{block_of, elab_block}
use Rattle.drop_elab.proofs.refines.Stand as stand
use Rattle.drop_elab.proofs.refines.Stand.{held}
use Rattle.drop_elab.proofs.refines.Stages as stages
use Rattle.drop_elab.proofs.refines.Ended as ended
use Rattle.drop_elab.proofs.refines.Ends as ends
use Rattle.drop_elab.proofs.refines.Steps as steps
use Rattle.drop_elab.proofs.refines.Begin.{direct_plain, begun_state, if_same, list_units, first_step_is}

module _ (X : Change) (inits : Inits) (apart : (d : ℕ) → holds X.source.shapes (length X.source.shapes) d d ≡ false) (proper : ProperShapes X.source.shapes) (proper_locals : (x : ℕ) (t : Tree) → slice_get X.body1.locals x ≡ Some t → Proper t) (S : stages.Sorted X inits apart proper) (edges : ended.Edges X inits apart proper proper_locals S) (at2 : slice_get X.bodies X.f ≡ Some (stand.E X inits apart proper)) (V : Valids X) (Inv : State → Type 0) (inv_begun : (s : State) (d : Dropping) → Inv s → Typed X.source V.valid1 (begun_state s d) → Inv (begun_state s d)) (frames : FrameLaws X (stand.pass X inits apart proper) V Inv) (n : ℕ) (s2 s1 : State) (r : Related X (stand.pass X inits apart proper) V Inv n s2 s1) (be : Below X (stand.pass X inits apart proper) r.core.lent s2.top.dest s1.top.dest s2.top.frame s1.top.frame s2.callers s1.callers s2.memory s1.memory) (fr : stand.Frame X inits apart proper r.core.lent s2.top s1.top s2.memory s1.memory) (st : stand.Stated X inits apart proper s2.top s1.top s2.memory s1.memory) (wn : n ≡ stand.number_of X inits apart proper s1.top.block) (k : TypedBlock) (p : Place) (t : ℕ) (ek : slice_get X.body1.blocks s1.top.block ≡ Some k) (none : slice_get k.stmts s1.top.at ≡ None) (term : k.term ≡ Drop p t) where
  abbrev D : List Shape
  D = X.source.shapes

  abbrev E : TypedBody
  E = stand.E X inits apart proper

  abbrev low : ℕ
  low = stand.low X inits apart proper

  abbrev us : List Place
  us = stand.us X inits apart proper

  abbrev P : Pass
  P = stand.pass X inits apart proper

  eb : slice_get X.source.bodies s1.top.function ≡ Some X.body1
  eb = ap (slice_get X.source.bodies) fr.function1 ∙ X.at1

  -- of the place of the drop, with its type
  module _ (ty lt : Tree) (pt : place_ty D X.body1.locals p ≡ Some ty) (el : slice_get X.body1.locals p.local ≡ Some lt) (ep : path_ty D lt p.proj ≡ Some ty) where
    abbrev I : Visit
    I = record { addr = stand.addr_at X inits apart proper s1.top.frame p; ty = ty }

    abbrev d : Dropping
    d = record { place = I; target = t; items = I ∷ [] }

    prt : Proper ty
    prt = direct_proper X.source.shapes proper p.proj lt ty (proper_locals p.local lt el) (edges.direct s1.top.block k p t lt ek term el).0 ep

    same_units : kept_units p us ≡ stand.left X inits apart proper (I ∷ [])
    same_units =
        let (di, th) = edges.direct s1.top.block k p t lt ek term el in
        units_in D p p.local 0 X.body1.locals lt (omega arith) el ∙ ap (map (in_local p.local)) (kept_are D apart proper p.proj lt ty (proper_locals p.local lt el) ep di th) ∙ list_units D p (units D ty)

    has_none : (u : Place) → Has {A = Place} [] u → ⊥
    has_none u (i, e) = grind arith

    -- the target stands at the plan
    k2_is : (l b : ℕ) × (low ≤ l) × (slice_get E.blocks s1.top.block ≡ Some (block_of D X.body1 us (stand.fs X inits apart proper) inits s1.top.block k l b)) × Stands E l b (lay_end D X.body1.locals (stand.fs X inits apart proper) (statuses_at us inits s1.top.block k) k.term l b)
    k2_is = elab_block D X.body1 inits s1.top.block k ek

    working : stand.Working X inits apart proper s1.top.block k None [] (I ∷ []) s2.top.block s2.top.at t
    working =
        let (l0, b0, le0, e2, s0) = k2_is in
        let (end, es, ((l, b, le, ee, te, sn), more')) = st.here k (block_of D X.body1 us (stand.fs X inits apart proper) inits s1.top.block k l0 b0) ek e2 in
        let laid : end ≡ lay (steps_plan) l b t = ee ∙ ap (λ t. lay_end D X.body1.locals (stand.fs X inits apart proper) (statuses_at us inits s1.top.block k) t l b) term ∙ ap (λ q. lay q l b t) (edges.plan s1.top.block k p t lt ty ek term el ep) in
        let es' : drop s2.top.at (block_of D X.body1 us (stand.fs X inits apart proper) inits s1.top.block k l0 b0).stmts ≡ end.stmts = es ∙ ap (λ ss. with_settings (stand.fs X inits apart proper) ss ++ end.stmts) (drop_none k.stmts s1.top.at none) in
        ([], [], steps_plan, [], (refl, refl), refl, (l, b, t, le, (block_of D X.body1 us (stand.fs X inits apart proper) inits s1.top.block k l0 b0, ap (slice_get E.blocks) st.block ∙ e2, es' ∙ ap (λ (e : Laid). e.stmts) laid, te ∙ ap (λ (e : Laid). e.term) laid), subst (λ (e : Laid). Stands E l b e) laid sn, (refl, refl)))
      where
        steps_plan : Plan
        steps_plan = outer_units Plan D (plan_at D X.body1.locals (stand.marks_at X inits apart proper s1.top.block k)) p (units D ty) done

    sound : SoundBefore X.source.shapes X.body1 s1.top.block k [] (held s1.memory s1.top.frame)
    sound =
        let (l0, b0, le0, e2, s0) = k2_is in
        let (end, es, (en, so)) = st.here k (block_of D X.body1 us (stand.fs X inits apart proper) inits s1.top.block k l0 b0) ek e2 in
        subst (λ ss. SoundBefore X.source.shapes X.body1 s1.top.block k ss (held s1.memory s1.top.frame)) (drop_none k.stmts s1.top.at none) so

    dropped : stand.Dropped X inits apart proper k p d None [] (I ∷ []) s2.top (begun_state s1 d).top s2.memory s1.memory
    dropped = record {
      is = refl;
      block = ek;
      ends = none;
      term = term;
      addr = refl;
      ty = pt;
      items = refl;
      inside = tt;
      outside = (record { frame = refl; known = (lt, el); plain = direct_plain p.proj (edges.direct s1.top.block k p t lt ek term el).0; fine = prt }, tt);
      done = [];
      split = same_units;
      zero = λ u x h e. absurd (has_none u h);
      right = λ u x h e. st.says u x (S.kept p u (subst (λ ws. Has ws u) (sym same_units) h)).0 e;
      current = λ x e. absurd (grind arith);
      others = λ u x h n e. st.says u x h e;
      sound = sound;
    }

    typed : Typed X.source V.valid1 (begun_state s1 d)
    typed =
        let at : AddrTy D r.typed1.types (stand.addr_at X inits apart proper s1.top.frame p) ty = record { local = lt; is = r.typed1.top.locals X.body1 eb p.local lt el; path = ep } in
        record { types = r.typed1.types; mem = r.typed1.mem; top = record { locals = r.typed1.top.locals; dest = r.typed1.top.dest; dropping = (at, (at, tt)) }; callers = r.typed1.callers; fresh = r.typed1.fresh }

    owned : Drops X.source (begun_state s1 d)
    owned = record { top = λ d' q. subst (OwnDrop X.source (record s1.top { dropping = Some d })) (let z : d ≡ d' = grind arith in z) (X.body1, p.local, lt, eb, el, (refl, refl), ((refl, refl), tt)); callers = r.drops.callers }

    number_is : n ≡ weigh D (I ∷ [])
    number_is = wn ∙ ap (stand.block_weight X inits apart proper) ek ∙ ap (stand.term_weight X inits apart proper) term ∙ ap (stand.ty_weight X inits apart proper) pt

    related : Related X (stand.pass X inits apart proper) V Inv n s2 (begun_state s1 d)
    related = record {
      core = record {
        lent = r.core.lent;
        base = record { fresh1 = r.core.base.fresh1; fresh2 = r.core.base.fresh2; top1 = r.core.base.top1; top2 = r.core.base.top2; answers = r.core.base.answers; trace = r.core.base.trace };
        linked = r.core.linked;
        runs = inr (
          [],
          s1.callers,
          refl,
          omega arith,
          (
            refl,
            λ G mt lk s. record {
              control = s2.top;
              memory = s2.memory;
              count = 0;
              comes = refl;
              same = (refl, refl);
              past = steps.past_refl X inits apart proper proper_locals S at2 s2.top.frame s2.memory;
              frame = frame1;
              ready = inr (inl (k, p, d, None, [], I ∷ [], dropped, number_is, st.calm2, working));
            },
          ),
          be,
        );
      };
      typed1 = typed;
      typed2 = r.typed2;
      drops = owned;
      dests = r.dests;
      inv = inv_begun s1 d r.inv typed;
    }
      where
        frame1 : stand.Frame X inits apart proper r.core.lent s2.top (record s1.top { dropping = Some d }) s2.memory s1.memory
        frame1 = steps.frame_past X inits apart proper proper_locals S at2 r.core.lent s2.top s2.top s1.top (record s1.top { dropping = Some d }) s2.memory s2.memory s1.memory refl refl refl refl (steps.past_refl X inits apart proper proper_locals S at2 s2.top.frame s2.memory) fr

    -- the drop has begun on the source's side, in a state that steps likewise
    begun_answers : (x : Next) → visit_if X.source s1 d I [] (needs_drop D ty) ≡ Some x → Answers X P n s2 x
    unfolding work_off related
    begun_answers x e =
        steps.drop_answers X inits apart proper proper_locals S at2 V Inv frames n s2 (begun_state s1 d) related be frame2 k p st.calm2
        (ends.ends X inits apart proper proper_locals S edges at2 V Inv frames n s2 (begun_state s1 d) related be frame2 k p st.calm2) d None [] (I ∷ []) x dropped working number_is (to_step (if_same X.source s1 d d I [] (needs_drop D ty) x e))
      where
        frame2 : stand.Frame X inits apart proper r.core.lent s2.top (record s1.top { dropping = Some d }) s2.memory s1.memory
        frame2 = steps.frame_past X inits apart proper proper_locals S at2 r.core.lent s2.top s2.top s1.top (record s1.top { dropping = Some d }) s2.memory s2.memory s1.memory refl refl refl refl (steps.past_refl X inits apart proper proper_locals S at2 s2.top.frame s2.memory) fr

        to_step : visit_if X.source (begun_state s1 d) d I [] (needs_drop D ty) ≡ Some x → step X.source (begun_state s1 d) ≡ Some x
        to_step e = Rattle.drop_elab.proofs.refines.Running.step_of_drop X inits apart proper proper_locals (begun_state s1 d) d k p t x eb ek none term refl e

  -- the first step of a drop
  pub first_answers : (x : Next) → step X.source s1 ≡ Some x → Answers X P n s2 x
  first_answers x e =
      let (di0, e0) = direct_here in
      let (ty, pt, q) = first_step_is X.source X.body1 s1 k p t x eb ek none term st.calm di0 e in
      let (lt, el, ep) = place_parts ty pt in
      begun_answers ty lt pt el ep x q
    where
      place_parts : (ty : Tree) → place_ty D X.body1.locals p ≡ Some ty → (lt : Tree) × (slice_get X.body1.locals p.local ≡ Some lt) × (path_ty D lt p.proj ≡ Some ty)
      place_parts ty pt = (ends.typed_place X inits apart proper proper_locals S edges r.typed1.types s1.top.frame p ty (r.typed1.top.locals X.body1 eb) pt).1

      direct_here : (Rattle.mir_syntax.specs.Parts.is_direct p.proj ≡ true) × (n ≡ n)
      direct_here = (edges.place s1.top.block k p t ek term, refl)
