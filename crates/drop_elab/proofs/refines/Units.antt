-- A visit of a place outside of units against the plan of the units there: a dead unit is a hole and is skipped, a static one is none and its
-- glue begins, and at a conditional one the flag tells.
use Rattle.std.proofs.Common.{◌≡◌, ◌⊎◌, inl, inr, refl, sym, ap, ap₂, ◌∙◌, subst, ℕ, suc, ◌<◌, Bool, true, false, ◌||◌, List, [], ◌∷◌, ◌++◌, length, Option, Some, None, is_some, slice_get, arith}
use Rattle.mir_syntax.specs.declared.body.Place.{Place}
use Rattle.mir_syntax.specs.Tree.{Tree, scalar, empty, more, named}
use Rattle.mir_syntax.specs.Tree as tree
use Rattle.mir_syntax.specs.Crate.{TypedBody}
use Rattle.mir_syntax.specs.Shapes.{Shape, ◌>>=◌, struct_fields, needs_drop, destructor_of, place_ty}
use Rattle.mir_rules.specs.DefinitionRules.{holds}
use Rattle.mir_rules.specs.Weights.{nodes, units}
use Rattle.mir_semantics.specs.Values.{Value, number, nil, cons, variant, pointer, hole, is_hole}
use Rattle.mir_semantics.specs.Memory.{Memory, local_at, value_at}
use Rattle.mir_semantics.specs.Step.{Code, Visit, Dropping, Control, State, Next, field_visits, visits_of, shape_visits, work_on, visit, visit_unless, visit_if}
use Rattle.mir_syntax.proofs.Binds.{bind_some, some_bind}
use Rattle.mir_renaming.proofs.Types.{TypeMap, HasTy, holds_by}
use Rattle.mir_relate.specs.Simulation.{moves}
use Rattle.drop_elab.specs.Plan.{Plan, done, guarded, clear}
use Rattle.drop_elab.specs.Elab.{Status, dead, static, conditional, cleared, plan_unit, typed_glue}
use Rattle.drop_elab.proofs.refines.Places.{At}
use Rattle.drop_elab.proofs.refines.Runs.{one_move}
use Rattle.drop_elab.proofs.refines.Machine.{on_at, run_guarded}
use Rattle.drop_elab.proofs.refines.Items.{IsTuple, Proper, ProperShapes, place_of, inner_plan}
use Rattle.drop_elab.proofs.refines.Near.{Over, Near, Plain}
use Rattle.drop_elab.proofs.refines.Weights.{weigh, nodes_there, weigh_fields, struct_visits, struct_lighter}
use Rattle.drop_elab.proofs.refines.Visits.{C2, Slots, Visited, visited, visit_none, none_bind, no_scalar, no_ref, no_ref_mut}
use Rattle.drop_elab.proofs.refines.Outer.{Marks, holds_unit, unit_in_ty, plan_at, outer_units, outer_plan, outer_append, tuple_outer, struct_outer, nothing_outer, nothing_units, destructor_outer, enum_outer, no_units}

module _ (low : ℕ) (C1 : Code) (bodies2 : List TypedBody) (body2 : TypedBody) (apart : (d : ℕ) → holds C1.shapes (length C1.shapes) d d ≡ false) (proper : ProperShapes C1.shapes) (locals : List Tree) (marks : Marks) where
  abbrev D : List Shape
  D = C1.shapes

  abbrev pub Target : Code
  Target = C2 low C1 bodies2 body2 apart proper

  abbrev pub outer : List Visit → Plan
  outer os = outer_plan Plan D (plan_at D locals marks) os done

  -- a flag is a local of the target that the source hasn't
  abbrev pub IsFlag : ℕ → Type 0
  IsFlag x = (t : Tree) × (slice_get body2.locals x ≡ Some t) × (slice_get locals x ≡ None)

  -- what comes after the glue of a unit: its flag, if it has one, becomes false, and then come the other units
  abbrev pub Tail : Option ℕ → Plan → List Plan → List Visit → Type 0
  Tail None tail after os = (after ≡ []) × (tail ≡ outer os)
  Tail (Some x) tail after os = IsFlag x × (((after ≡ []) × (tail ≡ clear x (outer os))) ⊎ ((after ≡ outer os ∷ []) × (tail ≡ clear x done)))

  module _ (flags_there : (q : Place) (x : ℕ) → marks.flag q ≡ Some x → IsFlag x) (s2 : State) (c2 : Control) (is2 : slice_get bodies2 c2.function ≡ Some body2) (own : Over) (m2 m1 : Memory) (near : Near own c2.frame m2 m1) (slots : Slots low C1 bodies2 body2 apart proper c2.frame m2) where
    abbrev pub unit_ty : Tree → Bool
    unit_ty t = unit_in_ty D t

    or_true : (a : Bool) → (a || true) ≡ true
    or_true true = refl
    or_true false = refl

    destructor_none : (sh : Shape) (dd : ℕ) → slice_get D dd ≡ Some sh → sh.destructor ≡ None → destructor_of D (named dd) ≡ None
    destructor_none sh dd e none = some_bind (λ s. s.destructor) e none

    -- what is known of a unit at its visit
    abbrev pub KnownUnit : TypeMap → Visit → Value → Status → Type 0
    KnownUnit G i v dead = is_hole v ≡ true
    KnownUnit G i v static = is_hole v ≡ false
    KnownUnit G i v conditional = (x : ℕ) × (marks.flag (place_of i.addr) ≡ Some x) × (((local_at m2 c2.frame x ≡ Some (number 0)) × (is_hole v ≡ true)) ⊎ ((n : ℕ) × (local_at m2 c2.frame x ≡ Some (number (suc n))) × (is_hole v ≡ false)))

    module _ (s1 : State) (d : Dropping) (others : List Visit) (x : Next) where
      -- a hole stands at a unit
      abbrev pub Gone : Visit → Type 0
      Gone i = (unit_ty i.ty ≡ true) × ((v : Value) × (value_at m1 i.addr ≡ Some v) × (is_hole v ≡ true))

      -- there is no unit, the unit is gone, or the parts come instead
      abbrev pub Went : Visit → List Visit → Type 0
      Went i vs = ((vs ≡ []) × (units D i.ty ≡ [])) ⊎ (((vs ≡ []) × Gone i) ⊎ ((unit_ty i.ty ≡ false) × ((v : Value) × (vs ≡ visits_of D i.addr i.ty v))))

      -- the target stands still
      abbrev pub Still : Visit → List Visit → Type 0
      Still i os = (vs : List Visit) × Went i vs × (work_on D s1 s1.top d (vs ++ others) ≡ Some x) × (outer (i ∷ os) ≡ outer (vs ++ os)) × (weigh D vs < nodes D i.ty)

      -- the flag is false, and the unit a hole
      abbrev pub Skips : Visit → List Visit → ℕ → ℕ → ℕ → Type 0
      Skips i os b at s = Gone i × (work_on D s1 s1.top d others ≡ Some x) × ((j : ℕ) × (moves Target 1 (on_at s2 c2 m2 b at) ≡ Some (on_at s2 c2 m2 j 0)) × At low body2 j 0 (outer os ∷ []) s)

      -- the glue begins
      abbrev pub Enters : Visit → List Visit → ℕ → ℕ → ℕ → Type 0
      Enters i os b at s = (needs_drop D i.ty ≡ true) × (unit_ty i.ty ≡ true) × ((v : Value) × (value_at m1 i.addr ≡ Some v) × (is_hole v ≡ false)) × (tail : Plan) × (after : List Plan) × Tail (marks.flag (place_of i.addr)) tail after os × ((k j a : ℕ) × (moves Target k (on_at s2 c2 m2 b at) ≡ Some (on_at s2 c2 m2 j a)) × At low body2 j a (inner_plan D apart proper (i ∷ []) tail ∷ after) s × Visited low C1 bodies2 body2 apart proper s2 c2 is2 own m2 m1 near slots s1 d others x i [] tail after j a s)

      abbrev pub OuterVisited : Visit → List Visit → ℕ → ℕ → ℕ → Type 0
      OuterVisited i os b at s = Still i os ⊎ (Skips i os b at s ⊎ Enters i os b at s)

      -- a tuple or a struct without a destructor is no hole
      solid_tuple : (G : TypeMap) (t : Tree) (v : Value) → IsTuple t → HasTy D G t v → is_hole v ≡ false
      solid_tuple G empty hole tu h = absurd (grind arith)
      solid_tuple G (more t ts) hole tu h = absurd (grind arith)
      solid_tuple G t (number n) tu h = refl
      solid_tuple G t nil tu h = refl
      solid_tuple G t (cons v vs) tu h = refl
      solid_tuple G t (variant k v) tu h = refl
      solid_tuple G t (pointer a) tu h = refl
      solid_tuple G t v tu h = absurd tu

      solid_struct : (G : TypeMap) (dd : ℕ) (sh : Shape) (v : Value) → slice_get D dd ≡ Some sh → sh.is_enum ≡ false → sh.destructor ≡ None → HasTy D G (named dd) v → is_hole v ≡ false
      solid_struct G dd sh hole e en none h = absurd (let z : holds_by (slice_get D dd) ≡ false = ap holds_by e ∙ ap₂ (λ a o. a || is_some o) en none in grind arith)
      solid_struct G dd sh (number n) e en none h = refl
      solid_struct G dd sh nil e en none h = refl
      solid_struct G dd sh (cons v vs) e en none h = refl
      solid_struct G dd sh (variant k v) e en none h = refl
      solid_struct G dd sh (pointer a) e en none h = refl

      module _ (G : TypeMap) (i : Visit) (os : List Visit) (b at s : ℕ) (pr : Proper i.ty) (em : s1.memory ≡ m1) (q : i.addr.frame ≡ own.frame) (plain : Plain i.addr.path) (ty : place_ty D locals (place_of i.addr) ≡ Some i.ty) (h : At low body2 b at (outer (i ∷ os) ∷ []) s) where
        -- a unit
        unit_visit : (nd : needs_drop D i.ty ≡ true) (un : unit_ty i.ty ≡ true) (v : Value) → value_at m1 i.addr ≡ Some v → HasTy D G i.ty v → KnownUnit G i v (marks.status (place_of i.addr)) → (visit_if C1 s1 d i others (needs_drop D i.ty) ≡ Some x) → visit_unless C1 s1 d i others v (is_hole v) ≡ Some x → outer (i ∷ os) ≡ plan_at D locals marks (place_of i.addr) (outer os) → OuterVisited i os b at s
        unfolding visit_unless
        unit_visit nd un v ev tv known e w same = by_status (marks.status (place_of i.addr)) refl
          where
            f : Option ℕ
            f = marks.flag (place_of i.addr)

            -- the plan of the unit, of this status and flag
            unit_plan : Status → Option ℕ → Plan
            unit_plan st o = plan_unit D locals (record { unit = place_of i.addr; flag = o }) st (outer os)

            glued : (rest : Plan) → typed_glue D (place_of i.addr) (place_ty D locals (place_of i.addr)) rest ≡ inner_plan D apart proper (i ∷ []) rest
            glued rest = ap (λ o. typed_glue D (place_of i.addr) o rest) ty

            begins : (k j a : ℕ) (tail : Plan) (after : List Plan) → Tail f tail after os → is_hole v ≡ false → moves Target k (on_at s2 c2 m2 b at) ≡ Some (on_at s2 c2 m2 j a) → At low body2 j a (inner_plan D apart proper (i ∷ []) tail ∷ after) s → OuterVisited i os b at s
            begins k j a tail after tl live mv h' = inr (inr (nd, un, (v, ev, live), tail, after, tl, (k, j, a, mv, h', visited low C1 bodies2 body2 apart proper s2 c2 is2 own m2 m1 near slots s1 d others x G i [] tail after j a s pr (λ _ u eu. (let z : v ≡ u = grind arith in subst (λ u. HasTy D G i.ty u × (is_hole u ≡ false)) z (tv, live))) em q plain e h')))

            flag_tail : (o : Option ℕ) → f ≡ o → Tail o (cleared o (outer os)) [] os
            flag_tail None fo = (refl, refl)
            flag_tail (Some y) fo = (flags_there (place_of i.addr) y fo, inl (refl, refl))

            by_status : (st : Status) → marks.status (place_of i.addr) ≡ st → OuterVisited i os b at s
            by_status dead es =
                let gone : is_hole v ≡ true = subst (KnownUnit G i v) es known in
                inl ([], inr (inl (refl, (un, (v, ev, gone)))), subst (λ y. visit_unless C1 s1 d i others v y ≡ Some x) gone w, same ∙ ap (λ st. unit_plan st f) es, nodes_there D i.ty)
            by_status static es =
                let live : is_hole v ≡ false = subst (KnownUnit G i v) es known in
                begins 0 b at (cleared f (outer os)) [] (flag_tail f refl) live refl (subst (λ p. At low body2 b at (p ∷ []) s) (same ∙ ap (λ st. unit_plan st f) es ∙ glued (cleared f (outer os))) h)
            by_status conditional es = by_flag (subst (KnownUnit G i v) es known)
              where
                by_flag : KnownUnit G i v conditional → OuterVisited i os b at s
                by_flag (y, fo, known') =
                    let plan : outer (i ∷ os) ≡ guarded y (inner_plan D apart proper (i ∷ []) (clear y done)) (outer os) = same ∙ ap₂ unit_plan es fo ∙ ap (λ p. guarded y p (outer os)) (glued (clear y done)) in
                    let h' : At low body2 b at (guarded y (inner_plan D apart proper (i ∷ []) (clear y done)) (outer os) ∷ []) s = subst (λ p. At low body2 b at (p ∷ []) s) plan h in
                    to y fo h' known'
                  where
                    to : (y : ℕ) → f ≡ Some y → At low body2 b at (guarded y (inner_plan D apart proper (i ∷ []) (clear y done)) (outer os) ∷ []) s → (((local_at m2 c2.frame y ≡ Some (number 0)) × (is_hole v ≡ true)) ⊎ ((n : ℕ) × (local_at m2 c2.frame y ≡ Some (number (suc n))) × (is_hole v ≡ false))) → OuterVisited i os b at s
                    to y fo h' (inl (fl, gone)) =
                        let (j, st, at') = run_guarded low Target body2 s2 c2 is2 m2 b at s y 0 (inner_plan D apart proper (i ∷ []) (clear y done)) (outer os) [] fl h' in
                        inr (inl ((un, (v, ev, gone)), subst (λ y. visit_unless C1 s1 d i others v y ≡ Some x) gone w, (j, one_move Target _ _ st, at')))
                    to y fo h' (inr (n, fl, live)) =
                        let (j, st, at') = run_guarded low Target body2 s2 c2 is2 m2 b at s y (suc n) (inner_plan D apart proper (i ∷ []) (clear y done)) (outer os) [] fl h' in
                        begins 1 j 0 (clear y done) (outer os ∷ []) (subst (λ o. Tail o (clear y done) (outer os ∷ []) os) (sym fo) (flags_there (place_of i.addr) y fo, inr (refl, refl))) live (one_move Target _ _ st) at'

        plainly : (v : Value) → is_hole v ≡ false → destructor_of D i.ty ≡ None → visit_unless C1 s1 d i others v (is_hole v) ≡ Some x → work_on D s1 s1.top d (visits_of D i.addr i.ty v ++ others) ≡ Some x
        unfolding visit_unless
        plainly v live none w = visit_none C1 s1 d i others v x (subst (λ o. visit C1 s1 d i others v o ≡ Some x) none (subst (λ y. visit_unless C1 s1 d i others v y ≡ Some x) live w))

        skipped : (v : Value) → is_hole v ≡ true → visit_unless C1 s1 d i others v (is_hole v) ≡ Some x → work_on D s1 s1.top d others ≡ Some x
        unfolding visit_unless
        skipped v gone w = subst (λ y. visit_unless C1 s1 d i others v y ≡ Some x) gone w

        -- any place outside of units; what is known is asked of units alone
        pub outer_visited : (needs_drop D i.ty ≡ true → (v : Value) → value_at m1 i.addr ≡ Some v → HasTy D G i.ty v × (unit_ty i.ty ≡ true → KnownUnit G i v (marks.status (place_of i.addr)))) → visit_if C1 s1 d i others (needs_drop D i.ty) ≡ Some x → OuterVisited i os b at s
        unfolding visit_if
        outer_visited known e = by_need (needs_drop D i.ty) refl e
          where
            no_unit : needs_drop D i.ty ≡ false → outer (i ∷ os) ≡ outer os
            no_unit n = ap (λ us. outer_units Plan D (plan_at D locals marks) (place_of i.addr) us (outer os)) (no_units Plan D (plan_at D locals marks) apart proper i.ty n)

            -- fields come instead
            fields_come : (t : Tree) (v : Value) → i.ty ≡ t → unit_ty t ≡ false → is_hole v ≡ false → destructor_of D t ≡ None → (vs : List Visit) → visits_of D i.addr t v ≡ vs → visit_unless C1 s1 d i others v (is_hole v) ≡ Some x → outer (i ∷ os) ≡ outer (vs ++ os) → weigh D vs < nodes D t → OuterVisited i os b at s
            fields_come t v et nu live none vs vt w same lt = inl (vs, inr (inr (ap unit_ty et ∙ nu, (v, sym (ap (λ t. visits_of D i.addr t v) et ∙ vt)))), subst (λ us. work_on D s1 s1.top d (us ++ others) ≡ Some x) (ap (λ t. visits_of D i.addr t v) et ∙ vt) (plainly v live (ap (destructor_of D) et ∙ none) w), same, subst (λ t. weigh D vs < nodes D t) (sym et) lt)

            by_type : (v : Value) → value_at m1 i.addr ≡ Some v → HasTy D G i.ty v → (unit_ty i.ty ≡ true → KnownUnit G i v (marks.status (place_of i.addr))) → needs_drop D i.ty ≡ true → visit_unless C1 s1 d i others v (is_hole v) ≡ Some x → (t : Tree) → i.ty ≡ t → OuterVisited i os b at s
            by_type v ev tv kn n w (more t ts) et =
                let pt : Proper (more t ts) = subst Proper et pr in
                fields_come (more t ts) v et refl (solid_tuple G (more t ts) v tt (subst (λ t. HasTy D G t v) et tv)) refl (field_visits i.addr 0 (more t ts)) refl w (ap (λ t. outer_units Plan D (plan_at D locals marks) (place_of i.addr) (units D t) (outer os)) et ∙ tuple_outer Plan D (plan_at D locals marks) i.addr (more t ts) (outer os) tt pt ∙ sym (outer_append Plan D (plan_at D locals marks) (field_visits i.addr 0 (more t ts)) os done)) (weigh_fields D apart proper i.addr 0 (more t ts) tt pt)
            by_type v ev tv kn n w empty et = fields_come empty v et refl (solid_tuple G empty v tt (subst (λ t. HasTy D G t v) et tv)) refl [] refl w (ap (λ t. outer_units Plan D (plan_at D locals marks) (place_of i.addr) (units D t) (outer os)) et ∙ tuple_outer Plan D (plan_at D locals marks) i.addr empty (outer os) tt tt) (nodes_there D empty)
            by_type v ev tv kn n w (named dd) et = by_shape (slice_get D dd) refl
              where
                units_are : outer (i ∷ os) ≡ outer_units Plan D (plan_at D locals marks) (place_of i.addr) (units D (named dd)) (outer os)
                units_are = ap (λ t. outer_units Plan D (plan_at D locals marks) (place_of i.addr) (units D t) (outer os)) et

                is_unit_here : (sh : Shape) → slice_get D dd ≡ Some sh → (sh.is_enum || is_some sh.destructor) ≡ true → unit_ty i.ty ≡ true
                is_unit_here sh es u = ap unit_ty et ∙ ap holds_unit es ∙ u

                by_kind : (sh : Shape) → slice_get D dd ≡ Some sh → (o : Option ℕ) → sh.destructor ≡ o → (en : Bool) → sh.is_enum ≡ en → OuterVisited i os b at s
                by_kind sh es (Some g) eo en ee = unit_visit n (is_unit_here sh es (ap (λ o. sh.is_enum || is_some o) eo ∙ or_true sh.is_enum)) v ev tv (kn (is_unit_here sh es (ap (λ o. sh.is_enum || is_some o) eo ∙ or_true sh.is_enum))) e w (units_are ∙ destructor_outer Plan D (plan_at D locals marks) apart proper sh dd g i.addr (outer os) es eo)
                by_kind sh es None eo true ee = unit_visit n (is_unit_here sh es (ap (λ a. a || is_some sh.destructor) ee)) v ev tv (kn (is_unit_here sh es (ap (λ a. a || is_some sh.destructor) ee))) e w (units_are ∙ enum_outer Plan D (plan_at D locals marks) apart proper sh dd i.addr (outer os) es eo ee (ap (needs_drop D) (sym et) ∙ n))
                by_kind sh es None eo false ee =
                    fields_come (named dd) v et (ap holds_unit es ∙ ap₂ (λ a o. a || is_some o) ee eo) (solid_struct G dd sh v es ee eo (subst (λ t. HasTy D G t v) et tv)) (destructor_none sh dd es eo) (field_visits i.addr 0 (struct_fields sh)) (struct_visits D apart proper sh dd i.addr v es ee) w
                    (units_are ∙ struct_outer Plan D (plan_at D locals marks) apart proper sh dd i.addr (outer os) es ee eo ∙ sym (outer_append Plan D (plan_at D locals marks) (field_visits i.addr 0 (struct_fields sh)) os done))
                    (subst (λ vs. weigh D vs < nodes D (named dd)) (struct_visits D apart proper sh dd i.addr v es ee) (struct_lighter D apart proper sh dd i.addr v es ee))

                by_shape : (o : Option Shape) → slice_get D dd ≡ o → OuterVisited i os b at s
                by_shape None eo = nothing (is_hole v) refl
                  where
                    same : outer (i ∷ os) ≡ outer os
                    same = units_are ∙ nothing_outer Plan D (plan_at D locals marks) apart proper dd i.addr (outer os) eo

                    empty_units : units D i.ty ≡ []
                    empty_units = ap (units D) et ∙ nothing_units Plan D (plan_at D locals marks) apart proper dd eo

                    none_here : destructor_of D i.ty ≡ None
                    none_here = ap (destructor_of D) et ∙ ap (λ o. o >>= λ s. s.destructor) eo ∙ none_bind

                    nothing : (y : Bool) → is_hole v ≡ y → OuterVisited i os b at s
                    nothing true ey = inl ([], inl (refl, empty_units), skipped v y_true w, same, nodes_there D i.ty)
                      where
                        y_true : is_hole v ≡ true
                        y_true = ey
                    nothing false ey = inl ([], inl (refl, empty_units), subst (λ us. work_on D s1 s1.top d (us ++ others) ≡ Some x) (ap (λ t. visits_of D i.addr t v) et ∙ ap (λ o. shape_visits i.addr o v) eo) (plainly v ey none_here w), same, nodes_there D i.ty)
                by_shape (Some sh) eo = by_kind sh eo sh.destructor refl sh.is_enum refl
            by_type v ev tv kn n w (scalar t) et = absurd (no_scalar D t (subst (λ t. needs_drop D t ≡ true) et n))
            by_type v ev tv kn n w (tree.ref t) et = absurd (no_ref D t (subst (λ t. needs_drop D t ≡ true) et n))
            by_type v ev tv kn n w (tree.ref_mut t) et = absurd (no_ref_mut D t (subst (λ t. needs_drop D t ≡ true) et n))

            by_need : (n : Bool) → needs_drop D i.ty ≡ n → visit_if C1 s1 d i others n ≡ Some x → OuterVisited i os b at s
            by_need false n w = inl ([], inl (refl, no_units Plan D (plan_at D locals marks) apart proper i.ty n), w, no_unit n, nodes_there D i.ty)
            by_need true n w =
                let (v, ev, k) = bind_some w in
                let ev' : value_at m1 i.addr ≡ Some v = subst (λ m. value_at m i.addr ≡ Some v) em ev in
                let (tv, kn) = known n v ev' in
                by_type v ev' tv kn n k i.ty refl
