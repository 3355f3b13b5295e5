-- A visit of a place inside a unit against the glue of that place: what needs no drop and what has no destructor leaves the target where it
-- stands; of an enum the target chooses an arm; a destructor is called by both.
use Rattle.std.proofs.Common.{◌≡◌, ◌⊎◌, inl, inr, refl, sym, ap, ap₂, ◌∙◌, subst, ℕ, suc, ◌+◌, ◌<◌, ◌≤◌, Bool, true, false, if◌then◌else◌, List, [], ◌∷◌, ◌++◌, length, Option, Some, None, slice_get, arith}
use Rattle.mir_syntax.specs.declared.body.Place.{Place}
use Rattle.mir_syntax.specs.Tree.{Tree, scalar, empty, more, named}
use Rattle.mir_syntax.specs.Tree as tree
use Rattle.mir_syntax.specs.Crate.{TypedBody}
use Rattle.mir_syntax.specs.Shapes.{Shape, ◌>>=◌, variant_ty, variant_of_enum, struct_fields, needs_drop, destructor_of}
use Rattle.mir_rules.specs.DefinitionRules.{holds}
use Rattle.mir_rules.specs.Weights.{nodes}
use Rattle.mir_semantics.specs.Values.{Addr, Value, number, nil, cons, variant, pointer, hole, is_hole}
use Rattle.mir_semantics.specs.Memory.{Memory, local_at, value_at}
use Rattle.mir_semantics.specs.Step.{Code, Visit, Dropping, Control, State, Next, Here, local_addr, resolve, field_visits, visits_of, shape_visits, work_on, visit, visit_unless, visit_if, enter, step}
use Rattle.mir_syntax.proofs.Binds.{bind_some, some_bind}
use Rattle.mir_renaming.proofs.Types.{TypeMap, HasTy, some_eq}
use Rattle.mir_relate.specs.Simulation.{moves}
use Rattle.drop_elab.specs.Plan.{Plan, done, destroy, choose, arm, guarded, clear, part, glue_from, arms_of, chosen, glue_inside, glue_shape, glue_of, glue}
use Rattle.drop_elab.proofs.refines.Places.{At, Armed, arm_at, with_arm}
use Rattle.drop_elab.proofs.refines.Runs.{here_at, Beyond}
use Rattle.drop_elab.proofs.refines.Machine.{place_in, on_at, dest_in, run_destroy, run_choose}
use Rattle.drop_elab.proofs.refines.Glue.{of_def, glue_named}
use Rattle.drop_elab.proofs.refines.Items.{IsTuple, Proper, ProperShapes, place_of, inner_plan, inner_append, fields_plan, no_need, arms_armed, arm_for, arm_is, struct_inside, payload_visits, arm_plans}
use Rattle.drop_elab.proofs.refines.Near.{Over, over, Near, Plain, walk_down, value_near, variant_near}
use Rattle.drop_elab.proofs.refines.Weights.{weigh, nodes_there, weigh_fields, struct_visits, variant_is, struct_lighter, variant_lighter}

-- there are arms, or none
arms_or_not : (q : Place) (arms rest : Plan) → Armed arms → (arms ≡ done) ⊎ (chosen q arms rest ≡ choose q arms rest)
arms_or_not q done rest h = inl refl
arms_or_not q (arm k p as') rest h = inr refl
arms_or_not q (destroy p t g r) rest h = absurd h
arms_or_not q (choose p a r) rest h = absurd h
arms_or_not q (guarded x p r) rest h = absurd h
arms_or_not q (clear x r) rest h = absurd h

pub none_bind : ◌≡◌ {A = Option ℕ} (◌>>=◌ {A = Shape} None (λ s. s.destructor)) None
unfolding ◌>>=◌
none_bind = refl

pub visit_none : (C : Code) (s : State) (d : Dropping) (i : Visit) (others : List Visit) (v : Value) (x : Next) → visit C s d i others v None ≡ Some x → work_on C.shapes s s.top d (visits_of C.shapes i.addr i.ty v ++ others) ≡ Some x
unfolding visit
visit_none C s d i others v x e = e

pub no_scalar : (D : List Shape) (t : _) → needs_drop D (scalar t) ≡ true → ⊥
unfolding needs_drop
no_scalar D t e = grind arith

pub no_ref : (D : List Shape) (t : Tree) → needs_drop D (tree.ref t) ≡ true → ⊥
unfolding needs_drop
no_ref D t e = grind arith

pub no_ref_mut : (D : List Shape) (t : Tree) → needs_drop D (tree.ref_mut t) ≡ true → ⊥
unfolding needs_drop
no_ref_mut D t e = grind arith

module _ (low : ℕ) (C1 : Code) (bodies2 : List TypedBody) (body2 : TypedBody) (apart : (d : ℕ) → holds C1.shapes (length C1.shapes) d d ≡ false) (proper : ProperShapes C1.shapes) where
  abbrev pub C2 : Code
  C2 = record C1 { bodies = bodies2 }

  abbrev D : List Shape
  D = C1.shapes

  abbrev pub Slots : ℕ → Memory → Type 0
  Slots f m = (y : ℕ) (u : Tree) → slice_get body2.locals y ≡ Some u → (o : Value) × (local_at m f y ≡ Some o)

  abbrev plan_of : List Visit → Plan → Plan
  plan_of = inner_plan D apart proper

  -- the value's variant is one of the definition's
  abbrev pub InShape : ℕ → Value → Type 0
  InShape d (variant k v) = (u : Tree) × (variant_ty D (named d) k ≡ Some u)
  InShape d _ = ⊥

  module _ (s2 : State) (c2 : Control) (is2 : slice_get bodies2 c2.function ≡ Some body2) (own : Over) (m2 m1 : Memory) (near : Near own c2.frame m2 m1) (slots : Slots c2.frame m2) where
    abbrev H2 : Here
    H2 = here_at D body2.locals c2.frame

    -- the target resolves the place to the address in its own frame
    pub resolves : (a : Addr) (v : Value) → a.frame ≡ own.frame → Plain a.path → value_at m1 a ≡ Some v → resolve H2 m2 (place_of a) ≡ Some (over c2.frame a)
    unfolding resolve local_addr
    resolves a v q plain e =
        let (w, f, _) = value_near own c2.frame m2 m1 near a v q e in
        walk_down m2 c2.frame a.local [] a.path w plain f

    -- where the target then stands: at the plan of what comes in front, that ends alone, or that goes on with the rest
    abbrev pub Ahead : ℕ → List Visit → List Visit → Plan → List Plan → ℕ → Type 0
    Ahead j vs is rest ps s = At low body2 j 0 (plan_of vs done ∷ plan_of is rest ∷ ps) s ⊎ At low body2 j 0 (plan_of (vs ++ is) rest ∷ ps) s

    abbrev pub Moved : ℕ → ℕ → List Visit → List Visit → Plan → List Plan → ℕ → Type 0
    Moved i at vs is rest ps s = (j : ℕ) × (m' : Memory) × (moves C2 2 (on_at s2 c2 m2 i at) ≡ Some (on_at s2 c2 m' j 0)) × Beyond c2.frame low m2 m' × Ahead j vs is rest ps s

    -- what is inside an enum
    enum_ahead : (sh : Shape) (d k : ℕ) (w : Value) (t : Tree) (a : Addr) (is : List Visit) (rest : Plan) (ps : List Plan) (i at s : ℕ) → slice_get D d ≡ Some sh → sh.is_enum ≡ true → slice_get sh.variants k ≡ Some t → a.frame ≡ own.frame → Plain a.path → value_at m1 a ≡ Some (variant k w) → At low body2 i at (glue_inside D (of_def D apart) sh (place_of a) (plan_of is rest) ∷ ps) s → (glue_inside D (of_def D apart) sh (place_of a) (plan_of is rest) ≡ plan_of (visits_of D a (named d) (variant k w) ++ is) rest) ⊎ Moved i at (visits_of D a (named d) (variant k w)) is rest ps s
    enum_ahead sh d k w t a is rest ps i at s e en et q plain ev h = go (arms_or_not (place_of a) arms X (arms_armed D apart proper (place_of a) 0 sh.variants))
      where
        X : Plan
        X = plan_of is rest

        arms : Plan
        arms = arms_of D (of_def D apart) (place_of a) 0 sh.variants

        vs : List Visit
        vs = visits_of D a (named d) (variant k w)

        vs_are : vs ≡ payload_visits D apart proper a k t
        vs_are = variant_is D apart proper sh d a k w t e en et

        inside : glue_inside D (of_def D apart) sh (place_of a) X ≡ chosen (place_of a) arms X
        inside = ap (λ b. if b then chosen (place_of a) arms X else glue_from (of_def D apart) (place_of a) 0 (struct_fields sh) X) en

        found : arm_at k arms ≡ arm_for D apart proper (place_of a) k t (needs_drop D t)
        found = let z : 0 + k ≡ k = omega arith in subst (λ n. arm_at n arms ≡ arm_for D apart proper (place_of a) n t (needs_drop D t)) z (arm_is D apart proper (place_of a) 0 k sh.variants t et)

        -- no arm, no glue
        none_armed : arms ≡ done → (b : Bool) → needs_drop D t ≡ b → X ≡ plan_of (vs ++ is) rest
        none_armed gone true n = absurd (let z : None ≡ Some (glue_from (of_def D apart) (part (place_of a) (Rattle.mir_syntax.specs.declared.body.Proj.TheVariants.Downcast k)) 0 t done) = sym (ap (arm_at k) gone) ∙ found ∙ ap (arm_for D apart proper (place_of a) k t) n in grind arith)
        none_armed gone false n = sym (inner_append D apart proper vs is rest ∙ ap (λ vs. plan_of vs X) vs_are ∙ empty_payload (arm_plans D apart proper sh d a k t X ps e et false n))
          where
            empty_payload : (with_arm (arm_for D apart proper (place_of a) k t false) (X ∷ ps) ≡ plan_of (payload_visits D apart proper a k t) done ∷ X ∷ ps) ⊎ (with_arm (arm_for D apart proper (place_of a) k t false) (X ∷ ps) ≡ plan_of (payload_visits D apart proper a k t) X ∷ ps) → plan_of (payload_visits D apart proper a k t) X ≡ X
            empty_payload (inl z) = absurd (let y = ap length z in omega (arith, y))
            empty_payload (inr z) = let y : X ≡ plan_of (payload_visits D apart proper a k t) X = grind arith in sym y

        ahead : (j : ℕ) → At low body2 j 0 (with_arm (arm_at k arms) (X ∷ ps)) s → Ahead j vs is rest ps s
        ahead j at' = pick (arm_plans D apart proper sh d a k t X ps e et (needs_drop D t) refl)
          where
            here : At low body2 j 0 (with_arm (arm_for D apart proper (place_of a) k t (needs_drop D t)) (X ∷ ps)) s
            here = subst (λ o. At low body2 j 0 (with_arm o (X ∷ ps)) s) found at'

            pick : (with_arm (arm_for D apart proper (place_of a) k t (needs_drop D t)) (X ∷ ps) ≡ plan_of (payload_visits D apart proper a k t) done ∷ X ∷ ps) ⊎ (with_arm (arm_for D apart proper (place_of a) k t (needs_drop D t)) (X ∷ ps) ≡ plan_of (payload_visits D apart proper a k t) X ∷ ps) → Ahead j vs is rest ps s
            pick (inl z) = inl (subst (λ us. At low body2 j 0 (plan_of us done ∷ X ∷ ps) s) (sym vs_are) (subst (λ qs. At low body2 j 0 qs s) z here))
            pick (inr z) = inr (subst (λ p. At low body2 j 0 (p ∷ ps) s) (sym (inner_append D apart proper vs is rest)) (subst (λ us. At low body2 j 0 (plan_of us X ∷ ps) s) (sym vs_are) (subst (λ qs. At low body2 j 0 qs s) z here)))

        go : (arms ≡ done) ⊎ (chosen (place_of a) arms X ≡ choose (place_of a) arms X) → (glue_inside D (of_def D apart) sh (place_of a) X ≡ plan_of (vs ++ is) rest) ⊎ Moved i at vs is rest ps s
        go (inl gone) = inl (inside ∙ ap (λ as'. chosen (place_of a) as' X) gone ∙ none_armed gone (needs_drop D t) refl)
        go (inr some) =
            let h' : At low body2 i at (choose (place_of a) arms X ∷ ps) s = subst (λ p. At low body2 i at (p ∷ ps) s) (inside ∙ some) h in
            let (j, m', mv, by, at') = run_choose low C2 body2 s2 c2 is2 m2 i at s k (place_of a) (over c2.frame a) (variant_near own c2.frame m2 m1 near a k w q ev).0 arms X ps (arms_armed D apart proper (place_of a) 0 sh.variants) (resolves a (variant k w) q plain ev) (variant_near own c2.frame m2 m1 near a k w q ev).1 slots h' in
            inr (j, m', mv, by, ahead j at')

    -- ---- what is inside a place, of an enum or a struct, with its destructor returned or without one

    abbrev IsLive : TypeMap → Tree → Value → Type 0
    IsLive G t v = HasTy D G t v × (is_hole v ≡ false)

    enum_value : (G : TypeMap) (sh : Shape) (d : ℕ) (v : Value) → slice_get D d ≡ Some sh → sh.is_enum ≡ true → IsLive G (named d) v → (k : ℕ) × (w : Value) × (t : Tree) × (v ≡ variant k w) × (slice_get sh.variants k ≡ Some t)
    enum_value G sh d (variant k w) e en ((u, f, h), l) =
        let (x, f1, f2) = bind_some f in
        let y : x ≡ sh = some_eq D G x sh (slice_get D d) f1 e in
        (k, w, u, refl, sym (ap (λ b. if b then slice_get sh.variants k else None) en) ∙ subst (λ x. variant_of_enum k x ≡ Some u) y f2)
    enum_value G sh d hole e en (h, l) = absurd (grind arith)
    enum_value G sh d (number n) e en (h, l) = absurd (grind arith)
    enum_value G sh d (pointer a) e en ((u, f, h), l) = absurd (grind arith)
    enum_value G sh d nil e en (h, l) = absurd (no_fields G sh d empty e en h)
      where
        no_fields : (G : TypeMap) (sh : Shape) (d : ℕ) (us : Tree) → slice_get D d ≡ Some sh → sh.is_enum ≡ true → Rattle.mir_syntax.specs.Shapes.fields_of D (named d) ≡ Some us → ⊥
        no_fields G sh d us e en f = let (x, f1, f2) = bind_some f in let y : x ≡ sh = some_eq D G x sh (slice_get D d) f1 e in let z : None ≡ Some us = sym (ap (λ b. if b then None else Some (struct_fields sh)) en) ∙ subst (λ x. Rattle.mir_syntax.specs.Shapes.fields_of_struct x ≡ Some us) y f2 in grind arith
    enum_value G sh d (cons x xs) e en ((u, us, f, h, hs), l) = absurd (no_fields G sh d (more u us) e en f)
      where
        no_fields : (G : TypeMap) (sh : Shape) (d : ℕ) (us : Tree) → slice_get D d ≡ Some sh → sh.is_enum ≡ true → Rattle.mir_syntax.specs.Shapes.fields_of D (named d) ≡ Some us → ⊥
        no_fields G sh d us e en f = let (x, f1, f2) = bind_some f in let y : x ≡ sh = some_eq D G x sh (slice_get D d) f1 e in let z : None ≡ Some us = sym (ap (λ b. if b then None else Some (struct_fields sh)) en) ∙ subst (λ x. Rattle.mir_syntax.specs.Shapes.fields_of_struct x ≡ Some us) y f2 in grind arith

    abbrev pub Inside : Shape → ℕ → Addr → Value → List Visit → Plan → List Plan → ℕ → ℕ → ℕ → Type 0
    Inside sh d a v is rest ps i at s = ((glue_inside D (of_def D apart) sh (place_of a) (plan_of is rest) ≡ plan_of (visits_of D a (named d) v ++ is) rest) × (weigh D (visits_of D a (named d) v) < nodes D (named d))) ⊎ Moved i at (visits_of D a (named d) v) is rest ps s

    pub inside_ahead : (G : TypeMap) (sh : Shape) (d : ℕ) (a : Addr) (v : Value) (is : List Visit) (rest : Plan) (ps : List Plan) (i at s : ℕ) → slice_get D d ≡ Some sh → (sh.is_enum ≡ true → (value_at m1 a ≡ Some v) × IsLive G (named d) v) → a.frame ≡ own.frame → Plain a.path → At low body2 i at (glue_inside D (of_def D apart) sh (place_of a) (plan_of is rest) ∷ ps) s → Inside sh d a v is rest ps i at s
    inside_ahead G sh d a v is rest ps i at s e live q plain h = go sh.is_enum refl
      where
        of_enum : sh.is_enum ≡ true → (k : ℕ) (w : Value) (t : Tree) → v ≡ variant k w → slice_get sh.variants k ≡ Some t → Inside sh d a v is rest ps i at s
        of_enum en k w t vk et = subst (λ v. Inside sh d a v is rest ps i at s) (sym vk) (pick (enum_ahead sh d k w t a is rest ps i at s e en et q plain (subst (λ v. value_at m1 a ≡ Some v) vk (live en).0) h))
          where
            pick : (glue_inside D (of_def D apart) sh (place_of a) (plan_of is rest) ≡ plan_of (visits_of D a (named d) (variant k w) ++ is) rest) ⊎ Moved i at (visits_of D a (named d) (variant k w)) is rest ps s → Inside sh d a (variant k w) is rest ps i at s
            pick (inl z) = inl (z, variant_lighter D apart proper sh d a k w t e en et)
            pick (inr z) = inr z

        go : (b : Bool) → sh.is_enum ≡ b → Inside sh d a v is rest ps i at s
        go true en = let (k, w, t, vk, et) = enum_value G sh d v e en (live en).1 in of_enum en k w t vk et
        go false en = inl (struct_inside D apart proper sh d a (plan_of is rest) e en ∙ ap (λ vs. plan_of vs (plan_of is rest)) (sym (struct_visits D apart proper sh d a v e en)) ∙ sym (inner_append D apart proper (visits_of D a (named d) v) is rest), struct_lighter D apart proper sh d a v e en)

    -- ---- a visit

    module _ (s1 : State) (d : Dropping) (others : List Visit) (x : Next) where
      -- parts of the place, or none
      abbrev pub Parts : Visit → List Visit → Type 0
      Parts i vs = (vs ≡ []) ⊎ ((v : Value) × (vs ≡ visits_of D i.addr i.ty v))

      -- the target stands still, and there is less to visit
      abbrev pub Still : Visit → List Visit → Plan → Type 0
      Still i is rest = (vs : List Visit) × Parts i vs × (work_on D s1 s1.top d (vs ++ others) ≡ Some x) × (plan_of (i ∷ is) rest ≡ plan_of (vs ++ is) rest) × (weigh D vs < nodes D i.ty)

      abbrev pub Chooses : Visit → List Visit → Plan → List Plan → ℕ → ℕ → ℕ → Type 0
      Chooses i is rest ps b at s = (vs : List Visit) × Parts i vs × (work_on D s1 s1.top d (vs ++ others) ≡ Some x) × Moved b at vs is rest ps s

      -- both call the destructor, with a reference to the place
      abbrev pub Calls : Visit → List Visit → Plan → List Plan → ℕ → ℕ → ℕ → Type 0
      Calls i is rest ps b at s = (g dd : ℕ) × (destructor_of D i.ty ≡ Some g) × (sh : Shape) × (i.ty ≡ named dd) × (slice_get D dd ≡ Some sh) × (enter C1 s1 s1.memory (record s1.top { dropping = Some (record d { items = i ∷ others }) }) g (pointer i.addr ∷ []) None ≡ Some x)
          × (l j : ℕ) × (n1 n2 : Memory) × (moves C2 1 (on_at s2 c2 m2 b at) ≡ Some (on_at s2 c2 n1 b (suc at))) × (step C2 (on_at s2 c2 n1 b (suc at)) ≡ enter C2 (on_at s2 c2 n1 b (suc at)) n2 (place_in c2 j 0) g (pointer (over c2.frame i.addr) ∷ []) (Some (dest_in low C2 body2 s2 c2 is2 (suc l)))) × (low ≤ l) × Beyond c2.frame low m2 n2
          × (slice_get body2.locals (suc l) ≡ Some empty) × At low body2 j 0 (glue_inside D (of_def D apart) sh (place_of i.addr) (plan_of is rest) ∷ ps) s

      abbrev pub Visited : Visit → List Visit → Plan → List Plan → ℕ → ℕ → ℕ → Type 0
      Visited i is rest ps b at s = Still i is rest ⊎ (Chooses i is rest ps b at s ⊎ Calls i is rest ps b at s)

      tuple_plan : (a : Addr) (t : Tree) (is : List Visit) (rest : Plan) → IsTuple t → Proper t → glue D (place_of a) t (plan_of is rest) ≡ plan_of (field_visits a 0 t ++ is) rest
      unfolding glue
      tuple_plan a t is rest h p = sym (inner_append D apart proper (field_visits a 0 t) is rest ∙ fields_plan D apart proper a 0 t (plan_of is rest) h p)

      -- what has a definition, and what isn't a hole
      named_visit : (G : TypeMap) (a : Addr) (dd : ℕ) (v : Value) (is : List Visit) (rest : Plan) (ps : List Plan) (b at s : ℕ) → IsLive G (named dd) v → needs_drop D (named dd) ≡ true → value_at m1 a ≡ Some v → s1.memory ≡ m1 → a.frame ≡ own.frame → Plain a.path → visit C1 s1 d (record { addr = a; ty = named dd }) others v (destructor_of D (named dd)) ≡ Some x → At low body2 b at (plan_of (record { addr = a; ty = named dd } ∷ is) rest ∷ ps) s → Visited (record { addr = a; ty = named dd }) is rest ps b at s
      unfolding visit
      named_visit G a dd v is rest ps b at s live needs ev em q plain e h = by_shape (slice_get D dd) refl
        where
          i : Visit
          i = record { addr = a; ty = named dd }

          X : Plan
          X = plan_of is rest

          glued : (o : Option Shape) → slice_get D dd ≡ o → glue D (place_of a) (named dd) X ≡ glue_of D (of_def D apart) dd true o (place_of a) X
          glued o eo = glue_named D apart dd (place_of a) X ∙ ap₂ (λ n o. glue_of D (of_def D apart) dd n o (place_of a) X) needs eo

          destructor_is : (o : Option Shape) → slice_get D dd ≡ o → destructor_of D (named dd) ≡ (o >>= λ s. s.destructor)
          destructor_is o eo = ap (λ o. o >>= λ s. s.destructor) eo

          -- no destructor
          plain_shape : (sh : Shape) → slice_get D dd ≡ Some sh → sh.destructor ≡ None → work_on D s1 s1.top d (visits_of D a (named dd) v ++ others) ≡ Some x → Visited i is rest ps b at s
          plain_shape sh es none w = pick (inside_ahead G sh dd a v is rest ps b at s es (λ en. (ev, live)) q plain (subst (λ p. At low body2 b at (p ∷ ps) s) same h))
            where
              same : glue D (place_of a) (named dd) X ≡ glue_inside D (of_def D apart) sh (place_of a) X
              same = glued (Some sh) es ∙ ap (λ o. glue_shape D (of_def D apart) dd sh o (place_of a) X) none

              pick : Inside sh dd a v is rest ps b at s → Visited i is rest ps b at s
              pick (inl (z, lt)) = inl (visits_of D a (named dd) v, inr (v, refl), w, same ∙ z, lt)
              pick (inr mv) = inr (inl (visits_of D a (named dd) v, inr (v, refl), w, mv))

          -- a destructor
          with_destructor : (sh : Shape) (g : ℕ) → slice_get D dd ≡ Some sh → sh.destructor ≡ Some g → enter C1 s1 s1.memory (record s1.top { dropping = Some (record d { items = i ∷ others }) }) g (pointer a ∷ []) None ≡ Some x → Visited i is rest ps b at s
          with_destructor sh g es some en =
              let same : glue D (place_of a) (named dd) X ≡ destroy (place_of a) (named dd) g (glue_inside D (of_def D apart) sh (place_of a) X) = glued (Some sh) es ∙ ap (λ o. glue_shape D (of_def D apart) dd sh o (place_of a) X) some in
              let (l, j, n1, n2, mv, st, le, by, lt, ut, at') = run_destroy low C2 body2 s2 c2 is2 m2 b at s g (place_of a) (over c2.frame a) (named dd) (glue_inside D (of_def D apart) sh (place_of a) X) ps (resolves a v q plain ev) slots (subst (λ p. At low body2 b at (p ∷ ps) s) same h) in
              inr (inr (g, dd, some_bind (λ s. s.destructor) es some, sh, refl, es, en, l, j, n1, n2, mv, st, le, by, ut, at'))

          by_destructor : (sh : Shape) → slice_get D dd ≡ Some sh → (o : Option ℕ) → sh.destructor ≡ o → visit C1 s1 d i others v o ≡ Some x → Visited i is rest ps b at s
          by_destructor sh es None eo w = plain_shape sh es eo w
          by_destructor sh es (Some g) eo w = with_destructor sh g es eo w

          by_shape : (o : Option Shape) → slice_get D dd ≡ o → Visited i is rest ps b at s
          by_shape None eo =
              let w : work_on D s1 s1.top d (visits_of D a (named dd) v ++ others) ≡ Some x = subst (λ o. visit C1 s1 d i others v o ≡ Some x) (destructor_is None eo ∙ none_bind) e in
              inl ([], inl refl, subst (λ vs. work_on D s1 s1.top d (vs ++ others) ≡ Some x) (ap (λ o. shape_visits a o v) eo) w, glued None eo, nodes_there D (named dd))
          by_shape (Some sh) eo = by_destructor sh eo sh.destructor refl (subst (λ o. visit C1 s1 d i others v o ≡ Some x) (destructor_is (Some sh) eo ∙ some_bind (λ s. s.destructor) {o = Some sh} refl refl) e)

      -- a visit of a place inside a unit
      pub visited : (G : TypeMap) (i : Visit) (is : List Visit) (rest : Plan) (ps : List Plan) (b at s : ℕ) → Proper i.ty → (needs_drop D i.ty ≡ true → (v : Value) → value_at m1 i.addr ≡ Some v → IsLive G i.ty v) → s1.memory ≡ m1 → i.addr.frame ≡ own.frame → Plain i.addr.path → visit_if C1 s1 d i others (needs_drop D i.ty) ≡ Some x → At low body2 b at (plan_of (i ∷ is) rest ∷ ps) s → Visited i is rest ps b at s
      unfolding visit_if visit_unless
      visited G i is rest ps b at s pr live em q plain e h = by_need (needs_drop D i.ty) refl e
        where
          needed : (v : Value) → value_at m1 i.addr ≡ Some v → IsLive G i.ty v → needs_drop D i.ty ≡ true → visit C1 s1 d i others v (destructor_of D i.ty) ≡ Some x → Visited i is rest ps b at s
          needed v ev lv n w = by_type i.ty refl
            where
              as_tuple : (t : Tree) → i.ty ≡ t → IsTuple t → visits_of D i.addr t v ≡ field_visits i.addr 0 t → destructor_of D t ≡ None → Visited i is rest ps b at s
              as_tuple t et tu vt dt =
                  let pt : Proper t = subst Proper et pr in
                  let w' : work_on D s1 s1.top d (visits_of D i.addr i.ty v ++ others) ≡ Some x = plainly (subst (λ o. visit C1 s1 d i others v o ≡ Some x) (ap (destructor_of D) et ∙ dt) w) in
                  inl (field_visits i.addr 0 t, inr (v, sym (ap (λ t. visits_of D i.addr t v) et ∙ vt)), subst (λ vs. work_on D s1 s1.top d (vs ++ others) ≡ Some x) (ap (λ t. visits_of D i.addr t v) et ∙ vt) w', ap (λ t. glue D (place_of i.addr) t (plan_of is rest)) et ∙ tuple_plan i.addr t is rest tu pt, subst (λ u. weigh D (field_visits i.addr 0 t) < nodes D u) (sym et) (weigh_fields D apart proper i.addr 0 t tu pt))
                where
                  plainly : visit C1 s1 d i others v None ≡ Some x → work_on D s1 s1.top d (visits_of D i.addr i.ty v ++ others) ≡ Some x
                  plainly w = visit_none C1 s1 d i others v x w

              by_type : (t : Tree) → i.ty ≡ t → Visited i is rest ps b at s
              by_type (more t ts) et = as_tuple (more t ts) et tt refl refl
              by_type empty et = as_tuple empty et tt refl refl
              by_type (named dd) et =
                  let same : record { addr = i.addr; ty = named dd } ≡ i = ap (λ t. record { addr = i.addr; ty = t }) (sym et) in
                  subst (λ i. Visited i is rest ps b at s) same
                  (named_visit G i.addr dd v is rest ps b at s (subst (λ t. IsLive G t v) et lv) (subst (λ t. needs_drop D t ≡ true) et n) ev em q plain (subst (λ j. visit C1 s1 d j others v (destructor_of D j.ty) ≡ Some x) (sym same) w) (subst (λ j. At low body2 b at (plan_of (j ∷ is) rest ∷ ps) s) (sym same) h))
              by_type (scalar t) et = absurd (no_scalar D t (subst (λ t. needs_drop D t ≡ true) et n))
              by_type (tree.ref t) et = absurd (no_ref D t (subst (λ t. needs_drop D t ≡ true) et n))
              by_type (tree.ref_mut t) et = absurd (no_ref_mut D t (subst (λ t. needs_drop D t ≡ true) et n))

          by_need : (n : Bool) → needs_drop D i.ty ≡ n → visit_if C1 s1 d i others n ≡ Some x → Visited i is rest ps b at s
          by_need false n w = inl ([], inl refl, w, no_need D apart proper (place_of i.addr) i.ty (plan_of is rest) n, nodes_there D i.ty)
          by_need true n w =
              let (v, ev, k) = bind_some w in
              let ev' : value_at m1 i.addr ≡ Some v = subst (λ m. value_at m i.addr ≡ Some v) em ev in
              let lv = live n v ev' in
              needed v ev' lv n (subst (λ h. visit_unless C1 s1 d i others v h ≡ Some x) lv.1 k)
