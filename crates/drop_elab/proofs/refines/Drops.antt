-- A whole drop of the source against the code of its plan: which places of the target's body stand for which items that are left.
use Rattle.std.proofs.Common.{◌≡◌, ◌⊎◌, inl, inr, refl, sym, ap, ap₂, ◌∙◌, subst, ℕ, suc, ◌+◌, ◌<◌, ◌≤◌, true, false, if◌then◌else◌, List, [], ◌∷◌, ◌++◌, length, Option, Some, None, slice_get, append_assoc, arith}
use Rattle.mir_syntax.specs.declared.body.Place.{Place}
use Rattle.mir_syntax.specs.Tree.{Tree, empty, named}
use Rattle.mir_syntax.specs.Crate.{TypedBody}
use Rattle.mir_syntax.specs.Shapes.{Shape, needs_drop, destructor_of, place_ty}
use Rattle.mir_num.specs.Numbers.{flag}
use Rattle.mir_rules.specs.DefinitionRules.{holds}
use Rattle.mir_rules.specs.Weights.{nodes}
use Rattle.mir_semantics.specs.Values.{Value, number, pointer, hole, is_hole}
use Rattle.mir_semantics.specs.Memory.{Memory, local_at, value_at, write}
use Rattle.mir_semantics.specs.Step.{Code, Visit, Dropping, Control, State, Next, local_addr, visits_of, work_on, visit_if, left_in, left_at, destroyed_at, enter, step}
use Rattle.mir_syntax.proofs.Binds.{bind_some}
use Rattle.mir_renaming.proofs.Types.{TypeMap, HasTy}
use Rattle.mir_relate.specs.Simulation.{moves}
use Rattle.drop_elab.specs.Plan.{Plan, done, clear, glue_inside}
use Rattle.drop_elab.proofs.refines.Places.{At}
use Rattle.drop_elab.proofs.refines.Runs.{one_move, moves_then, here_at, beside, Beyond, beyond_refl, beyond_write}
use Rattle.drop_elab.proofs.refines.Machine.{place_in, on_at, dest_in, run_done, run_clear}
use Rattle.drop_elab.proofs.refines.Glue.{of_def}
use Rattle.drop_elab.proofs.refines.Items.{Proper, ProperShapes, place_of, inner_plan}
use Rattle.drop_elab.proofs.refines.Near.{Over, over, Near, Plain}
use Rattle.drop_elab.proofs.refines.Weights.{weigh}
use Rattle.drop_elab.proofs.refines.Visits.{Slots, Visited, Parts, visited, Inside, inside_ahead}
use Rattle.drop_elab.proofs.refines.Outer.{Marks}
use Rattle.drop_elab.proofs.refines.Units.{Target, outer, IsFlag, Tail, KnownUnit, unit_ty, Went, Gone, OuterVisited, outer_visited}

module _ (low : ℕ) (C1 : Code) (bodies2 : List TypedBody) (body2 : TypedBody) (apart : (d : ℕ) → holds C1.shapes (length C1.shapes) d d ≡ false) (proper : ProperShapes C1.shapes) (locals : List Tree) (marks : Marks) where
  abbrev D : List Shape
  D = C1.shapes

  abbrev T : Code
  T = Target low C1 bodies2 body2 apart proper locals marks

  abbrev pub rest_of : List Visit → Plan
  rest_of os = outer low C1 bodies2 body2 apart proper locals marks os

  abbrev plan_of : List Visit → Plan → Plan
  plan_of = inner_plan D apart proper

  -- groups of items, each with a plan of its own; the last one is followed by what comes after its unit
  abbrev pub plans_of : List (List Visit) → List Visit → Plan → List Plan → List Plan
  plans_of [] last tail after = plan_of last tail ∷ after
  plans_of (g ∷ gs) last tail after = plan_of g done ∷ plans_of gs last tail after

  abbrev pub flat : List (List Visit) → List Visit → List Visit
  flat [] last = last
  flat (g ∷ gs) last = g ++ flat gs last

  abbrev pub AfterUnit : Option ℕ → Plan → List Plan → List Visit → Type 0
  AfterUnit = Tail low C1 bodies2 body2 apart proper locals marks

  -- the code at this place works off what is left inside a unit, then makes the unit's flag false, if it has one, then works off the other
  -- items, and leads to the start of a block
  abbrev pub Working : Option ℕ → List Visit → List Visit → ℕ → ℕ → ℕ → Type 0
  Working cur inner os i a s = (gs : List (List Visit)) × (last : List Visit) × (tail : Plan) × (after : List Plan) × AfterUnit cur tail after os × (inner ≡ flat gs last) × At low body2 i a (plans_of gs last tail after) s

  -- items may come in front
  pub record Cont (is : List Visit) (rest : Plan) (ps : List Plan) (cur : Option ℕ) (others os : List Visit) (s : ℕ) : Type 0 where
    pub join : (vs : List Visit) (i a : ℕ) → At low body2 i a (plan_of (vs ++ is) rest ∷ ps) s → Working cur (vs ++ others) os i a s
    pub push : (vs : List Visit) (i a : ℕ) → At low body2 i a (plan_of vs done ∷ plan_of is rest ∷ ps) s → Working cur (vs ++ others) os i a s

  pub cont_group : (is : List Visit) (gs : List (List Visit)) (last : List Visit) (tail : Plan) (after : List Plan) (cur : Option ℕ) (os : List Visit) (s : ℕ) → AfterUnit cur tail after os → Cont is done (plans_of gs last tail after) cur (is ++ flat gs last) os s
  cont_group is gs last tail after cur os s tl = record {
    join = λ vs i a h. ((vs ++ is) ∷ gs, last, tail, after, tl, sym (append_assoc vs is (flat gs last)), h);
    push = λ vs i a h. (vs ∷ is ∷ gs, last, tail, after, tl, refl, h);
  }

  pub cont_last : (is : List Visit) (tail : Plan) (after : List Plan) (cur : Option ℕ) (os : List Visit) (s : ℕ) → AfterUnit cur tail after os → Cont is tail after cur is os s
  cont_last is tail after cur os s tl = record { join = λ vs i a h. ([], vs ++ is, tail, after, tl, refl, h); push = λ vs i a h. (vs ∷ [], is, tail, after, tl, refl, h) }

  -- the destructor of an item inside a unit runs
  abbrev pub Paused : Visit → Option ℕ → List Visit → List Visit → ℕ → ℕ → Type 0
  Paused i cur others os j s = (dd : ℕ) × (sh : Shape) × (is : List Visit) × (rest : Plan) × (ps : List Plan) × (i.ty ≡ named dd) × (slice_get D dd ≡ Some sh) × Cont is rest ps cur others os s × At low body2 j 0 (glue_inside D (of_def D apart) sh (place_of i.addr) (plan_of is rest) ∷ ps) s

  module _ (s2 : State) (c2 : Control) (is2 : slice_get bodies2 c2.function ≡ Some body2) where
    abbrev F : ℕ
    F = c2.frame

    -- the flag of the unit has become false
    abbrev pub Cleared : Option ℕ → Memory → Memory → Type 0
    Cleared None m m' = m' ≡ m
    Cleared (Some x) m m' = IsFlag low C1 bodies2 body2 apart proper locals marks x × (m' ≡ write m (local_addr F x) (number (flag false)))

    -- ---- goes past what is done

    abbrev Ready : List (List Visit) → Type 0
    Ready [] = Unit {0}
    Ready ([] ∷ gs) = ⊥
    Ready ((v ∷ vs) ∷ gs) = Unit {0}

    catch_up : (m : Memory) (gs : List (List Visit)) (last : List Visit) (tail : Plan) (after : List Plan) (i a s : ℕ) → At low body2 i a (plans_of gs last tail after) s → (k j b : ℕ) × (gs' : List (List Visit)) × (moves T k (on_at s2 c2 m i a) ≡ Some (on_at s2 c2 m j b)) × Ready gs' × (flat gs last ≡ flat gs' last) × At low body2 j b (plans_of gs' last tail after) s
    catch_up m [] last tail after i a s h = (0, i, a, [], refl, tt, refl, h)
    catch_up m ((v ∷ vs) ∷ gs) last tail after i a s h = (0, i, a, (v ∷ vs) ∷ gs, refl, tt, refl, h)
    catch_up m ([] ∷ gs) last tail after i a s h =
        let (j, st, h') = run_done low T body2 s2 c2 is2 m i a s (plans_of gs last tail after) h in
        let (k, j', b, gs', mv, r, e, h'') = catch_up m gs last tail after j 0 s h' in
        (1 + k, j', b, gs', moves_then T 1 k _ _ _ (one_move T _ _ st) mv, r, e, h'')

    -- to the plan of the other units
    settle : (m : Memory) (cur : Option ℕ) (tail : Plan) (after : List Plan) (os : List Visit) (i a s : ℕ) → Slots low C1 bodies2 body2 apart proper F m → AfterUnit cur tail after os → At low body2 i a (tail ∷ after) s → (k j b : ℕ) × (m' : Memory) × (moves T k (on_at s2 c2 m i a) ≡ Some (on_at s2 c2 m' j b)) × Cleared cur m m' × At low body2 j b (rest_of os ∷ []) s
    settle m None tail after os i a s slots (ea, et) h = (0, i, a, m, refl, refl, subst (λ ps. At low body2 i a ps s) (ap₂ (λ (p : Plan) ps. p ∷ ps) et ea) h)
    settle m (Some x) tail after os i a s slots ((t, xt, xn), inl (ea, et)) h =
        let h1 : At low body2 i a (clear x (rest_of os) ∷ []) s = subst (λ ps. At low body2 i a ps s) (ap₂ (λ (p : Plan) ps. p ∷ ps) et ea) h in
        let (o, xo) = slots x t xt in
        let (st, h2) = run_clear low T body2 s2 c2 is2 m i a s x (rest_of os) [] t o xt xo h1 in
        (1, i, suc a, write m (local_addr F x) (number (flag false)), one_move T _ _ st, ((t, xt, xn), refl), h2)
    settle m (Some x) tail after os i a s slots ((t, xt, xn), inr (ea, et)) h =
        let h1 : At low body2 i a (clear x done ∷ rest_of os ∷ []) s = subst (λ ps. At low body2 i a ps s) (ap₂ (λ (p : Plan) ps. p ∷ ps) et ea) h in
        let (o, xo) = slots x t xt in
        let (st, h2) = run_clear low T body2 s2 c2 is2 m i a s x done (rest_of os ∷ []) t o xt xo h1 in
        let (j, st', h3) = run_done low T body2 s2 c2 is2 (write m (local_addr F x) (number (flag false))) i (suc a) s (rest_of os ∷ []) h2 in
        (2, j, 0, write m (local_addr F x) (number (flag false)), moves_then T 1 1 _ _ _ (one_move T _ _ st) (one_move T _ _ st'), ((t, xt, xn), refl), h3)

    -- nothing is left inside the unit: the target comes to the plan of the other units
    pub leaves_unit : (cur : Option ℕ) (os : List Visit) (m : Memory) (i a s : ℕ) → Slots low C1 bodies2 body2 apart proper F m → Working cur [] os i a s → (k j b : ℕ) × (m' : Memory) × (moves T k (on_at s2 c2 m i a) ≡ Some (on_at s2 c2 m' j b)) × Cleared cur m m' × At low body2 j b (rest_of os ∷ []) s
    leaves_unit cur os m i a s slots (gs, last, tail, after, tl, e, h) =
        let (k, j, b, gs', mv, r, e', h') = catch_up m gs last tail after i a s h in
        ended k j b gs' mv r (e ∙ e') h'
      where
        ended : (k j b : ℕ) (gs' : List (List Visit)) → moves T k (on_at s2 c2 m i a) ≡ Some (on_at s2 c2 m j b) → Ready gs' → [] ≡ flat gs' last → At low body2 j b (plans_of gs' last tail after) s → (k j b : ℕ) × (m' : Memory) × (moves T k (on_at s2 c2 m i a) ≡ Some (on_at s2 c2 m' j b)) × Cleared cur m m' × At low body2 j b (rest_of os ∷ []) s
        ended k j b ((v ∷ vs) ∷ gs) mv r e h = absurd (let z = ap length e in omega (arith, z))
        ended k j b ([] ∷ gs) mv r e h = absurd r
        ended k j b [] mv r e h =
            let (k', j', b', m', mv', cl, h') = settle m cur tail after os j b s slots tl (subst (λ l. At low body2 j b (plan_of l tail ∷ after) s) (sym e) h) in
            (k + k', j', b', m', moves_then T k k' _ _ _ mv mv', cl, h')

    -- ---- no item is left: the target comes to the block where the drop goes on

    pub finishes : (cur : Option ℕ) (m : Memory) (i a s : ℕ) → Slots low C1 bodies2 body2 apart proper F m → Working cur [] [] i a s → (k : ℕ) × (m' : Memory) × (moves T (suc k) (on_at s2 c2 m i a) ≡ Some (on_at s2 c2 m' s 0)) × Cleared cur m m'
    finishes cur m i a s slots w =
        let (k, j, b, m', mv, cl, h) = leaves_unit cur [] m i a s slots w in
        let (n, st, (es, ea)) = run_done low T body2 s2 c2 is2 m' j b s [] h in
        let last_move : moves T 1 (on_at s2 c2 m' j b) ≡ Some (on_at s2 c2 m' s 0) = one_move T _ _ st ∙ ap (λ n. Some (on_at s2 c2 m' n 0)) es in
        let z : k + 1 ≡ suc k = omega arith in
        (k, m', subst (λ n. moves T n (on_at s2 c2 m i a) ≡ Some (on_at s2 c2 m' s 0)) z (moves_then T k 1 _ _ _ mv last_move), cl)

    -- ---- the target stays near

    module _ (own : Over) (m1 : Memory) (absent : (x : ℕ) → slice_get locals x ≡ None → local_at m1 own.frame x ≡ None) where
      pub near_cleared : (cur : Option ℕ) (m m' : Memory) → Cleared cur m m' → Near own F m m1 → Near own F m' m1
      near_cleared None m m' e n = subst (λ m. Near own F m m1) (sym e) n
      near_cleared (Some x) m m' ((t, xt, xn), e) n = subst (λ m. Near own F m m1) (sym e) (record { at = λ y v e1. (let (w, e2, h) = n.at y v e1 in (w, beside (here_at D body2.locals F) m x (number (flag false)) F y (λ p q. (let z : None ≡ Some v = sym (absent x xn) ∙ sym (ap (local_at m1 own.frame) q) ∙ e1 in grind arith)) ∙ e2, h)) })

      pub slots_cleared : (cur : Option ℕ) (m m' : Memory) → Cleared cur m m' → Slots low C1 bodies2 body2 apart proper F m → Slots low C1 bodies2 body2 apart proper F m'
      slots_cleared None m m' e sl = subst (λ m. Slots low C1 bodies2 body2 apart proper F m) (sym e) sl
      slots_cleared (Some x) m m' ((t, xt, xn), e) sl =
          let (o, xo) = sl x t xt in
          let by = beyond_write (here_at D body2.locals F) 0 x m (number (flag false)) o (omega arith) xo in
          subst (λ m. Slots low C1 bodies2 body2 apart proper F m) (sym e) (λ y u l. (let (w, lw) = sl y u l in by.there y w lw))

      -- ---- one item

      module _ (s1 : State) (d : Dropping) (i : Visit) (x : Next) (m2 : Memory) (near : Near own F m2 m1) (slots : Slots low C1 bodies2 body2 apart proper F m2) (b at s : ℕ) (pr : Proper i.ty) (em : s1.memory ≡ m1) (q : i.addr.frame ≡ own.frame) (plain : Plain i.addr.path) where
        abbrev PartsOf : List Visit → List Visit → Type 0
        PartsOf rest vs = Parts low C1 bodies2 body2 apart proper s2 c2 is2 own m2 m1 near slots s1 d rest x i vs

        -- an item inside a unit is done, or its parts come instead; the target's memory changes beyond the flags
        abbrev pub GoesIn : Option ℕ → Memory → List Visit → List Visit → Type 0
        GoesIn cur ms others os = (vs : List Visit) × PartsOf (others ++ os) vs × (work_on D s1 s1.top d (vs ++ (others ++ os)) ≡ Some x) × (k j a : ℕ) × (m' : Memory) × (moves T k (on_at s2 c2 m2 b at) ≡ Some (on_at s2 c2 m' j a)) × Beyond F low ms m' × Working cur (vs ++ others) os j a s × ((0 < k) ⊎ (weigh D vs < nodes D i.ty))

        -- both call the destructor
        abbrev pub CallsBoth : Option ℕ → Memory → List Visit → List Visit → Type 0
        CallsBoth cur ms others os = (g : ℕ) × (destructor_of D i.ty ≡ Some g) × (enter C1 s1 s1.memory (record s1.top { dropping = Some (record d { items = i ∷ (others ++ os) }) }) g (pointer i.addr ∷ []) None ≡ Some x) × (k j b1 a1 l : ℕ) × (n1 n2 : Memory) × (moves T (suc k) (on_at s2 c2 m2 b at) ≡ Some (on_at s2 c2 n1 b1 a1)) × (step T (on_at s2 c2 n1 b1 a1) ≡ enter T (on_at s2 c2 n1 b1 a1) n2 (place_in c2 j 0) g (pointer (over F i.addr) ∷ []) (Some (dest_in low T body2 s2 c2 is2 (suc l)))) × (low ≤ l) × (slice_get body2.locals (suc l) ≡ Some empty) × Beyond F low ms n2 × Paused i cur others os j s

        abbrev pub InOutcome : Option ℕ → Memory → List Visit → List Visit → Type 0
        InOutcome cur ms others os = GoesIn cur ms others os ⊎ CallsBoth cur ms others os

        from_visited : (k b0 a0 : ℕ) (ms : Memory) (nms : Near own F ms m1) (sms : Slots low C1 bodies2 body2 apart proper F ms) → moves T k (on_at s2 c2 m2 b at) ≡ Some (on_at s2 c2 ms b0 a0) → (is : List Visit) (rest : Plan) (ps : List Plan) (cur : Option ℕ) (others os : List Visit) → Cont is rest ps cur others os s → At low body2 b0 a0 (plan_of (i ∷ is) rest ∷ ps) s → Visited low C1 bodies2 body2 apart proper s2 c2 is2 own ms m1 nms sms s1 d (others ++ os) x i is rest ps b0 a0 s → InOutcome cur ms others os
        from_visited k b0 a0 ms nms sms mv is rest ps cur others os c h (inl (vs, pt, w, same, lt)) =
            inl (vs, pt, w, k, b0, a0, ms, mv, beyond_refl F low ms, c.join vs b0 a0 (subst (λ p. At low body2 b0 a0 (p ∷ ps) s) same h), inr lt)
        from_visited k b0 a0 ms nms sms mv is rest ps cur others os c h (inr (inl (vs, pt, w, (j, m', mv', by, ah)))) =
            inl (vs, pt, w, k + 2, j, 0, m', moves_then T k 2 _ _ _ mv mv', by, ahead ah, inl (omega arith))
          where
            ahead : At low body2 j 0 (plan_of vs done ∷ plan_of is rest ∷ ps) s ⊎ At low body2 j 0 (plan_of (vs ++ is) rest ∷ ps) s → Working cur (vs ++ others) os j 0 s
            ahead (inl a) = c.push vs j 0 a
            ahead (inr a) = c.join vs j 0 a
        from_visited k b0 a0 ms nms sms mv is rest ps cur others os c h (inr (inr (g, dd, dg, sh, et, es, en, l, j, n1, n2, mv', st, le, by, ut, at'))) =
            let z : k + 1 ≡ suc k = omega arith in
            inr (g, dg, en, k, j, b0, suc a0, l, n1, n2, subst (λ n. moves T n (on_at s2 c2 m2 b at) ≡ Some (on_at s2 c2 n1 b0 (suc a0))) z (moves_then T k 1 _ _ _ mv mv'), st, le, ut, by, (dd, sh, is, rest, ps, et, es, c, at'))

        -- what is known of an item inside a unit: where it needs drop, it is no hole
        abbrev pub InnerKnown : TypeMap → Type 0
        InnerKnown G = needs_drop D i.ty ≡ true → (v : Value) → value_at m1 i.addr ≡ Some v → HasTy D G i.ty v × (is_hole v ≡ false)

        pub inner_step : (G : TypeMap) (cur : Option ℕ) (others os : List Visit) → Working cur (i ∷ others) os b at s → InnerKnown G → visit_if C1 s1 d i (others ++ os) (needs_drop D i.ty) ≡ Some x → InOutcome cur m2 others os
        inner_step G cur others os (gs, last, tail, after, tl, e, h) known ex =
            let (k, j, a, gs', mv, r, same, h') = catch_up m2 gs last tail after b at s h in
            by_group k j a gs' mv r (e ∙ same) h'
          where
            head_eq : (v : Visit) (vs : List Visit) → i ∷ others ≡ v ∷ vs → (v ≡ i) × (vs ≡ others)
            head_eq v vs z = (grind arith, grind arith)

            by_group : (k j a : ℕ) (gs' : List (List Visit)) → moves T k (on_at s2 c2 m2 b at) ≡ Some (on_at s2 c2 m2 j a) → Ready gs' → i ∷ others ≡ flat gs' last → At low body2 j a (plans_of gs' last tail after) s → InOutcome cur m2 others os
            by_group k j a ([] ∷ gs') mv r e h = absurd r
            by_group k j a ((v ∷ vs) ∷ gs') mv r e h =
                let (ve, oe) = head_eq v (vs ++ flat gs' last) e in
                let h' = subst (λ v. At low body2 j a (plan_of (v ∷ vs) done ∷ plans_of gs' last tail after) s) ve h in
                from_visited k j a m2 near slots mv vs done (plans_of gs' last tail after) cur others os (subst (λ o. Cont vs done (plans_of gs' last tail after) cur o os s) oe (cont_group vs gs' last tail after cur os s tl)) h'
                (visited low C1 bodies2 body2 apart proper s2 c2 is2 own m2 m1 near slots s1 d (others ++ os) x G i vs done (plans_of gs' last tail after) j a s pr known em q plain ex h')
            by_group k j a [] mv r e h = by_last last e h
              where
                by_last : (last : List Visit) → i ∷ others ≡ last → At low body2 j a (plan_of last tail ∷ after) s → InOutcome cur m2 others os
                by_last [] e h = absurd (let z = ap length e in omega (arith, z))
                by_last (v ∷ vs) e h =
                    let (ve, oe) = head_eq v vs e in
                    let h' = subst (λ v. At low body2 j a (plan_of (v ∷ vs) tail ∷ after) s) ve h in
                    from_visited k j a m2 near slots mv vs tail after cur others os (subst (λ o. Cont vs tail after cur o os s) oe (cont_last vs tail after cur os s tl)) h'
                    (visited low C1 bodies2 body2 apart proper s2 c2 is2 own m2 m1 near slots s1 d (others ++ os) x G i vs tail after j a s pr known em q plain ex h')

        -- an item outside of units
        module _ (flags_there : (q : Place) (y : ℕ) → marks.flag q ≡ Some y → IsFlag low C1 bodies2 body2 apart proper locals marks y) (cur : Option ℕ) (os : List Visit) where
          abbrev GoneThere : Type 0
          GoneThere = Gone low C1 bodies2 body2 apart proper locals marks flags_there s2 c2 is2 own m2 m1 near slots s1 d os x i

          abbrev WentTo : List Visit → Type 0
          WentTo vs = Went low C1 bodies2 body2 apart proper locals marks flags_there s2 c2 is2 own m2 m1 near slots s1 d os x i vs

          -- it is passed, or its parts come instead
          abbrev pub GoesOut : Memory → Type 0
          GoesOut ms = (vs : List Visit) × WentTo vs × (work_on D s1 s1.top d (vs ++ os) ≡ Some x) × (k j a : ℕ) × (moves T k (on_at s2 c2 m2 b at) ≡ Some (on_at s2 c2 ms j a)) × Working None [] (vs ++ os) j a s × ((0 < k) ⊎ (weigh D vs < nodes D i.ty))

          -- its unit is entered
          abbrev pub GoesInto : Memory → Type 0
          GoesInto ms = (needs_drop D i.ty ≡ true) × (unit_ty low C1 bodies2 body2 apart proper locals marks flags_there s2 c2 is2 own m2 m1 near slots i.ty ≡ true) × ((v : Value) × (value_at m1 i.addr ≡ Some v) × (is_hole v ≡ false)) × InOutcome (marks.flag (place_of i.addr)) ms [] os

          abbrev pub OutOutcome : Type 0
          OutOutcome = (ms : Memory) × Cleared cur m2 ms × (GoesOut ms ⊎ GoesInto ms)

          abbrev pub OuterKnown : TypeMap → Type 0
          OuterKnown G = (place_ty D locals (place_of i.addr) ≡ Some i.ty) × ((ms : Memory) (nms : Near own F ms m1) (sms : Slots low C1 bodies2 body2 apart proper F ms) → Cleared cur m2 ms → needs_drop D i.ty ≡ true → (v : Value) → value_at m1 i.addr ≡ Some v → HasTy D G i.ty v × (unit_ty low C1 bodies2 body2 apart proper locals marks flags_there s2 c2 is2 own ms m1 nms sms i.ty ≡ true → KnownUnit low C1 bodies2 body2 apart proper locals marks flags_there s2 c2 is2 own ms m1 nms sms G i v (marks.status (place_of i.addr))))

          pub outer_step : (G : TypeMap) → Working cur [] (i ∷ os) b at s → OuterKnown G → visit_if C1 s1 d i os (needs_drop D i.ty) ≡ Some x → OutOutcome
          outer_step G w known ex =
              let (k, j, a, ms, mv, cl, h) = leaves_unit cur (i ∷ os) m2 b at s slots w in
              (ms, cl, at_units k j a ms mv cl (near_cleared cur m2 ms cl near) (slots_cleared cur m2 ms cl slots) known h)
            where
              at_units : (k j a : ℕ) (ms : Memory) → moves T k (on_at s2 c2 m2 b at) ≡ Some (on_at s2 c2 ms j a) → Cleared cur m2 ms → (nms : Near own F ms m1) (sms : Slots low C1 bodies2 body2 apart proper F ms) → OuterKnown G → At low body2 j a (rest_of (i ∷ os) ∷ []) s → GoesOut ms ⊎ GoesInto ms
              at_units k j a ms mv cl nms sms (ty, known) h = finish_units (outer_visited low C1 bodies2 body2 apart proper locals marks flags_there s2 c2 is2 own ms m1 nms sms s1 d os x G i os j a s pr em q plain ty h (known ms nms sms cl) ex)
                where
                  finish_units : OuterVisited low C1 bodies2 body2 apart proper locals marks flags_there s2 c2 is2 own ms m1 nms sms s1 d os x i os j a s → GoesOut ms ⊎ GoesInto ms
                  finish_units (inl (vs, wt, w, same, lt)) = inl (vs, wt, w, k, j, a, mv, ([], [], rest_of (vs ++ os), [], (refl, refl), refl, subst (λ p. At low body2 j a (p ∷ []) s) same h), inr lt)
                  finish_units (inr (inl (gone, w, (j', mv', h')))) = inl ([], inr (inl (refl, gone)), w, k + 1, j', 0, moves_then T k 1 _ _ _ mv mv', ([], [], rest_of os, [], (refl, refl), refl, h'), inl (omega arith))
                  finish_units (inr (inr (nd, un, live, tail', after', tl', (k', j', a', mv', h', vis)))) = inr (nd, un, live, from_visited (k + k') j' a' ms nms sms (moves_then T k k' _ _ _ mv mv') [] tail' after' (marks.flag (place_of i.addr)) [] os (cont_last [] tail' after' (marks.flag (place_of i.addr)) os s tl') h' vis)

      -- ---- a destructor has returned

      module _ (s1 : State) (c : Control) (d : Dropping) (i : Visit) (cur : Option ℕ) (others os : List Visit) (x : Next) (m2 : Memory) (near : Near own F m2 m1) (slots : Slots low C1 bodies2 body2 apart proper F m2) (j s : ℕ) where
        -- the fields come in front, at both; of an enum the target has chosen its arm
        abbrev pub Resumed : Type 0
        Resumed = (v : Value) × (left_at D s1.memory i.addr i.ty ≡ Some v) × (work_on D s1 c d (visits_of D i.addr i.ty v ++ (others ++ os)) ≡ Some x) × ((k j' a : ℕ) × (m' : Memory) × (moves T k (on_at s2 c2 m2 j 0) ≡ Some (on_at s2 c2 m' j' a)) × Beyond F low m2 m' × Working cur (visits_of D i.addr i.ty v ++ others) os j' a s)

        pub resumed : (G : TypeMap) → Paused i cur others os j s → s1.memory ≡ m1 → ((v : Value) → value_at m1 i.addr ≡ Some v → HasTy D G i.ty v × (is_hole v ≡ false)) → i.addr.frame ≡ own.frame → Plain i.addr.path → destroyed_at D s1 c d (i ∷ (others ++ os)) ≡ Some x → Resumed
        unfolding destroyed_at
        resumed G (dd, sh, is, rest, ps, et, es, ct, h) em live q plain e =
            let (v, ev, w) = bind_some e in
            (v, ev, w, pick v (inside_ahead low C1 bodies2 body2 apart proper s2 c2 is2 own m2 m1 near slots G sh dd i.addr v is rest ps j 0 s es (λ en. (let ev' = left v en ev in (ev', subst (λ t. HasTy D G t v × (is_hole v ≡ false)) et (live v ev')))) q plain h))
          where
            left : (v : Value) → sh.is_enum ≡ true → left_at D s1.memory i.addr i.ty ≡ Some v → value_at m1 i.addr ≡ Some v
            left v en ev = ap (λ m. value_at m i.addr) (sym em) ∙ sym (ap (left_at D s1.memory i.addr) et ∙ ap (left_in s1.memory i.addr) es ∙ ap (λ b. if b then value_at s1.memory i.addr else Some hole) en) ∙ ev

            pick : (v : Value) → Inside low C1 bodies2 body2 apart proper s2 c2 is2 own m2 m1 near slots sh dd i.addr v is rest ps j 0 s → (k j' a : ℕ) × (m' : Memory) × (moves T k (on_at s2 c2 m2 j 0) ≡ Some (on_at s2 c2 m' j' a)) × Beyond F low m2 m' × Working cur (visits_of D i.addr i.ty v ++ others) os j' a s
            pick v (inl (same, lt)) = (0, j, 0, m2, refl, beyond_refl F low m2, subst (λ t. Working cur (visits_of D i.addr t v ++ others) os j 0 s) (sym et) (ct.join (visits_of D i.addr (named dd) v) j 0 (subst (λ p. At low body2 j 0 (p ∷ ps) s) same h)))
            pick v (inr (j', m', mv, by, ah)) = (2, j', 0, m', mv, by, subst (λ t. Working cur (visits_of D i.addr t v ++ others) os j' 0 s) (sym et) (ahead ah))
              where
                ahead : At low body2 j' 0 (plan_of (visits_of D i.addr (named dd) v) done ∷ plan_of is rest ∷ ps) s ⊎ At low body2 j' 0 (plan_of (visits_of D i.addr (named dd) v ++ is) rest ∷ ps) s → Working cur (visits_of D i.addr (named dd) v ++ others) os j' 0 s
                ahead (inl a) = ct.push (visits_of D i.addr (named dd) v) j' 0 a
                ahead (inr a) = ct.join (visits_of D i.addr (named dd) v) j' 0 a
