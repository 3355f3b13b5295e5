-- A step of a drop of the elaborated function, over the layer: the target's answer, up to the end of the drop.
use Rattle.std.proofs.Common.{◌≡◌, ◌⊎◌, inl, inr, refl, sym, ap, ap₂, ◌∙◌, subst, ℕ, zero, suc, ◌+◌, ◌<◌, ◌≤◌, Bool, true, false, List, [], ◌∷◌, ◌++◌, length, Option, Some, None, slice_get, append_assoc, arith}
use Rattle.mir_syntax.specs.declared.body.Place.{Place}
use Rattle.mir_syntax.specs.Tree.{Tree, empty}
use Rattle.mir_syntax.specs.Crate.{TypedBlock, TypedBody}
use Rattle.mir_syntax.specs.Shapes.{Shape, path_ty, place_ty, destructor_of, needs_drop}
use Rattle.mir_num.specs.Numbers.{flag}
use Rattle.mir_rules.specs.DefinitionRules.{holds}
use Rattle.mir_semantics.specs.Values.{Value, number, pointer, is_hole}
use Rattle.mir_semantics.specs.Memory.{Memory, local_at, value_at, write}
use Rattle.mir_syntax.proofs.Binds.{some_bind}
use Rattle.mir_semantics.specs.Step.{Code, Dest, Visit, Dropping, Control, State, Next, local_addr, enter, entered, visit_if, work_on, work_off, step}
use Rattle.mir_renaming.specs.Renaming.{Renaming}
use Rattle.mir_renaming.proofs.Types.{TypeMap, AddrTy, some_eq, value_at_ty}
use Rattle.mir_renaming.proofs.Typed.{MaybeDrop}
use Rattle.mir_relate.specs.Simulation.{moves}
use Rattle.drop_elab.specs.Elab.{Inits, Status, dead, static, conditional}
use Rattle.mir_relate.specs.Frames.{Change, target, Pass, Below, Core}
use Rattle.mir_relate.specs.Pass.{Valids, FrameLaws, Goes, Answers, Related, KnowsAll}
use Rattle.mir_relate.proofs.Leaves.{some_val}
use Rattle.mir_relate.proofs.Mild.{gentle_none}
use Rattle.mir_relate.proofs.Stacks.{knows_all}
use Rattle.mir_relate.proofs.Enter.{enter_goes}
use Rattle.mir_relate.proofs.BodyLaw.{goes_answer}
use Rattle.mir_relate.proofs.Own as own
use Rattle.drop_elab.proofs.refines.Runs.{Beyond, here_at, beside, beyond_write}
use Rattle.drop_elab.proofs.refines.Machine.{place_in, on_at, dest_in}
use Rattle.drop_elab.proofs.refines.Items.{Proper, ProperShapes, place_of}
use Rattle.drop_elab.proofs.refines.Near.{Over, over, Near, Plain}
use Rattle.drop_elab.proofs.refines.Outer.{Marks}
use Rattle.drop_elab.proofs.refines.Weights.{weigh, weigh_append}
use Rattle.drop_elab.proofs.refines.Sound.{Has, StatusSays}
use Rattle.drop_elab.proofs.refines.Drops as machine
use Rattle.drop_elab.proofs.refines.Solid.{unit_of_local}
use Rattle.drop_elab.proofs.refines.Stand as stand
use Rattle.drop_elab.proofs.refines.Stand.{held, AllV}
use Rattle.drop_elab.proofs.refines.Stages as stages
use Rattle.drop_elab.proofs.refines.Running as running
use Rattle.drop_elab.proofs.refines.Running.{answers_after}

module _ (X : Change) (inits : Inits) (apart : (d : ℕ) → holds X.source.shapes (length X.source.shapes) d d ≡ false) (proper : ProperShapes X.source.shapes) (proper_locals : (x : ℕ) (t : Tree) → slice_get X.body1.locals x ≡ Some t → Proper t) (S : stages.Sorted X inits apart proper) (at2 : slice_get X.bodies X.f ≡ Some (stand.E X inits apart proper)) where
  abbrev D : List Shape
  D = X.source.shapes

  abbrev E : TypedBody
  E = stand.E X inits apart proper

  abbrev low : ℕ
  low = stand.low X inits apart proper

  abbrev pub P : Pass
  P = stand.pass X inits apart proper

  abbrev Frame : Renaming → Control → Control → Memory → Memory → Type 0
  Frame = stand.Frame X inits apart proper

  abbrev Past : ℕ → Memory → Memory → Type 0
  Past = stand.Past X inits apart proper

  -- ---- what changes beyond the source's locals

  pub past_refl : (f : ℕ) (m : Memory) → Past f m m
  past_refl f m = record { others = λ g x n. refl; there = λ x v e. (v, e) }

  pub past_then : (f : ℕ) (m m' m'' : Memory) → Past f m m' → Past f m' m'' → Past f m m''
  past_then f m m' m'' a b = record { others = λ g x n. b.others g x n ∙ a.others g x n; there = λ x v e. (let (w, e') = a.there x v e in b.there x w e') }

  pub past_beyond : (f : ℕ) (m m' : Memory) → Beyond f low m m' → Past f m m'
  past_beyond f m m' b = record { others = λ g x n. b.others g x (λ p l. n p (S.past x l)); there = λ x v e. b.there x v e }

  pub past_write : (f x : ℕ) (m : Memory) (v old : Value) → slice_get X.body1.locals x ≡ None → local_at m f x ≡ Some old → Past f m (write m (local_addr f x) v)
  past_write f x m v old none e =
      let b = beyond_write (here_at D [] f) x x m v old (omega arith) e in
      record { others = λ g y n. beside (here_at D [] f) m x v g y (λ p q. n p (ap (slice_get X.body1.locals) q ∙ none)); there = b.there }

  pub frame_past : (j : Renaming) (c2 c2' c1 c1' : Control) (m2 m2' m1 : Memory) → c2'.frame ≡ c2.frame → c2'.function ≡ c2.function → c1'.frame ≡ c1.frame → c1'.function ≡ c1.function → Past c2.frame m2 m2' → Frame j c2 c1 m2 m1 → Frame j c2' c1' m2' m1
  frame_past j c2 c2' c1 c1' m2 m2' m1 f2 g2 f1 g1 p h = record {
    function1 = g1 ∙ h.function1;
    function2 = g2 ∙ h.function2;
    roots = λ x t e. ap (λ f. j f x) f1 ∙ h.roots x t e ∙ ap (λ f. Some (f, x)) (sym f2);
    none = λ x e. ap (λ f. j f x) f1 ∙ h.none x e;
    only = λ i x y e. (let (a, b, c) = h.only i x y (e ∙ ap (λ f. Some (f, y)) f2) in (a ∙ sym f1, b, c));
    there = λ x t e. subst (λ f. (v : Value) × (local_at m1 f x ≡ Some v) × Rattle.drop_elab.proofs.refines.Deep.Loose D t v) (sym f1) (h.there x t e);
    absent = λ x e. ap (λ f. local_at m1 f x) f1 ∙ h.absent x e;
    slots = λ x t e n. (let (v, ev) = h.slots x t e n in let (w, ew) = p.there x v ev in (w, ap (λ f. local_at m2' f x) f2 ∙ ew));
  }

  module _ (V : Valids X) (Inv : State → Type 0) (frames : FrameLaws X P V Inv) (n : ℕ) (s2 s1 : State) (r : Related X P V Inv n s2 s1) (be : Below X P r.core.lent s2.top.dest s1.top.dest s2.top.frame s1.top.frame s2.callers s1.callers s2.memory s1.memory) (fr : stand.Frame X inits apart proper r.core.lent s2.top s1.top s2.memory s1.memory) where
    abbrev j : Renaming
    j = r.core.lent

    abbrev G : TypeMap
    G = r.typed1.types

    abbrev T : Code
    T = target X

    abbrev pub Left : Memory → Memory → Type 0
    Left = own.Left X P V Inv frames n s2 s1 r [] s1.callers refl (omega arith) be

    pub left_past : (m' : Memory) → Past s2.top.frame s2.memory m' → Left m' s1.memory
    left_past m' p = (
      record {
        mem = record { at = λ h x g y e v ev. (let (w, ew, rel) = r.core.linked.mem.at h x g y e v ev in (w, p.others g y (mapped h x g y e) ∙ ew, rel)) };
        apart = r.core.linked.apart;
      },
      record {
        up = λ h x q e. e;
        same1 = λ h x l. refl;
        same2 = λ h x g y l e. e;
        source = λ h x l e. refl;
        target = λ g y l ne. p.others g y (λ q z. absurd (omega (arith, l, q)));
        steady = λ h x g y t v' w' l e ty a b. record { old1 = v'; old2 = w'; was1 = a; was2 = sym (p.others g y (mapped h x g y e)) ∙ b; agree = λ z. z };
      },
    )
      where
        mapped : (h x g y : ℕ) → j h x ≡ Some (g, y) → g ≡ s2.top.frame → slice_get X.body1.locals y ≡ None → ⊥
        mapped h x g y e q none = let (a, b, (t, c)) = fr.only h x y (e ∙ ap (λ g. Some (g, y)) q) in let z : ◌≡◌ {A = Option Tree} None (Some t) = sym none ∙ c in grind arith

    eb : slice_get X.source.bodies s1.top.function ≡ Some X.body1
    eb = ap (slice_get X.source.bodies) fr.function1 ∙ X.at1

    eb2 : slice_get X.bodies s2.top.function ≡ Some E
    eb2 = ap (slice_get X.bodies) fr.function2 ∙ at2

    knows : KnowsAll X G (s1.top ∷ s1.callers)
    knows = (r.typed1.top.locals, knows_all X V G s1.callers r.typed1.callers)

    -- an answer by a step after some moves
    pub answers_step : (k : ℕ) (t : State) (o : Option Next) (x : Next) → moves T k s2 ≡ Some t → t.trace ≡ s2.trace → step T t ≡ o → Goes X P o x → Answers X P n s2 x
    answers_step k t o x mv tr st g = answers_after X P n k s2 t x mv tr (goes_answer X P n t x (subst (λ o. Goes X P o x) (sym st) g))

    -- the frame of the target stands at this place, that of the source in a drop
    module _ (k : TypedBlock) (p : Place) where
      abbrev Dropped : Dropping → Option ℕ → List Visit → List Visit → Control → Control → Memory → Memory → Type 0
      Dropped = stand.Dropped X inits apart proper k p

      abbrev Working : Option ℕ → List Visit → List Visit → ℕ → ℕ → ℕ → Type 0
      Working = stand.Working X inits apart proper s1.top.block k

      abbrev with_items : Control → Dropping → List Visit → Control
      with_items c d is = record c { dropping = Some (record d { items = is }) }

      pub drop_core : (d : Dropping) (cur : Option ℕ) (inner os : List Visit) (m : Memory) (i a : ℕ) → Past s2.top.frame s2.memory m → Dropped (record d { items = inner ++ os }) cur inner os (place_in s2.top i a) (with_items s1.top d (inner ++ os)) m s1.memory → Working cur inner os i a d.target → Core X P (weigh D (inner ++ os)) (on_at s2 s2.top m i a) (record s1 { top = with_items s1.top d (inner ++ os) })
      drop_core d cur inner os m i a ps st w =
          own.own_core X P V Inv frames n s2 s1 r [] s1.callers refl (omega arith) be (weigh D (inner ++ os)) m s1.memory (place_in s2.top i a) (with_items s1.top d (inner ++ os)) refl refl refl refl (left_past m ps) (gentle_none D G s1.top.frame s1.memory) (
            refl,
            λ G mt lk s. record {
              control = place_in s2.top i a;
              memory = m;
              count = 0;
              comes = refl;
              same = (refl, refl);
              past = past_refl s2.top.frame m;
              frame = frame_past j s2.top (place_in s2.top i a) s1.top (with_items s1.top d (inner ++ os)) s2.memory m s1.memory refl refl refl refl ps fr;
              ready = inr (inl (k, p, record d { items = inner ++ os }, cur, inner, os, st, refl, refl, w));
            },
          )

      module _ (calm2 : s2.top.dropping ≡ None) where
        abbrev ov : Over
        ov = record { lent = j; frame = s1.top.frame }

        abbrev marks : Marks
        marks = stand.marks_at X inits apart proper s1.top.block k

        here_is : on_at s2 s2.top s2.memory s2.top.block s2.top.at ≡ s2
        here_is = ap (λ o. record s2 { top = record s2.top { dropping = o } }) (sym calm2)

        from_here : (kk : ℕ) (o : Option State) → moves T kk (on_at s2 s2.top s2.memory s2.top.block s2.top.at) ≡ o → moves T kk s2 ≡ o
        from_here kk o e = subst (λ s. moves T kk s ≡ o) here_is e

        near : Near ov s2.top.frame s2.memory s1.memory
        near = running.near_by X inits apart proper proper_locals j s2.top s1.top s2.memory s1.memory fr r.core.linked

        slots : Rattle.drop_elab.proofs.refines.Visits.Slots low X.source X.bodies E apart proper s2.top.frame s2.memory
        slots = running.slots_by X inits apart proper proper_locals j s2.top s1.top s2.memory s1.memory fr r.core.linked

        -- no item is left
        abbrev pub Ends : Type 0
        Ends = (d : Dropping) (cur : Option ℕ) (m : Memory) (i a kk : ℕ) (x : Next) → moves T kk s2 ≡ Some (on_at s2 s2.top m i a) → Past s2.top.frame s2.memory m → Dropped (record d { items = [] }) cur [] [] (place_in s2.top i a) (with_items s1.top d []) m s1.memory → Working cur [] [] i a d.target → work_on D s1 s1.top d [] ≡ Some x → Answers X P n s2 x

        after_items : Ends → (d : Dropping) (cur : Option ℕ) (inner os : List Visit) (m : Memory) (i a kk : ℕ) (x : Next) → moves T kk s2 ≡ Some (on_at s2 s2.top m i a) → Past s2.top.frame s2.memory m → Dropped (record d { items = inner ++ os }) cur inner os (place_in s2.top i a) (with_items s1.top d (inner ++ os)) m s1.memory → Working cur inner os i a d.target → (0 < kk) ⊎ (weigh D (inner ++ os) < n) → work_on D s1 s1.top d (inner ++ os) ≡ Some x → Answers X P n s2 x
        unfolding work_on
        after_items ends d cur (v ∷ inner) os m i a kk x mv ps st w less e = subst (Answers X P n s2) (some_val e) (kk, weigh D ((v ∷ inner) ++ os), on_at s2 s2.top m i a, mv, drop_core d cur (v ∷ inner) os m i a ps st w, less)
        after_items ends d cur [] (v ∷ os) m i a kk x mv ps st w less e = subst (Answers X P n s2) (some_val e) (kk, weigh D (v ∷ os), on_at s2 s2.top m i a, mv, drop_core d cur [] (v ∷ os) m i a ps st w, less)
        after_items ends d cur [] [] m i a kk x mv ps st w less e = ends d cur m i a kk x mv ps st w e

        -- ---- a destructor is called by both

        root_of_item : (i : Visit) → stand.Inside X inits apart proper s1.memory s1.top.frame i → j i.addr.frame i.addr.local ≡ Some (s2.top.frame, i.addr.local)
        root_of_item i h =
            let (y, lt, ul, el, hu) = unit_of_local D 0 X.body1.locals h.unit h.known in
            let loc : i.addr.local ≡ y = h.local ∙ ul ∙ (let z : 0 + y ≡ y = omega arith in z) in
            ap₂ j h.frame loc ∙ fr.roots y lt el ∙ ap (λ y. Some (s2.top.frame, y)) (sym loc)

        call_goes : (d : Dropping) (i : Visit) (cur : Option ℕ) (others os : List Visit) (ms : Memory) (x : Next) → Past s2.top.frame s2.memory ms → Dropped (record d { items = i ∷ (others ++ os) }) cur (i ∷ others) os s2.top (with_items s1.top d (i ∷ (others ++ os))) ms s1.memory → (g : ℕ) → destructor_of D i.ty ≡ Some g → enter X.source s1 s1.memory (with_items s1.top d (i ∷ (others ++ os))) g (pointer i.addr ∷ []) None ≡ Some x → (kk b a b1 a1 l : ℕ) (n1 n2 : Memory) → moves T (suc kk) s2 ≡ Some (on_at s2 s2.top n1 b1 a1) → step T (on_at s2 s2.top n1 b1 a1) ≡ enter T (on_at s2 s2.top n1 b1 a1) n2 (place_in s2.top b 0) g (pointer (over s2.top.frame i.addr) ∷ []) (Some (dest_in low T E s2 s2.top eb2 (suc l))) → low ≤ l → slice_get E.locals (suc l) ≡ Some empty → Beyond s2.top.frame low ms n2 → stand.Paused X inits apart proper s1.top.block k i cur others os b d.target → Answers X P n s2 x
        unfolding enter local_addr entered
        call_goes d i cur others os ms x ps st g dg en kk b a b1 a1 l n1 n2 mv sp le ut by pa =
            answers_step (suc kk) (on_at s2 s2.top n1 b1 a1) (enter T s2 n2 (place_in s2.top b 0) g (pointer (over s2.top.frame i.addr) ∷ []) (Some dest)) x mv refl sp
            (enter_goes X P V Inv frames G j s2 s1 n2 s1.memory r.core.base lf.0 (place_in s2.top b 0) c1 (Some dest) None knows below (pointer i.addr ∷ []) (pointer (over s2.top.frame i.addr) ∷ []) ((record { root = root_of_item i st.inside.0; path = refl }, tt), (tt, tt)) (refl, tt) g x (λ bo eo. V.destroys i.ty g bo dg eo) en)
          where
            dest : Dest
            dest = record { addr = record { frame = s2.top.frame; local = suc l; path = [] }; guard = None }

            c1 : Control
            c1 = with_items s1.top d (i ∷ (others ++ os))

            ps' : Past s2.top.frame s2.memory n2
            ps' = past_then s2.top.frame s2.memory ms n2 ps (past_beyond s2.top.frame ms n2 by)

            lf : Left n2 s1.memory
            lf = left_past n2 ps'

            state : Dropped (record d { items = i ∷ (others ++ os) }) cur (i ∷ others) os (place_in s2.top b 0) c1 n2 s1.memory
            state = stages.flags_same X inits apart proper S k p (record d { items = i ∷ (others ++ os) }) cur (i ∷ others) os s2.top (place_in s2.top b 0) c1 ms n2 s1.memory refl (λ y lt. by.others s2.top.frame y (λ _ q. omega (arith, lt, q))) st

            below : Below X P j (Some dest) None s2.next s1.next (place_in s2.top b 0 ∷ s2.callers) (c1 ∷ s1.callers) n2 s1.memory
            below = inr (
              c1,
              [],
              s1.callers,
              refl,
              r.core.base.top1,
              r.core.base.top2,
              omega arith,
              (
                refl,
                frame_past j s2.top (place_in s2.top b 0) s1.top c1 s2.memory n2 s1.memory refl refl refl refl ps' fr,
                inl (
                  refl,
                  record {
                    block = k;
                    dropped = p;
                    drop = record d { items = i ∷ (others ++ os) };
                    cur = cur;
                    item = i;
                    inner = others;
                    os = os;
                    state = state;
                    calm = refl;
                    begins = refl;
                    paused = pa;
                    unread = suc l;
                    far = omega (arith, le);
                    there = ut;
                    dest = refl;
                  },
                ),
              ),
              own.below_left X P V Inv frames n s2 s1 r [] s1.callers refl (omega arith) be n2 s1.memory lf (gentle_none D G s1.top.frame s1.memory),
            )

        -- ---- an item inside the unit

        item_typed : (d : Dropping) → s1.top.dropping ≡ Some d → MaybeDrop X.source V.valid1 G (Some d)
        item_typed d e = subst (MaybeDrop X.source V.valid1 G) e r.typed1.top.dropping

        own_locals : (x : ℕ) (t : Tree) → slice_get X.body1.locals x ≡ Some t → G s1.top.frame x ≡ Some t
        own_locals = r.typed1.top.locals X.body1 eb

        -- what was found of an item inside a unit, from a memory in which the unit's flag may have been made false
        inner_goes : Ends → (d : Dropping) (i : Visit) (cur : Option ℕ) (others os : List Visit) (ms : Memory) (x : Next) (pr : Proper i.ty) (q : i.addr.frame ≡ s1.top.frame) (plain : Plain i.addr.path) → Past s2.top.frame s2.memory ms → Dropped (record d { items = i ∷ (others ++ os) }) cur (i ∷ others) os s2.top (with_items s1.top d (i ∷ (others ++ os))) ms s1.memory → weigh D ((i ∷ others) ++ os) ≤ n → machine.InOutcome low X.source X.bodies E apart proper X.body1.locals marks s2 s2.top eb2 ov s1.memory fr.absent s1 d i x s2.memory near slots s2.top.block s2.top.at d.target pr refl q plain cur ms others os → Answers X P n s2 x
        inner_goes ends d i cur others os ms x pr q plain ps st wn (inl (vs, pt, w, kk, b, a, m', mv, by, wk, less)) =
            after_items ends d cur (vs ++ others) os m' b a kk x (from_here kk _ mv) (past_then s2.top.frame s2.memory ms m' ps (past_beyond s2.top.frame ms m' by))
            (subst (λ is. Dropped (record d { items = is }) cur (vs ++ others) os (place_in s2.top b a) (with_items s1.top d is) m' s1.memory) (sym (append_assoc vs others os)) (stages.flags_same X inits apart proper S k p (record d { items = vs ++ (others ++ os) }) cur (vs ++ others) os s2.top (place_in s2.top b a) (with_items s1.top d (vs ++ (others ++ os))) ms m' s1.memory refl (λ y lt. by.others s2.top.frame y (λ _ z. omega (arith, lt, z))) (stages.parts_in X inits apart proper S k p (record d { items = i ∷ (others ++ os) }) cur i others os vs s2.top (with_items s1.top d (i ∷ (others ++ os))) ms s1.memory pt st)))
            wk (falls less) (subst (λ is. work_on D s1 s1.top d is ≡ Some x) (sym (append_assoc vs others os)) w)
          where
            falls : (0 < kk) ⊎ (weigh D vs < Rattle.mir_rules.specs.Weights.nodes D i.ty) → (0 < kk) ⊎ (weigh D ((vs ++ others) ++ os) < n)
            falls (inl lt) = inl lt
            falls (inr lt) = inr (let a = ap (weigh D) (append_assoc vs others os) in let b = weigh_append D vs (others ++ os) in omega (arith, a, b, lt, wn))
        inner_goes ends d i cur others os ms x pr q plain ps st wn (inr (g, dg, en, kk, b, b1, a1, l, n1, n2, mv, sp, le, ut, by, pa)) =
            call_goes d i cur others os ms x ps st g dg en kk b 0 b1 a1 l n1 n2 (from_here (suc kk) _ mv) sp le ut by pa

        inner_answers : Ends → (d : Dropping) (i : Visit) (cur : Option ℕ) (others os : List Visit) (x : Next) → Dropped d cur (i ∷ others) os s2.top s1.top s2.memory s1.memory → Working cur (i ∷ others) os s2.top.block s2.top.at d.target → n ≡ weigh D ((i ∷ others) ++ os) → visit_if X.source s1 d i (others ++ os) (needs_drop D i.ty) ≡ Some x → Answers X P n s2 x
        inner_answers ends d i cur others os x st w wn e =
            let h = st.inside.0 in
            let typed = item_typed d st.is in
            let at = (subst (λ is. Rattle.mir_renaming.proofs.Typed.VisitsTy X.source V.valid1 G is) st.items typed.1).0 in
            inner_goes ends d i cur others os s2.memory x h.fine h.frame h.plain (past_refl s2.top.frame s2.memory) (as_is st) (omega (arith, wn))
            (machine.inner_step low X.source X.bodies E apart proper X.body1.locals marks s2 s2.top eb2 ov s1.memory fr.absent s1 d i x s2.memory near slots s2.top.block s2.top.at d.target h.fine refl h.frame h.plain G cur others os w
            (λ nd v ev. running.inner_known X inits apart proper proper_locals G s1.memory s2.top s1.top s2.memory j i r.typed1.mem own_locals fr h at nd v ev) e)
          where
            as_is : Dropped d cur (i ∷ others) os s2.top s1.top s2.memory s1.memory → Dropped (record d { items = i ∷ (others ++ os) }) cur (i ∷ others) os s2.top (with_items s1.top d (i ∷ (others ++ os))) s2.memory s1.memory
            as_is st = record { is = refl; block = st.block; ends = st.ends; term = st.term; addr = st.addr; ty = st.ty; items = refl; inside = st.inside; outside = st.outside; done = st.done; split = st.split; zero = st.zero; right = st.right; current = st.current; others = st.others; sound = st.sound }

        -- ---- an item outside of units

        abbrev Cleared : Option ℕ → Memory → Memory → Type 0
        Cleared = machine.Cleared low X.source X.bodies E apart proper X.body1.locals marks s2 s2.top eb2

        cleared_past : (cur : Option ℕ) (ms : Memory) → Cleared cur s2.memory ms → Past s2.top.frame s2.memory ms
        cleared_past None ms e = subst (Past s2.top.frame s2.memory) (sym e) (past_refl s2.top.frame s2.memory)
        cleared_past (Some x) ms ((t, xt, xn), e) = let (o, eo) = slots x t xt in subst (Past s2.top.frame s2.memory) (sym e) (past_write s2.top.frame x s2.memory (number (flag false)) o xn eo)

        cleared_state : (d : Dropping) (cur : Option ℕ) (os : List Visit) (ms : Memory) → Cleared cur s2.memory ms → Dropped d cur [] os s2.top s1.top s2.memory s1.memory → Dropped d None [] os s2.top s1.top ms s1.memory
        cleared_state d None os ms e st = subst (λ m. Dropped d None [] os s2.top s1.top m s1.memory) (sym e) st
        cleared_state d (Some x) os ms ((t, xt, xn), e) st = let (o, eo) = slots x t xt in subst (λ m. Dropped d None [] os s2.top s1.top m s1.memory) (sym e) (stages.cleared X inits apart proper S k p d x os s2.top s1.top s2.memory s1.memory o eo st)

        as_is : (d : Dropping) (cur : Option ℕ) (inner os is : List Visit) (ms : Memory) → is ≡ inner ++ os → Dropped d cur inner os s2.top s1.top ms s1.memory → Dropped (record d { items = is }) cur inner os s2.top (with_items s1.top d is) ms s1.memory
        as_is d cur inner os is ms e st = record { is = refl; block = st.block; ends = st.ends; term = st.term; addr = st.addr; ty = st.ty; items = e; inside = st.inside; outside = st.outside; done = st.done; split = st.split; zero = st.zero; right = st.right; current = st.current; others = st.others; sound = st.sound }

        flags_there : (q : Place) (y : ℕ) → marks.flag q ≡ Some y → (t : Tree) × (slice_get E.locals y ≡ Some t) × (slice_get X.body1.locals y ≡ None)
        flags_there q y e = S.flags_there q y e

        -- what the unit's status and flag say of it
        known_unit : (d : Dropping) (i : Visit) (os : List Visit) (ms : Memory) (nms : Near ov s2.top.frame ms s1.memory) (sms : Rattle.drop_elab.proofs.refines.Visits.Slots low X.source X.bodies E apart proper s2.top.frame ms) (v : Value) → Dropped d None [] (i ∷ os) s2.top s1.top ms s1.memory → needs_drop D i.ty ≡ true → Rattle.drop_elab.proofs.refines.Outer.unit_in_ty D i.ty ≡ true → value_at s1.memory i.addr ≡ Some v → Rattle.drop_elab.proofs.refines.Units.KnownUnit low X.source X.bodies E apart proper X.body1.locals marks flags_there s2 s2.top eb2 ov ms s1.memory nms sms G i v (marks.status (place_of i.addr))
        unfolding flag
        known_unit d i os ms nms sms v st nd un ev = go (marks.status (place_of i.addr)) refl (S.status s1.top.block k p d.target (held s1.memory s1.top.frame) (place_of i.addr) st.block st.term st.sound kept)
          where
            U : Place
            U = place_of i.addr

            e : stand.left X inits apart proper (i ∷ os) ≡ place_of i.addr ∷ stand.left X inits apart proper os
            e = Rattle.drop_elab.proofs.refines.Parts.left_unit D apart proper i os (S.unit_is i.ty un nd)

            in_left : Has (stand.left X inits apart proper (i ∷ os)) (place_of i.addr)
            in_left = subst (λ ws. Has ws (place_of i.addr)) (sym e) (stages.has_first (place_of i.addr) (stand.left X inits apart proper os))

            kept : Has (Rattle.drop_elab.proofs.refines.Begins.kept_units p (stand.us X inits apart proper)) (place_of i.addr)
            kept = subst (λ ws. Has ws (place_of i.addr)) (sym st.split) (stages.has_back st.done (stand.left X inits apart proper (i ∷ os)) (place_of i.addr) in_left)

            is_held : held s1.memory s1.top.frame (place_of i.addr) ≡ Rattle.std.proofs.Common.not (is_hole v)
            is_held = stages.unit_value X inits apart proper S k p s1.memory s1.top.frame i v st.outside.0.frame ev

            not_not : (a b : Bool) → a ≡ Rattle.std.proofs.Common.not b → b ≡ Rattle.std.proofs.Common.not a
            not_not a true q = sym (ap Rattle.std.proofs.Common.not q)
            not_not a false q = sym (ap Rattle.std.proofs.Common.not q)

            go : (s : Status) → marks.status (place_of i.addr) ≡ s → StatusSays (marks.status (place_of i.addr)) (held s1.memory s1.top.frame (place_of i.addr)) → Rattle.drop_elab.proofs.refines.Units.KnownUnit low X.source X.bodies E apart proper X.body1.locals marks flags_there s2 s2.top eb2 ov ms s1.memory nms sms G i v (marks.status (place_of i.addr))
            go dead q h = subst (λ s. Rattle.drop_elab.proofs.refines.Units.KnownUnit low X.source X.bodies E apart proper X.body1.locals marks flags_there s2 s2.top eb2 ov ms s1.memory nms sms G i v s) (sym q) (not_not (held s1.memory s1.top.frame (place_of i.addr)) (is_hole v) is_held ∙ ap Rattle.std.proofs.Common.not (subst (λ s. StatusSays s (held s1.memory s1.top.frame (place_of i.addr))) q h))
            go static q h = subst (λ s. Rattle.drop_elab.proofs.refines.Units.KnownUnit low X.source X.bodies E apart proper X.body1.locals marks flags_there s2 s2.top eb2 ov ms s1.memory nms sms G i v s) (sym q) (not_not (held s1.memory s1.top.frame (place_of i.addr)) (is_hole v) is_held ∙ ap Rattle.std.proofs.Common.not (subst (λ s. StatusSays s (held s1.memory s1.top.frame (place_of i.addr))) q h))
            go conditional q h =
                let (x, ex) = S.wants s1.top.block k p d.target (place_of i.addr) st.block st.term kept q in
                let says = st.right (place_of i.addr) x in_left ex in
                subst (λ s. Rattle.drop_elab.proofs.refines.Units.KnownUnit low X.source X.bodies E apart proper X.body1.locals marks flags_there s2 s2.top eb2 ov ms s1.memory nms sms G i v s) (sym q) (x, ex, by_hole x (is_hole v) refl (subst (λ b. local_at ms s2.top.frame x ≡ Some (number (flag b))) is_held says))
              where
                by_hole : (x : ℕ) (b : Bool) → is_hole v ≡ b → local_at ms s2.top.frame x ≡ Some (number (flag (Rattle.std.proofs.Common.not (is_hole v)))) → ((local_at ms s2.top.frame x ≡ Some (number 0)) × (is_hole v ≡ true)) ⊎ ((m : ℕ) × (local_at ms s2.top.frame x ≡ Some (number (suc m))) × (is_hole v ≡ false))
                by_hole x true q f = inl (f ∙ ap (λ b. Some (number (flag (Rattle.std.proofs.Common.not b)))) q, q)
                by_hole x false q f = inr (0, f ∙ ap (λ b. Some (number (flag (Rattle.std.proofs.Common.not b)))) q, q)

        outer_answers : Ends → (d : Dropping) (i : Visit) (cur : Option ℕ) (os : List Visit) (x : Next) → Dropped d cur [] (i ∷ os) s2.top s1.top s2.memory s1.memory → Working cur [] (i ∷ os) s2.top.block s2.top.at d.target → n ≡ weigh D (i ∷ os) → visit_if X.source s1 d i os (needs_drop D i.ty) ≡ Some x → Answers X P n s2 x
        unfolding place_ty
        outer_answers ends d i cur os x st w wn e =
            let h = st.outside.0 in
            let typed = item_typed d st.is in
            let at = (subst (λ is. Rattle.mir_renaming.proofs.Typed.VisitsTy X.source V.valid1 G is) st.items typed.1).0 in
            finish_outer h.fine h.frame h.plain (machine.outer_step low X.source X.bodies E apart proper X.body1.locals marks s2 s2.top eb2 ov s1.memory fr.absent s1 d i x s2.memory near slots s2.top.block s2.top.at d.target h.fine refl h.frame h.plain flags_there cur os G w
            (item_place at h.frame, λ ms nms sms cl nd v ev. (value_at_ty D G s1.memory i.addr i.ty v r.typed1.mem at ev, λ un. known_unit d i os ms nms sms v (cleared_state d cur (i ∷ os) ms cl st) nd un ev)) e)
          where
            item_place : (at : AddrTy D G i.addr i.ty) → i.addr.frame ≡ s1.top.frame → place_ty D X.body1.locals (place_of i.addr) ≡ Some i.ty
            item_place at q = go st.outside.0.known
              where
                go : (k : (t : Tree) × (slice_get X.body1.locals i.addr.local ≡ Some t)) → place_ty D X.body1.locals (place_of i.addr) ≡ Some i.ty
                go (lt, z) = some_bind (λ t. path_ty D t i.addr.path) z (subst (λ y. path_ty D y i.addr.path ≡ Some i.ty) (some_eq D G at.local lt (G i.addr.frame i.addr.local) at.is (ap (λ f. G f i.addr.local) q ∙ own_locals i.addr.local lt z)) at.path)

            finish_outer : (pr : Proper i.ty) (q : i.addr.frame ≡ s1.top.frame) (plain : Plain i.addr.path) → machine.OutOutcome low X.source X.bodies E apart proper X.body1.locals marks s2 s2.top eb2 ov s1.memory fr.absent s1 d i x s2.memory near slots s2.top.block s2.top.at d.target pr refl q plain flags_there cur os → Answers X P n s2 x
            finish_outer pr q plain (ms, cl, inl (vs, wt, w, kk, b, a, mv, wk, less)) =
                after_items ends d None [] (vs ++ os) ms b a kk x (from_here kk _ mv) (cleared_past cur ms cl)
                (stages.flags_same X inits apart proper S k p (record d { items = vs ++ os }) None [] (vs ++ os) s2.top (place_in s2.top b a) (with_items s1.top d (vs ++ os)) ms ms s1.memory refl (λ y lt. refl) (stages.went X inits apart proper S k p d i os vs s2.top s1.top ms s1.memory wt (cleared_state d cur (i ∷ os) ms cl st)))
                wk (falls less) w
              where
                falls : (0 < kk) ⊎ (weigh D vs < Rattle.mir_rules.specs.Weights.nodes D i.ty) → (0 < kk) ⊎ (weigh D (vs ++ os) < n)
                falls (inl lt) = inl lt
                falls (inr lt) = inr (let b = weigh_append D vs os in omega (arith, b, lt, wn))
            finish_outer pr q plain (ms, cl, inr (nd, un, (v, ev, live), out)) =
                inner_goes ends d i (marks.flag (place_of i.addr)) [] os ms x pr q plain (cleared_past cur ms cl)
                (as_is d (marks.flag (place_of i.addr)) (i ∷ []) os (i ∷ os) ms refl (stages.entered X inits apart proper S k p d i os s2.top s1.top ms s1.memory v (S.unit_is i.ty un nd) ev live st.items (cleared_state d cur (i ∷ os) ms cl st)))
                (omega (arith, wn)) out

        -- ---- a step of a drop

        pub drop_answers : Ends → (d : Dropping) (cur : Option ℕ) (inner os : List Visit) (x : Next) → Dropped d cur inner os s2.top s1.top s2.memory s1.memory → Working cur inner os s2.top.block s2.top.at d.target → n ≡ weigh D (inner ++ os) → step X.source s1 ≡ Some x → Answers X P n s2 x
        unfolding work_off
        drop_answers ends d cur inner os x st w wn e = go inner os st w wn (subst (λ is. work_off X.source s1 d is ≡ Some x) st.items (running.drop_step_is X inits apart proper proper_locals s1 d k p d.target x eb st.block st.ends st.term st.is e))
          where
            go : (inner os : List Visit) → Dropped d cur inner os s2.top s1.top s2.memory s1.memory → Working cur inner os s2.top.block s2.top.at d.target → n ≡ weigh D (inner ++ os) → work_off X.source s1 d (inner ++ os) ≡ Some x → Answers X P n s2 x
            go (i ∷ others) os st w wn e = inner_answers ends d i cur others os x st w wn e
            go [] (i ∷ os) st w wn e = outer_answers ends d i cur os x st w wn e
            go [] [] st w wn e = absurd (grind arith)
