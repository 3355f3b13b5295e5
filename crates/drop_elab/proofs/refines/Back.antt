-- A destructor returns to a drop of the elaborated function, over the layer.
use Rattle.std.proofs.Common.{◌≡◌, ◌⊎◌, inl, inr, refl, sym, ap, ap₂, ◌∙◌, subst, ℕ, suc, ◌+◌, ◌<◌, true, false, nat_eq, List, [], ◌∷◌, ◌++◌, length, Option, Some, None, slice_get, append_assoc, arith}
use Rattle.mir_syntax.specs.Tree.{Tree}
use Rattle.mir_syntax.specs.Crate.{TypedBody}
use Rattle.mir_syntax.specs.Shapes.{Shape}
use Rattle.mir_rules.specs.DefinitionRules.{holds}
use Rattle.mir_semantics.specs.Values.{Addr, Value, is_hole, blank}
use Rattle.mir_semantics.specs.Memory.{Memory, local_at, value_at, write, close_frame}
use Rattle.mir_semantics.specs.Step.{Code, Dest, Visit, Dropping, Control, State, Next, on, local_addr, store, go_on, to_block, visits_of, work_on, left_at, destroyed_at, destroyed, return_to}
use Rattle.mir_renaming.specs.Renaming.{Renaming}
use Rattle.mir_syntax.proofs.Binds.{bind_some, some_bind}
use Rattle.mir_renaming.proofs.Memory.{same_or_not}
use Rattle.mir_renaming.proofs.Frames.{close_same, close_other}
use Rattle.mir_renaming.proofs.Statements.{Linked}
use Rattle.mir_renaming.proofs.Types.{TypeMap, HasTy, MemTy}
use Rattle.mir_renaming.proofs.Typed.{FramesTy, MaybeDrop, VisitsTy}
use Rattle.mir_relate.specs.Simulation.{moves}
use Rattle.mir_renaming.proofs.Items.{Owns, FirstNeeds}
use Rattle.drop_elab.specs.Elab.{Inits}
use Rattle.mir_relate.specs.Leaves.{Leaves}
use Rattle.mir_relate.specs.Mild.{Gentle}
use Rattle.mir_relate.proofs.Mild.{gentle_none, gentle_above}
use Rattle.mir_relate.specs.Frames.{Change, target, Pass, Below, Core}
use Rattle.mir_relate.specs.Pass.{Valids, KeptLaw, Goes, Related}
use Rattle.mir_relate.proofs.Leaves.{some_val, leaves_then, leaves_target}
use Rattle.mir_relate.proofs.Stacks.{knows_all, below_kept}
use Rattle.drop_elab.proofs.refines.Runs.{here_at, beside, moves_then}
use Rattle.drop_elab.proofs.refines.Machine.{place_in, on_at}
use Rattle.drop_elab.proofs.refines.Propers.{direct_proper}
use Rattle.drop_elab.proofs.refines.Items.{Proper, ProperShapes}
use Rattle.drop_elab.proofs.refines.Weights.{weigh}
use Rattle.drop_elab.proofs.refines.Visits as visits
use Rattle.drop_elab.proofs.refines.Drops as machine
use Rattle.drop_elab.proofs.refines.Stand as stand
use Rattle.drop_elab.proofs.refines.Stages as stages
use Rattle.drop_elab.proofs.refines.Running as running
use Rattle.drop_elab.proofs.refines.Ended as ended
use Rattle.drop_elab.proofs.refines.Ends as ends
use Rattle.drop_elab.proofs.refines.Steps as steps

pub closed_ty : (D : List Shape) (G : TypeMap) (m : Memory) (n : ℕ) → MemTy D G m → MemTy D G (close_frame m n)
closed_ty D G m n k = record { at = λ f x t v g e. go f x t v g e (same_or_not f n) }
  where
    go : (f x : ℕ) (t : Tree) (v : Value) → G f x ≡ Some t → local_at (close_frame m n) f x ≡ Some v → ((nat_eq f n ≡ true) × (f ≡ n)) ⊎ ((nat_eq f n ≡ false) × (f ≡ n → ⊥)) → HasTy D G t v
    go f x t v g e (inl p) = absurd (let q : local_at (close_frame m n) f x ≡ None = ap (λ i. local_at (close_frame m n) i x) p.1 ∙ close_same m n x in grind arith)
    go f x t v g e (inr p) = k.at f x t v g (sym (close_other m n f x p.1) ∙ e)

module _ (X : Change) (inits : Inits) (apart : (d : ℕ) → holds X.source.shapes (length X.source.shapes) d d ≡ false) (proper : ProperShapes X.source.shapes) (proper_locals : (x : ℕ) (t : Tree) → slice_get X.body1.locals x ≡ Some t → Proper t) (S : stages.Sorted X inits apart proper) (edges : ended.Edges X inits apart proper proper_locals S) (at2 : slice_get X.bodies X.f ≡ Some (stand.E X inits apart proper)) (V : Valids X) (Inv : State → Type 0) (kept : KeptLaw X (stand.pass X inits apart proper)) where
  abbrev D : List Shape
  D = X.source.shapes

  abbrev E : TypedBody
  E = stand.E X inits apart proper

  abbrev low : ℕ
  low = stand.low X inits apart proper

  abbrev P : Pass
  P = stand.pass X inits apart proper

  abbrev T : Code
  T = target X

  abbrev Frame : Renaming → Control → Control → Memory → Memory → Type 0
  Frame = stand.Frame X inits apart proper

  module _ (n : ℕ) (s2 s1 : State) (r : Related X (stand.pass X inits apart proper) V Inv n s2 s1) (c2 c1 : Control) (ds cs2 : List Control) (is1 : s1.callers ≡ c1 ∷ ds) (m2 m1 : Memory) (closed : m1 ≡ close_frame s1.memory s1.top.frame) (linked : Linked r.core.lent r.core.lent m2 m1) (fr : stand.Frame X inits apart proper r.core.lent c2 c1 m2 m1) (W : stand.Waits X inits apart proper s2.top.dest c2 c1 m2 m1) (be : Below X (stand.pass X inits apart proper) r.core.lent c2.dest c1.dest c2.frame c1.frame cs2 ds m2 m1) (lt1 : c1.frame < s1.top.frame) (lt2 : c2.frame < s2.top.frame) (w : Value) where
    abbrev j : Renaming
    j = r.core.lent

    abbrev G : TypeMap
    G = r.typed1.types

    eb2 : slice_get X.bodies c2.function ≡ Some E
    eb2 = ap (slice_get X.bodies) fr.function2 ∙ at2

    callers_typed : FramesTy X.source V.valid1 G (c1 ∷ ds)
    callers_typed = subst (FramesTy X.source V.valid1 G) is1 r.typed1.callers

    own_locals : (x : ℕ) (t : Tree) → slice_get X.body1.locals x ≡ Some t → G c1.frame x ≡ Some t
    own_locals = callers_typed.0.locals X.body1 (ap (slice_get X.source.bodies) fr.function1 ∙ X.at1)

    mt : MemTy D G m1
    mt = subst (MemTy D G) (sym closed) (closed_ty D G s1.memory s1.top.frame r.typed1.mem)

    -- the target's memory with the result
    abbrev pub M2 : Memory
    M2 = write m2 (local_addr c2.frame W.unread) w

    slots : visits.Slots low X.source X.bodies E apart proper c2.frame m2
    slots = running.slots_by X inits apart proper proper_locals j c2 c1 m2 m1 fr linked

    far : slice_get X.body1.locals W.unread ≡ None
    far = S.past W.unread W.far

    past : stand.Past X inits apart proper c2.frame m2 M2
    past = let (o, eo) = slots W.unread _ W.there in steps.past_write X inits apart proper proper_locals S at2 c2.frame W.unread m2 w o far eo

    unmapped : (h x y : ℕ) → j h x ≡ Some (c2.frame, y) → slice_get X.body1.locals y ≡ None → ⊥
    unmapped h x y e q = let (a, b, (t, z)) = fr.only h x y e in let u : ◌≡◌ {A = Option Tree} None (Some t) = sym q ∙ z in grind arith

    linked2 : (m : Memory) → stand.Past X inits apart proper c2.frame m2 m → (m1' : Memory) → Linked j j m2 m1' → Linked j j m m1'
    linked2 m p m1' l = record {
      mem = record { at = λ h x g y e v ev. (let (u, eu, rel) = l.mem.at h x g y e v ev in (u, p.others g y (λ q z. unmapped h x y (e ∙ ap (λ g. Some (g, y)) q) z) ∙ eu, rel)) };
      apart = l.apart;
    }

    leaves2 : Leaves D G j j c2.frame c1.frame M2 m1 m2 m1
    unfolding local_addr
    leaves2 = leaves_target D G j m2 m1 (record { frame = c2.frame; local = W.unread; path = [] }) w c2.frame c1.frame (λ h x e. unmapped h x W.unread e far) (omega arith)

    stays_low : (y : ℕ) → y < low → local_at M2 c2.frame y ≡ local_at m2 c2.frame y
    stays_low y lt = beside (here_at D [] c2.frame) m2 W.unread w c2.frame y (λ p q. (let f = W.far in omega (arith, lt, q, f)))

    -- what is the same in all cases
    core_of : (M1 : Memory) (c1' : Control) (n' : ℕ) → c1'.frame ≡ c1.frame → c1'.dest ≡ c1.dest → Linked j j M2 M1 → Leaves D G j j c2.frame c1.frame M2 M1 m2 m1 → Gentle D G c1.frame M1 m1 → stand.Own X inits apart proper n' j c2 c1' M2 M1 → Core X P n' (record s2 { memory = M2; top = c2; callers = cs2 }) (record s1 { memory = M1; top = c1'; callers = ds })
    core_of M1 c1' n' f1 d1 l lv ge o = record {
      lent = j;
      base = record { fresh1 = r.core.base.fresh1; fresh2 = r.core.base.fresh2; top1 = (let t = r.core.base.top1 in omega (arith, f1, t, lt1)); top2 = (let t = r.core.base.top2 in omega (arith, t, lt2)); answers = r.core.base.answers; trace = r.core.base.trace };
      linked = l;
      runs = inr ([], ds, refl, omega arith, (refl, λ G mt lk. o), subst (λ f. Below X P j c2.dest c1'.dest c2.frame f cs2 ds M2 M1) (sym f1) (subst (λ d. Below X P j c2.dest d c2.frame c1.frame cs2 ds M2 M1) (sym d1) (below_kept X P kept G j j c2.dest c1.dest c2.frame c1.frame cs2 ds M2 M1 m2 m1 (knows_all X V G ds callers_typed.1) lv ge be)));
    }

    -- the result is written to a local that nobody reads
    pub stored : (d : Dest) → s2.top.dest ≡ Some d → store D m2 d w ≡ Some M2
    unfolding store local_addr value_at
    stored d e =
        let (o, eo) = slots W.unread _ W.there in
        let same : record { addr = record { frame = c2.frame; local = W.unread; path = [] }; guard = None } ≡ d = some_val (sym W.dest ∙ e) in
        subst (λ d. store D m2 d w ≡ Some (write m2 (record { frame = c2.frame; local = W.unread; path = [] }) w)) same (some_bind _ (some_bind _ eo refl) refl)

    -- ---- the drop goes on

    abbrev s1r : State
    s1r = record s1 { memory = m1; callers = ds }

    abbrev with_items : List Visit → Control
    with_items is = record c1 { dropping = Some (record W.drop { items = is }) }

    abbrev Dropped : Dropping → Option ℕ → List Visit → List Visit → Control → Control → Memory → Memory → Type 0
    Dropped = stand.Dropped X inits apart proper W.block W.dropped

    fr2 : Frame j c2 c1 M2 m1
    fr2 = steps.frame_past X inits apart proper proper_locals S at2 j c2 c2 c1 c1 m2 M2 m1 refl refl refl refl past fr

    here_is : (s : State) → on_at s c2 M2 c2.block 0 ≡ record s { memory = M2; top = c2 }
    here_is s = ap₂ (λ a o. record s { memory = M2; top = record c2 { at = a; dropping = o } }) (sym W.begins) (sym W.calm)

    item_known : (v : Value) → value_at m1 W.item.addr ≡ Some v → HasTy D G W.item.ty v × (is_hole v ≡ false)
    item_known v ev =
        let own = (subst (Owns X.source) is1 r.drops.callers) in
        let needs = subst (FirstNeeds X.source) W.state.items (own.1 W.drop W.state.is) in
        let typed = subst (MaybeDrop X.source V.valid1 G) W.state.is callers_typed.0.dropping in
        let at = (subst (λ is. VisitsTy X.source V.valid1 G is) W.state.items typed.1).0 in
        running.inner_known X inits apart proper proper_locals G m1 c2 c1 m2 j W.item mt own_locals fr W.state.inside.0 at needs v ev

    -- where the target comes, and the drop's state there
    abbrev Stage : State → Value → Type 0
    Stage s v = (k i a : ℕ) × (m : Memory) × (moves T k (record s { memory = M2; top = c2 }) ≡ Some (on_at s c2 m i a)) × stand.Past X inits apart proper c2.frame M2 m × Dropped (record W.drop { items = visits_of D W.item.addr W.item.ty v ++ (W.inner ++ W.os) }) W.cur (visits_of D W.item.addr W.item.ty v ++ W.inner) W.os (place_in c2 i a) (with_items (visits_of D W.item.addr W.item.ty v ++ (W.inner ++ W.os))) m m1 × stand.Working X inits apart proper c1.block W.block W.cur (visits_of D W.item.addr W.item.ty v ++ W.inner) W.os i a W.drop.target

    stage : (x : Next) (v : Value) → left_at D m1 W.item.addr W.item.ty ≡ Some v → destroyed_at D s1r c1 W.drop (W.item ∷ (W.inner ++ W.os)) ≡ Some x → (s : State) → Stage s v
    stage x v ev e s =
        let (v', ev', w', (k, i, a, m, mv, by, wk)) = machine.resumed low X.source X.bodies E apart proper X.body1.locals (stand.marks_at X inits apart proper c1.block W.block) s c2 eb2 (running.over X inits apart proper proper_locals j c1) m1 fr2.absent s1r c1 W.drop W.item W.cur W.inner W.os x M2 (running.near_by X inits apart proper proper_locals j c2 c1 M2 m1 fr2 (linked2 M2 past m1 linked)) (running.slots_by X inits apart proper proper_locals j c2 c1 M2 m1 fr2 (linked2 M2 past m1 linked)) c2.block W.drop.target G W.paused refl item_known W.state.inside.0.frame W.state.inside.0.plain e in
        let same : v' ≡ v = some_val (sym ev' ∙ ev) in
        subst (Stage s) same (
          k,
          i,
          a,
          m,
          subst (λ t. moves T k t ≡ Some (on_at s c2 m i a)) (here_is s) mv,
          steps.past_beyond X inits apart proper proper_locals S at2 c2.frame M2 m by,
          stages.flags_same X inits apart proper S W.block W.dropped (record W.drop { items = visits_of D W.item.addr W.item.ty v' ++ (W.inner ++ W.os) }) W.cur (visits_of D W.item.addr W.item.ty v' ++ W.inner) W.os c2 (place_in c2 i a) (with_items (visits_of D W.item.addr W.item.ty v' ++ (W.inner ++ W.os))) m2 m m1 refl (λ y lt. by.others c2.frame y (λ _ q. omega (arith, lt, q)) ∙ stays_low y lt)
              (stages.parts_in X inits apart proper S W.block W.dropped W.drop W.cur W.item W.inner W.os (visits_of D W.item.addr W.item.ty v') c2 c1 m2 m1 (inr (v', refl)) W.state),
          wk,
        )

    -- items are left
    own_on : (is1 is2 : List Visit) (d : Dropping) → ((s : State) → (k i a : ℕ) × (m : Memory) × (moves T k (record s { memory = M2; top = c2 }) ≡ Some (on_at s c2 m i a)) × stand.Past X inits apart proper c2.frame M2 m × Dropped d W.cur is1 is2 (place_in c2 i a) (record c1 { dropping = Some d }) m m1 × stand.Working X inits apart proper c1.block W.block W.cur is1 is2 i a d.target) → stand.Own X inits apart proper (weigh D (is1 ++ is2)) j c2 (record c1 { dropping = Some d }) M2 m1
    own_on is1 is2 d st s =
        let (k, i, a, m, mv, ps, h, wk) = st s in
        record {
          control = place_in c2 i a;
          memory = m;
          count = k;
          comes = mv;
          same = (refl, refl);
          past = ps;
          frame = steps.frame_past X inits apart proper proper_locals S at2 j c2 (place_in c2 i a) c1 (record c1 { dropping = Some d }) M2 m m1 refl refl refl refl ps fr2;
          ready = inr (inl (W.block, W.dropped, d, W.cur, is1, is2, h, refl, refl, wk));
        }

    -- none is left
    own_done : (d : Dropping) (old : Value) → value_at m1 d.place.addr ≡ Some old → ((s : State) → (k i a : ℕ) × (m : Memory) × (moves T k (record s { memory = M2; top = c2 }) ≡ Some (on_at s c2 m i a)) × stand.Past X inits apart proper c2.frame M2 m × Dropped d W.cur [] [] (place_in c2 i a) (record c1 { dropping = Some d }) m m1 × stand.Working X inits apart proper c1.block W.block W.cur [] [] i a d.target) → stand.Own X inits apart proper (stand.number_of X inits apart proper d.target) j c2 (to_block d.target c1) M2 (write m1 d.place.addr (blank D d.place.ty))
    own_done d old ev st s =
        let (k, i, a, m, mv, ps, h, wk) = st s in
        let c1' : Control = record c1 { dropping = Some d } in
        let frm = steps.frame_past X inits apart proper proper_locals S at2 j c2 c2 c1 c1 M2 m m1 refl refl refl refl ps fr2 in
        let lm = linked2 m (steps.past_then X inits apart proper proper_locals S at2 c2.frame m2 M2 m past ps) m1 linked in
        let sl = running.slots_by X inits apart proper proper_locals j c2 c1 m m1 frm lm in
        let (k', m', mv', cl) = machine.finishes low X.source X.bodies E apart proper X.body1.locals (stand.marks_at X inits apart proper c1.block W.block) s c2 eb2 W.cur m i a d.target sl wk in
        let (st', pc) = ends.cleared_end X inits apart proper proper_locals S edges W.block W.dropped d W.cur (place_in c2 i a) c1' m m' m1 sl (cleared_is s W.cur m m' cl) h in
        let ps' = steps.past_then X inits apart proper proper_locals S at2 c2.frame M2 m m' ps pc in
        let c2' = place_in c2 d.target 0 in
        let frm' = steps.frame_past X inits apart proper proper_locals S at2 j c2 c2' c1 c1' M2 m' m1 refl refl refl refl ps' fr2 in
        let lm' = linked2 m' (steps.past_then X inits apart proper proper_locals S at2 c2.frame m2 M2 m' past ps') m1 linked in
        let (l, fr', sd, af) = ends.done_at X inits apart proper proper_locals S edges G j W.block W.dropped d (place_in c2 i a) c2' c1' m' m1 old mt own_locals ev refl refl refl refl refl lm' frm' st' in
        record {
          control = c2';
          memory = m';
          count = k + suc k';
          comes = moves_then T k (suc k') (record s { memory = M2; top = c2 }) (on_at s c2 m i a) (Some (on_at s c2 m' d.target 0)) mv mv';
          same = (refl, refl);
          past = ps';
          frame = fr';
          ready = inl (refl, sd);
        }
      where
        cleared_is : (s : State) (cur : Option ℕ) (m m' : Memory) → machine.Cleared low X.source X.bodies E apart proper X.body1.locals (stand.marks_at X inits apart proper c1.block W.block) s c2 eb2 cur m m' → ends.SameFlags X inits apart proper proper_locals S edges cur c2.frame m m'
        cleared_is s None m m' e = e
        cleared_is s (Some x) m m' e = e

    -- ---- both go on

    abbrev At : List Visit → List Visit → List Visit → Type 0
    At is is1 is2 = (s : State) → (k i a : ℕ) × (m : Memory) × (moves T k (record s { memory = M2; top = c2 }) ≡ Some (on_at s c2 m i a)) × stand.Past X inits apart proper c2.frame M2 m × Dropped (record W.drop { items = is }) W.cur is1 is2 (place_in c2 i a) (with_items is) m m1 × stand.Working X inits apart proper c1.block W.block W.cur is1 is2 i a W.drop.target

    pub Going : Next → Type 0
    Going x = Goes X P (go_on (record s2 { callers = cs2 }) M2 c2) x

    on_goes : (is is1 is2 : List Visit) → At is is1 is2 → (x : Next) → Some (on (record s1r { top = with_items is })) ≡ Some x → Going x
    unfolding Going
    on_goes is is1 is2 st x e = subst (Goes X P (go_on (record s2 { callers = cs2 }) M2 c2)) (some_val e) (weigh D (is1 ++ is2), record s2 { memory = M2; top = c2; callers = cs2 }, refl, core_of m1 (with_items is) (weigh D (is1 ++ is2)) refl refl (linked2 M2 past m1 linked) leaves2 (gentle_none D G c1.frame m1) (own_on is1 is2 (record W.drop { items = is }) st))

    done_goes : (is : List Visit) → At is [] [] → (x : Next) → work_on D s1r c1 W.drop [] ≡ Some x → Going x
    unfolding work_on Going
    done_goes is st x e =
        let (old, e1, e2) = bind_some e in
        let d : Dropping = record W.drop { items = is } in
        let (at, (lt, el, pt)) = ends.typed_place X inits apart proper proper_locals S edges G c1.frame W.dropped W.drop.place.ty own_locals W.state.ty in
        let (di, th) = edges.direct c1.block W.block W.dropped W.drop.target lt W.state.block W.state.term el in
        let prt : Proper W.drop.place.ty = direct_proper X.source.shapes proper W.dropped.proj lt W.drop.place.ty (proper_locals W.dropped.local lt el) di pt in
        let B = blank D W.drop.place.ty in
        let M = write m1 W.drop.place.addr B in
        let ev' : value_at m1 (stand.addr_at X inits apart proper c1.frame W.dropped) ≡ Some old = subst (λ a. value_at m1 a ≡ Some old) W.state.addr e1 in
        let l : Linked j j M2 M = subst (λ a. Linked j j M2 (write m1 a B)) (sym W.state.addr) (ended.linked_after X inits apart proper proper_locals S G m1 c1.frame W.dropped W.drop.place.ty old own_locals at prt ev' j M2 mt (linked2 M2 past m1 linked)) in
        let af : W.drop.place.addr.frame ≡ c1.frame = ap (λ (a : Addr). a.frame) W.state.addr in
        let lv : Leaves D G j j c2.frame c1.frame M2 M m2 m1 = leaves_then D G j j j c2.frame c1.frame m2 m1 M2 m1 M2 M leaves2 (ended.leaves_own D G j M2 m1 W.drop.place.addr B c2.frame c1.frame (omega (arith, af))) in
        subst (Goes X P (go_on (record s2 { callers = cs2 }) M2 c2)) (some_val e2) (stand.number_of X inits apart proper W.drop.target, record s2 { memory = M2; top = c2; callers = cs2 }, refl, core_of M (to_block W.drop.target c1) (stand.number_of X inits apart proper W.drop.target) refl refl l lv (gentle_above D G c1.frame m1 W.drop.place.addr B (omega (arith, af))) (own_done d old e1 st))

    pub back : (x : Next) → destroyed D s1r c1 ≡ Some x → Going x
    unfolding destroyed destroyed_at work_on
    back x e =
        let (d0, e1, k1) = bind_some e in
        let same : d0 ≡ W.drop = some_val (sym e1 ∙ W.state.is) in
        let k2 : destroyed_at D s1r c1 W.drop (W.item ∷ (W.inner ++ W.os)) ≡ Some x = subst (λ is. destroyed_at D s1r c1 W.drop is ≡ Some x) W.state.items (subst (λ (d : Dropping). destroyed_at D s1r c1 d d.items ≡ Some x) same k1) in
        let (v, ev, k3) = bind_some k2 in
        let vs = visits_of D W.item.addr W.item.ty v in
        go (vs ++ W.inner) W.os (vs ++ (W.inner ++ W.os)) (sym (append_assoc vs W.inner W.os)) (λ s. stage x v ev k2 s) k3
      where
        go : (is1 is2 is : List Visit) → is ≡ is1 ++ is2 → At is is1 is2 → work_on D s1r c1 W.drop is ≡ Some x → Going x
        go is1 is2 (i ∷ is) q st e = on_goes (i ∷ is) is1 is2 st x e
        go [] [] [] q st e = done_goes [] st x e
        go (i ∷ is1) is2 [] q st e = absurd (let z = ap length q in omega (arith, z))
        go [] (i ∷ is2) [] q st e = absurd (let z = ap length q in omega (arith, z))

    -- the law of the layer, for a destructor that returns
    pub returns : s1.top.dest ≡ None → (v : Value) (x : Next) → return_to D s1 m1 s1.top.dest (c1 ∷ ds) v ≡ Some x → Goes X P (return_to D s2 m2 s2.top.dest (c2 ∷ cs2) w) x
    unfolding return_to Going
    returns none v x e =
        let e' : destroyed D s1r c1 ≡ Some x = subst (λ d. return_to D s1 m1 d (c1 ∷ ds) v ≡ Some x) none e in
        let target_is : return_to D s2 m2 s2.top.dest (c2 ∷ cs2) w ≡ go_on (record s2 { callers = cs2 }) M2 c2 = go s2.top.dest refl in
        subst (λ o. Goes X P o x) (sym target_is) (back x e')
      where
        go : (o : Option Dest) → s2.top.dest ≡ o → return_to D s2 m2 o (c2 ∷ cs2) w ≡ go_on (record s2 { callers = cs2 }) M2 c2
        go None q = absurd (let z = sym q ∙ W.dest in grind arith)
        go (Some d) q = some_bind _ (stored d q) refl
