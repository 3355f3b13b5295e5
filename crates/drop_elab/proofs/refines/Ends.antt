-- The end of a drop, over the layer.
use Rattle.std.proofs.Common.{◌≡◌, inl, refl, sym, ap, ◌∙◌, subst, ℕ, suc, ◌+◌, false, List, [], length, Option, Some, None, slice_get, arith}
use Rattle.mir_syntax.specs.declared.body.Place.{Place}
use Rattle.mir_syntax.specs.Tree.{Tree}
use Rattle.mir_syntax.specs.Crate.{TypedBlock, TypedBody}
use Rattle.mir_syntax.specs.Shapes.{Shape, path_ty, place_ty}
use Rattle.mir_num.specs.Numbers.{flag}
use Rattle.mir_rules.specs.DefinitionRules.{holds}
use Rattle.mir_semantics.specs.Values.{Value, number, blank}
use Rattle.mir_semantics.specs.Memory.{Memory, value_at, write}
use Rattle.mir_semantics.specs.Step.{Code, Visit, Dropping, Control, State, local_addr, to_block, work_on}
use Rattle.mir_renaming.specs.Renaming.{Renaming}
use Rattle.mir_syntax.proofs.Binds.{bind_some}
use Rattle.mir_renaming.proofs.Statements.{Linked}
use Rattle.mir_renaming.proofs.Types.{TypeMap, AddrTy, MemTy}
use Rattle.drop_elab.specs.Elab.{Inits}
use Rattle.mir_relate.specs.Frames.{Change, target, Pass, Below}
use Rattle.mir_relate.specs.Pass.{Valids, FrameLaws, Answers, Related}
use Rattle.mir_relate.proofs.Mild.{gentle_above}
use Rattle.mir_relate.proofs.Leaves.{some_val, leaves_then}
use Rattle.mir_relate.proofs.Own as own
use Rattle.drop_elab.proofs.refines.Runs.{moves_then}
use Rattle.drop_elab.proofs.refines.Machine.{place_in, on_at}
use Rattle.drop_elab.proofs.refines.Propers.{direct_proper}
use Rattle.drop_elab.proofs.refines.Items.{Proper, ProperShapes}
use Rattle.drop_elab.proofs.refines.Visits as visits
use Rattle.drop_elab.proofs.refines.Drops as machine
use Rattle.drop_elab.proofs.refines.Stand as stand
use Rattle.drop_elab.proofs.refines.Stages as stages
use Rattle.drop_elab.proofs.refines.Running as running
use Rattle.drop_elab.proofs.refines.Ended as ended
use Rattle.drop_elab.proofs.refines.Steps as steps

module _ (X : Change) (inits : Inits) (apart : (d : ℕ) → holds X.source.shapes (length X.source.shapes) d d ≡ false) (proper : ProperShapes X.source.shapes) (proper_locals : (x : ℕ) (t : Tree) → slice_get X.body1.locals x ≡ Some t → Proper t) (S : stages.Sorted X inits apart proper) (edges : ended.Edges X inits apart proper proper_locals S) where
  abbrev D : List Shape
  D = X.source.shapes

  abbrev E : TypedBody
  E = stand.E X inits apart proper

  abbrev low : ℕ
  low = stand.low X inits apart proper

  abbrev Dropped : TypedBlock → Place → Dropping → Option ℕ → List Visit → List Visit → Control → Control → Memory → Memory → Type 0
  Dropped = stand.Dropped X inits apart proper

  -- the place of the drop in the source's memory
  pub typed_place : (G : TypeMap) (f : ℕ) (p : Place) (t : Tree) → ((x : ℕ) (t : Tree) → slice_get X.body1.locals x ≡ Some t → G f x ≡ Some t) → place_ty D X.body1.locals p ≡ Some t → AddrTy D G (stand.addr_at X inits apart proper f p) t × ((lt : Tree) × (slice_get X.body1.locals p.local ≡ Some lt) × (path_ty D lt p.proj ≡ Some t))
  unfolding place_ty
  typed_place G f p t lk e = let (lt, e1, e2) = bind_some e in (record { local = lt; is = lk p.local lt e1; path = e2 }, (lt, e1, e2))

  abbrev pub SameFlags : Option ℕ → ℕ → Memory → Memory → Type 0
  SameFlags None f m m' = m' ≡ m
  SameFlags (Some x) f m m' = ((t : Tree) × (slice_get E.locals x ≡ Some t) × (slice_get X.body1.locals x ≡ None)) × (m' ≡ write m (local_addr f x) (number (flag false)))

  pub cleared_end : (k : TypedBlock) (p : Place) (d : Dropping) (cur : Option ℕ) (c2 c1 : Control) (m m' m1 : Memory) → visits.Slots low X.source X.bodies E apart proper c2.frame m → SameFlags cur c2.frame m m' → Dropped k p d cur [] [] c2 c1 m m1 → Dropped k p d None [] [] c2 c1 m' m1 × stand.Past X inits apart proper c2.frame m m'
  cleared_end k p d None c2 c1 m m' m1 slots e st = (subst (λ m. Dropped k p d None [] [] c2 c1 m m1) (sym e) st, subst (stand.Past X inits apart proper c2.frame m) (sym e) (record { others = λ g x n. refl; there = λ x v e. (v, e) }))
  cleared_end k p d (Some x) c2 c1 m m' m1 slots ((t, xt, xn), e) st =
      let (o, eo) = slots x t xt in (
        subst (λ m. Dropped k p d None [] [] c2 c1 m m1) (sym e) (stages.cleared X inits apart proper S k p d x [] c2 c1 m m1 o eo st),
        subst (stand.Past X inits apart proper c2.frame m) (sym e) (record {
          others = λ g y n. Rattle.drop_elab.proofs.refines.Runs.beside (Rattle.drop_elab.proofs.refines.Runs.here_at D [] c2.frame) m x (number (flag false)) g y (λ p q. n p (ap (slice_get X.body1.locals) q ∙ xn));
          there = (Rattle.drop_elab.proofs.refines.Runs.beyond_write (Rattle.drop_elab.proofs.refines.Runs.here_at D [] c2.frame) x x m (number (flag false)) o (omega arith) eo).there;
        }),
      )

  -- both frames, when the drop is done
  pub done_at : (G : TypeMap) (j : Renaming) (k : TypedBlock) (p : Place) (d : Dropping) (c2 c2' c1 : Control) (m2 m1 : Memory) (old : Value) → MemTy D G m1 → ((x : ℕ) (t : Tree) → slice_get X.body1.locals x ≡ Some t → G c1.frame x ≡ Some t) → value_at m1 d.place.addr ≡ Some old → c2'.frame ≡ c2.frame → c2'.function ≡ c2.function → c2'.block ≡ d.target → c2'.at ≡ 0 → c2'.dropping ≡ None → Linked j j m2 m1 → stand.Frame X inits apart proper j c2' c1 m2 m1 → Dropped k p d None [] [] c2 c1 m2 m1 → Linked j j m2 (write m1 d.place.addr (blank D d.place.ty)) × stand.Frame X inits apart proper j c2' (to_block d.target c1) m2 (write m1 d.place.addr (blank D d.place.ty)) × stand.Stated X inits apart proper c2' (to_block d.target c1) m2 (write m1 d.place.addr (blank D d.place.ty)) × (d.place.addr.frame ≡ c1.frame)
  done_at G j k p d c2 c2' c1 m2 m1 old mt lk ev f2 g2 b2 a2 q2 l fr st =
      let (at, (lt, el, pt)) = typed_place G c1.frame p d.place.ty lk st.ty in
      let (di, th) = edges.direct c1.block k p d.target lt st.block st.term el in
      let prt : Proper d.place.ty = direct_proper X.source.shapes proper p.proj lt d.place.ty (proper_locals p.local lt el) di pt in
      let ev' : value_at m1 (stand.addr_at X inits apart proper c1.frame p) ≡ Some old = subst (λ a. value_at m1 a ≡ Some old) st.addr ev in
      subst (λ a. Linked j j m2 (write m1 a (blank D d.place.ty)) × stand.Frame X inits apart proper j c2' (to_block d.target c1) m2 (write m1 a (blank D d.place.ty)) × stand.Stated X inits apart proper c2' (to_block d.target c1) m2 (write m1 a (blank D d.place.ty)) × (a.frame ≡ c1.frame)) (sym st.addr) (
        ended.linked_after X inits apart proper proper_locals S G m1 c1.frame p d.place.ty old lk at prt ev' j m2 mt l,
        ended.frame_after X inits apart proper proper_locals S G m1 c1.frame p d.place.ty old lk at prt ev' j c2' c1 (to_block d.target c1) m2 refl refl refl lt el di th fr,
        ended.stated_after X inits apart proper proper_locals S edges k p d c2 c2' c1 m2 m1 (write m1 (stand.addr_at X inits apart proper c1.frame p) (blank D d.place.ty)) f2 b2 a2 q2 st
            (λ u hu. ended.held_after X inits apart proper proper_locals S G m1 c1.frame p d.place.ty old lk at prt ev' u hu),
        refl,
      )

  module _ (at2 : slice_get X.bodies X.f ≡ Some (stand.E X inits apart proper)) (V : Valids X) (Inv : State → Type 0) (frames : FrameLaws X (stand.pass X inits apart proper) V Inv) (n : ℕ) (s2 s1 : State) (r : Related X (stand.pass X inits apart proper) V Inv n s2 s1) (be : Below X (stand.pass X inits apart proper) r.core.lent s2.top.dest s1.top.dest s2.top.frame s1.top.frame s2.callers s1.callers s2.memory s1.memory) (fr : stand.Frame X inits apart proper r.core.lent s2.top s1.top s2.memory s1.memory) (k : TypedBlock) (p : Place) (calm2 : s2.top.dropping ≡ None) where
    abbrev P : Pass
    P = stand.pass X inits apart proper

    abbrev T : Code
    T = target X

    abbrev eb2 : slice_get X.bodies s2.top.function ≡ Some E
    eb2 = ap (slice_get X.bodies) fr.function2 ∙ at2

    pub ends : steps.Ends X inits apart proper proper_locals S at2 V Inv frames n s2 s1 r be fr k p calm2
    unfolding work_on
    ends d cur m i a kk x mv ps st w e =
        let (old, e1, e2) = bind_some e in
        let lm = steps.left_past X inits apart proper proper_locals S at2 V Inv frames n s2 s1 r be fr m ps in
        let frm = steps.frame_past X inits apart proper proper_locals S at2 r.core.lent s2.top s2.top s1.top s1.top s2.memory m s1.memory refl refl refl refl ps fr in
        let slots = running.slots_by X inits apart proper proper_locals r.core.lent s2.top s1.top m s1.memory frm lm.0 in
        let (k', m', mv', cl) = machine.finishes low X.source X.bodies E apart proper X.body1.locals (stand.marks_at X inits apart proper s1.top.block k) s2 s2.top eb2 cur m i a d.target slots w in
        let c2' = place_in s2.top d.target 0 in
        let (st', pc) = cleared_end k p (record d { items = [] }) cur (place_in s2.top i a) (record s1.top { dropping = Some (record d { items = [] }) }) m m' s1.memory slots (cleared_is cur m' cl) st in
        let ps' = steps.past_then X inits apart proper proper_locals S at2 s2.top.frame s2.memory m m' ps pc in
        let lm' = steps.left_past X inits apart proper proper_locals S at2 V Inv frames n s2 s1 r be fr m' ps' in
        let frm' = steps.frame_past X inits apart proper proper_locals S at2 r.core.lent s2.top c2' s1.top (record s1.top { dropping = Some (record d { items = [] }) }) s2.memory m' s1.memory refl refl refl refl ps' fr in
        let (l, fr', sd, af) = done_at r.typed1.types r.core.lent k p (record d { items = [] }) (place_in s2.top i a) c2' (record s1.top { dropping = Some (record d { items = [] }) }) m' s1.memory old r.typed1.mem (r.typed1.top.locals X.body1 (ap (slice_get X.source.bodies) fr.function1 ∙ X.at1)) e1 refl refl refl refl refl lm'.0 frm' st' in
        let M = write s1.memory d.place.addr (blank D d.place.ty) in
        let lv = leaves_then D r.typed1.types r.core.lent r.core.lent r.core.lent s2.top.frame s1.top.frame s2.memory s1.memory m' s1.memory m' M lm'.1 (ended.leaves_own D r.typed1.types r.core.lent m' s1.memory d.place.addr (blank D d.place.ty) s2.top.frame s1.top.frame (omega (arith, af))) in
        subst (Answers X P n s2) (some_val e2) (
          kk + suc k',
          stand.number_of X inits apart proper d.target,
          on_at s2 s2.top m' d.target 0,
          moves_then T kk (suc k') s2 (on_at s2 s2.top m i a) (Some (on_at s2 s2.top m' d.target 0)) mv mv',
          own.own_core X P V Inv frames n s2 s1 r [] s1.callers refl (omega arith) be (stand.number_of X inits apart proper d.target) m' M c2' (to_block d.target s1.top) refl refl refl refl (l, lv) (gentle_above D r.typed1.types s1.top.frame s1.memory d.place.addr (blank D d.place.ty) (omega (arith, af))) (
            refl,
            λ G mt lk s. record {
              control = c2';
              memory = m';
              count = 0;
              comes = refl;
              same = (refl, refl);
              past = steps.past_refl X inits apart proper proper_locals S at2 s2.top.frame m';
              frame = fr';
              ready = inl (refl, sd);
            },
          ),
          inl (omega arith),
        )
      where
        cleared_is : (cur : Option ℕ) (m' : Memory) → machine.Cleared low X.source X.bodies E apart proper X.body1.locals (stand.marks_at X inits apart proper s1.top.block k) s2 s2.top eb2 cur m m' → SameFlags cur s2.top.frame m m'
        cleared_is None m' e = e
        cleared_is (Some x) m' e = e
