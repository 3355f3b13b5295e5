-- Frames of the elaborated function open, wait and go on: the layer's laws of them.
use Rattle.std.proofs.Common.{◌≡◌, ◌⊎◌, inl, inr, refl, sym, ap, ap₂, ◌∙◌, subst, ℕ, ◌<◌, true, false, List, [], ◌∷◌, ◌++◌, length, Option, Some, None, slice_get, arith}
use Rattle.mir_syntax.specs.declared.body.Callee.{Callee}
use Rattle.mir_syntax.specs.declared.body.Operand.{Operand}
use Rattle.mir_syntax.specs.declared.body.Place.{Place}
use Rattle.mir_syntax.specs.declared.body.Term.TheVariants.{Call}
use Rattle.mir_syntax.specs.Tree.{Tree}
use Rattle.mir_syntax.specs.Crate.{TypedBlock}
use Rattle.mir_syntax.specs.Shapes.{Shape, place_ty}
use Rattle.mir_rules.specs.DefinitionRules.{holds}
use Rattle.mir_semantics.specs.Values.{Value, whole}
use Rattle.mir_semantics.specs.Memory.{Memory, local_at, close_frame}
use Rattle.mir_semantics.specs.Step.{Dest, Dropping, Control, State, Next, type_of, store, go_on, destroyed, return_to}
use Rattle.mir_syntax.proofs.Binds.{bind_some, some_bind}
use Rattle.mir_renaming.specs.Renaming.{Renaming}
use Rattle.mir_renaming.proofs.Memory.{write_other}
use Rattle.mir_renaming.proofs.Statements.{Linked, DestRel}
use Rattle.mir_renaming.proofs.Stores.{store_split}
use Rattle.mir_renaming.proofs.Types.{TypeMap, MemTy, AddrTy}
use Rattle.mir_renaming.proofs.Typed.{FramesTy, TermTy}
use Rattle.drop_elab.specs.Elab.{Inits}
use Rattle.mir_relate.specs.Alike.{Same}
use Rattle.mir_relate.specs.Frames.{Change, DestsRel, Pass, Below, lowest}
use Rattle.mir_relate.specs.Pass.{GentleTo, Valids, FrameLaws, Goes, Related, KeptLaw}
use Rattle.mir_relate.proofs.Leaves.{some_val, leaves_none, leaves_less}
use Rattle.mir_relate.proofs.Mild.{gentle_on}
use Rattle.mir_relate.proofs.Near as near
use Rattle.mir_relate.proofs.Single.{back_core, knows_waiting}
use Rattle.drop_elab.proofs.refines.Items.{Proper, ProperShapes}
use Rattle.drop_elab.proofs.refines.Stand as stand
use Rattle.drop_elab.proofs.refines.Stages as stages
use Rattle.drop_elab.proofs.refines.Ended as ended
use Rattle.drop_elab.proofs.refines.Lasts.{kept_law}
use Rattle.drop_elab.proofs.refines.Starts as starts
use Rattle.drop_elab.proofs.refines.Back as back
use Rattle.drop_elab.proofs.refines.Back.{closed_ty}
use Rattle.drop_elab.proofs.refines.Resumed as resumed

module _ (X : Change) (inits : Inits) (apart : (d : ℕ) → holds X.source.shapes (length X.source.shapes) d d ≡ false) (proper : ProperShapes X.source.shapes) (proper_locals : (x : ℕ) (t : Tree) → slice_get X.body1.locals x ≡ Some t → Proper t) (S : stages.Sorted X inits apart proper) (edges : ended.Edges X inits apart proper proper_locals S) (is2 : X.body2 ≡ stand.E X inits apart proper) (V : Valids X) (Inv : State → Type 0) where
  abbrev D : List Shape
  D = X.source.shapes

  abbrev P : Pass
  P = stand.pass X inits apart proper

  abbrev pub at2 : slice_get X.bodies X.f ≡ Some (stand.E X inits apart proper)
  at2 = X.at2 ∙ ap (λ b. Some b) is2

  abbrev kept : KeptLaw X (stand.pass X inits apart proper)
  kept = kept_law X inits apart proper proper_locals S V.needs

  -- a result leaves the locals that the source hasn't
  pub further_still : (j : Renaming) (c2 c1 : Control) (m2 m1 m2' : Memory) (d c : Dest) (w : Value) → stand.Frame X inits apart proper j c2 c1 m2 m1 → DestRel j d c → store D m2 c w ≡ Some m2' → (y : ℕ) → slice_get X.body1.locals y ≡ None → local_at m2' c2.frame y ≡ local_at m2 c2.frame y
  further_still j c2 c1 m2 m1 m2' d c w fr dr g y none =
      let (old, e1, same) = store_split D m2 m2' c w g in
      ap (λ m. local_at m c2.frame y) (sym same) ∙ write_other m2 c.addr w c2.frame y (λ p q. (
      let (a, b, (t, z)) = fr.only d.addr.frame d.addr.local y (dr.addr.root ∙ ap₂ (λ f x. Some (f, x)) (sym p) (sym q)) in
      let u : ◌≡◌ {A = Option Tree} None (Some t) = sym none ∙ z in
      grind arith))

  -- the place of a call of the source has a type
  pub called_ty : (i : ℕ) (k : TypedBlock) (p : Place) (g : Callee) (os : List Operand) (u : ℕ) → slice_get X.body1.blocks i ≡ Some k → k.term ≡ Call p g os u → (t : Tree) × (place_ty X.source.shapes X.body1.locals p ≡ Some t)
  unfolding type_of
  called_ty i k p g os u ek term =
      let (t, pt, ct) = subst (TermTy X.source (record { shapes = X.source.shapes; locals = X.body1.locals; frame = 0 })) term (V.valid1.terms 0 X.f X.body1 i k X.at1 ek) in
      (t, pt)

  module _ (n : ℕ) (s2 s1 : State) (r : Related X (stand.pass X inits apart proper) V Inv n s2 s1) (c2 c1 : Control) (ds cs2 : List Control) (is1 : s1.callers ≡ c1 ∷ ds) (m2 m1 : Memory) (closed : m1 ≡ close_frame s1.memory s1.top.frame) (linked : Linked r.core.lent r.core.lent m2 m1) (fr : stand.Frame X inits apart proper r.core.lent c2 c1 m2 m1) (be : Below X (stand.pass X inits apart proper) r.core.lent c2.dest c1.dest c2.frame c1.frame cs2 ds m2 m1) (lt1 : c1.frame < s1.top.frame) (lt2 : c2.frame < s2.top.frame) (v w : Value) (hv : Same r.core.lent v w) (wh : whole v ≡ true) (x : Next) (ge : GentleTo X r.typed1.types c1.frame m1 x) where
    abbrev j : Renaming
    j = r.core.lent

    abbrev G : TypeMap
    G = r.typed1.types

    own_locals : (x : ℕ) (t : Tree) → slice_get X.body1.locals x ≡ Some t → G c1.frame x ≡ Some t
    own_locals = (subst (FramesTy X.source V.valid1 G) is1 r.typed1.callers).0.locals X.body1 (ap (slice_get X.source.bodies) fr.function1 ∙ X.at1)

    mt : MemTy D G m1
    mt = subst (MemTy D G) (sym closed) (closed_ty D G s1.memory s1.top.frame r.typed1.mem)

    called_back : (d2 d1 : Option Dest) → stand.Called X inits apart proper r.core.lent d2 d1 c2 c1 m2 m1 → DestsRel r.core.lent d1 d2 → ((d : Dest) → d1 ≡ Some d → (t : Tree) × AddrTy X.source.shapes r.typed1.types d.addr t) → return_to X.source.shapes s1 m1 d1 (c1 ∷ ds) v ≡ Some x → Goes X P (return_to X.source.shapes s2 m2 d2 (c2 ∷ cs2) w) x
    unfolding return_to destroyed
    called_back None None W dr dt e = absurd (let (d, e1, k1) = bind_some e in let z : ◌≡◌ {A = Option Dropping} None (Some d) = sym W.stands1.2 ∙ e1 in grind arith)
    called_back (Some d2) (Some d1) W dr dt e =
        let (t, at) = dt d1 refl in
        let (m1', e1, k1) = bind_some e in
        let (m2', g1, l', lv) = near.store_leaves D G j s2.top.frame s1.top.frame m2 m1 m2 m1 m1' d1 d2 t v w linked (leaves_none D G j s2.top.frame s1.top.frame m2 m1) dr at hv e1 in
        let lv' = leaves_less D G j j s2.top.frame s1.top.frame c2.frame c1.frame m2' m1' m2 m1 (omega (arith, lt2)) (omega (arith, lt1)) lv in
        let (pl, pt) = called_ty W.from W.block W.place W.callee W.args W.next W.is W.term in
        let o = resumed.own X inits apart proper proper_locals S edges is2 j (Some d2) (Some d1) c2 c1 m2 m1 m2' m1' W fr pl pt d1 refl v wh e1 (further_still j c2 c1 m2 m1 m2' d1 d2 w fr dr g1) G mt own_locals in
        let n' = stand.number_of X inits apart proper c1.block in
        subst (λ o. Goes X P o x) (sym (some_bind _ g1 refl)) (subst (λ z. Goes X P (go_on (record s2 { callers = cs2 }) m2' c2) z) (some_val k1)
        (n', _, refl, back_core X P V Inv kept n s2 s1 r m2 m1 m2' m1' c2 c1 ds cs2 (knows_waiting X P V Inv n s2 s1 r c1 ds is1).1 be lt1 lt2 l' lv' (gentle_on X G c1.frame m1 (record s1 { memory = m1'; top = c1; callers = ds }) x ge k1 (omega arith)) n' (refl, o)))
    called_back None (Some d1) W dr dt e = absurd dr
    called_back (Some d2) None W dr dt e = absurd dr

  -- where a body is formed
  pub frames : X.body1.args < length X.body1.locals → (k : TypedBlock) × (slice_get X.body1.blocks 0 ≡ Some k) → FrameLaws X (stand.pass X inits apart proper) V Inv
  frames below first = record {
    kept = kept;
    once = starts.once X inits apart proper;
    slots = λ j vs ws hv few x y e v k. starts.slots X inits apart proper is2 below j vs ws hv x y e v k;
    begins = λ j k2 k1 d2 d1 m2 m1 vs ws hv ar f1 f2 l. (stand.number_of X inits apart proper 0, (refl, starts.begins X inits apart proper is2 below proper_locals first j k2 k1 d2 d1 m2 m1 vs ws ar f1 f2));
    resumes = λ n s2 s1 r m2 m1 c2 c1 gs ds cs2 v w x q q2 p2 p1 l wt be l1 l2 lo dt hv res k ge. resumes n s2 s1 r m2 m1 c2 c1 gs ds cs2 v w x q p1 l wt be l1 l2 dt hv res.no_hole k ge;
  }
    where
      resumes : (n : ℕ) (s2 s1 : State) (r : Related X (stand.pass X inits apart proper) V Inv n s2 s1) (m2 m1 : Memory) (c2 c1 : Control) (gs ds cs2 : List Control) (v w : Value) (x : Next) → s1.callers ≡ c1 ∷ (gs ++ ds) → m1 ≡ close_frame s1.memory s1.top.frame → Linked r.core.lent r.core.lent m2 m1 → (stand.pass X inits apart proper).waits r.core.lent s2.top.dest s1.top.dest c2 c1 gs m2 m1 → Below X (stand.pass X inits apart proper) r.core.lent c2.dest (lowest c1 gs).dest c2.frame (lowest c1 gs).frame cs2 ds m2 m1 → c1.frame < s1.top.frame → c2.frame < s2.top.frame → ((d : Dest) → s1.top.dest ≡ Some d → (t : Tree) × AddrTy X.source.shapes r.typed1.types d.addr t) → Same r.core.lent v w → whole v ≡ true → return_to X.source.shapes s1 m1 s1.top.dest (c1 ∷ (gs ++ ds)) v ≡ Some x → GentleTo X r.typed1.types c1.frame m1 x → Goes X P (return_to X.source.shapes s2 m2 s2.top.dest (c2 ∷ cs2) w) x
      resumes n s2 s1 r m2 m1 c2 c1 [] ds cs2 v w x q p1 l (e, fr, h) be l1 l2 dt hv wh k ge = pick h
        where
          pick : ((s1.top.dest ≡ None) × stand.Waits X inits apart proper s2.top.dest c2 c1 m2 m1) ⊎ stand.Called X inits apart proper r.core.lent s2.top.dest s1.top.dest c2 c1 m2 m1 → Goes X P (return_to X.source.shapes s2 m2 s2.top.dest (c2 ∷ cs2) w) x
          pick (inl (none, W)) = back.returns X inits apart proper proper_locals S edges at2 V Inv kept n s2 s1 r c2 c1 ds cs2 q m2 m1 p1 l fr W be l1 l2 w none v x k
          pick (inr W) = called_back n s2 s1 r c2 c1 ds cs2 q m2 m1 p1 l fr be l1 l2 v w hv wh x ge s2.top.dest s1.top.dest W W.dests dt k
      resumes n s2 s1 r m2 m1 c2 c1 (g ∷ gs) ds cs2 v w x q p1 l (e, fr, h) be l1 l2 dt hv wh k ge = absurd (grind arith)
