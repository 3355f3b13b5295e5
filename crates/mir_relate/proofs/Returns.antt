-- A frame returns to the one below it.
use Rattle.std.proofs.Common.{◌≡◌, inl, inr, refl, sym, ap, subst, ℕ, ◌<◌, true, List, [], ◌∷◌, Option, Some, None, slice_get, arith}
use Rattle.mir_syntax.specs.Tree.{Tree}
use Rattle.mir_syntax.specs.Shapes.{Shape}
use Rattle.mir_syntax.specs.Crate.{TypedBody}
use Rattle.mir_semantics.specs.Values.{Value, whole}
use Rattle.mir_semantics.specs.Memory.{Memory, local_at, close_frame}
use Rattle.mir_semantics.specs.Step.{Dest, Control, State, returned, Next, stop, local_addr, read_at, return_to}
use Rattle.mir_renaming.specs.Renaming.{Renaming}
use Rattle.mir_syntax.proofs.Binds.{bind_some, some_bind}
use Rattle.mir_renaming.proofs.Statements.{Linked}
use Rattle.mir_renaming.proofs.Types.{TypeMap, AddrTy, HasTy, read_at_ty}
use Rattle.mir_renaming.proofs.Typed.{FrameTy, FramesTy, MaybeDrop}
use Rattle.mir_renaming.proofs.Frames.{close_other}
use Rattle.mir_renaming.proofs.Ghosts.{plain_same, Flat}
use Rattle.mir_renaming.proofs.Items.{Owns}
use Rattle.mir_relate.specs.Alike.{Same}
use Rattle.mir_relate.specs.Frames.{Change, Pass, DestsRel, Agrees, Twin, Below, Base}
use Rattle.mir_relate.specs.Pass.{KnowsAll, Valids, GentleTo, FrameLaws, Goes, Related}
use Rattle.mir_relate.proofs.Leaves.{some_val, leaves_close}
use Rattle.mir_relate.proofs.Wholes.{read_at_whole}
use Rattle.mir_relate.proofs.Opens.{linked_close}
use Rattle.mir_relate.proofs.Mild.{gentle_same, gentle_on, gentle_closed}
use Rattle.mir_relate.proofs.Stacks.{knows_all, below_kept}
use Rattle.mir_relate.proofs.Enter.{goes_at, goes_by}
use Rattle.mir_relate.proofs.Drops.{left_same, left_store, goes_here, destroyed_goes}

module _ (X : Change) (P : Pass) (V : Valids X) (Inv : State → Type 0) (laws : FrameLaws X P V Inv) (n : ℕ) (s2 s1 : State) (r : Related X P V Inv n s2 s1) (only : (h x y : ℕ) (v : Value) → r.core.lent h x ≡ Some (s2.top.frame, y) → local_at s1.memory h x ≡ Some v → h ≡ s1.top.frame) (none : (h x y : ℕ) → h < s1.top.frame → r.core.lent h x ≡ Some (s2.top.frame, y) → ⊥) (be : Below X P r.core.lent s2.top.dest s1.top.dest s2.top.frame s1.top.frame s2.callers s1.callers s2.memory s1.memory) where
  abbrev D : List Shape
  D = X.source.shapes

  abbrev j : Renaming
  j = r.core.lent

  abbrev G : TypeMap
  G = r.typed1.types

  ks : KnowsAll X G s1.callers
  ks = knows_all X V G s1.callers r.typed1.callers

  -- ---- returns

  -- what is left when this frame has closed
  unfoldable pub closed2 : Memory
  closed2 = close_frame s2.memory s2.top.frame

  unfoldable pub closed1 : Memory
  closed1 = close_frame s1.memory s1.top.frame

  linked_closed : Linked j j closed2 closed1
  unfolding closed2 closed1
  linked_closed = linked_close j s2.memory s1.memory s2.top.frame s1.top.frame only r.core.linked

  below_closed : (cs2 cs1 : List Control) (d2 d1 : Option Dest) → KnowsAll X G cs1 → Below X P j d2 d1 s2.top.frame s1.top.frame cs2 cs1 s2.memory s1.memory → Below X P j d2 d1 s2.top.frame s1.top.frame cs2 cs1 closed2 closed1
  unfolding closed2 closed1
  below_closed cs2 cs1 d2 d1 k h =
      below_kept X P laws.kept G j j d2 d1 s2.top.frame s1.top.frame cs2 cs1 (close_frame s2.memory s2.top.frame) (close_frame s1.memory s1.top.frame) s2.memory s1.memory k
      (leaves_close D G j s2.memory s1.memory s2.top.frame s1.top.frame s2.top.frame s1.top.frame (omega arith) (omega arith) none) (gentle_same D G s1.top.frame (close_frame s1.memory s1.top.frame) s1.memory (λ y z t l ty. close_other s1.memory s1.top.frame y z (λ p. absurd (omega (arith, p, l))))) h

  -- the caller is a frame of a function that is left alone
  back_goes : (c2 c1 : Control) (cs2 ds : List Control) (d2 d1 : Option Dest) (v w : Value) (x : Next) → KnowsAll X G (c1 ∷ ds) → FrameTy X.source V.valid1 G c1 → Owns X.source (c1 ∷ ds) → ((d : Dest) → d1 ≡ Some d → (t : Tree) × AddrTy D G d.addr t) → c1.frame < s1.top.frame → c2.frame < s2.top.frame → Twin X j c2 c1 → Agrees X c2 c1 closed2 closed1 → DestsRel j d1 d2 → Below X P j c2.dest c1.dest c2.frame c1.frame cs2 ds closed2 closed1 → Same j v w → GentleTo X G c1.frame closed1 x → return_to D s1 closed1 d1 (c1 ∷ ds) v ≡ Some x → Goes X P (return_to D s2 closed2 d2 (c2 ∷ cs2) w) x
  unfolding return_to
  back_goes c2 c1 cs2 ds None None v w x k ty own dt lt1 lt2 a g dr b hv ge e =
      let t1 = r.core.base.top1 in
      let t2 = r.core.base.top2 in
      destroyed_goes X P V Inv laws G j (record s2 { memory = closed2; callers = cs2 }) (record s1 { memory = closed1; callers = ds }) c2 c1
      (record { fresh1 = r.core.base.fresh1; fresh2 = r.core.base.fresh2; top1 = omega (arith, lt1, t1); top2 = omega (arith, lt2, t2); answers = r.core.base.answers; trace = r.core.base.trace })
      linked_closed a g b k x (λ d q. (let t = subst (MaybeDrop X.source V.valid1 G) q ty.dropping in (own.0 d q, own.1 d q, t.0, t.1))) e
  back_goes c2 c1 cs2 ds (Some d2) (Some d1) v w x k ty own dt lt1 lt2 a g dr b hv ge e =
      let t1 = r.core.base.top1 in
      let t2 = r.core.base.top2 in
      let bs : Base j (record s2 { memory = closed2; callers = cs2; top = c2 }) (record s1 { memory = closed1; callers = ds; top = c1 }) = record { fresh1 = r.core.base.fresh1; fresh2 = r.core.base.fresh2; top1 = omega (arith, lt1, t1); top2 = omega (arith, lt2, t2); answers = r.core.base.answers; trace = r.core.base.trace } in
      let (t, at) = dt d1 refl in
      let (m1', e1, k1) = bind_some e in
      let (m2', g1, h) = left_store X P V Inv laws G j (record s2 { memory = closed2; callers = cs2 }) (record s1 { memory = closed1; callers = ds }) c2 c1 bs linked_closed a g b k closed2 closed1 m1' d1 d2 t v w (left_same X P V Inv laws G j (record s2 { memory = closed2; callers = cs2 }) (record s1 { memory = closed1; callers = ds }) c2 c1 bs linked_closed a g b k) dr at hv e1 in
      goes_by X P _ _ x (some_bind _ g1 refl) (goes_at X P _ x _ k1 (goes_here X P V Inv laws G j (record s2 { memory = closed2; callers = cs2 }) (record s1 { memory = closed1; callers = ds }) c2 c1 bs linked_closed a g b k m2' m1' h (gentle_on X G c1.frame closed1 (record s1 { memory = m1'; top = c1; callers = ds }) x ge k1 (omega arith))))
  back_goes c2 c1 cs2 ds None (Some d1) v w x k ty own dt lt1 lt2 a g dr b hv ge e = absurd dr
  back_goes c2 c1 cs2 ds (Some d2) None v w x k ty own dt lt1 lt2 a g dr b hv ge e = absurd dr

  module _ (bo : TypedBody) (eb : slice_get X.source.bodies s1.top.function ≡ Some bo) where
    dest_typed : (d : Dest) → s1.top.dest ≡ Some d → (t : Tree) × AddrTy D G d.addr t
    dest_typed d e = let (t, rt) = V.valid1.result s1.top.function bo eb in (t, r.typed1.top.dest d e bo eb t rt)

    result_typed : (v : Value) → read_at s1.memory (local_addr s1.top.frame 0) ≡ Some v → (d : Dest) → s1.top.dest ≡ Some d → (t : Tree) × AddrTy D G d.addr t × HasTy D G t v
    unfolding local_addr
    result_typed v rd d e =
        let (t, rt) = V.valid1.result s1.top.function bo eb in
        let lok = r.typed1.top.locals bo eb in
        (t, r.typed1.top.dest d e bo eb t rt, read_at_ty D G (V.valid1.blank_ok G) bo.locals s1.top.frame lok s1.memory (record { frame = s1.top.frame; local = 0; path = [] }) t v r.typed1.mem (record { local = t; is = lok 0 t rt; path = refl }) rd)

    pub return_goes : (v w : Value) (x : Next) → Same j v w → read_at s1.memory (local_addr s1.top.frame 0) ≡ Some v → return_to D s1 closed1 s1.top.dest s1.callers v ≡ Some x → Flat x → GentleTo X G s1.top.frame s1.memory x → Goes X P (return_to D s2 closed2 s2.top.dest s2.callers w) x
    unfolding return_to closed2 closed1
    return_goes v w x hv rd e fl ge = go s2.callers refl (below_closed s2.callers s1.callers s2.top.dest s1.top.dest ks be)
      where
        ended : (cs1 : List Control) → cs1 ≡ [] → return_to D s1 closed1 s1.top.dest cs1 v ≡ Some x → Goes X P (Some (stop (returned w))) x
        ended [] p e =
            let same : stop (returned v) ≡ x = some_val e in
            subst (λ z. Goes X P (Some (stop (returned w))) z) same (ap (λ u. Some (stop (returned u))) (sym (plain_same j v w (subst Flat (sym same) fl) hv.0)))
        ended (c ∷ cs) p e = absurd (grind arith)

        go : (cs2 : List Control) → s2.callers ≡ cs2 → Below X P j s2.top.dest s1.top.dest s2.top.frame s1.top.frame cs2 s1.callers closed2 closed1 → Goes X P (return_to D s2 closed2 s2.top.dest s2.callers w) x
        go [] p b = goes_by X P _ _ x (ap (λ cs. return_to D s2 closed2 s2.top.dest cs w) p) (ended s1.callers b e)
        go (c2 ∷ cs2) p (inl (c1, ds, q, l1, l2, a, g, dr, b)) =
            goes_by X P _ _ x (ap (λ cs. return_to D s2 closed2 s2.top.dest cs w) p)
            (back_goes c2 c1 cs2 ds s2.top.dest s1.top.dest v w x (subst (KnowsAll X G) q ks) (subst (FramesTy X.source V.valid1 G) q r.typed1.callers).0 (subst (Owns X.source) q r.drops.callers) dest_typed l1 l2 a g dr b hv (gentle_closed X G s1.top.frame c1.frame s1.memory x l1 ge) (subst (λ cs. return_to D s1 closed1 s1.top.dest cs v ≡ Some x) q e))
        go (c2 ∷ cs2) p (inr (c1, gs, ds, q, l1, l2, lo, wt, b)) =
            goes_by X P _ _ x (ap (λ cs. return_to D s2 closed2 s2.top.dest cs w) p)
            (laws.resumes n s2 s1 r closed2 closed1 c2 c1 gs ds cs2 v w x q p refl refl linked_closed wt b l1 l2 lo dest_typed hv (record { no_hole = read_at_whole s1.memory (local_addr s1.top.frame 0) v rd; typed = result_typed v rd }) (subst (λ cs. return_to D s1 closed1 s1.top.dest cs v ≡ Some x) q e) (gentle_closed X G s1.top.frame c1.frame s1.memory x l1 ge))
