-- A frame of a function that is left alone, about to run: it goes on, gets a value, or goes on with its drop.
use Rattle.std.proofs.Common.{◌≡◌, inl, refl, sym, ap, ap₂, ◌∙◌, ℕ, suc, List, ◌∷◌, Option, Some, None, arith}
use Rattle.mir_syntax.specs.Tree.{Tree}
use Rattle.mir_syntax.specs.Shapes.{Shape}
use Rattle.mir_semantics.specs.Values.{Addr, Value, blank}
use Rattle.mir_semantics.specs.Memory.{Memory, local_at, value_at, write}
use Rattle.mir_semantics.specs.Step.{Dest, Dropping, Control, State, Next, on, go_on, to_block, store, destroyed}
use Rattle.mir_renaming.specs.Renaming.{Renaming, AddrRel}
use Rattle.mir_renaming.proofs.Statements.{Linked, DestRel}
use Rattle.mir_renaming.proofs.Types.{TypeMap, AddrTy}
use Rattle.mir_renaming.proofs.Typed.{VisitsTy}
use Rattle.mir_renaming.proofs.Stores.{pair_parts}
use Rattle.mir_renaming.proofs.Items.{OwnDrop, FirstNeeds}
use Rattle.mir_relate.specs.Alike.{GotMemory, Same}
use Rattle.mir_relate.specs.Leaves.{Leaves}
use Rattle.mir_relate.specs.Mild.{Gentle}
use Rattle.mir_relate.specs.Frames.{Change, Pass, DropsRel, Visiting, Agrees, AgreesBy, Twin, Below, Base, Core}
use Rattle.mir_relate.specs.Pass.{KnowsAll, Valids, FrameLaws, Goes}
use Rattle.mir_relate.proofs.Leaves.{leaves_none, leaves_less}
use Rattle.mir_relate.proofs.Mild.{gentle_none, gentle_above}
use Rattle.mir_relate.proofs.Stacks.{agrees_kept, below_kept}
use Rattle.mir_relate.proofs.Enter.{goes_by}
use Rattle.mir_relate.proofs.Near.{store_leaves}
use Rattle.mir_relate.proofs.Visits as visits
use Rattle.mir_relate.proofs.Visits.{blank_left, no_destroyed}

module _ (X : Change) (P : Pass) (V : Valids X) (Inv : State → Type 0) (laws : FrameLaws X P V Inv) (G : TypeMap) (j : Renaming) (s2 s1 : State) (c2 c1 : Control) (b : Base j (record s2 { top = c2 }) (record s1 { top = c1 })) (l : Linked j j s2.memory s1.memory) (al : Twin X j c2 c1) (ag : Agrees X c2 c1 s2.memory s1.memory) (be : Below X P j c2.dest c1.dest c2.frame c1.frame s2.callers s1.callers s2.memory s1.memory) (ks : KnowsAll X G (c1 ∷ s1.callers)) where
  abbrev D : List Shape
  D = X.source.shapes

  -- the frame at another place
  abbrev pub at1 : ℕ → ℕ → Option Dropping → Control
  at1 i a o = record { function = c1.function; frame = c1.frame; block = i; at = a; dropping = o; dest = c1.dest }

  abbrev pub at2 : ℕ → ℕ → Option Dropping → Control
  at2 i a o = record { function = c2.function; frame = c2.frame; block = i; at = a; dropping = o; dest = c2.dest }

  pub twin_at : (i a : ℕ) (o2 o1 : Option Dropping) → DropsRel j o1 o2 → Twin X j (at2 i a o2) (at1 i a o1)
  twin_at i a o2 o1 dr = record { other = al.other; function = al.function; block = refl; at = refl; roots = al.roots; only = al.only; drops = dr }

  -- what is left of it and of the frames that wait
  abbrev pub Left : Memory → Memory → Type 0
  Left m2 m1 = Linked j j m2 m1 × Leaves D G j j (suc c2.frame) (suc c1.frame) m2 m1 s2.memory s1.memory

  pub left_same : Left s2.memory s1.memory
  left_same = (l, leaves_none D G j (suc c2.frame) (suc c1.frame) s2.memory s1.memory)

  pub agrees_left : (m2 m1 : Memory) → Left m2 m1 → Agrees X c2 c1 m2 m1
  agrees_left m2 m1 h = agrees_kept X G j j (suc c2.frame) (suc c1.frame) m2 m1 s2.memory s1.memory c2 c1 (omega arith) ks.0 h.1 al ag

  pub below_left : (m2 m1 : Memory) → Left m2 m1 → Gentle D G c1.frame m1 s1.memory → Below X P j c2.dest c1.dest c2.frame c1.frame s2.callers s1.callers m2 m1
  below_left m2 m1 h ge = below_kept X P laws.kept G j j c2.dest c1.dest c2.frame c1.frame s2.callers s1.callers m2 m1 s2.memory s1.memory ks.1 (leaves_less D G j j (suc c2.frame) (suc c1.frame) c2.frame c1.frame m2 m1 s2.memory s1.memory (omega arith) (omega arith) h.1) ge be

  pub core_on : (m2 m1 : Memory) (i a : ℕ) (o2 o1 : Option Dropping) → Left m2 m1 → Gentle D G c1.frame m1 s1.memory → DropsRel j o1 o2 → Core X P 0 (record s2 { memory = m2; top = at2 i a o2 }) (record s1 { memory = m1; top = at1 i a o1 })
  core_on m2 m1 i a o2 o1 h ge dr = record { lent = j; base = record { fresh1 = b.fresh1; fresh2 = b.fresh2; top1 = b.top1; top2 = b.top2; answers = b.answers; trace = b.trace }; linked = h.0; runs = inl (twin_at i a o2 o1 dr, agrees_left m2 m1 h, below_left m2 m1 h ge) }

  pub goes_on : (m2 m1 : Memory) (i a : ℕ) (o2 o1 : Option Dropping) → Left m2 m1 → Gentle D G c1.frame m1 s1.memory → DropsRel j o1 o2 → Goes X P (go_on s2 m2 (at2 i a o2)) (on (record s1 { memory = m1; top = at1 i a o1 }))
  goes_on m2 m1 i a o2 o1 h ge dr = (0, _, refl, core_on m2 m1 i a o2 o1 h ge dr)

  -- ---- a drop of it

  -- what stands for its locals agrees with them
  pub agrees_all : AgreesBy X j c1 s2.memory s1.memory
  agrees_all bo x g y t v w eb ex ej e1 e2 =
      let (f2, x2) = pair_parts c2.frame x g y (sym (al.roots x) ∙ ej) in
      ag bo x t v w eb ex e1 (ap₂ (local_at s2.memory) (sym f2) (sym x2) ∙ e2)

  pub dropping_goes : (d e : Dropping) → Visiting j d e → d.target ≡ e.target → Goes X P (go_on s2 s2.memory (record c2 { dropping = Some e })) (on (record s1 { top = record c1 { dropping = Some d } }))
  dropping_goes d e vs tg = goes_by X P _ _ (on (record s1 { top = record c1 { dropping = Some d } })) (ap₂ (λ i a. go_on s2 s2.memory (at2 i a (Some e))) al.block al.at) (goes_on s2.memory s1.memory c1.block c1.at (Some e) (Some d) left_same (gentle_none D G c1.frame s1.memory) (record { place = vs.place; target = tg; items = vs.items }))

  pub dropped_goes : (u1 u2 : ℕ) → u1 ≡ u2 → (a b : Addr) (t : Tree) (old : Value) → AddrRel j a b → AddrTy D G a t → value_at s1.memory a ≡ Some old → a.frame ≡ c1.frame → Goes X P (go_on s2 (write s2.memory b (blank D t)) (to_block u2 c2)) (on (record s1 { memory = write s1.memory a (blank D t); top = to_block u1 c1 }))
  dropped_goes u1 u2 tg a b t old ab at e pl = goes_by X P _ _ (on (record s1 { memory = write s1.memory a (blank D t); top = to_block u1 c1 })) (ap (λ u. go_on s2 (write s2.memory b (blank D t)) (to_block u c2)) (sym tg)) (goes_on (write s2.memory b (blank D t)) (write s1.memory a (blank D t)) u1 0 None None (blank_left D G j s2.memory s1.memory (suc c2.frame) (suc c1.frame) a b t old l ab at e) (gentle_above D G c1.frame s1.memory a (blank D t) (omega (arith, pl))) tt)

  -- a destructor has returned to the frame
  pub destroyed_goes : (x : Next) → ((d : Dropping) → c1.dropping ≡ Some d → OwnDrop X.source c1 d × FirstNeeds X.source d.items × AddrTy D G d.place.addr d.place.ty × VisitsTy X.source V.valid1 G d.items) → destroyed D s1 c1 ≡ Some x → Goes X P (destroyed D s2 c2) x
  destroyed_goes x ok q = at_drop c1.dropping c2.dropping refl refl al.drops
    where
      at_drop : (o1 o2 : Option Dropping) → c1.dropping ≡ o1 → c2.dropping ≡ o2 → DropsRel j o1 o2 → Goes X P (destroyed D s2 c2) x
      at_drop (Some d) (Some e) p1 p2 r =
          let (own, fn, ty, tys) = ok d p1 in
          visits.destroyed_goes X P V Inv G j s2 s1 c2 c1 l agrees_all ks.0 (λ u1 u2. u1 ≡ u2) dropping_goes dropped_goes d e x p1 p2 (record { place = r.place; items = r.items }) r.target own fn ty tys q
      at_drop None o2 p1 p2 r = absurd (no_destroyed D s1 c1 x p1 q)
      at_drop (Some d) None p1 p2 r = absurd r

  -- both store such values at related places
  pub left_store : (m2 m1 m1' : Memory) (d c : Dest) (t : Tree) (v w : Value) → Left m2 m1 → DestRel j d c → AddrTy D G d.addr t → Same j v w → store D m1 d v ≡ Some m1' → GotMemory Left m1' (store D m2 c w)
  left_store m2 m1 m1' d c t v w h r at hv e = let (m2', g, l', lv) = store_leaves D G j (suc c2.frame) (suc c1.frame) s2.memory s1.memory m2 m1 m1' d c t v w h.0 h.1 r at hv e in (m2', g, (l', lv))

  -- the frame is left where it stands
  pub goes_here : (m2 m1 : Memory) → Left m2 m1 → Gentle D G c1.frame m1 s1.memory → Goes X P (go_on s2 m2 c2) (on (record s1 { memory = m1; top = c1 }))
  goes_here m2 m1 h ge = goes_by X P _ _ (on (record s1 { memory = m1; top = c1 })) (ap₂ (λ i a. go_on s2 m2 (at2 i a c2.dropping)) al.block al.at) (goes_on m2 m1 c1.block c1.at c2.dropping c1.dropping h ge al.drops)
