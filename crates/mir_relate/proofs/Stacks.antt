-- What leaves the frames that wait keeps them related.
use Rattle.std.proofs.Common.{inl, inr, subst, ℕ, ◌<◌, ◌≤◌, List, [], ◌∷◌, ◌++◌, Option, Some, None, arith}
use Rattle.mir_syntax.specs.Shapes.{Shape}
use Rattle.mir_semantics.specs.Memory.{Memory}
use Rattle.mir_semantics.specs.Step.{Dest, Visit, Dropping, Control}
use Rattle.mir_renaming.specs.Renaming.{Renaming, Sub}
use Rattle.mir_renaming.proofs.Memory.{sub_addr}
use Rattle.mir_renaming.proofs.Types.{TypeMap}
use Rattle.mir_renaming.proofs.Typed.{FramesTy}
use Rattle.mir_relate.specs.Leaves.{Leaves}
use Rattle.mir_relate.specs.Mild.{Gentle}
use Rattle.mir_relate.specs.Frames.{Change, Pass, lowest, VisitRel, VisitsRel, DropsRel, DestsRel, Agrees, Twin, Below}
use Rattle.mir_relate.specs.Pass.{Knows, KnowsAll, KeptLaw, Valids}
use Rattle.mir_relate.proofs.Leaves.{leaves_less}
use Rattle.mir_relate.proofs.Mild.{gentle_less}

pub visit_up : (j k : Renaming) → Sub j k → (i i' : Visit) → VisitRel j i i' → VisitRel k i i'
visit_up j k up i i' h = record { addr = sub_addr j k up i.addr i'.addr h.addr; ty = h.ty }

pub visits_up : (j k : Renaming) → Sub j k → (is ks : List Visit) → VisitsRel j is ks → VisitsRel k is ks
visits_up j k up [] [] h = tt
visits_up j k up (i ∷ is) (i' ∷ ks) h = (visit_up j k up i i' h.0, visits_up j k up is ks h.1)
visits_up j k up [] (i' ∷ ks) h = absurd h
visits_up j k up (i ∷ is) [] h = absurd h

pub drops_up : (j k : Renaming) → Sub j k → (d e : Option Dropping) → DropsRel j d e → DropsRel k d e
drops_up j k up None None h = tt
drops_up j k up (Some d) (Some e) h = record { place = visit_up j k up d.place e.place h.place; target = h.target; items = visits_up j k up d.items e.items h.items }
drops_up j k up None (Some e) h = absurd h
drops_up j k up (Some d) None h = absurd h

pub dests_up : (j k : Renaming) → Sub j k → (d e : Option Dest) → DestsRel j d e → DestsRel k d e
dests_up j k up None None h = tt
dests_up j k up (Some d) (Some e) h = record { addr = sub_addr j k up d.addr e.addr h.addr; guard = h.guard }
dests_up j k up None (Some e) h = absurd h
dests_up j k up (Some d) None h = absurd h

pub knows_later : (X : Change) (G : TypeMap) (gs ds : List Control) → KnowsAll X G (gs ++ ds) → KnowsAll X G ds
knows_later X G [] ds h = h
knows_later X G (c ∷ gs) ds h = knows_later X G gs ds h.1

pub knows_group : (X : Change) (G : TypeMap) (gs ds : List Control) → KnowsAll X G (gs ++ ds) → KnowsAll X G gs
knows_group X G [] ds h = tt
knows_group X G (c ∷ gs) ds h = (h.0, knows_group X G gs ds h.1)

pub twin_up : (X : Change) (D : List Shape) (G : TypeMap) (j j' : Renaming) (n2 n1 : ℕ) (m2' m1' m2 m1 : Memory) (c2 c1 : Control) → c2.frame < n2 → Leaves D G j j' n2 n1 m2' m1' m2 m1 → Twin X j c2 c1 → Twin X j' c2 c1
twin_up X D G j j' n2 n1 m2' m1' m2 m1 c2 c1 lt l h = record {
  other = h.other;
  function = h.function;
  block = h.block;
  at = h.at;
  roots = λ x. l.up c1.frame x _ (h.roots x);
  only = λ i x y e. h.only i x y (l.same2 i x c2.frame y lt e);
  drops = drops_up j j' l.up c1.dropping c2.dropping h.drops;
}

pub agrees_kept : (X : Change) (G : TypeMap) (j j' : Renaming) (n2 n1 : ℕ) (m2' m1' m2 m1 : Memory) (c2 c1 : Control) → c1.frame < n1 → Knows X G c1 → Leaves X.source.shapes G j j' n2 n1 m2' m1' m2 m1 → Twin X j c2 c1 → Agrees X c2 c1 m2 m1 → Agrees X c2 c1 m2' m1'
agrees_kept X G j j' n2 n1 m2' m1' m2 m1 c2 c1 lt ks l h a b x t v' w' eb ex p q =
    let s = l.steady c1.frame x c2.frame x t v' w' lt (h.roots x) (ks b eb x t ex) p q in
    s.agree (a b x t s.old1 s.old2 eb ex s.was1 s.was2)

module _ (X : Change) (P : Pass) (kept : KeptLaw X P) where
  pub below_kept : (G : TypeMap) (j j' : Renaming) (d2 d1 : Option Dest) (n2 n1 : ℕ) (cs2 cs1 : List Control) (m2' m1' m2 m1 : Memory) → KnowsAll X G cs1 → Leaves X.source.shapes G j j' n2 n1 m2' m1' m2 m1 → Gentle X.source.shapes G n1 m1' m1 → Below X P j d2 d1 n2 n1 cs2 cs1 m2 m1 → Below X P j' d2 d1 n2 n1 cs2 cs1 m2' m1'
  below_kept G j j' d2 d1 n2 n1 [] cs1 m2' m1' m2 m1 ks l ge h = h
  below_kept G j j' d2 d1 n2 n1 (c2 ∷ cs2) cs1 m2' m1' m2 m1 ks l ge (inl (c1, ds, e, l1, l2, al, ag, dr, rest)) =
      let ks' : KnowsAll X G (c1 ∷ ds) = subst (KnowsAll X G) e ks in
      inl (
        c1,
        ds,
        e,
        l1,
        l2,
        twin_up X X.source.shapes G j j' n2 n1 m2' m1' m2 m1 c2 c1 l2 l al,
        agrees_kept X G j j' n2 n1 m2' m1' m2 m1 c2 c1 l1 ks'.0 l al ag,
        dests_up j j' l.up d1 d2 dr,
        below_kept G j j' c2.dest c1.dest c2.frame c1.frame cs2 ds m2' m1' m2 m1 ks'.1 (leaves_less X.source.shapes G j j' n2 n1 c2.frame c1.frame m2' m1' m2 m1 (omega (arith, l2)) (omega (arith, l1)) l) (gentle_less X.source.shapes G n1 c1.frame m1' m1 (omega (arith, l1)) ge) rest,
      )
  below_kept G j j' d2 d1 n2 n1 (c2 ∷ cs2) cs1 m2' m1' m2 m1 ks l ge (inr (c1, gs, ds, e, l1, l2, lo, w, rest)) =
      let ks' : KnowsAll X G (c1 ∷ (gs ++ ds)) = subst (KnowsAll X G) e ks in
      inr (
        c1,
        gs,
        ds,
        e,
        l1,
        l2,
        lo,
        kept G j j' d2 d1 c2 c1 gs n2 n1 m2' m1' m2 m1 (ks'.0, knows_group X G gs ds ks'.1) l1 l2 lo l ge w,
        below_kept G j j' c2.dest (lowest c1 gs).dest c2.frame (lowest c1 gs).frame cs2 ds m2' m1' m2 m1 (knows_later X G gs ds ks'.1) (leaves_less X.source.shapes G j j' n2 n1 c2.frame (lowest c1 gs).frame m2' m1' m2 m1 (omega (arith, l2)) (omega (arith, l1, lo)) l) (gentle_less X.source.shapes G n1 (lowest c1 gs).frame m1' m1 (omega (arith, l1, lo)) ge) rest,
      )

  -- the same with higher numbers
  pub below_more : (j : Renaming) (d2 d1 : Option Dest) (n2 n1 k2 k1 : ℕ) (cs2 cs1 : List Control) (m2 m1 : Memory) → n2 ≤ k2 → n1 ≤ k1 → Below X P j d2 d1 n2 n1 cs2 cs1 m2 m1 → Below X P j d2 d1 k2 k1 cs2 cs1 m2 m1
  below_more j d2 d1 n2 n1 k2 k1 [] cs1 m2 m1 le2 le1 h = h
  below_more j d2 d1 n2 n1 k2 k1 (c2 ∷ cs2) cs1 m2 m1 le2 le1 (inl (c1, ds, e, l1, l2, al, ag, dr, rest)) = inl (c1, ds, e, omega (arith, l1, le1), omega (arith, l2, le2), al, ag, dr, rest)
  below_more j d2 d1 n2 n1 k2 k1 (c2 ∷ cs2) cs1 m2 m1 le2 le1 (inr (c1, gs, ds, e, l1, l2, lo, w, rest)) = inr (c1, gs, ds, e, omega (arith, l1, le1), omega (arith, l2, le2), lo, w, rest)

pub knows_all : (X : Change) (V : Valids X) (G : TypeMap) (cs : List Control) → FramesTy X.source V.valid1 G cs → KnowsAll X G cs
knows_all X V G [] h = tt
knows_all X V G (c ∷ cs) h = (h.0.locals, knows_all X V G cs h.1)
