-- A frame at work of a body in which each local is kept: what is related, and what both frames read.
use Rattle.std.proofs.Common.{◌≡◌, refl, sym, ap, ◌∙◌, subst, ℕ, true, false, List, [], Some, None, slice_get, arith}
use Rattle.mir_syntax.specs.declared.body.Place.{Place}
use Rattle.mir_syntax.specs.declared.body.Operand.{Operand}
use Rattle.mir_syntax.specs.declared.body.Operand.TheVariants as operand
use Rattle.mir_syntax.specs.Tree.{Tree}
use Rattle.mir_syntax.specs.Shapes.{Shape}
use Rattle.mir_semantics.specs.Values.{Value, blank}
use Rattle.mir_semantics.specs.Memory.{Memory, local_at}
use Rattle.mir_semantics.specs.Step.{Control, State, local_addr, read_at}
use Rattle.mir_renaming.specs.Renaming.{Renaming, Sub}
use Rattle.mir_renaming.proofs.Agree.{whole_tight}
use Rattle.mir_renaming.proofs.Statements as text
use Rattle.mir_renaming.proofs.Types.{TypeMap, LocalsTy, HasTy, resolve_ty, value_at_ty, blank_fits}
use Rattle.mir_relate.specs.Alike.{Between, Sides, Same}
use Rattle.mir_relate.specs.Frames.{Change, Below}
use Rattle.mir_relate.specs.Pass.{Valids, MoveOk, Related}
use Rattle.mir_relate.proofs.Alone.{Spends}
use Rattle.mir_relate.proofs.Kept as kept
use Rattle.mir_relate.proofs.Leaves.{some_val}
use Rattle.mir_relate.proofs.Living.{Placed, living, living_at, living_low, living_near, living_once, living_linked, living_lent}
use Rattle.mir_relate.proofs.Near as near
use Rattle.mir_relate.proofs.OneForOne.{home_lent, home_none}
use Rattle.mir_relate.proofs.Others.{read_at_whole}
use Rattle.mir_relate.proofs.Own as own
use Rattle.mir_relate.proofs.Single.{stand_moved}
use Rattle.mir_relate.proofs.EachLocal as frames
use Rattle.mir_relate.proofs.EachLocal.{Words, Lasting, Standing, Runs, all}
use Rattle.mir_relate.proofs.Near.{Nears}

-- two states whose top frames are of the changed body
pub record Moment (X : Change) (W : Words) (V : Valids X) (Inv : State → Type 0) : Type 1 where
  pub lasts : Lasting X W
  pub n : ℕ
  pub s2 : State
  pub s1 : State
  pub r : Related X (frames.pass X W) V Inv n s2 s1
  pub runs : Runs X W r.core.lent s2.top s1.top s2.memory s1.memory
  pub below : Below X (frames.pass X W) r.core.lent s2.top.dest s1.top.dest s2.top.frame s1.top.frame s2.callers s1.callers s2.memory s1.memory

module _ {X : Change} {W : Words} {V : Valids X} {Inv : State → Type 0} (now : Moment X W V Inv) where
  open now use {lasts, n, s2, s1, r, runs}

  abbrev D : List Shape
  D = X.source.shapes

  abbrev j : Renaming
  j = now.r.core.lent

  abbrev G : TypeMap
  G = now.r.typed1.types

  abbrev f1 : ℕ
  f1 = now.s1.top.frame

  abbrev f2 : ℕ
  f2 = now.s2.top.frame

  abbrev ts : List Tree
  ts = X.body1.locals

  pub eb : slice_get X.source.bodies s1.top.function ≡ Some X.body1
  eb = ap (slice_get X.source.bodies) runs.stand.function1 ∙ X.at1

  pub eb2 : slice_get X.bodies s2.top.function ≡ Some X.body2
  eb2 = ap (slice_get X.bodies) runs.stand.function2 ∙ X.at2

  abbrev pub bok : (t : Tree) → HasTy X.source.shapes now.r.typed1.types t (blank X.source.shapes t)
  bok = V.valid1.blank_ok now.r.typed1.types

  pub lok : LocalsTy G ts f1
  lok = r.typed1.top.locals X.body1 eb

  pub pl : Placed j f2 f1
  pl = frames.placed X W j s2.top s1.top runs.stand

  -- what references stand for, and all locals of the frame
  abbrev pub K : Renaming
  K = living now.r.core.lent now.s2.top.frame now.s1.top.frame all

  pub low : Sub j K
  low = living_low j f2 f1 pl all

  pub nears : Nears j K f2 f1
  nears = living_near j f2 f1 pl all

  pub onces : (x y h x' : ℕ) (v : Value) → K f1 x ≡ Some (f2, y) → K h x' ≡ Some (f2, y) → local_at s1.memory h x' ≡ Some v → (h ≡ f1) × (x' ≡ x)
  onces x y h x' v e e' q = living_once j f2 f1 pl all x y h x' v s1.memory e e' q

  pub itself : (x : ℕ) → K f1 x ≡ Some (f2, x)
  itself x = living_at j f2 f1 pl all x refl

  pub lent_at : (x : ℕ) → W.lent x ≡ true → j f1 x ≡ Some (f2, x)
  lent_at x e = runs.stand.roots x x (home_lent W.lent x e)

  pub unlent_at : (x : ℕ) → W.lent x ≡ false → j f1 x ≡ None
  unlent_at x e = runs.stand.none x (home_none W.lent x e)

  abbrev pub Q : Between
  Q = near.Q X.source.shapes X.body1.locals X.body1.locals now.s1.top.frame now.s2.top.frame now.r.core.lent K low now.r.typed1.types bok lok V.needs now.s2.top.frame now.s1.top.frame now.s2.memory now.s1.memory nears onces

  pub keeps : kept.Kept D ts ts f1 f2 j K low G bok lok Q
  keeps = near.near_kept D ts ts f1 f2 j K low G bok lok V.needs f2 f1 s2.memory s1.memory nears onces

  pub start : Q s2.memory s1.memory
  start = near.near_start D ts ts f1 f2 j K low G bok lok V.needs f2 f1 s2.memory s1.memory nears onces (living_linked j f2 f1 pl all s2.memory s1.memory r.core.linked runs.locals) r.typed1.mem

  abbrev pub S : Sides
  S = kept.sides X.source.shapes X.body1.locals X.body1.locals now.s1.top.frame now.s2.top.frame now.r.core.lent K low now.r.typed1.types bok lok

  abbrev pub Left : Memory → Memory → Type 0
  Left = own.Left X (frames.pass X W) V Inv (frames.frames X W now.lasts V Inv) now.n now.s2 now.s1 now.r [] now.s1.callers refl (omega arith) now.below

  pub left : (m2 m1 : Memory) → Q m2 m1 → Left m2 m1
  left m2 m1 q = (living_lent j f2 f1 pl all m2 m1 q.linked, q.leaves)

  pub place_self : (p : Place) → kept.PlaceAs D ts ts f1 f2 j K low G bok lok K p p
  place_self p = record { root = itself p.local; proj = refl; ty = refl }

  pub operand_self : (o : Operand) → kept.OperandAs D ts ts f1 f2 j K low G bok lok o o
  operand_self (operand.Copy p) = place_self p
  operand_self (operand.Move p) = place_self p
  operand_self (operand.Const c) = refl

  -- what a read by the source alone takes away
  pub spends : (o : Operand) → MoveOk S.source o → Spends S Q o
  spends o mo = near.near_spends D ts ts f1 f2 j K low G bok lok V.needs f2 f1 s2.memory s1.memory nears onces (omega arith) o o (operand_self o) mo

  -- ---- where the frame stands

  pub moved : (c2 c1 : Control) → c2.frame ≡ f2 → c1.frame ≡ f1 → c2.function ≡ s2.top.function → c1.function ≡ s1.top.function → c1.dropping ≡ None → Standing X W j c2 c1
  moved c2 c1 a2 a1 g2 g1 d = stand_moved X.f (frames.place X W) (frames.Anywhere X W) 0 0 j (record s2.top { block = s1.top.block }) s1.top (record c2 { block = c1.block }) c1 a2 a1 g2 g1 refl d tt runs.stand

  pub payloads : text.PayloadsOk D ts ts f1 f2 j K low s2.memory
  payloads q b t us i u er et ev e =
      let G2 = r.typed2.types in
      let lok2 : (x : ℕ) (t : Tree) → slice_get ts x ≡ Some t → G2 f2 x ≡ Some t = subst (λ ls. (x : ℕ) (t : Tree) → slice_get ls x ≡ Some t → G2 f2 x ≡ Some t) lasts.same_locals (r.typed2.top.locals X.body2 eb2) in
      let at = resolve_ty D G2 (V.valid2.blank_ok G2) ts f2 lok2 s2.memory q b t r.typed2.mem et er in
      let (us', vt, h) = value_at_ty D G2 s2.memory b t _ r.typed2.mem at e in
      blank_fits D G2 j us u (subst (λ y. HasTy D G2 y u) (some_val (sym vt ∙ ev)) h)

  -- what a return hands over
  pub result : (v : Value) → read_at s1.memory (local_addr f1 0) ≡ Some v → (w : Value) × (read_at s2.memory (local_addr f2 0) ≡ Some w) × Same j v w
  unfolding local_addr
  result v e =
      let ((w, g, rel), _) = text.read_at_rel D ts ts f1 f2 j K low s2.memory s1.memory (record { frame = f1; local = 0; path = [] }) (record { frame = f2; local = 0; path = [] }) v (record { root = itself 0; path = refl }) start.linked.mem e in
      (w, g, (rel, whole_tight j v w rel (read_at_whole s1.memory (record { frame = f1; local = 0; path = [] }) v e)))
