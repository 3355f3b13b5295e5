-- A frame of the pruned body at work: what is related, what lives, and what both frames read.
use Rattle.std.proofs.Common.{◌≡◌, ◌⊎◌, inl, inr, refl, sym, ap, ℕ, Bool, true, false, List, [], Some, None, slice_get, arith}
use Rattle.mir_syntax.specs.declared.body.Place.{Place}
use Rattle.mir_syntax.specs.declared.body.Operand.{Operand}
use Rattle.mir_syntax.specs.Tree.{Tree}
use Rattle.mir_syntax.specs.Shapes.{Shape}
use Rattle.mir_syntax.specs.Crate.{TypedRvalue, TypedStmt}
use Rattle.mir_semantics.specs.Values.{Value, blank}
use Rattle.mir_semantics.specs.Memory.{Memory, local_at}
use Rattle.mir_semantics.specs.Step.{Here, Dest, Control, State, local_addr, read_at, dest_of, to_block, exec}
use Rattle.mir_syntax.specs.Parts.{has_deref}
use Rattle.mir_renaming.specs.Renaming.{Renaming, Sub}
use Rattle.mir_renaming.proofs.Statements.{DestRel}
use Rattle.mir_renaming.proofs.Types.{HasTy, StmtTy, LocalsTy}
use Rattle.mir_renaming.proofs.Among.{Among, OkOperand, OkOperands, OkRvalue}
use Rattle.mir_relate.specs.Alike.{Between, Sides, Same, GotMemory, Reads, AllRead, Evals}
use Rattle.mir_relate.specs.Frames.{Change, Pass, Below}
use Rattle.mir_relate.specs.Pass.{Valids, MoveOk, AllMoves, RvalueMoves, StmtMoves, Related}
use Rattle.mir_relate.proofs.Alone.{RvalueSpends}
use Rattle.mir_relate.proofs.Itself as itself
use Rattle.mir_relate.proofs.Kept as kept
use Rattle.mir_relate.proofs.Living.{Holds, Placed, living, living_at, living_low, living_near, living_once, living_linked, living_lent, holds_near}
use Rattle.mir_relate.proofs.Near as near
use Rattle.mir_relate.proofs.OneForOne.{home_lent, home_none}
use Rattle.mir_relate.proofs.Own as own
use Rattle.mir_relate.proofs.Running as running
use Rattle.mir_relate.proofs.Single.{stand_moved}
use Rattle.escape_info.specs.Borrowed.{borrowed}
use Rattle.liveness.specs.Live.{Live}
use Rattle.dead_store.specs.Pruned.{pruned_once}
use Rattle.dead_store.proofs.refines.Frames as frames
use Rattle.dead_store.proofs.refines.Frames.{Standing, InBlock, Lives}
use Rattle.mir_relate.proofs.Near.{Nears}

-- two states whose top frames are of the pruned body
pub record Moment (X : Change) (once : X.body2 ≡ pruned_once X.source.shapes X.body1) (V : Valids X) (Inv : State → Type 0) : Type 1 where
  pub n : ℕ
  pub s2 : State
  pub s1 : State
  pub r : Related X (frames.pass X once) V Inv n s2 s1
  pub st : Standing X once n r.core.lent s2.top s1.top
  pub lives : Lives X once r.core.lent s2.top s1.top s2.memory s1.memory
  pub below : Below X (frames.pass X once) r.core.lent s2.top.dest s1.top.dest s2.top.frame s1.top.frame s2.callers s1.callers s2.memory s1.memory

-- what the frames see: what is related in this one, what both know of their memories, and what is left when it has done something
pub record Seen : Type 1 where
  pub K : Renaming
  pub Q : Between
  pub S : Sides
  pub H1 : Here
  pub H2 : Here
  pub lent : ℕ → Bool
  pub Alive : ℕ → Type 0
  pub Left : Memory → Memory → Type 0

module _ {X : Change} {once : X.body2 ≡ pruned_once X.source.shapes X.body1} {V : Valids X} {Inv : State → Type 0} (now : Moment X once V Inv) where
  open now use {n, s2, s1, r, st, lives, r.{core.{lent as j}, typed1.{types as G}}, s2.{top.{frame as f2}}, s1.{top.{frame as f1}}, lives.{set as a}}

  abbrev D : List Shape
  D = X.source.shapes

  abbrev P : Pass
  P = frames.pass X once

  abbrev lent : ℕ → Bool
  lent = borrowed X.source.shapes X.body1

  abbrev ts1 : List Tree
  ts1 = X.body1.locals

  abbrev ts2 : List Tree
  ts2 = X.body2.locals

  abbrev pub K : Renaming
  K = living j f2 f1 lives.set

  abbrev bok : (t : Tree) → HasTy D G t (blank D t)
  bok = V.valid1.blank_ok G

  pub lok : LocalsTy G ts1 f1
  lok = running.locals_ok r st.function1 st.function2

  pub types : (x : ℕ) → slice_get ts1 x ≡ slice_get ts2 x
  types x = ap (λ ts. slice_get ts x) (sym (frames.same_locals X once))

  pub pl : Placed j f2 f1
  pl = frames.placed X once n j s2.top s1.top st

  pub low : Sub j K
  low = living_low j f2 f1 pl a

  pub nears : Nears j K f2 f1
  nears = living_near j f2 f1 pl a

  pub onces : (x y h x' : ℕ) (v : Value) → K f1 x ≡ Some (f2, y) → K h x' ≡ Some (f2, y) → local_at s1.memory h x' ≡ Some v → (h ≡ f1) × (x' ≡ x)
  onces x y h x' v e e' q = living_once j f2 f1 pl a x y h x' v s1.memory e e' q

  abbrev pub Q : Between
  Q = near.Q D ts1 ts2 f1 f2 j K low G bok lok V.needs f2 f1 s2.memory s1.memory nears onces

  pub keeps : kept.Kept D ts1 ts2 f1 f2 j K low G bok lok Q
  keeps = near.near_kept D ts1 ts2 f1 f2 j K low G bok lok V.needs f2 f1 s2.memory s1.memory nears onces

  pub first : Q s2.memory s1.memory
  first = near.near_start D ts1 ts2 f1 f2 j K low G bok lok V.needs f2 f1 s2.memory s1.memory nears onces (living_linked j f2 f1 pl a s2.memory s1.memory r.core.linked lives.holds) r.typed1.mem

  abbrev pub S : Sides
  S = kept.sides D ts1 ts2 f1 f2 j K low G bok lok

  abbrev pub Left : Memory → Memory → Type 0
  Left = own.Left X P V Inv (frames.frames X once V Inv) n s2 s1 r [] s1.callers refl (omega arith) now.below

  pub left : (m2 m1 : Memory) → Q m2 m1 → Left m2 m1
  left m2 m1 q = (living_lent j f2 f1 pl a m2 m1 q.linked, q.leaves)

  pub holds : (m2 m1 : Memory) → Q m2 m1 → Holds j f2 f1 a m2 m1
  holds m2 m1 q = holds_near j f2 f1 pl a D G s2.memory s1.memory m2 m1 q lives.holds

  abbrev pub H1 : Here
  H1 = record { shapes = D; locals = ts1; frame = f1 }

  abbrev pub H2 : Here
  H2 = record { shapes = D; locals = ts2; frame = f2 }

  -- lent or alive
  abbrev pub Alive : ℕ → Type 0
  Alive x = (lent x ≡ true) ⊎ (a x ≡ true)

  abbrev pub seen : Seen
  seen = record { K = K; Q = Q; S = S; H1 = H1; H2 = H2; lent = lent; Alive = Alive; Left = Left }

  pub lent_at : (x : ℕ) → lent x ≡ true → j f1 x ≡ Some (f2, x)
  lent_at x e = st.roots x x (home_lent (borrowed X.source.shapes X.body1) x e)

  pub unlent_at : (x : ℕ) → lent x ≡ false → j f1 x ≡ None
  unlent_at x e = st.none x (home_none (borrowed X.source.shapes X.body1) x e)

  pub at : (x : ℕ) → Alive x → K f1 x ≡ Some (f2, x)
  at x (inl e) = low f1 x _ (lent_at x e)
  at x (inr e) = living_at j f2 f1 pl a x e

  -- ---- where the frame stands

  pub moved : (n' : ℕ) (c2 c1 : Control) → c2.frame ≡ f2 → c1.frame ≡ f1 → c2.function ≡ s2.top.function → c1.function ≡ s1.top.function → c2.block ≡ c1.block → c1.dropping ≡ None → InBlock X once n' c2 c1 → Standing X once n' j c2 c1
  moved n' c2 c1 a2 a1 g2 g1 b d h = stand_moved X.f (frames.place X once) (frames.InBlock X once) n n' j s2.top s1.top c2 c1 a2 a1 g2 g1 b d h st

  -- what lives at the start of a block
  abbrev pub Covered : ℕ → Type 0
  Covered u = (x : ℕ) → Live D X.body1 u 0 x → Alive x

  pub edge : (m2 m1 : Memory) (u : ℕ) → Covered u → Q m2 m1 → (n' : ℕ) × ((◌≡◌ {A = List Control} [] []) × Standing X once n' j (to_block u s2.top) (to_block u s1.top) × Lives X once j (to_block u s2.top) (to_block u s1.top) m2 m1)
  edge m2 m1 u cov q =
      let (n', h) = frames.begins_at X once (to_block u s2.top) (to_block u s1.top) refl refl in
      (n', (refl, moved n' (to_block u s2.top) (to_block u s1.top) refl refl refl refl refl refl h, record { set = a; covers = cov; holds = holds m2 m1 q }))

  -- ---- what both read and do

  abbrev pub A : Among
  A x = K f1 x ≡ Some (f2, x)

  abbrev pub Lends : TypedRvalue → Type 0
  Lends = itself.Lends D ts1 ts2 f1 f2 j K low G bok lok types

  abbrev pub StmtOk : TypedStmt → Type 0
  StmtOk = itself.StmtOk D ts1 ts2 f1 f2 j K low G bok lok types

  abbrev pub Fits : TypedStmt → Type 0
  Fits = StmtTy D G bok ts1 f1 lok

  pub operand_reads : (o : Operand) → OkOperand A o → MoveOk H1 o → Reads S Q o o
  operand_reads o h m = kept.reads_as D ts1 ts2 f1 f2 j K low G bok lok Q keeps o o (itself.operand_self D ts1 ts2 f1 f2 j K low G bok lok types o h) m

  pub operands_read : (os : List Operand) → OkOperands A os → AllMoves H1 os → AllRead S Q os os
  operands_read os h m = kept.all_as D ts1 ts2 f1 f2 j K low G bok lok Q keeps os os (itself.operands_self D ts1 ts2 f1 f2 j K low G bok lok types os h) (itself.moves_self D ts1 ts2 f1 f2 j K low G bok lok types Q keeps os m)

  pub rvalue_evals : (q : TypedRvalue) → OkRvalue A q → Lends q → RvalueMoves H1 q → Evals S Q Q q q
  rvalue_evals q h l m = kept.evals_as D ts1 ts2 f1 f2 j K low G bok lok Q keeps q q (itself.rvalue_self D ts1 ts2 f1 f2 j K low G bok lok types Q keeps q h l m)

  pub rvalue_alone : (q : TypedRvalue) → OkRvalue A q → Lends q → RvalueMoves H1 q → RvalueSpends S Q q
  rvalue_alone q h l m = near.near_spent D ts1 ts2 f1 f2 j K low G bok lok V.needs f2 f1 s2.memory s1.memory nears onces (omega arith) q q (itself.rvalue_self D ts1 ts2 f1 f2 j K low G bok lok types Q keeps q h l m)

  pub stmt_execs : (s : TypedStmt) → StmtOk s → StmtMoves H1 s → Fits s → (m1' : Memory) → exec S.source s1.memory s ≡ Some m1' → GotMemory Q m1' (exec S.target s2.memory s)
  stmt_execs s h m ty m1' e = kept.exec_as D ts1 ts2 f1 f2 j K low G bok lok Q keeps s s (itself.stmt_self D ts1 ts2 f1 f2 j K low G bok lok types Q keeps s h m ty) s2.memory s1.memory m1' (λ u. running.payloads r st.function1 st.function2 K low) first e

  pub dest_near : (p : Place) (d1 : Dest) → A p.local → dest_of S.source s1.memory p ≡ Some d1 → (c : Dest) × (dest_of S.target s2.memory p ≡ Some c) × DestRel K d1 c
  dest_near p d1 h e = kept.dest_as D ts1 ts2 f1 f2 j K low G bok lok Q keeps s2.memory s1.memory p p d1 (itself.place_self D ts1 ts2 f1 f2 j K low G bok lok types K p h) first e

  -- in a lent local, or behind a reference
  pub dest_far : (p : Place) (d1 : Dest) → (j f1 p.local ≡ Some (f2, p.local)) ⊎ ((has_deref p.proj ≡ true) × A p.local) → dest_of S.source s1.memory p ≡ Some d1 → (c : Dest) × (dest_of S.target s2.memory p ≡ Some c) × DestRel j d1 c
  dest_far p d1 h e = kept.dest_far D ts1 ts2 f1 f2 j K low G bok lok Q keeps s2.memory s1.memory p p d1 (go h) first e
    where
      go : (j f1 p.local ≡ Some (f2, p.local)) ⊎ ((has_deref p.proj ≡ true) × A p.local) → kept.RefAs D ts1 ts2 f1 f2 j K low G bok lok Q keeps p p
      go (inl l) = inl (itself.place_self D ts1 ts2 f1 f2 j K low G bok lok types j p l)
      go (inr (d, l)) = inr (d, itself.place_self D ts1 ts2 f1 f2 j K low G bok lok types K p l)

  -- what a return hands over
  pub result : A 0 → (v : Value) → read_at s1.memory (local_addr f1 0) ≡ Some v → (u : Value) × (read_at s2.memory (local_addr f2 0) ≡ Some u) × Same j v u
  result h = running.result r st.function1 st.function2 K low first.linked.mem h
