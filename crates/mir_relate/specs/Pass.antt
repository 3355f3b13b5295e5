-- What a pass shows of the frames of the function that it changes, and what follows from it. This project's own.
use Rattle.std.specs.Prelude.{◌≡◌, true, ◌⊎◌, ℕ, ◌<◌, ◌≤◌, false, List, [], ◌∷◌, ◌++◌, length, Option, Some, None, slice_get}
use Rattle.mir_syntax.specs.declared.body.Operand.{Operand}
use Rattle.mir_syntax.specs.declared.body.Callee.{Callee}
use Rattle.mir_syntax.specs.declared.body.Callee.TheVariants as callee
use Rattle.mir_syntax.specs.declared.body.Term.{Term}
use Rattle.mir_syntax.specs.declared.body.Term.TheVariants.{Switch, Call, Assert}
use Rattle.mir_syntax.specs.Tree.{Tree}
use Rattle.mir_syntax.specs.Shapes.{Shape, needs_drop, destructor_of}
use Rattle.mir_syntax.specs.Crate.{TypedRvalue, «use», binary, overflow, unary, cast, discriminant, tuple, build, TypedStmt, assign, storage_live, storage_dead, set_discriminant, TypedBlock, TypedBody}
use Rattle.mir_syntax.specs.Crate as rvalue
use Rattle.mir_semantics.specs.Values.{Value, whole}
use Rattle.mir_semantics.specs.Memory.{Memory, open_frame, close_frame}
use Rattle.mir_semantics.specs.Step.{Code, Here, Dest, Control, State, Next, on, stop, fail, type_of, new_slots, return_to, step}
use Rattle.mir_syntax.specs.Parts.{has_deref}
use Rattle.mir_renaming.specs.Renaming.{Renaming, SomeRel}
use Rattle.mir_renaming.proofs.Statements.{Linked}
use Rattle.mir_renaming.proofs.Types.{TypeMap, AddrTy, HasTy}
use Rattle.mir_renaming.proofs.Typed.{ValidCode, Typed}
use Rattle.mir_relate.specs.Simulation.{moves}
use Rattle.mir_renaming.proofs.Ghosts.{Flat}
use Rattle.mir_renaming.proofs.Frames.{new_control}
use Rattle.mir_renaming.proofs.Agree.{NeedsOk}
use Rattle.mir_syntax.specs.declared.body.Operand.TheVariants.{Move}
use Rattle.mir_renaming.proofs.Items.{DropPlain, Drops}
use Rattle.mir_relate.specs.Alike.{Same, AllSame, Arguments}
use Rattle.mir_relate.specs.Leaves.{Leaves}
use Rattle.mir_relate.specs.Mild.{Gentle, FairDests}
use Rattle.mir_relate.specs.Frames.{Change, target, Pass, lowest, Below, opened, Core}

-- a move through a dereference is of a type that needs no drop
abbrev pub MoveOk : Here → Operand → Type 0
MoveOk h (Move p) = has_deref p.proj ≡ true → (t : Tree) → type_of h p ≡ Some t → needs_drop h.shapes t ≡ false
MoveOk h _ = Unit {0}

abbrev pub AllMoves : Here → List Operand → Type 0
AllMoves h [] = Unit {0}
AllMoves h (o ∷ os) = MoveOk h o × AllMoves h os

abbrev pub RvalueMoves : Here → TypedRvalue → Type 0
RvalueMoves h («use» o) = MoveOk h o
RvalueMoves h (binary op a b) = MoveOk h a × MoveOk h b
RvalueMoves h (overflow op a b) = MoveOk h a × MoveOk h b
RvalueMoves h (unary op a) = MoveOk h a
RvalueMoves h (cast a t) = MoveOk h a
RvalueMoves h (rvalue.ref p) = Unit {0}
RvalueMoves h (rvalue.ref_mut p) = Unit {0}
RvalueMoves h (discriminant p) = Unit {0}
RvalueMoves h (tuple os) = AllMoves h os
RvalueMoves h (build d k os) = AllMoves h os

-- and a discriminant is set of a type that needs none
abbrev pub StmtMoves : Here → TypedStmt → Type 0
StmtMoves h (assign p x) = RvalueMoves h x
StmtMoves h (storage_live x) = Unit {0}
StmtMoves h (storage_dead x) = Unit {0}
StmtMoves h (set_discriminant p k) = (t : Tree) → type_of h p ≡ Some t → needs_drop h.shapes t ≡ false

abbrev pub TermMoves : Here → Term → Type 0
TermMoves h (Switch o arms t) = MoveOk h o
TermMoves h (Call p g os t) = AllMoves h os
TermMoves h (Assert o e x os t) = MoveOk h o × AllMoves h os
TermMoves h _ = Unit {0}

-- a call of a function hands over its arguments
abbrev pub AllArgs : Code → Callee → List Operand → Type 0
AllArgs C (callee.Local g) os = (b : TypedBody) → slice_get C.bodies g.0 ≡ Some b → length os ≡ b.args
AllArgs C (callee.Outside o) os = Unit {0}

abbrev pub ArgsTerm : Code → Term → Type 0
ArgsTerm C (Call p g os t) = AllArgs C g os
ArgsTerm C _ = Unit {0}

-- what is known of valid crates
pub record Valids (X : Change) : Type 1 where
  pub valid1 : ValidCode X.source
  pub valid2 : ValidCode (target X)
  pub needs : NeedsOk X.source.shapes
  pub plain : (g : ℕ) (b : TypedBody) (i : ℕ) (k : TypedBlock) → slice_get X.source.bodies g ≡ Some b → slice_get b.blocks i ≡ Some k → DropPlain k.term
  pub stmts : (fr g : ℕ) (b : TypedBody) (i : ℕ) (k : TypedBlock) (n : ℕ) (x : TypedStmt) → slice_get X.source.bodies g ≡ Some b → slice_get b.blocks i ≡ Some k → slice_get k.stmts n ≡ Some x → StmtMoves (record { shapes = X.source.shapes; locals = b.locals; frame = fr }) x
  pub terms : (fr g : ℕ) (b : TypedBody) (i : ℕ) (k : TypedBlock) → slice_get X.source.bodies g ≡ Some b → slice_get b.blocks i ≡ Some k → TermMoves (record { shapes = X.source.shapes; locals = b.locals; frame = fr }) k.term
  pub calls : (g : ℕ) (b : TypedBody) (i : ℕ) (k : TypedBlock) → slice_get X.source.bodies g ≡ Some b → slice_get b.blocks i ≡ Some k → ArgsTerm X.source k.term
  pub destroys : (t : Tree) (g : ℕ) (b : TypedBody) → destructor_of X.source.shapes t ≡ Some g → slice_get X.source.bodies g ≡ Some b → 1 ≡ b.args

-- the target's answer to one step of the source, and its answer in some steps
abbrev pub Goes : Change → Pass → Option Next → Next → Type 0
Goes X P o (stop y) = o ≡ Some (stop y)
Goes X P o (fail t) = Unit {0}
Goes X P o (on s1) = (n : ℕ) × (s2 : State) × (o ≡ Some (on s2)) × Core X P n s2 s1

abbrev pub Answers : Change → Pass → ℕ → State → Next → Type 0
Answers X P n s2 (stop y) = (k : ℕ) × (s : State) × (moves (target X) k s2 ≡ Some s) × (step (target X) s ≡ Some (stop y)) × (s.trace ≡ s2.trace)
Answers X P n s2 (fail t) = Unit {0}
Answers X P n s2 (on s1) = (k n' : ℕ) × (s : State) × (moves (target X) k s2 ≡ Some s) × Core X P n' s s1 × ((0 < k) ⊎ (n' < n))

-- related states, and what is known of each
pub record Related (X : Change) (P : Pass) (V : Valids X) (Inv : State → Type 0) (n : ℕ) (s2 s1 : State) : Type 0 where
  pub core : Core X P n s2 s1
  pub typed1 : Typed X.source V.valid1 s1
  pub typed2 : Typed (target X) V.valid2 s2
  pub drops : Drops X.source s1
  pub dests : FairDests X.source s1.top.function s1.top.dest s1.callers
  pub inv : Inv s1

-- the locals of a control's frame have their types
abbrev pub Knows : Change → TypeMap → Control → Type 0
Knows X G c = (b : TypedBody) → slice_get X.source.bodies c.function ≡ Some b → (x : ℕ) (t : Tree) → slice_get b.locals x ≡ Some t → G c.frame x ≡ Some t

abbrev pub KnowsAll : Change → TypeMap → List Control → Type 0
KnowsAll X G [] = Unit {0}
KnowsAll X G (c ∷ cs) = Knows X G c × KnowsAll X G cs

-- what a step of the source from a memory leads to: it is gentle to the frames below this number, and below the one that runs next
abbrev pub GentleTo : Change → TypeMap → ℕ → Memory → Next → Type 0
GentleTo X G k m (on s') = (n : ℕ) → n ≤ k → n ≤ s'.top.frame → Gentle X.source.shapes G n s'.memory m
GentleTo X G k m (stop o) = Unit {0}
GentleTo X G k m (fail t) = Unit {0}

-- frames that wait are left by all that leaves the locals that nobody has lent, and is gentle
abbrev pub KeptLaw : Change → Pass → Type 0
KeptLaw X P = (G : TypeMap) (j j' : Renaming) (d2 d1 : Option Dest) (c2 c1 : Control) (gs : List Control) (n2 n1 : ℕ) (m2' m1' m2 m1 : Memory) → KnowsAll X G (c1 ∷ gs) → c1.frame < n1 → c2.frame < n2 → (lowest c1 gs).frame ≤ c1.frame → Leaves X.source.shapes G j j' n2 n1 m2' m1' m2 m1 → Gentle X.source.shapes G n1 m1' m1 → P.waits j d2 d1 c2 c1 gs m2 m1 → P.waits j' d2 d1 c2 c1 gs m2' m1'

-- what a function returns: it has no hole, and has the type of the place to which it goes
pub record Result (D : List Shape) (G : TypeMap) (o : Option Dest) (v : Value) : Type 0 where
  pub no_hole : whole v ≡ true
  pub typed : (d : Dest) → o ≡ Some d → (t : Tree) × AddrTy D G d.addr t × HasTy D G t v

-- what a pass shows of frames that open, wait and go on
pub record FrameLaws (X : Change) (P : Pass) (V : Valids X) (Inv : State → Type 0) : Type 1 where
  pub kept : KeptLaw X P
  -- a call of the changed function
  pub once : (x x' y : ℕ) → P.place x ≡ Some y → P.place x' ≡ Some y → x ≡ x'
  pub slots : (j : Renaming) (vs ws : List Value) → AllSame j vs ws → length vs ≤ X.body1.args → (x y : ℕ) → P.place x ≡ Some y → (v : Value) → slice_get (new_slots X.source.shapes X.body1.locals vs) x ≡ Some v → SomeRel j v (slice_get (new_slots X.source.shapes X.body2.locals ws) y)
  pub begins : (j : Renaming) (k2 k1 : ℕ) (d2 d1 : Option Dest) (m2 m1 : Memory) (vs ws : List Value) → AllSame j vs ws → Arguments X.body1.args vs → ((x : ℕ) → j k1 x ≡ None) → ((h x g y : ℕ) → j h x ≡ Some (g, y) → g < k2) → Linked (opened j k2 k1 P.place) (opened j k2 k1 P.place) (open_frame m2 k2 (new_slots X.source.shapes X.body2.locals ws)) (open_frame m1 k1 (new_slots X.source.shapes X.body1.locals vs)) → (n : ℕ) × P.own n (opened j k2 k1 P.place) (new_control X.f k2 d2) (new_control X.f k1 d1) [] (open_frame m2 k2 (new_slots X.source.shapes X.body2.locals ws)) (open_frame m1 k1 (new_slots X.source.shapes X.body1.locals vs))
  -- another function returns to it
  pub resumes : (n : ℕ) (s2 s1 : State) (r : Related X P V Inv n s2 s1) (m2 m1 : Memory) (c2 c1 : Control) (gs ds cs2 : List Control) (v w : Value) (x : Next) → s1.callers ≡ c1 ∷ (gs ++ ds) → s2.callers ≡ c2 ∷ cs2 → m2 ≡ close_frame s2.memory s2.top.frame → m1 ≡ close_frame s1.memory s1.top.frame → Linked r.core.lent r.core.lent m2 m1 → P.waits r.core.lent s2.top.dest s1.top.dest c2 c1 gs m2 m1 → Below X P r.core.lent c2.dest (lowest c1 gs).dest c2.frame (lowest c1 gs).frame cs2 ds m2 m1 → c1.frame < s1.top.frame → c2.frame < s2.top.frame → (lowest c1 gs).frame ≤ c1.frame → ((d : Dest) → s1.top.dest ≡ Some d → (t : Tree) × AddrTy X.source.shapes r.typed1.types d.addr t) → Same r.core.lent v w → Result X.source.shapes r.typed1.types s1.top.dest v → return_to X.source.shapes s1 m1 s1.top.dest (c1 ∷ (gs ++ ds)) v ≡ Some x → GentleTo X r.typed1.types c1.frame m1 x → Goes X P (return_to X.source.shapes s2 m2 s2.top.dest (c2 ∷ cs2) w) x

-- what a pass shows
pub record Laws (X : Change) (P : Pass) (V : Valids X) (Inv : State → Type 0) : Type 1 where
  -- an invariant of the source's runs
  pub inv_kept : (s s' : State) → Inv s → step X.source s ≡ Some (on s') → Inv s'
  pub flat : (s : State) (x : Next) → Inv s → step X.source s ≡ Some x → Flat x
  pub frames : FrameLaws X P V Inv
  -- a step of it
  pub steps : (n : ℕ) (s2 s1 : State) (r : Related X P V Inv n s2 s1) (gs ds : List Control) (x : Next) → s1.callers ≡ gs ++ ds → (lowest s1.top gs).frame ≤ s1.top.frame → P.own n r.core.lent s2.top s1.top gs s2.memory s1.memory → Below X P r.core.lent s2.top.dest (lowest s1.top gs).dest s2.top.frame (lowest s1.top gs).frame s2.callers ds s2.memory s1.memory → step X.source s1 ≡ Some x → Flat x → GentleTo X r.typed1.types s1.top.frame s1.memory x → Answers X P n s2 x
