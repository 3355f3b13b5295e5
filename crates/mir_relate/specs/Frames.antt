-- Two crates that differ in the body of one function, and the controls of their runs: the frames of other functions stand for each other one
-- by one, those of the changed function in groups. This project's own.
use Rattle.std.specs.Prelude.{◌≡◌, ◌⊎◌, ℕ, ◌<◌, ◌≤◌, nat_eq, if◌then◌else◌, List, [], ◌∷◌, ◌++◌, Option, Some, None, slice_get}
use Rattle.mir_syntax.specs.Tree.{Tree}
use Rattle.mir_syntax.specs.Crate.{TypedBody}
use Rattle.mir_semantics.specs.Values.{Value}
use Rattle.mir_semantics.specs.Memory.{local_at}
use Rattle.mir_semantics.specs.Step.{Code, Dest, Visit, Dropping, Control, State}
use Rattle.mir_renaming.specs.Renaming.{Renaming, AddrRel}
use Rattle.mir_renaming.proofs.Statements.{DestRel, Linked}
use Rattle.mir_renaming.proofs.Agree.{Agree}
use Rattle.mir_relate.specs.Alike.{Between}

pub record Change : Type 0 where
  pub source : Code
  pub bodies : List TypedBody
  pub f : ℕ
  pub body1 : TypedBody
  pub body2 : TypedBody
  pub at1 : slice_get source.bodies f ≡ Some body1
  pub at2 : slice_get bodies f ≡ Some body2
  pub others : (g : ℕ) → (g ≡ f → ⊥) → slice_get bodies g ≡ slice_get source.bodies g

abbrev pub target : Change → Code
target X = record X.source { bodies = X.bodies }

-- ---- controls of other functions

pub record VisitRel (j : Renaming) (i k : Visit) : Type 0 where
  pub addr : AddrRel j i.addr k.addr
  pub ty : i.ty ≡ k.ty

abbrev pub VisitsRel : Renaming → List Visit → List Visit → Type 0
VisitsRel j [] [] = Unit {0}
VisitsRel j (i ∷ is) (k ∷ ks) = VisitRel j i k × VisitsRel j is ks
VisitsRel j _ _ = ⊥

pub record DropRel (j : Renaming) (d e : Dropping) : Type 0 where
  pub place : VisitRel j d.place e.place
  pub target : d.target ≡ e.target
  pub items : VisitsRel j d.items e.items

abbrev pub DropsRel : Renaming → Option Dropping → Option Dropping → Type 0
DropsRel j None None = Unit {0}
DropsRel j (Some d) (Some e) = DropRel j d e
DropsRel j _ _ = ⊥

abbrev pub DestsRel : Renaming → Option Dest → Option Dest → Type 0
DestsRel j None None = Unit {0}
DestsRel j (Some d) (Some c) = DestRel j d c
DestsRel j _ _ = ⊥

-- the locals of a frame of a function have holes where the other side has holes, as far as something may drop them
abbrev pub Agrees : Change → Control → Control → Between
Agrees X c2 c1 m2 m1 = (b : TypedBody) (x : ℕ) (t : Tree) (v w : Value) → slice_get X.source.bodies c1.function ≡ Some b → slice_get b.locals x ≡ Some t → local_at m1 c1.frame x ≡ Some v → local_at m2 c2.frame x ≡ Some w → Agree X.source.shapes t v w

-- the same of what stands for a frame's locals, whatever that is
abbrev pub AgreesBy : Change → Renaming → Control → Between
AgreesBy X j c1 m2 m1 = (b : TypedBody) (x g y : ℕ) (t : Tree) (v w : Value) → slice_get X.source.bodies c1.function ≡ Some b → slice_get b.locals x ≡ Some t → j c1.frame x ≡ Some (g, y) → local_at m1 c1.frame x ≡ Some v → local_at m2 g y ≡ Some w → Agree X.source.shapes t v w

-- what is left of a drop, where its end leads put aside
pub record Visiting (j : Renaming) (d e : Dropping) : Type 0 where
  pub place : VisitRel j d.place e.place
  pub items : VisitsRel j d.items e.items

-- a frame of a function that is left alone: it stands at the same place, and each of its locals stands for the same one
pub record Twin (X : Change) (j : Renaming) (c2 c1 : Control) : Type 0 where
  pub other : c1.function ≡ X.f → ⊥
  pub function : c2.function ≡ c1.function
  pub block : c2.block ≡ c1.block
  pub at : c2.at ≡ c1.at
  pub roots : (x : ℕ) → j c1.frame x ≡ Some (c2.frame, x)
  pub only : (h x y : ℕ) → j h x ≡ Some (c2.frame, y) → (h ≡ c1.frame) × (x ≡ y)
  pub drops : DropsRel j c1.dropping c2.dropping

-- a frame that opens on both sides: some of its locals stand for locals of the other's
abbrev pub in_frame : ℕ → Option ℕ → Option (ℕ × ℕ)
in_frame k None = None
in_frame k (Some y) = Some (k, y)

abbrev pub opened : Renaming → ℕ → ℕ → (ℕ → Option ℕ) → Renaming
opened j k2 k1 place h x = if nat_eq k1 h then in_frame k2 (place x) else j h x

-- ---- what a pass says of the frames of the changed function

-- the lowest control of a group
abbrev pub lowest : Control → List Control → Control
lowest c [] = c
lowest c (d ∷ ds) = lowest d ds

-- a frame of the target stands for some of the source, at a number that falls where the target stands still; `waits` says so of one above
-- which another frame runs, whose results go to these two places; `place` is the local that stands for a lent one
pub record Pass : Type 1 where
  pub own : ℕ → Renaming → Control → Control → List Control → Between
  pub waits : Renaming → Option Dest → Option Dest → Control → Control → List Control → Between
  pub place : ℕ → Option ℕ

-- the frames that wait below another one; its frame numbers are above theirs
abbrev pub Below : Change → Pass → Renaming → Option Dest → Option Dest → ℕ → ℕ → List Control → List Control → Between
Below X P j d2 d1 n2 n1 [] cs1 m2 m1 = cs1 ≡ []
Below X P j d2 d1 n2 n1 (c2 ∷ cs2) cs1 m2 m1 =
    ((c1 : Control) × (ds : List Control) × (cs1 ≡ c1 ∷ ds) × (c1.frame < n1) × (c2.frame < n2) × Twin X j c2 c1 × Agrees X c2 c1 m2 m1 × DestsRel j d1 d2 × Below X P j c2.dest c1.dest c2.frame c1.frame cs2 ds m2 m1)
    ⊎ ((c1 : Control) × (gs ds : List Control) × (cs1 ≡ c1 ∷ (gs ++ ds)) × (c1.frame < n1) × (c2.frame < n2) × ((lowest c1 gs).frame ≤ c1.frame) × P.waits j d2 d1 c2 c1 gs m2 m1 × Below X P j c2.dest (lowest c1 gs).dest c2.frame (lowest c1 gs).frame cs2 ds m2 m1)

-- ---- states

-- what is the same everywhere; frames to come are new
pub record Base (j : Renaming) (s2 s1 : State) : Type 0 where
  pub fresh1 : (k x : ℕ) → s1.next ≤ k → j k x ≡ None
  pub fresh2 : (k x g y : ℕ) → j k x ≡ Some (g, y) → g < s2.next
  pub top1 : s1.top.frame < s1.next
  pub top2 : s2.top.frame < s2.next
  pub answers : s2.answers ≡ s1.answers
  pub trace : s2.trace ≡ s1.trace

-- the running frame is one of a function that is left alone, or one of the changed function stands for some
abbrev pub Runs : Change → Pass → ℕ → Renaming → State → State → Type 0
Runs X P n j s2 s1 =
    (Twin X j s2.top s1.top × Agrees X s2.top s1.top s2.memory s1.memory × Below X P j s2.top.dest s1.top.dest s2.top.frame s1.top.frame s2.callers s1.callers s2.memory s1.memory)
    ⊎ ((gs ds : List Control) × (s1.callers ≡ gs ++ ds) × ((lowest s1.top gs).frame ≤ s1.top.frame) × P.own n j s2.top s1.top gs s2.memory s1.memory × Below X P j s2.top.dest (lowest s1.top gs).dest s2.top.frame (lowest s1.top gs).frame s2.callers ds s2.memory s1.memory)

pub record Core (X : Change) (P : Pass) (n : ℕ) (s2 s1 : State) : Type 0 where
  pub lent : Renaming
  pub base : Base lent s2 s1
  pub linked : Linked lent lent s2.memory s1.memory
  pub runs : Runs X P n lent s2 s1
