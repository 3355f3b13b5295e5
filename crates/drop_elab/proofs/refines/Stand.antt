-- What a frame of the elaborated body has to do with one of the source's body.
use Rattle.std.proofs.Common.{◌≡◌, ◌⊎◌, ℕ, ◌+◌, ◌≤◌, Bool, true, false, not, ◌||◌, List, [], ◌∷◌, ◌++◌, length, drop, Option, Some, None, slice_get}
use Rattle.mir_syntax.specs.declared.body.Place.{Place}
use Rattle.mir_syntax.specs.declared.body.Proj.{Proj}
use Rattle.mir_syntax.specs.declared.body.Operand.{Operand}
use Rattle.mir_syntax.specs.declared.body.Callee.{Callee}
use Rattle.mir_syntax.specs.declared.body.Term.{Term}
use Rattle.mir_syntax.specs.declared.body.Term.TheVariants.{Goto, Drop, Call}
use Rattle.mir_syntax.specs.Tree.{Tree, empty}
use Rattle.mir_syntax.specs.Shapes.{Shape, place_ty, path_ty, needs_drop}
use Rattle.mir_syntax.specs.Crate.{TypedBlock, TypedBody}
use Rattle.mir_num.specs.Numbers.{flag}
use Rattle.mir_rules.specs.DefinitionRules.{holds}
use Rattle.mir_rules.specs.Weights.{nodes}
use Rattle.mir_semantics.specs.Values.{Addr, Value, number}
use Rattle.mir_semantics.specs.Memory.{Memory, local_at}
use Rattle.mir_semantics.specs.Step.{Dest, Visit, Dropping, Control, State}
use Rattle.mir_syntax.specs.Parts.{has_deref}
use Rattle.mir_renaming.specs.Renaming.{Renaming}
use Rattle.mir_renaming.proofs.Types.{TypeMap, MemTy}
use Rattle.mir_relate.specs.Simulation.{moves}
use Rattle.move_paths.specs.Effects.{units_of_body, is_under, moved, begun}
use Rattle.move_paths.specs.Inits.{after_effect}
use Rattle.drop_elab.specs.Elab.{Inits, statuses_at, Flagged, settings, with_settings, only_if, elab_by}
use Rattle.drop_elab.specs.Plan.{Laid}
use Rattle.mir_relate.specs.Frames.{Change, target, DestsRel, Pass}
use Rattle.drop_elab.proofs.refines.Items.{Proper, ProperShapes}
use Rattle.drop_elab.proofs.refines.Near.{Plain}
use Rattle.drop_elab.proofs.refines.Outer.{Marks, outer_plan}
use Rattle.drop_elab.proofs.refines.Weights.{weigh}
use Rattle.drop_elab.proofs.refines.Drops as machine
use Rattle.drop_elab.proofs.refines.Sound.{Held, Has, SoundAt, SoundBefore}
use Rattle.drop_elab.proofs.refines.Deep.{Loose}
use Rattle.drop_elab.proofs.refines.Held.{unit_hole}
use Rattle.drop_elab.proofs.refines.Begins.{kept_units}
use Rattle.drop_elab.proofs.refines.Bodies.{flags_of, first_new, end_of}
use Rattle.drop_elab.proofs.refines.Places.{Stands}
use Rattle.drop_elab.proofs.refines.Marks.{flag_in, marks_of}

-- whether the unit of a frame's local is initialised
abbrev pub held_in : Option Bool → Bool
held_in None = false
held_in (Some h) = not h

abbrev pub held : Memory → ℕ → Held
held m f u = held_in (unit_hole m f u.local u.proj)

abbrev pub AllV : (Visit → Type 0) → List Visit → Type 0
AllV P [] = Unit {0}
AllV P (i ∷ is) = P i × AllV P is

module _ (X : Change) (inits : Inits) (apart : (d : ℕ) → holds X.source.shapes (length X.source.shapes) d d ≡ false) (proper : ProperShapes X.source.shapes) where
  abbrev pub D : List Shape
  D = X.source.shapes

  abbrev pub locals : List Tree
  locals = X.body1.locals

  abbrev pub E : TypedBody
  E = elab_by X.source.shapes X.body1 inits

  abbrev pub us : List Place
  us = units_of_body X.source.shapes X.body1

  abbrev pub fs : List Flagged
  fs = flags_of X.source.shapes X.body1 inits

  abbrev pub low : ℕ
  low = first_new X.source.shapes X.body1 inits

  abbrev pub flag_of : Place → Option ℕ
  flag_of u = flag_in u fs

  -- the flag has this value in a frame of the target
  abbrev pub Says : Memory → ℕ → ℕ → Bool → Type 0
  Says m f x b = local_at m f x ≡ Some (number (flag b))

  -- each local of the source's body stands for the same one
  abbrev pub stays_at : ℕ → Option Tree → Option ℕ
  stays_at x None = None
  stays_at x (Some t) = Some x

  abbrev pub place : ℕ → Option ℕ
  place x = stays_at x (slice_get X.body1.locals x)

  -- what always holds of two frames of the function
  pub record Frame (j : Renaming) (c2 c1 : Control) (m2 m1 : Memory) : Type 0 where
    pub function1 : c1.function ≡ X.f
    pub function2 : c2.function ≡ X.f
    pub roots : (x : ℕ) (t : Tree) → slice_get X.body1.locals x ≡ Some t → j c1.frame x ≡ Some (c2.frame, x)
    pub none : (x : ℕ) → slice_get X.body1.locals x ≡ None → j c1.frame x ≡ None
    pub only : (h x y : ℕ) → j h x ≡ Some (c2.frame, y) → (h ≡ c1.frame) × (x ≡ y) × ((t : Tree) × (slice_get X.body1.locals y ≡ Some t))
    pub there : (x : ℕ) (t : Tree) → slice_get X.body1.locals x ≡ Some t → (v : Value) × (local_at m1 c1.frame x ≡ Some v) × Loose X.source.shapes t v
    pub absent : (x : ℕ) → slice_get X.body1.locals x ≡ None → local_at m1 c1.frame x ≡ None
    pub slots : (x : ℕ) (t : Tree) → slice_get (elab_by X.source.shapes X.body1 inits).locals x ≡ Some t → slice_get X.body1.locals x ≡ None → (v : Value) × (local_at m2 c2.frame x ≡ Some v)

  -- ---- at a statement

  -- every flag says whether its unit is initialised
  abbrev pub AllSay : Control → Control → Memory → Memory → Type 0
  AllSay c2 c1 m2 m1 = (u : Place) (x : ℕ) → Has us u → flag_of u ≡ Some x → Says m2 c2.frame x (held m1 c1.frame u)

  -- the code of a block's end
  abbrev pub Ending : ℕ → TypedBlock → TypedBlock → Laid → Type 0
  Ending i k1 k2 end = (l b : ℕ) × (low ≤ l) × (end ≡ end_of X.source.shapes X.body1 us fs inits i k1 l b) × (k2.term ≡ end.term) × Stands E l b end

  -- what the drop at the end of a block visits weighs this much
  abbrev pub ty_weight : Option Tree → ℕ
  ty_weight None = 0
  ty_weight (Some t) = nodes X.source.shapes t + 0

  abbrev pub term_weight : Term → ℕ
  term_weight (Drop p t) = ty_weight (place_ty X.source.shapes X.body1.locals p)
  term_weight _ = 0

  abbrev pub block_weight : Option TypedBlock → ℕ
  block_weight None = 0
  block_weight (Some k) = term_weight k.term

  abbrev pub number_of : ℕ → ℕ
  number_of i = block_weight (slice_get X.body1.blocks i)

  pub record Stated (c2 c1 : Control) (m2 m1 : Memory) : Type 0 where
    pub calm : c1.dropping ≡ None
    pub calm2 : c2.dropping ≡ None
    pub says : AllSay c2 c1 m2 m1
    pub block : c2.block ≡ c1.block
    pub here : (k1 k2 : TypedBlock) → slice_get X.body1.blocks c1.block ≡ Some k1 → slice_get (elab_by X.source.shapes X.body1 inits).blocks c1.block ≡ Some k2 → (end : Laid) × (drop c2.at k2.stmts ≡ with_settings fs (drop c1.at k1.stmts) ++ end.stmts) × (Ending c1.block k1 k2 end × SoundBefore X.source.shapes X.body1 c1.block k1 (drop c1.at k1.stmts) (held m1 c1.frame))

  -- what is wanted at the start of a block
  abbrev pub Start : ℕ → Held → Type 0
  Start t now = (k1 k2 : TypedBlock) → slice_get X.body1.blocks t ≡ Some k1 → slice_get (elab_by X.source.shapes X.body1 inits).blocks t ≡ Some k2 → (end : Laid) × (k2.stmts ≡ with_settings fs k1.stmts ++ end.stmts) × (Ending t k1 k2 end × SoundAt X.source.shapes X.body1 t now)

  -- ---- in a drop

  -- an item inside a unit that is initialised
  pub record Inside (m : Memory) (f : ℕ) (i : Visit) : Type 0 where
    pub frame : i.addr.frame ≡ f
    pub unit : Place
    pub known : Has us unit
    pub local : i.addr.local ≡ unit.local
    pub rest : List Proj
    pub path : i.addr.path ≡ unit.proj ++ rest
    pub plain : Plain i.addr.path
    pub fine : Proper i.ty
    pub live : held m f unit ≡ true

  pub record Outside (f : ℕ) (i : Visit) : Type 0 where
    pub frame : i.addr.frame ≡ f
    pub known : (t : Tree) × (slice_get X.body1.locals i.addr.local ≡ Some t)
    pub plain : Plain i.addr.path
    pub fine : Proper i.ty

  -- the units at or under items
  abbrev pub left : List Visit → List Place
  left os = outer_plan (List Place) X.source.shapes (λ u vs. u ∷ vs) os []

  abbrev pub marks_at : ℕ → TypedBlock → Marks
  marks_at i k = marks_of fs (statuses_at us inits i k)

  abbrev pub Working : ℕ → TypedBlock → Option ℕ → List Visit → List Visit → ℕ → ℕ → ℕ → Type 0
  Working i k = machine.Working low X.source X.bodies E apart proper locals (marks_at i k)

  abbrev pub Paused : ℕ → TypedBlock → Visit → Option ℕ → List Visit → List Visit → ℕ → ℕ → Type 0
  Paused i k = machine.Paused low X.source X.bodies E apart proper locals (marks_at i k)

  abbrev pub addr_at : ℕ → Place → Addr
  addr_at f p = record { frame = f; local = p.local; path = p.proj }

  -- a drop of this place, with these items left inside the unit whose flag is the current one, and these outside
  pub record Dropped (k : TypedBlock) (p : Place) (d : Dropping) (cur : Option ℕ) (inner os : List Visit) (c2 c1 : Control) (m2 m1 : Memory) : Type 0 where
    pub is : c1.dropping ≡ Some d
    pub block : slice_get X.body1.blocks c1.block ≡ Some k
    pub ends : slice_get k.stmts c1.at ≡ None
    pub term : k.term ≡ Drop p d.target
    pub addr : d.place.addr ≡ addr_at c1.frame p
    pub ty : place_ty X.source.shapes X.body1.locals p ≡ Some d.place.ty
    pub items : d.items ≡ inner ++ os
    pub inside : AllV (Inside m1 c1.frame) inner
    pub outside : AllV (Outside c1.frame) os
    -- units that are done, and those that are left
    pub done : List Place
    pub split : kept_units p us ≡ done ++ left os
    pub zero : (u : Place) (x : ℕ) → Has done u → flag_of u ≡ Some x → (cur ≡ Some x) ⊎ Says m2 c2.frame x false
    pub right : (u : Place) (x : ℕ) → Has (left os) u → flag_of u ≡ Some x → Says m2 c2.frame x (held m1 c1.frame u)
    pub current : (x : ℕ) → cur ≡ Some x → (u : Place) × Has done u × (flag_of u ≡ Some x)
    pub others : (u : Place) (x : ℕ) → Has us u → is_under p u ≡ false → flag_of u ≡ Some x → Says m2 c2.frame x (held m1 c1.frame u)
    pub sound : SoundBefore X.source.shapes X.body1 c1.block k [] (held m1 c1.frame)

  abbrev pub Dropping2 : ℕ → Control → Control → Memory → Memory → Type 0
  Dropping2 n c2 c1 m2 m1 = (k : TypedBlock) × (p : Place) × (d : Dropping) × (cur : Option ℕ) × (inner os : List Visit) × Dropped k p d cur inner os c2 c1 m2 m1 × (n ≡ weigh D (inner ++ os)) × (c2.dropping ≡ None) × Working c1.block k cur inner os c2.block c2.at d.target

  -- ---- the pass

  -- beyond the locals of the source
  pub record Past (f : ℕ) (m m' : Memory) : Type 0 where
    pub others : (g x : ℕ) → (g ≡ f → slice_get X.body1.locals x ≡ None → ⊥) → local_at m' g x ≡ local_at m g x
    pub there : (x : ℕ) (v : Value) → local_at m f x ≡ Some v → (w : Value) × (local_at m' f x ≡ Some w)

  -- the target has cleared the flags of what a call moves, and stands at the call
  pub record Handing (c2 c1 : Control) (m2 m1 : Memory) : Type 0 where
    pub calm : c1.dropping ≡ None
    pub calm2 : c2.dropping ≡ None
    pub block1 : TypedBlock
    pub is1 : slice_get X.body1.blocks c1.block ≡ Some block1
    pub ends1 : slice_get block1.stmts c1.at ≡ None
    pub place : Place
    pub callee : Callee
    pub args : List Operand
    pub next : ℕ
    pub term1 : block1.term ≡ Call place callee args next
    pub block2 : TypedBlock
    pub is2 : slice_get (elab_by X.source.shapes X.body1 inits).blocks c2.block ≡ Some block2
    pub ends2 : slice_get block2.stmts c2.at ≡ None
    pub next2 : ℕ
    pub term2 : block2.term ≡ Call place callee args next2
    pub sets : ((settings (λ u. only_if (begun u block1.term) true) fs ≡ []) × (next2 ≡ next)) ⊎ (slice_get (elab_by X.source.shapes X.body1 inits).blocks next2 ≡ Some (record { stmts = settings (λ u. only_if (begun u block1.term) true) fs; term = Goto next }))
    pub says : (u : Place) (x : ℕ) → Has us u → flag_of u ≡ Some x → Says m2 c2.frame x (after_effect (only_if (moved u block1.term) false) (held m1 c1.frame u))
    pub sound : SoundBefore X.source.shapes X.body1 c1.block block1 [] (held m1 c1.frame)

  abbrev pub Ready : ℕ → Control → Control → Memory → Memory → Type 0
  Ready n c2 c1 m2 m1 = ((n ≡ number_of c1.block) × Stated c2 c1 m2 m1) ⊎ (Dropping2 n c2 c1 m2 m1 ⊎ Handing c2 c1 m2 m1)

  -- from a state with this control and memory the target comes in some moves to a place where it can follow; only locals that the source
  -- hasn't change
  pub record Comes (s : State) (n : ℕ) (j : Renaming) (c2 c1 : Control) (m2 m1 : Memory) : Type 0 where
    pub control : Control
    pub memory : Memory
    pub count : ℕ
    pub comes : moves (target X) count (record s { memory = m2; top = c2 }) ≡ Some (record s { memory = memory; top = control })
    pub same : (control.frame ≡ c2.frame) × (control.dest ≡ c2.dest)
    pub past : Past c2.frame m2 memory
    pub frame : Frame j control c1 memory m1
    pub ready : Ready n control c1 memory m1

  abbrev pub Own : ℕ → Renaming → Control → Control → Memory → Memory → Type 0
  Own n j c2 c1 m2 m1 = (s : State) → Comes s n j c2 c1 m2 m1

  -- a destructor runs on the first item; its result goes to a local that nobody reads
  pub record Waits (d2 : Option Dest) (c2 c1 : Control) (m2 m1 : Memory) : Type 0 where
    pub block : TypedBlock
    pub dropped : Place
    pub drop : Dropping
    pub cur : Option ℕ
    pub item : Visit
    pub inner : List Visit
    pub os : List Visit
    pub state : Dropped block dropped drop cur (item ∷ inner) os c2 c1 m2 m1
    pub calm : c2.dropping ≡ None
    pub begins : c2.at ≡ 0
    pub paused : Paused c1.block block item cur inner os c2.block drop.target
    pub unread : ℕ
    pub far : low ≤ unread
    pub there : slice_get (elab_by X.source.shapes X.body1 inits).locals unread ≡ Some empty
    pub dest : d2 ≡ Some (record { addr = addr_at c2.frame (record { local = unread; proj = [] }); guard = None })

  -- it waits for the result of a call, which some units begin with
  pub record Called (j : Renaming) (d2 d1 : Option Dest) (c2 c1 : Control) (m2 m1 : Memory) : Type 0 where
    pub from : ℕ
    pub block : TypedBlock
    pub is : slice_get X.body1.blocks from ≡ Some block
    pub place : Place
    pub callee : Callee
    pub args : List Operand
    pub next : ℕ
    pub term : block.term ≡ Call place callee args next
    pub dests : DestsRel j d1 d2
    pub goal : (d : Dest) → d1 ≡ Some d → (has_deref place.proj ≡ false) → d.addr ≡ addr_at c1.frame place
    -- where it goes through a reference to the frame's own local
    pub aims : (d : Dest) (lt : Tree) → d1 ≡ Some d → has_deref place.proj ≡ true → d.addr.frame ≡ c1.frame → slice_get X.body1.locals d.addr.local ≡ Some lt → (t : Tree) × (path_ty X.source.shapes lt d.addr.path ≡ Some t) × (needs_drop X.source.shapes t ≡ true → d.guard ≡ Some t)
    pub stands1 : (c1.block ≡ next) × (c1.at ≡ 0) × (c1.dropping ≡ None)
    pub stands2 : (c2.at ≡ 0) × (c2.dropping ≡ None)
    pub sets : ((settings (λ u. only_if (begun u block.term) true) fs ≡ []) × (c2.block ≡ next)) ⊎ (slice_get (elab_by X.source.shapes X.body1 inits).blocks c2.block ≡ Some (record { stmts = settings (λ u. only_if (begun u block.term) true) fs; term = Goto next }))
    pub says : (u : Place) (x : ℕ) → Has us u → begun u block.term ≡ false → flag_of u ≡ Some x → Says m2 c2.frame x (held m1 c1.frame u)
    pub sound : SoundAt X.source.shapes X.body1 next (λ u. begun u block.term || held m1 c1.frame u)

  -- where the source's memory and the locals of this frame have types
  abbrev pub IfTyped : Control → Memory → Type 0 → Type 0
  IfTyped c1 m1 A = (G : TypeMap) → MemTy X.source.shapes G m1 → ((b : TypedBody) → slice_get X.source.bodies c1.function ≡ Some b → (x : ℕ) (t : Tree) → slice_get b.locals x ≡ Some t → G c1.frame x ≡ Some t) → A

  -- one frame for one; each local of the source is lent
  abbrev pub pass : Pass
  pass = record {
    own = λ n j c2 c1 gs m2 m1. (gs ≡ []) × IfTyped c1 m1 (Own n j c2 c1 m2 m1);
    waits = λ j d2 d1 c2 c1 gs m2 m1. (gs ≡ []) × Frame j c2 c1 m2 m1 × (((d1 ≡ None) × Waits d2 c2 c1 m2 m1) ⊎ Called j d2 d1 c2 c1 m2 m1);
    place = place;
  }
