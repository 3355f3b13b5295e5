-- The elaborated body: a drop is done unit by unit. Dead units go, static ones are destroyed, and conditional ones are where their flag is
-- true. The rustc-dev-guide on drop elaboration; the order of flags, locals and blocks is this project's own.
use Rattle.std.specs.Prelude.{◌≡◌, ℕ, zero, suc, ◌<◌, ◌+◌, ◌↔◌, Bool, true, false, ◌&&◌, ◌||◌, if◌then◌else◌, IsTrue, List, [], ◌∷◌, ◌++◌, map, length, Option, Some, None, slice_get}
use Rattle.mir_syntax.specs.declared.body.Place.{Place}
use Rattle.mir_syntax.specs.declared.body.Term.{Term}
use Rattle.mir_syntax.specs.declared.body.Term.TheVariants.{Goto, Drop, Call}
use Rattle.mir_syntax.specs.Tree.{Tree}
use Rattle.mir_syntax.specs.Crate.{TypedStmt, TypedBlock, TypedBody}
use Rattle.mir_syntax.specs.Shapes.{Shape, place_ty}
use Rattle.mir_rules.specs.Typing.{bool_ty}
use Rattle.bit_rows.specs.Rows.{row_at, flag, HasSize}
use Rattle.move_paths.specs.Effects.{units_of_body, is_under, effect, moved, begun}
use Rattle.move_paths.specs.Inits.{after_stmts, is_argument, MaybeAt, SurelyAt}
use Rattle.drop_elab.specs.Plan.{Plan, done, guarded, clear, glue, set_flag, Laid, lay}

-- ---- which units are initialised

-- rows with a bit for each unit, one row for each block: the units that may be initialised at its start, and those that surely are
pub record Inits : Type 0 where
  pub maybe : List (List Bool)
  pub sure : List (List Bool)

-- they tell what paths from bb0 leave of the units
pub record IsInits (D : List Shape) (b : TypedBody) (inits : Inits) : Type 0 where
  pub maybe_size : HasSize inits.maybe (length b.blocks) (length (units_of_body D b))
  pub sure_size : HasSize inits.sure (length b.blocks) (length (units_of_body D b))
  pub maybe : (i k : ℕ) (u : Place) → i < length b.blocks → slice_get (units_of_body D b) k ≡ Some u → IsTrue (flag inits.maybe i k) ↔ MaybeAt b u i
  pub sure : (i k : ℕ) (u : Place) → i < length b.blocks → slice_get (units_of_body D b) k ≡ Some u → IsTrue (flag inits.sure i k) ↔ SurelyAt b u i

-- ---- statuses

pub data Status : Type 0 where
  dead static conditional : Status

-- dead comes first: where no path leads, a unit surely is initialised and may not be
abbrev pub status_of : (maybe sure : Bool) → Status
status_of false sure = dead
status_of true true = static
status_of true false = conditional

abbrev pub is_conditional : Status → Bool
is_conditional conditional = true
is_conditional _ = false

-- of each unit after some statements, given what it may be and surely is before them
abbrev pub statuses : List TypedStmt → List Place → List Bool → List Bool → List Status
statuses ss (u ∷ us) (m ∷ ms) (n ∷ ns) = status_of (after_stmts u ss m) (after_stmts u ss n) ∷ statuses ss us ms ns
statuses ss _ _ _ = []

-- at the end of a block of this number
abbrev pub statuses_at : List Place → Inits → ℕ → TypedBlock → List Status
statuses_at us inits i k = statuses k.stmts us (row_at inits.maybe i) (row_at inits.sure i)

-- ---- flags: one for each unit that is conditional at some drop

abbrev pub conditional_under : Place → List Place → List Status → List Bool
conditional_under p (u ∷ us) (s ∷ ss) = (is_under p u && is_conditional s) ∷ conditional_under p us ss
conditional_under p _ _ = []

abbrev pub none_of : Place → Bool
none_of u = false

-- at the end of a block
abbrev pub wants_flag : List Place → List Status → Term → List Bool
wants_flag us ss (Drop p next) = conditional_under p us ss
wants_flag us ss t = map none_of us

abbrev pub either_bit : List Bool → List Bool → List Bool
either_bit (a ∷ as') (b ∷ bs) = (a || b) ∷ either_bit as' bs
either_bit _ _ = []

-- in blocks the first of which has this number
abbrev pub want_flags : List Place → Inits → ℕ → List TypedBlock → List Bool
want_flags us inits i [] = map none_of us
want_flags us inits i (k ∷ ks) = either_bit (wants_flag us (statuses_at us inits i k) k.term) (want_flags us inits (suc i) ks)

-- a unit, and its flag where it has one
pub record Flagged : Type 0 where
  pub unit : Place
  pub flag : Option ℕ

-- flags are numbered in the order of units, from x on
abbrev pub with_flags : ℕ → List Place → List Bool → List Flagged
with_flags x (u ∷ us) (true ∷ bs) = record { unit = u; flag = Some x } ∷ with_flags (suc x) us bs
with_flags x (u ∷ us) (false ∷ bs) = record { unit = u; flag = None } ∷ with_flags x us bs
with_flags x _ _ = []

abbrev pub flag_locals : List Bool → List Tree
flag_locals [] = []
flag_locals (true ∷ bs) = bool_ty ∷ flag_locals bs
flag_locals (false ∷ bs) = flag_locals bs

-- ---- settings of flags

abbrev pub set_to : Option ℕ → Option Bool → List TypedStmt
set_to (Some x) (Some b) = set_flag x b ∷ []
set_to _ _ = []

-- of the units that change and have a flag, in the order of units
abbrev pub settings : (Place → Option Bool) → List Flagged → List TypedStmt
settings change [] = []
settings change (f ∷ fs) = set_to f.flag (change f.unit) ++ settings change fs

-- after each statement the flags of the units that it changes
abbrev pub with_settings : List Flagged → List TypedStmt → List TypedStmt
with_settings fs [] = []
with_settings fs (s ∷ ss) = s ∷ (settings (λ u. effect u s) fs ++ with_settings fs ss)

abbrev pub only_if : Bool → Bool → Option Bool
only_if true b = Some b
only_if false b = None

-- bb0 begins with all flags: true for units of arguments. No edge leads to bb0 in a valid body.
abbrev pub first_settings : ℕ → ℕ → List Flagged → List TypedStmt
first_settings args zero fs = settings (λ u. Some (is_argument args u)) fs
first_settings args (suc i) fs = []

-- ---- drops

abbrev pub cleared : Option ℕ → Plan → Plan
cleared None rest = rest
cleared (Some x) rest = clear x rest

abbrev pub typed_glue : List Shape → Place → Option Tree → Plan → Plan
typed_glue D u None rest = rest
typed_glue D u (Some t) rest = glue D u t rest

abbrev pub guarded_by : Option ℕ → (ℕ → Plan) → Plan → Plan
guarded_by None inner rest = rest
guarded_by (Some x) inner rest = guarded x (inner x) rest

-- nothing for a dead unit; of a static one the glue; of a conditional one the glue where its flag is true
abbrev pub plan_unit : List Shape → List Tree → Flagged → Status → Plan → Plan
plan_unit D locals f dead rest = rest
plan_unit D locals f static rest = typed_glue D f.unit (place_ty D locals f.unit) (cleared f.flag rest)
plan_unit D locals f conditional rest = guarded_by f.flag (λ x. typed_glue D f.unit (place_ty D locals f.unit) (clear x done)) rest

-- the units at or under the place, in their order
abbrev pub plan_drop : List Shape → List Tree → Place → List Flagged → List Status → Plan
plan_drop D locals p (f ∷ fs) (s ∷ ss) = if is_under p f.unit then plan_unit D locals f s (plan_drop D locals p fs ss) else plan_drop D locals p fs ss
plan_drop D locals p _ _ = done

-- ---- blocks

-- a call clears the flags of what it moves. Where its result initialises units with flags, it returns to a new block, which sets them.
abbrev pub call_end : List TypedStmt → Term → Term → ℕ → List TypedStmt → Laid
call_end clears same moved_on next [] = record { stmts = clears; term = same; locals = []; blocks = []; heads = [] }
call_end clears same moved_on next sets = record { stmts = clears; term = moved_on; locals = []; blocks = record { stmts = sets; term = Goto next } ∷ []; heads = [] }

-- what stands at the end of a block, where new locals are numbered from l on and new blocks from b on
abbrev pub lay_end : List Shape → List Tree → List Flagged → List Status → Term → ℕ → ℕ → Laid
lay_end D locals fs ss (Drop p next) l b = lay (plan_drop D locals p fs ss) l b next
lay_end D locals fs ss (Call p g os next) l b = call_end (settings (λ u. only_if (moved u (Call p g os next)) false) fs) (Call p g os next) (Call p g os b) next (settings (λ u. only_if (begun u (Call p g os next)) true) fs)
lay_end D locals fs ss t l b = record { stmts = []; term = t; locals = []; blocks = []; heads = [] }

-- the blocks of a body, with what they add to its locals and blocks
pub record LaidBlocks : Type 0 where
  pub blocks : List TypedBlock
  pub new_locals : List Tree
  pub new_blocks : List TypedBlock

-- block by block, the first of which has the number i
abbrev pub lay_blocks : List Shape → TypedBody → List Place → List Flagged → Inits → ℕ → List TypedBlock → ℕ → ℕ → LaidBlocks
lay_blocks D body us fs inits i [] l b = record { blocks = []; new_locals = []; new_blocks = [] }
lay_blocks D body us fs inits i (k ∷ ks) l b =
    let e = lay_end D body.locals fs (statuses_at us inits i k) k.term l b in
    let r = lay_blocks D body us fs inits (suc i) ks (l + length e.locals) (b + length e.blocks) in
    record {
      blocks = record { stmts = first_settings body.args i fs ++ (with_settings fs k.stmts ++ e.stmts); term = e.term } ∷ r.blocks;
      new_locals = e.locals ++ r.new_locals;
      new_blocks = e.blocks ++ r.new_blocks;
    }

-- the flags come first among the new locals
abbrev pub with_laid : TypedBody → List Tree → LaidBlocks → TypedBody
with_laid body flags w = record { args = body.args; locals = body.locals ++ (flags ++ w.new_locals); blocks = w.blocks ++ w.new_blocks }

-- by these rows
unfoldable pub elab_by : List Shape → TypedBody → Inits → TypedBody
elab_by D body inits =
    let us = units_of_body D body in
    let wanted = want_flags us inits 0 body.blocks in
    let flags = flag_locals wanted in
    with_laid body flags (lay_blocks D body us (with_flags (length body.locals) us wanted) inits 0 body.blocks (length body.locals + length flags) (length body.blocks))

-- by what paths leave of the units
pub record IsElab (D : List Shape) (body elaborated : TypedBody) : Type 0 where
  pub inits : Inits
  pub are_inits : IsInits D body inits
  pub is : elaborated ≡ elab_by D body inits
