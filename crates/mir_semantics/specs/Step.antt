-- One step of a run: a statement, a terminator, or one item of a drop. What is undefined has no result, but for an
-- outside call whose answer can't be written: that call stands on the trace first. The Rust Reference on destructors, casts and operators; the rest is this project's own. Nothing here looks at a whole body.
use Rattle.std.specs.Prelude.{ℕ, suc, Bool, true, false, ◌&&◌, nat_eq, if◌then◌else◌, List, [], ◌∷◌, ◌++◌, map, length, Option, Some, None, slice_get, drop, ℤ}
use Rattle.mir_syntax.specs.declared.types.ScalarTy.{ScalarTy}
use Rattle.mir_syntax.specs.declared.types.ScalarTy.TheVariants as scalar_ty
use Rattle.mir_syntax.specs.declared.body.Proj.{Proj}
use Rattle.mir_syntax.specs.declared.body.Proj.TheVariants.{Field, Downcast, Deref}
use Rattle.mir_syntax.specs.declared.body.Place.{Place}
use Rattle.mir_syntax.specs.declared.body.Const.{Const}
use Rattle.mir_syntax.specs.declared.body.Const.TheVariants as constant
use Rattle.mir_syntax.specs.declared.body.Operand.{Operand}
use Rattle.mir_syntax.specs.declared.body.Operand.TheVariants as operand
use Rattle.mir_syntax.specs.declared.body.Callee.{Callee}
use Rattle.mir_syntax.specs.declared.body.Callee.TheVariants as callee
use Rattle.mir_syntax.specs.declared.body.Arm.{Arm}
use Rattle.mir_syntax.specs.declared.body.Term.{Term}
use Rattle.mir_syntax.specs.declared.body.Term.TheVariants.{Goto, Switch, Return, Unreachable, Drop, Call, Assert}
use Rattle.mir_syntax.specs.Tree.{Tree, scalar, empty, more, named}
use Rattle.mir_syntax.specs.Crate.{TypedRvalue, «use», binary, overflow, unary, cast, discriminant, tuple, build, TypedStmt, assign, storage_live, storage_dead, set_discriminant, TypedBlock, TypedBody, TypedFunction, TypedOutside, Crate}
use Rattle.mir_syntax.specs.Crate as rvalue
use Rattle.mir_syntax.specs.Shapes.{Shape, shapes_of, ◌>>=◌, place_ty, variant_ty, struct_fields, destructor_of, needs_drop}
use Rattle.mir_syntax.specs.Parts.{has_deref}
use Rattle.mir_num.specs.Numbers as num
use Rattle.mir_semantics.specs.Values.{Addr, Value, number, nil, cons, variant, pointer, hole, listed, is_hole, whole, blank, full}
use Rattle.mir_semantics.specs.Memory.{Memory, value_at, write, open_frame, close_frame, further, walk}

-- what a run needs of a crate; another body at a function leaves the shapes as they are
pub record Code : Type 0 where
  pub shapes : List Shape
  pub outsides : List TypedOutside
  pub bodies : List TypedBody

abbrev pub body_in : TypedFunction → TypedBody
body_in f = f.body

abbrev pub code_of : Crate → Code
code_of c = record { shapes = shapes_of c; outsides = c.outsides; bodies = map body_in c.functions }

-- where a value is written, and the type, if any, of which the old value may have no hole at a unit of drop
pub record Dest : Type 0 where
  pub addr : Addr
  pub guard : Option Tree

-- a place of a type that a drop has still to visit
pub record Visit : Type 0 where
  pub addr : Addr
  pub ty : Tree

-- a drop that has begun: its place, where it goes on, and the items that are left, the first of which may be in its destructor
pub record Dropping : Type 0 where
  pub place : Visit
  pub target : ℕ
  pub items : List Visit

-- where a frame stands; neither the first frame nor a destructor's has a destination
pub record Control : Type 0 where
  pub function : ℕ
  pub frame : ℕ
  pub block : ℕ
  pub at : ℕ
  pub dropping : Option Dropping
  pub dest : Option Dest

-- a call of an outside function; `()` is no answer
pub record Called : Type 0 where
  pub outside : ℕ
  pub args : List ℕ
  pub answer : Option ℕ

-- the newest call stands first on the trace; frame numbers are never used again
pub record State : Type 0 where
  pub memory : Memory
  pub top : Control
  pub callers : List Control
  pub next : ℕ
  pub answers : List ℕ
  pub trace : List Called

pub data Outcome : Type 0 where
  returned : Value → Outcome
  aborted : (text : List ℕ) (values : List ℤ) → Outcome
  no_answer : Outcome

-- a step goes on, or stops with an outcome, or is undefined after one more call
pub data Next : Type 0 where
  on : State → Next
  stop : Outcome → Next
  fail : List Called → Next

-- what statements and operands see: the shapes, the types of the frame's locals and its number
pub record Here : Type 0 where
  pub shapes : List Shape
  pub locals : List Tree
  pub frame : ℕ

-- a result with the memory that reading it left
abbrev pub Reading : Type 0 → Type 0
Reading A = Option (A × Memory)

abbrev pub only_if : {A : Type 0} → Bool → A → Option A
only_if true x = Some x
only_if false x = None

-- ---- places

unfoldable pub local_addr : ℕ → ℕ → Addr
local_addr f x = record { frame = f; local = x; path = [] }

unfoldable pub resolve : Here → Memory → Place → Option Addr
resolve h m p = walk m (local_addr h.frame p.local) p.proj

unfoldable pub type_of : Here → Place → Option Tree
type_of h p = place_ty h.shapes h.locals p

-- a place behind a reference, of a type that needs drop, may be written only where nothing was moved out of it
unfoldable pub guard_of : List Shape → List Proj → Tree → Option Tree
guard_of D ps t = if has_deref ps && needs_drop D t then Some t else None

unfoldable pub dest_of : Here → Memory → Place → Option Dest
dest_of h m p = do
  a ← resolve h m p
  t ← type_of h p
  Some (record { addr = a; guard = guard_of h.shapes p.proj t })

abbrev pub allows : List Shape → Option Tree → Value → Bool
allows D None old = true
allows D (Some t) old = full D t old

unfoldable pub store : List Shape → Memory → Dest → Value → Option Memory
store D m d v = do
  old ← value_at m d.addr
  only_if (allows D d.guard old) (write m d.addr v)

-- ---- operands

unfoldable pub const_value : Const → Value
const_value (constant.Int ty n) = number n
const_value (constant.Bool b) = number (num.flag b)
const_value constant.Unit = nil

abbrev pub const_ty : Const → Tree
const_ty (constant.Int ty n) = scalar (scalar_ty.Int ty)
const_ty (constant.Bool b) = scalar scalar_ty.Bool
const_ty constant.Unit = empty

-- what is read has no hole anywhere in it
unfoldable pub read_at : Memory → Addr → Option Value
read_at m a = value_at m a >>= λ v. only_if (whole v) v

-- a move leaves the blank of the type
unfoldable pub read : Here → Memory → Operand → Reading Value
read h m (operand.Copy p) = do
  a ← resolve h m p
  v ← read_at m a
  Some (v, m)
read h m (operand.Move p) = do
  a ← resolve h m p
  v ← read_at m a
  t ← type_of h p
  Some (v, write m a (blank h.shapes t))
read h m (operand.Const c) = Some (const_value c, m)

-- from left to right, each move taking effect at once
unfoldable pub read_all : Here → Memory → List Operand → Reading (List Value)
read_all h m [] = Some ([], m)
read_all h m (o ∷ os) = do
  r ← read h m o
  rs ← read_all h r.1 os
  Some (r.0 ∷ rs.0, rs.1)

abbrev pub number_in : Value → Option ℕ
number_in (number n) = Some n
number_in _ = None

unfoldable pub read_number : Here → Memory → Operand → Reading ℕ
read_number h m o = do
  r ← read h m o
  n ← number_in r.0
  Some (n, r.1)

unfoldable pub operand_ty : Here → Operand → Option Tree
operand_ty h (operand.Copy p) = type_of h p
operand_ty h (operand.Move p) = type_of h p
operand_ty h (operand.Const c) = Some (const_ty c)

abbrev pub scalar_in : Tree → Option ScalarTy
scalar_in (scalar s) = Some s
scalar_in _ = None

unfoldable pub scalar_ty_of : Here → Operand → Option ScalarTy
scalar_ty_of h o = operand_ty h o >>= scalar_in

-- ---- rvalues

abbrev pub variant_in : Value → Option ℕ
variant_in (variant k v) = Some k
variant_in _ = None

abbrev pub built_by : ℕ → Value → Option Shape → Value
built_by k v None = hole
built_by k v (Some s) = if s.is_enum then variant k v else v

-- a value of a definition: of an enum the variant, of a struct the list of its fields
abbrev pub built : List Shape → ℕ → ℕ → Value → Value
built D d k v = built_by k v (slice_get D d)

unfoldable pub read_two : Here → Memory → Operand → Operand → Reading (ℕ × ℕ)
read_two h m a b = do
  x ← read_number h m a
  y ← read_number h x.1 b
  Some ((x.0, y.0), y.1)

-- the result and the flag
abbrev pub pair_of : ℕ × Bool → Value
pair_of p = cons (number p.0) (cons (number (num.flag p.1)) nil)

-- the operator works at the type of the left operand
unfoldable pub eval : Here → Memory → TypedRvalue → Reading Value
eval h m («use» o) = read h m o
eval h m (binary op a b) = do
  t ← scalar_ty_of h a
  r ← read_two h m a b
  n ← num.binop op t r.0.0 r.0.1
  Some (number n, r.1)
eval h m (overflow op a b) = do
  t ← scalar_ty_of h a
  r ← read_two h m a b
  Some (pair_of (num.over op t r.0.0 r.0.1), r.1)
eval h m (unary op a) = do
  t ← scalar_ty_of h a
  r ← read_number h m a
  Some (number (num.unary op t r.0), r.1)
eval h m (cast a ty) = do
  from ← scalar_ty_of h a
  to ← scalar_in ty
  r ← read_number h m a
  Some (number (num.cast from to r.0), r.1)
eval h m (rvalue.ref p) = do
  a ← resolve h m p
  Some (pointer a, m)
eval h m (rvalue.ref_mut p) = do
  a ← resolve h m p
  Some (pointer a, m)
eval h m (discriminant p) = do
  a ← resolve h m p
  v ← value_at m a
  k ← variant_in v
  Some (number k, m)
eval h m (tuple os) = do
  r ← read_all h m os
  Some (listed r.0, r.1)
eval h m (build d k os) = do
  r ← read_all h m os
  Some (built h.shapes d k (listed r.0), r.1)

-- ---- statements

unfoldable pub set_blank : Here → Memory → ℕ → Option Memory
set_blank h m x = do
  t ← slice_get h.locals x
  Some (write m (local_addr h.frame x) (blank h.shapes t))

abbrev pub is_variant : ℕ → Value → Bool
is_variant k (variant j v) = nat_eq j k
is_variant k _ = false

unfoldable pub write_unless : Bool → Memory → Addr → Value → Memory
write_unless true m a v = m
write_unless false m a v = write m a v

-- an assignment evaluates first and resolves its place then; a discriminant that is set leaves a value of that variant as it is
unfoldable pub exec : Here → Memory → TypedStmt → Option Memory
exec h m (assign p r) = do
  v ← eval h m r
  d ← dest_of h v.1 p
  store h.shapes v.1 d v.0
exec h m (storage_live x) = set_blank h m x
exec h m (storage_dead x) = set_blank h m x
exec h m (set_discriminant p k) = do
  a ← resolve h m p
  v ← value_at m a
  t ← type_of h p
  fields ← variant_ty h.shapes t k
  Some (write_unless (is_variant k v) m a (variant k (blank h.shapes fields)))

-- ---- control

abbrev pub to_block : ℕ → Control → Control
to_block b c = record c { block = b; at = 0; dropping = None }

abbrev pub next_stmt : Control → Control
next_stmt c = record c { at = suc c.at }

abbrev pub go_on : State → Memory → Control → Option Next
go_on s m c = Some (on (record s { memory = m; top = c }))

-- the block of the first arm with the value, else the other one
abbrev pub take_arm : ℕ → List Arm → ℕ → ℕ
take_arm n [] other = other
take_arm n (a ∷ arms) other = if nat_eq a.value n then a.block else take_arm n arms other

-- ---- calls

abbrev pub blanks : List Shape → List Tree → List Value
blanks D ts = map (blank D) ts

abbrev pub first_of : List Tree → List Tree
first_of [] = []
first_of (t ∷ ts) = t ∷ []

-- the locals of a new frame: the arguments, and all others blank
unfoldable pub new_slots : List Shape → List Tree → List Value → List Value
new_slots D ts args = blanks D (first_of ts) ++ (args ++ blanks D (drop (suc (length args)) ts))

unfoldable pub entered : List Shape → State → Memory → Control → ℕ → List Value → Option Dest → TypedBody → Option Next
entered D s m c g args d b =
    Some (on (record s { memory = open_frame m s.next (new_slots D b.locals args); top = record { function = g; frame = s.next; block = 0; at = 0; dropping = None; dest = d }; callers = c ∷ s.callers; next = suc s.next }))

-- a frame of a function, on top of a caller that goes on as c
unfoldable pub enter : Code → State → Memory → Control → ℕ → List Value → Option Dest → Option Next
enter C s m c g args d = slice_get C.bodies g >>= entered C.shapes s m c g args d

abbrev pub numbers_in : List Value → Option (List ℕ)
numbers_in [] = Some []
numbers_in (v ∷ vs) = do
  n ← number_in v
  ns ← numbers_in vs
  Some (n ∷ ns)

abbrev pub calling : State → List Called → List ℕ → State
calling s trace answers = record s { trace = trace; answers = answers }

-- the call stands on the trace, also where its result can't be written
abbrev pub answered : State → Control → Option Memory → Option Next
answered s c None = Some (fail s.trace)
answered s c (Some m) = go_on s m c

-- an outside function answers with the next number of the list, wrapped to its result type, and with none where the result is `()`
unfoldable pub ask : List Shape → State → Memory → Control → Dest → ℕ → List ℕ → Tree → List ℕ → Option Next
ask D s m c d o args (scalar t) [] = Some (stop no_answer)
ask D s m c d o args (scalar t) (a ∷ rest) = answered (calling s (record { outside = o; args = args; answer = Some (num.wrap t a) } ∷ s.trace) rest) c (store D m d (number (num.wrap t a)))
ask D s m c d o args _ answers = answered (calling s (record { outside = o; args = args; answer = None } ∷ s.trace) answers) c (store D m d nil)

unfoldable pub call : Code → State → Memory → Control → Dest → Callee → List Value → Option Next
call C s m c d (callee.Local g) args = enter C s m c g.0 args (Some d)
call C s m c d (callee.Outside o) args = do
  out ← slice_get C.outsides o.0
  ns ← numbers_in args
  ask C.shapes s m c d o.0 ns out.result s.answers

-- ---- drops

abbrev pub field_visits : Addr → ℕ → Tree → List Visit
field_visits a i (more t ts) = record { addr = further a (Field i); ty = t } ∷ field_visits a (suc i) ts
field_visits a i _ = []

abbrev pub variant_visits : Addr → ℕ → Option Tree → List Visit
variant_visits a k None = []
variant_visits a k (Some t) = field_visits (further a (Downcast k)) 0 t

abbrev pub enum_visits : Addr → List Tree → Value → List Visit
enum_visits a ts (variant k v) = variant_visits a k (slice_get ts k)
enum_visits a ts _ = []

abbrev pub shape_visits : Addr → Option Shape → Value → List Visit
shape_visits a None v = []
shape_visits a (Some s) v = if s.is_enum then enum_visits a s.variants v else field_visits a 0 (struct_fields s)

-- the fields in order of declaration, each of them; of an enum those of the variant that is active
abbrev pub visits_of : List Shape → Addr → Tree → Value → List Visit
visits_of D a (named d) v = shape_visits a (slice_get D d) v
visits_of D a t v = field_visits a 0 t

-- goes on with the items that are left; where none is, the place becomes blank and the drop is done
unfoldable pub work_on : List Shape → State → Control → Dropping → List Visit → Option Next
work_on D s c d [] = do
  old ← value_at s.memory d.place.addr
  go_on s (write s.memory d.place.addr (blank D d.place.ty)) (to_block d.target c)
work_on D s c d (i ∷ is) = go_on s s.memory (record c { dropping = Some (record d { items = i ∷ is }) })

-- the visit of a place that isn't a hole: its destructor is called with `&mut` of it, else its fields come next
unfoldable pub visit : Code → State → Dropping → Visit → List Visit → Value → Option ℕ → Option Next
visit C s d i rest v None = work_on C.shapes s s.top d (visits_of C.shapes i.addr i.ty v ++ rest)
visit C s d i rest v (Some g) = enter C s s.memory (record s.top { dropping = Some (record d { items = i ∷ rest }) }) g (pointer i.addr ∷ []) None

unfoldable pub visit_unless : Code → State → Dropping → Visit → List Visit → Value → Bool → Option Next
visit_unless C s d i rest v true = work_on C.shapes s s.top d rest
visit_unless C s d i rest v false = visit C s d i rest v (destructor_of C.shapes i.ty)

-- a type that needs no drop isn't looked at; a hole has nothing to drop
unfoldable pub visit_if : Code → State → Dropping → Visit → List Visit → Bool → Option Next
visit_if C s d i rest false = work_on C.shapes s s.top d rest
visit_if C s d i rest true = do
  v ← value_at s.memory i.addr
  visit_unless C s d i rest v (is_hole v)

-- one item
unfoldable pub work_off : Code → State → Dropping → List Visit → Option Next
work_off C s d [] = None
work_off C s d (i ∷ rest) = visit_if C s d i rest (needs_drop C.shapes i.ty)

-- a drop begins with the visit of its place
unfoldable pub begun : Here → State → Place → ℕ → Option Dropping → Option Dropping
begun h s p b (Some d) = Some d
begun h s p b None = do
  a ← resolve h s.memory p
  t ← type_of h p
  Some (record { place = record { addr = a; ty = t }; target = b; items = record { addr = a; ty = t } ∷ [] })

abbrev pub left_in : Memory → Addr → Option Shape → Option Value
left_in m a None = Some hole
left_in m a (Some s) = if s.is_enum then value_at m a else Some hole

-- what a destructor left at its place; only an enum is looked at again, since a struct has the same fields whatever stands there
abbrev pub left_at : List Shape → Memory → Addr → Tree → Option Value
left_at D m a (named d) = left_in m a (slice_get D d)
left_at D m a t = Some hole

-- a destructor has returned: the fields of its place come next, as they are now
unfoldable pub destroyed_at : List Shape → State → Control → Dropping → List Visit → Option Next
destroyed_at D s c d [] = None
destroyed_at D s c d (i ∷ rest) = do
  v ← left_at D s.memory i.addr i.ty
  work_on D s c d (visits_of D i.addr i.ty v ++ rest)

unfoldable pub destroyed : List Shape → State → Control → Option Next
destroyed D s c = do
  d ← c.dropping
  destroyed_at D s c d d.items

-- ---- terminators

-- the caller gets the value, or the run ends
unfoldable pub return_to : List Shape → State → Memory → Option Dest → List Control → Value → Option Next
return_to D s m d [] v = Some (stop (returned v))
return_to D s m None (c ∷ cs) v = destroyed D (record s { memory = m; callers = cs }) c
return_to D s m (Some d) (c ∷ cs) v = do
  m' ← store D m d v
  go_on (record s { callers = cs }) m' c

-- the operands of a message, each as the integer that it stands for
unfoldable pub integers : Here → Memory → List Operand → Reading (List ℤ)
integers h m [] = Some ([], m)
integers h m (o ∷ os) = do
  t ← scalar_ty_of h o
  r ← read_number h m o
  rs ← integers h r.1 os
  Some (num.integer_of t r.0 ∷ rs.0, rs.1)

-- goes on where a condition is as expected, else the run is aborted with the message
unfoldable pub check : Here → State → Memory → Bool → List ℕ → List Operand → ℕ → Option Next
check h s m true text os b = go_on s m (to_block b s.top)
check h s m false text os b = do
  r ← integers h m os
  Some (stop (aborted text r.0))

unfoldable pub finish : Code → Here → State → Term → Option Next
finish C h s (Goto b) = go_on s s.memory (to_block b s.top)
finish C h s (Switch o arms other) = do
  r ← read_number h s.memory o
  go_on s r.1 (to_block (take_arm r.0 arms other) s.top)
finish C h s Return = do
  v ← read_at s.memory (local_addr h.frame 0)
  return_to C.shapes s (close_frame s.memory h.frame) s.top.dest s.callers v
finish C h s Unreachable = None
finish C h s (Drop p b) = do
  d ← begun h s p b s.top.dropping
  work_off C s d d.items
finish C h s (Call p g os b) = do
  d ← dest_of h s.memory p
  r ← read_all h s.memory os
  call C s r.1 (to_block b s.top) d g r.0
finish C h s (Assert o expected text os b) = do
  r ← read_number h s.memory o
  check h s r.1 (nat_eq r.0 (num.flag expected)) text os b

-- the statement at a place of a block, or the terminator at its end
unfoldable pub perform : Code → Here → State → Term → Option TypedStmt → Option Next
perform C h s t None = finish C h s t
perform C h s t (Some x) = do
  m ← exec h s.memory x
  go_on s m (next_stmt s.top)

unfoldable pub step : Code → State → Option Next
step C s = do
  b ← slice_get C.bodies s.top.function
  k ← slice_get b.blocks s.top.block
  perform C (record { shapes = C.shapes; locals = b.locals; frame = s.top.frame }) s k.term (slice_get k.stmts s.top.at)
