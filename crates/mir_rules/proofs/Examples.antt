-- Small crates for the facts: four definitions, an outside function, a destructor, a function under test and one that it calls.
use Rattle.std.proofs.Common.{ℕ, true, false, List, [], ◌∷◌}
use Rattle.mir_syntax.specs.declared.types.IntTy.{IntTy}
use Rattle.mir_syntax.specs.declared.types.IntTy.TheVariants as int_ty
use Rattle.mir_syntax.specs.declared.types.ScalarTy.TheVariants as scalar_ty
use Rattle.mir_syntax.specs.declared.types.Form.TheVariants as form
use Rattle.mir_syntax.specs.declared.body.Inline.TheVariants as inlining
use Rattle.mir_syntax.specs.declared.body.Proj.{Proj}
use Rattle.mir_syntax.specs.declared.body.Place.{Place}
use Rattle.mir_syntax.specs.declared.body.Const.TheVariants as const
use Rattle.mir_syntax.specs.declared.body.Operand.{Operand}
use Rattle.mir_syntax.specs.declared.body.Operand.TheVariants as operand
use Rattle.mir_syntax.specs.declared.body.Callee.{Callee}
use Rattle.mir_syntax.specs.declared.body.Callee.TheVariants as callee
use Rattle.mir_syntax.specs.declared.body.Term.{Term}
use Rattle.mir_syntax.specs.declared.body.Term.TheVariants as term
use Rattle.mir_syntax.specs.Tree.{Tree, scalar, empty, more, ref_mut, named}
use Rattle.mir_syntax.specs.Crate.{TypedStmt, TypedBlock, TypedBody, TypedField, TypedVariant, TypedDef, TypedOutside, TypedFunction, Crate}
use Rattle.mir_syntax.specs.Shapes.{◌>>=◌, shapes_of, place_ty, needs_drop}
use Rattle.mir_rules.specs.Same.{same_tree}
use Rattle.mir_rules.specs.Typing.{operand_ty, operands_ty, rvalue_ty}
use Rattle.mir_rules.specs.Formed.{stmt_formed, term_formed, body_formed, is_formed}
use Rattle.mir_rules.specs.Broken.{rvalue_broken, statement_broken, terminator_broken, body_found, broken}
use Rattle.mir_rules.specs.Weights.{nodes, units, drop_weight}
use Rattle.mir_rules.specs.Limits.{is_large_type, body_weight, blocks_count, locals_count, statement_spots, functions_passed, types_passed, bodies_passed, statements_passed, passed}

-- a fact that is computed names this after `unfolding`
unfoldable pub Open : Type 0
unfolding ◌>>=◌ shapes_of place_ty needs_drop same_tree operand_ty operands_ty rvalue_ty stmt_formed term_formed body_formed is_formed rvalue_broken statement_broken terminator_broken body_found broken nodes units drop_weight is_large_type body_weight blocks_count locals_count statement_spots functions_passed types_passed bodies_passed statements_passed passed
Open = Unit {0}

-- ---- types

abbrev pub int : IntTy → Tree
int t = scalar (scalar_ty.Int t)

abbrev pub u8 : Tree
u8 = int int_ty.U8

abbrev pub u32 : Tree
u32 = int int_ty.U32

abbrev pub i8 : Tree
i8 = int int_ty.I8

abbrev pub isize : Tree
isize = int int_ty.Isize

abbrev pub bool : Tree
bool = scalar scalar_ty.Bool

abbrev pub pair : Tree → Tree → Tree
pair t u = more t (more u empty)

-- ---- places, operands, blocks

abbrev pub l : ℕ → Place
l x = record { local = x; proj = [] }

abbrev pub at : ℕ → List Proj → Place
at x ps = record { local = x; proj = ps }

abbrev pub copy : ℕ → Operand
copy x = operand.Copy (l x)

abbrev pub move : ℕ → Operand
move x = operand.Move (l x)

abbrev pub five : Operand
five = operand.Const (const.Int int_ty.U8 5)

abbrev pub function : ℕ → Callee
function f = callee.Local (record { 0 = f })

abbrev pub outside_fn : ℕ → Callee
outside_fn o = callee.Outside (record { 0 = o })

abbrev pub block : List TypedStmt → Term → TypedBlock
block stmts t = record { stmts = stmts; term = t }

abbrev pub body : ℕ → List Tree → List TypedBlock → TypedBody
body args locals blocks = record { args = args; locals = locals; blocks = blocks }

abbrev pub fun : ℕ → List Tree → List TypedBlock → TypedFunction
fun args locals blocks = record { path = []; inlining = inlining.Plain; is_drop = false; body = body args locals blocks }

abbrev pub drop_fun : ℕ → List Tree → TypedFunction
drop_fun args locals = record { path = []; inlining = inlining.Plain; is_drop = true; body = body args locals (block [] term.Return ∷ []) }

-- ---- definitions

abbrev pub field : Tree → TypedField
field t = record { name = []; ty = t }

abbrev pub variant : List TypedField → TypedVariant
variant fields = record { name = []; form = form.Tuple; fields = fields }

abbrev pub struct : List TypedField → TypedDef
struct fields = record { path = []; is_enum = false; variants = variant fields ∷ [] }

abbrev pub enum : List TypedVariant → TypedDef
enum variants = record { path = []; is_enum = true; variants = variants }

-- `struct Guard(u8)`, which has a destructor
abbrev pub guard : Tree
guard = named 0

-- `enum Choice { Empty, Full(u8) }`
abbrev pub choice : Tree
choice = named 1

-- `enum Holder { Empty, Full(Guard) }`
abbrev pub holder : Tree
holder = named 2

-- `struct Both(Guard, u8)`
abbrev pub both : Tree
both = named 3

abbrev pub the_defs : List TypedDef
the_defs = struct (field u8 ∷ []) ∷ enum (variant [] ∷ variant (field u8 ∷ []) ∷ []) ∷ enum (variant [] ∷ variant (field guard ∷ []) ∷ []) ∷ struct (field guard ∷ field u8 ∷ []) ∷ []

-- ---- crates

abbrev pub outside_of_u8 : List Tree → Tree → TypedOutside
outside_of_u8 args result = record { path = []; args = args; result = result }

abbrev pub drop_guard : TypedFunction
drop_guard = drop_fun 1 (empty ∷ ref_mut guard ∷ [])

-- `fn add(_1: u8, _2: u8) -> u8`
abbrev pub add : TypedFunction
add = fun 2 (u8 ∷ u8 ∷ u8 ∷ []) (block [] term.Return ∷ [])

-- function 0 is the destructor, 1 the one under test, 2 `add`
abbrev pub with_function : TypedFunction → Crate
with_function f = record { defs = the_defs; outsides = outside_of_u8 (u8 ∷ []) u8 ∷ []; functions = drop_guard ∷ f ∷ add ∷ [] }

-- a function without arguments that returns `u8` and has these locals after `_0`
abbrev pub with_stmt : List Tree → TypedStmt → Crate
with_stmt locals s = with_function (fun 0 (u8 ∷ locals) (block (s ∷ []) term.Return ∷ []))

abbrev pub with_term : List Tree → Term → Crate
with_term locals t = with_function (fun 0 (u8 ∷ locals) (block [] t ∷ block [] term.Return ∷ []))

abbrev pub with_defs : List TypedDef → List TypedFunction → Crate
with_defs defs functions = record { defs = defs; outsides = []; functions = functions }
