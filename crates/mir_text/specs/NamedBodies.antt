-- The places, statements and blocks that a derivation names.
use Rattle.std.specs.Prelude.{ℕ, Bool, true, false, nat_eq, List, [], ◌∷◌, ◌++◌, map, slice_get, Option, Some, None, if◌then◌else◌}
use Rattle.mir_syntax.specs.declared.body.Proj.{Proj}
use Rattle.mir_syntax.specs.declared.body.Proj.TheVariants.{Field, Downcast, Deref}
use Rattle.mir_syntax.specs.declared.body.Place.{Place}
use Rattle.mir_syntax.specs.declared.body.Const.{Const}
use Rattle.mir_syntax.specs.declared.body.Const.TheVariants as const
use Rattle.mir_syntax.specs.declared.body.Operand.{Operand}
use Rattle.mir_syntax.specs.declared.body.Operand.TheVariants as operand
use Rattle.mir_syntax.specs.declared.body.Callee.{Callee}
use Rattle.mir_syntax.specs.declared.body.Callee.TheVariants as callee
use Rattle.mir_syntax.specs.declared.body.Arm.{Arm}
use Rattle.mir_syntax.specs.declared.body.Term.{Term}
use Rattle.mir_syntax.specs.declared.body.Term.TheVariants as term
use Rattle.mir_syntax.specs.Tree.{Tree, named}
use Rattle.mir_syntax.specs.Crate as c
use Rattle.mir_syntax.specs.Crate.{TypedDef, TypedRvalue, TypedStmt, TypedBlock}
use Rattle.mir_syntax.specs.Shapes.{proj_ty, pointee, ◌>>=◌}
use Rattle.mir_text.specs.Numbers.{bits_of, least, greatest}
use Rattle.mir_text.specs.Words.{place_in}
use Rattle.mir_text.specs.Grammar.{items_of}
use Rattle.mir_text.specs.GrammarTypes.{PathRule}
use Rattle.mir_text.specs.GrammarPlaces as p
use Rattle.mir_text.specs.GrammarPlaces.{PlaceRule, ValueRule, OperandRule}
use Rattle.mir_text.specs.GrammarStatements as r
use Rattle.mir_text.specs.GrammarStatements.{BuildRule, RvalueRule, StmtRule}
use Rattle.mir_text.specs.GrammarTerms as g
use Rattle.mir_text.specs.GrammarTerms.{ArmRule, TermRule, BlockRule}
use Rattle.mir_text.specs.Names.{Names, string_at, path_bytes, last_name, without_last, ty_of}

-- the locals that a function declares, each with its type, in order
abbrev pub Declared : Type 0
Declared = List (ℕ × Tree)

-- the type of a local: that of its first declaration
abbrev pub declared_ty : Declared → ℕ → Option Tree
declared_ty [] x = None
declared_ty (d ∷ ds) x = if nat_eq d.0 x then Some d.1 else declared_ty ds x

-- ---- variants

abbrev pub variant_names : TypedDef → List (List ℕ)
variant_names d = map (λ v. v.name) d.variants

-- the number of the variant of an enum with a name
abbrev pub variant_in : List ℕ → TypedDef → Option ℕ
variant_in bytes d = if d.is_enum then place_in (variant_names d) bytes else None

-- the number of the variant of a type with a name
abbrev pub variant_of_ty : Names → List ℕ → Tree → Option ℕ
variant_of_ty names bytes (named d) = slice_get names.defs d >>= variant_in bytes
variant_of_ty names bytes t = None

-- ---- places

abbrev pub downcast_ty : Names → Tree → ℕ → Option ℕ → Option Tree
downcast_ty names t n None = None
downcast_ty names t n (Some k) = proj_ty names.shapes t (Downcast k) >>= λ u. proj_ty names.shapes u (Field n)

-- the type of a place, by the definitions; none where a projection doesn't fit
abbrev pub place_ty_of : Names → Declared → PlaceRule → Option Tree
place_ty_of names locals (p.local x) = declared_ty locals x
place_ty_of names locals (p.deref q) = place_ty_of names locals q >>= pointee
place_ty_of names locals (p.field q n u) = place_ty_of names locals q >>= λ t. proj_ty names.shapes t (Field n)
place_ty_of names locals (p.variant_field q v n u) =
    place_ty_of names locals q >>= λ t. downcast_ty names t n (variant_of_ty names (string_at names.strings v) t)

-- the number of the variant with a name that a place's type has
abbrev pub variant_at_place : Names → Declared → PlaceRule → ℕ → Option ℕ
variant_at_place names locals q v = place_ty_of names locals q >>= variant_of_ty names (string_at names.strings v)

abbrev pub or_zero : Option ℕ → ℕ
or_zero None = 0
or_zero (Some n) = n

abbrev pub local_in : PlaceRule → ℕ
local_in (p.local x) = x
local_in (p.deref q) = local_in q
local_in (p.field q n u) = local_in q
local_in (p.variant_field q v n u) = local_in q

abbrev pub projs_named : Names → Declared → PlaceRule → List Proj
projs_named names locals (p.local x) = []
projs_named names locals (p.deref q) = projs_named names locals q ++ Deref ∷ []
projs_named names locals (p.field q n u) = projs_named names locals q ++ Field n ∷ []
projs_named names locals (p.variant_field q v n u) = projs_named names locals q ++ Downcast (or_zero (variant_at_place names locals q v)) ∷ Field n ∷ []

abbrev pub place_named : Names → Declared → PlaceRule → Place
place_named names locals q = record { local = local_in q; proj = projs_named names locals q }

-- ---- operands

abbrev pub value_named : ValueRule → Const
value_named (p.number negative n t) = const.Int t (bits_of negative n t)
value_named (p.boolean x) = const.Bool x
value_named p.unit = const.Unit
value_named (p.least t) = const.Int t (least t)
value_named (p.most t) = const.Int t (greatest t)

-- a bare place is copied
abbrev pub operand_named : Names → Declared → OperandRule → Operand
operand_named names locals (p.copy q) = operand.Copy (place_named names locals q)
operand_named names locals (p.move q) = operand.Move (place_named names locals q)
operand_named names locals (p.bare q) = operand.Copy (place_named names locals q)
operand_named names locals (p.const x) = operand.Const (value_named x)

-- ---- builds

-- the struct at a number, with its one variant
abbrev pub struct_at : Names → ℕ → Option (ℕ × ℕ)
struct_at names d = slice_get names.defs d >>= λ x. if x.is_enum then None else Some (d, 0)

-- a variant with a name of the enum at a number
abbrev pub enum_variant_at : Names → List ℕ → ℕ → Option (ℕ × ℕ)
enum_variant_at names bytes d = slice_get names.defs d >>= λ x. variant_in bytes x >>= λ k. Some (d, k)

abbrev pub or_else : {A : Type 0} → Option A → Option A → Option A
or_else None other = other
or_else (Some x) other = Some x

-- the struct, or the enum and its variant, that a path names
abbrev pub built_by : Names → PathRule → Option (ℕ × ℕ)
built_by names path = or_else
    (place_in names.paths (path_bytes names.strings path) >>= struct_at names)
    (without_last path >>= λ front. place_in names.paths (path_bytes names.strings front) >>= enum_variant_at names (string_at names.strings (last_name path)))

abbrev pub or_first : Option (ℕ × ℕ) → ℕ × ℕ
or_first None = (0, 0)
or_first (Some x) = x

abbrev pub parts_named : Names → Declared → BuildRule → List Operand
parts_named names locals r.plain = []
parts_named names locals (r.tupled xs) = items_of (operand_named names locals) xs
parts_named names locals (r.labelled xs) = items_of (λ x. operand_named names locals x.1) xs

-- ---- rvalues and statements

abbrev pub ref_named : Bool → Place → TypedRvalue
ref_named true q = c.ref_mut q
ref_named false q = c.ref q

abbrev pub build_named : ℕ × ℕ → List Operand → TypedRvalue
build_named x xs = c.build x.0 x.1 xs

abbrev pub rvalue_named : Names → Declared → RvalueRule → TypedRvalue
rvalue_named names locals (r.«use» x) = c.«use» (operand_named names locals x)
rvalue_named names locals (r.cast x u) = c.cast (operand_named names locals x) (ty_of names u)
rvalue_named names locals (r.binary op x y) = c.binary op (operand_named names locals x) (operand_named names locals y)
rvalue_named names locals (r.overflow op x y) = c.overflow op (operand_named names locals x) (operand_named names locals y)
rvalue_named names locals (r.unary op x) = c.unary op (operand_named names locals x)
rvalue_named names locals (r.reference m q) = ref_named m (place_named names locals q)
rvalue_named names locals (r.discriminant q) = c.discriminant (place_named names locals q)
rvalue_named names locals r.nothing = c.«use» (operand.Const const.Unit)
rvalue_named names locals (r.tuple_of x xs) = c.tuple (operand_named names locals x ∷ items_of (operand_named names locals) xs)
rvalue_named names locals (r.build path parts) = build_named (or_first (built_by names path)) (parts_named names locals parts)

-- `nop` is no statement of the body
abbrev pub stmt_named : Names → Declared → StmtRule → List TypedStmt
stmt_named names locals (r.assign q x) = c.assign (place_named names locals q) (rvalue_named names locals x) ∷ []
stmt_named names locals r.nop = []
stmt_named names locals (r.live x) = c.storage_live x ∷ []
stmt_named names locals (r.dead x) = c.storage_dead x ∷ []
stmt_named names locals (r.set q k) = c.set_discriminant (place_named names locals q) k ∷ []

abbrev pub stmts_named : Names → Declared → List StmtRule → List TypedStmt
stmts_named names locals [] = []
stmts_named names locals (x ∷ xs) = stmt_named names locals x ++ stmts_named names locals xs

-- ---- terminators and blocks

abbrev pub function_or : Option ℕ → Option ℕ → Option Callee
function_or (Some f) o = Some (callee.Local (record { 0 = f }))
function_or None (Some o) = Some (callee.Outside (record { 0 = o }))
function_or None None = None

-- the function or outside function that a path names
abbrev pub called_by : Names → PathRule → Option Callee
called_by names path = function_or (place_in names.functions (path_bytes names.strings path)) (place_in names.outsides (path_bytes names.strings path))

abbrev pub or_first_function : Option Callee → Callee
or_first_function None = callee.Local (record { 0 = 0 })
or_first_function (Some f) = f

abbrev pub arm_named : ArmRule → Arm
arm_named a = record { value = a.0; block = a.1 }

abbrev pub term_named : Names → Declared → TermRule → Term
term_named names locals (g.goto b) = term.Goto b
term_named names locals g.returns = term.Return
term_named names locals g.never = term.Unreachable
term_named names locals (g.switch x arms b) = term.Switch (operand_named names locals x) (map arm_named arms) b
term_named names locals (g.call q path xs b u) =
    term.Call (place_named names locals q) (or_first_function (called_by names path)) (items_of (operand_named names locals) xs) b
term_named names locals (g.drop q b u) = term.Drop (place_named names locals q) b
term_named names locals (g.assert expected x message xs b u) =
    term.Assert (operand_named names locals x) expected (string_at names.strings message) (map (operand_named names locals) xs) b

abbrev pub block_named : Names → Declared → BlockRule → TypedBlock
block_named names locals b = record { stmts = stmts_named names locals b.stmts; term = term_named names locals b.term }
