-- Short forms for writing small crates.
use Rattle.std.specs.Prelude.{ℕ, true, false, List, [], ◌∷◌}
use Rattle.mir_syntax.specs.declared.types.IntTy.{IntTy}
use Rattle.mir_syntax.specs.declared.types.Form.TheVariants as form
use Rattle.mir_syntax.specs.declared.types.ScalarTy.TheVariants as scalar_ty
use Rattle.mir_syntax.specs.declared.body.Inline.TheVariants as inline
use Rattle.mir_syntax.specs.declared.body.Proj.{Proj}
use Rattle.mir_syntax.specs.declared.body.Place.{Place}
use Rattle.mir_syntax.specs.declared.body.Const.TheVariants as constant
use Rattle.mir_syntax.specs.declared.body.Operand.{Operand}
use Rattle.mir_syntax.specs.declared.body.Operand.TheVariants as operand
use Rattle.mir_syntax.specs.declared.body.Callee.{Callee}
use Rattle.mir_syntax.specs.declared.body.Callee.TheVariants as callee
use Rattle.mir_syntax.specs.declared.body.Arm.{Arm}
use Rattle.mir_syntax.specs.declared.body.Term.{Term}
use Rattle.mir_syntax.specs.Tree.{Tree, scalar}
use Rattle.mir_syntax.specs.Crate.{TypedField, TypedVariant, TypedDef, TypedOutside, TypedStmt, TypedBlock, TypedBody, TypedFunction}

abbrev pub int : IntTy → Tree
int ty = scalar (scalar_ty.Int ty)

abbrev pub bool : Tree
bool = scalar scalar_ty.Bool

abbrev pub place : ℕ → Place
place x = record { local = x; proj = [] }

abbrev pub part_of : ℕ → List Proj → Place
part_of x ps = record { local = x; proj = ps }

abbrev pub lit : IntTy → ℕ → Operand
lit ty n = operand.Const (constant.Int ty n)

abbrev pub copy : Place → Operand
copy p = operand.Copy p

abbrev pub move : Place → Operand
move p = operand.Move p

abbrev pub arm : ℕ → ℕ → Arm
arm n b = record { value = n; block = b }

abbrev pub to_function : ℕ → Callee
to_function g = callee.Local (record { 0 = g })

abbrev pub to_outside : ℕ → Callee
to_outside o = callee.Outside (record { 0 = o })

abbrev pub block : List TypedStmt → Term → TypedBlock
block stmts term = record { stmts = stmts; term = term }

abbrev pub body : ℕ → List Tree → List TypedBlock → TypedBody
body args locals blocks = record { args = args; locals = locals; blocks = blocks }

abbrev pub function : TypedBody → TypedFunction
function b = record { path = []; inlining = inline.Plain; is_drop = false; body = b }

abbrev pub destructor : TypedBody → TypedFunction
destructor b = record { path = []; inlining = inline.Plain; is_drop = true; body = b }

abbrev pub field : Tree → TypedField
field t = record { name = []; ty = t }

abbrev pub struct : List TypedField → TypedDef
struct fields = record { path = []; is_enum = false; variants = record { name = []; form = form.Tuple; fields = fields } ∷ [] }

abbrev pub variant_with : List TypedField → TypedVariant
variant_with fields = record { name = []; form = form.Tuple; fields = fields }

abbrev pub enum : List TypedVariant → TypedDef
enum variants = record { path = []; is_enum = true; variants = variants }

abbrev pub outside : List Tree → Tree → TypedOutside
outside args result = record { path = []; args = args; result = result }
