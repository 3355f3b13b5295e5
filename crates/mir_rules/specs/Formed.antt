-- What a formed program is: its numbers lie in their lists, and its parts are there.
use Rattle.std.specs.Prelude.{ℕ, Bool, true, false, ◌&&◌, ◌||◌, ◌^◌, nat_eq, nat_lt, List, [], ◌∷◌, length, is_some, slice_get}
use Rattle.std.specs.List.{list_all}
use Rattle.mir_num.specs.Widths.{width_of}
use Rattle.mir_syntax.specs.declared.types.ScalarTy.TheVariants as scalar_ty
use Rattle.mir_syntax.specs.declared.body.Proj.{Proj}
use Rattle.mir_syntax.specs.declared.body.Proj.TheVariants.{Field, Downcast}
use Rattle.mir_syntax.specs.declared.body.Place.{Place}
use Rattle.mir_syntax.specs.declared.body.Const.{Const}
use Rattle.mir_syntax.specs.declared.body.Const.TheVariants as const
use Rattle.mir_syntax.specs.declared.body.Operand.{Operand}
use Rattle.mir_syntax.specs.declared.body.Operand.TheVariants as operand
use Rattle.mir_syntax.specs.declared.body.Callee.{Callee}
use Rattle.mir_syntax.specs.declared.body.Callee.TheVariants as callee
use Rattle.mir_syntax.specs.declared.body.Term.{Term}
use Rattle.mir_syntax.specs.declared.body.Term.TheVariants as term
use Rattle.mir_syntax.specs.Tree.{Tree, scalar, empty, more, named}
use Rattle.mir_syntax.specs.Tree as tree
use Rattle.mir_syntax.specs.Crate.{TypedRvalue, cast, tuple, build, TypedStmt, assign, storage_live, storage_dead, set_discriminant, TypedBlock, TypedBody, TypedField, TypedVariant, TypedDef, TypedOutside, TypedFunction, Crate}
use Rattle.mir_syntax.specs.Shapes.{◌>>=◌}
use Rattle.mir_syntax.specs.Parts.{path_formed, rvalue_operands, rvalue_places, term_operands, term_places, targets}

-- the definitions that a type names are there, behind references too
abbrev pub type_formed : Crate → Tree → Bool
type_formed C (scalar s) = true
type_formed C empty = true
type_formed C (more t ts) = type_formed C t && type_formed C ts
type_formed C (tree.ref t) = type_formed C t
type_formed C (tree.ref_mut t) = type_formed C t
type_formed C (named d) = nat_lt d (length C.defs)

-- ---- definitions and headers

abbrev pub field_formed : Crate → TypedField → Bool
field_formed C f = type_formed C f.ty

abbrev pub variant_formed : Crate → TypedVariant → Bool
variant_formed C v = list_all (field_formed C) v.fields

-- a struct has one variant
abbrev pub def_formed : Crate → TypedDef → Bool
def_formed C d = (d.is_enum || nat_eq (length d.variants) 1) && list_all (variant_formed C) d.variants

abbrev pub outside_formed : Crate → TypedOutside → Bool
outside_formed C o = list_all (type_formed C) o.args && type_formed C o.result

-- ---- statements and terminators

abbrev pub place_formed : TypedBody → Place → Bool
place_formed b p = nat_lt p.local (length b.locals) && path_formed p.proj

-- a number fits its type
abbrev pub const_formed : Const → Bool
const_formed (const.Int t n) = nat_lt n (2 ^ width_of (scalar_ty.Int t))
const_formed _ = true

abbrev pub operand_formed : Operand → Bool
operand_formed (operand.Const c) = const_formed c
operand_formed _ = true

abbrev pub has_variant : Crate → ℕ → ℕ → Bool
has_variant C d v = is_some (slice_get C.defs d >>= λ def. slice_get def.variants v)

-- the tuple with no parts is the constant `()`
abbrev pub shape_formed : Crate → TypedRvalue → Bool
shape_formed C (cast a ty) = type_formed C ty
shape_formed C (tuple []) = false
shape_formed C (build d v parts) = has_variant C d v
shape_formed C _ = true

abbrev pub rvalue_formed : Crate → TypedBody → TypedRvalue → Bool
rvalue_formed C b r = shape_formed C r && (list_all operand_formed (rvalue_operands r) && list_all (place_formed b) (rvalue_places r))

abbrev pub local_formed : TypedBody → ℕ → Bool
local_formed b x = nat_lt x (length b.locals)

unfoldable pub stmt_formed : Crate → TypedBody → TypedStmt → Bool
stmt_formed C b (assign p r) = place_formed b p && rvalue_formed C b r
stmt_formed C b (storage_live x) = local_formed b x
stmt_formed C b (storage_dead x) = local_formed b x
stmt_formed C b (set_discriminant p k) = place_formed b p

abbrev pub callee_formed : Crate → Callee → Bool
callee_formed C (callee.Local f) = nat_lt f.0 (length C.functions)
callee_formed C (callee.Outside o) = nat_lt o.0 (length C.outsides)

abbrev pub call_formed : Crate → Term → Bool
call_formed C (term.Call p who args next) = callee_formed C who
call_formed C _ = true

abbrev pub block_there : TypedBody → ℕ → Bool
block_there b i = nat_lt i (length b.blocks)

unfoldable pub term_formed : Crate → TypedBody → Term → Bool
term_formed C b t = call_formed C t && (list_all operand_formed (term_operands t) && (list_all (place_formed b) (term_places t) && list_all (block_there b) (targets t)))

-- ---- bodies

abbrev pub block_formed : Crate → TypedBody → TypedBlock → Bool
block_formed C b block = list_all (stmt_formed C b) block.stmts && term_formed C b block.term

-- bb0, `_0` and the arguments are there
abbrev pub has_start : TypedBody → Bool
has_start b = nat_lt 0 (length b.blocks) && nat_lt b.args (length b.locals)

unfoldable pub body_formed : Crate → TypedBody → Bool
body_formed C b = has_start b && (list_all (type_formed C) b.locals && list_all (block_formed C b) b.blocks)

abbrev pub function_formed : Crate → TypedFunction → Bool
function_formed C f = body_formed C f.body

unfoldable pub is_formed : Crate → Bool
is_formed C = list_all (def_formed C) C.defs && (list_all (outside_formed C) C.outsides && list_all (function_formed C) C.functions)
