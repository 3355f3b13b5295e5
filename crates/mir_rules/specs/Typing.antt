-- The types of operands and rvalues, given what is seen of the definitions and the types of the body's locals.
use Rattle.std.specs.Prelude.{ℕ, Bool, true, false, ◌&&◌, List, [], ◌∷◌, take, drop, get_or, Option, Some, None, slice_get}
use Rattle.std.specs.Bool.{then_some}
use Rattle.mir_num.specs.Widths.{is_signed}
use Rattle.mir_syntax.specs.declared.types.IntTy.TheVariants as int_ty
use Rattle.mir_syntax.specs.declared.types.ScalarTy.{ScalarTy}
use Rattle.mir_syntax.specs.declared.types.ScalarTy.TheVariants as scalar_ty
use Rattle.mir_syntax.specs.declared.body.Const.{Const}
use Rattle.mir_syntax.specs.declared.body.Const.TheVariants as const
use Rattle.mir_syntax.specs.declared.body.Operand.{Operand}
use Rattle.mir_syntax.specs.declared.body.Operand.TheVariants as operand
use Rattle.mir_syntax.specs.declared.body.BinOp.{BinOp}
use Rattle.mir_syntax.specs.declared.body.BinOp.TheVariants as bin_op
use Rattle.mir_syntax.specs.declared.body.UnOp.{UnOp}
use Rattle.mir_syntax.specs.declared.body.UnOp.TheVariants as un_op
use Rattle.mir_syntax.specs.declared.body.Callee.{Callee}
use Rattle.mir_syntax.specs.declared.body.Callee.TheVariants as callee
use Rattle.mir_syntax.specs.Tree.{Tree, scalar, empty, more, named, tuple_of}
use Rattle.mir_syntax.specs.Tree as tree
use Rattle.mir_syntax.specs.Crate.{TypedRvalue, «use», binary, overflow, unary, cast, ref, ref_mut, discriminant, tuple, build, TypedBody, Crate}
use Rattle.mir_syntax.specs.Shapes.{◌>>=◌, Shape, place_ty}
use Rattle.mir_rules.specs.Same.{same_scalar, same_tree}

abbrev pub bool_ty : Tree
bool_ty = scalar scalar_ty.Bool

-- the type of a discriminant
abbrev pub isize_ty : Tree
isize_ty = scalar (scalar_ty.Int int_ty.Isize)

abbrev pub is_int : ScalarTy → Bool
is_int scalar_ty.Bool = false
is_int (scalar_ty.Int t) = true

abbrev pub scalar_of : Tree → Option ScalarTy
scalar_of (scalar s) = Some s
scalar_of _ = None

-- ---- operands

abbrev pub const_ty : Const → Tree
const_ty (const.Int t n) = scalar (scalar_ty.Int t)
const_ty (const.Bool b) = bool_ty
const_ty const.Unit = empty

-- none where a projection doesn't fit
unfoldable pub operand_ty : List Shape → List Tree → Operand → Option Tree
operand_ty D locals (operand.Copy p) = place_ty D locals p
operand_ty D locals (operand.Move p) = place_ty D locals p
operand_ty D locals (operand.Const c) = Some (const_ty c)

-- the tuple of the operands' types
unfoldable pub operands_ty : List Shape → List Tree → List Operand → Option Tree
operands_ty D locals [] = Some empty
operands_ty D locals (a ∷ others) = operand_ty D locals a >>= λ t. operands_ty D locals others >>= λ ts. Some (more t ts)

-- ---- operators

pub data Kind : Type 0 where
  arithmetic bitwise comparison shift : Kind

abbrev pub kind_of : BinOp → Kind
kind_of bin_op.Add = arithmetic
kind_of bin_op.Sub = arithmetic
kind_of bin_op.Mul = arithmetic
kind_of bin_op.Div = arithmetic
kind_of bin_op.Rem = arithmetic
kind_of bin_op.BitXor = bitwise
kind_of bin_op.BitAnd = bitwise
kind_of bin_op.BitOr = bitwise
kind_of bin_op.Shl = shift
kind_of bin_op.Shr = shift
kind_of bin_op.Eq = comparison
kind_of bin_op.Ne = comparison
kind_of bin_op.Lt = comparison
kind_of bin_op.Le = comparison
kind_of bin_op.Gt = comparison
kind_of bin_op.Ge = comparison
kind_of bin_op.AddUnchecked = arithmetic
kind_of bin_op.SubUnchecked = arithmetic
kind_of bin_op.MulUnchecked = arithmetic

-- whether an operator of the kind takes operands of the two types
abbrev pub takes : Kind → ScalarTy → ScalarTy → Bool
takes arithmetic a b = is_int a && same_scalar a b
takes bitwise a b = same_scalar a b
takes comparison a b = same_scalar a b
takes shift a b = is_int a && is_int b

-- the type of what it makes, the left operand's type being given
abbrev pub made_by : Kind → ScalarTy → Tree
made_by comparison a = bool_ty
made_by _ a = scalar a

-- none where the operator doesn't take operands of the two types
abbrev pub binary_ty : BinOp → Tree → Tree → Option Tree
binary_ty op (scalar a) (scalar b) = then_some (takes (kind_of op) a b) (made_by (kind_of op) a)
binary_ty op _ _ = None

-- the wrapped result and a flag
abbrev pub overflow_ty : Tree → Tree → Option Tree
overflow_ty (scalar a) (scalar b) = then_some (takes arithmetic a b) (more (scalar a) (more bool_ty empty))
overflow_ty _ _ = None

abbrev pub unary_ty : UnOp → Tree → Option Tree
unary_ty un_op.Not (scalar a) = Some (scalar a)
unary_ty un_op.Neg (scalar a) = then_some (is_signed a) (scalar a)
unary_ty op _ = None

-- from a scalar to an integer type
abbrev pub cast_ty : Tree → Tree → Option Tree
cast_ty to (scalar a) = scalar_of to >>= λ s. then_some (is_int s) to
cast_ty to _ = None

-- ---- definitions

-- the enum that a type is
abbrev pub enum_of : List Shape → Tree → Option Shape
enum_of D (named d) = slice_get D d >>= λ s. then_some s.is_enum s
enum_of D _ = None

abbrev pub discriminant_ty : List Shape → Tree → Option Tree
discriminant_ty D t = enum_of D t >>= λ s. Some isize_ty

-- what is built of parts of these types
abbrev pub build_ty : List Shape → ℕ → ℕ → Tree → Option Tree
build_ty D d v parts = slice_get D d >>= λ s. slice_get s.variants v >>= λ fields. then_some (same_tree parts fields) (named d)

-- ---- rvalues

-- none where an operand has none or the operands don't fit
unfoldable pub rvalue_ty : List Shape → List Tree → TypedRvalue → Option Tree
rvalue_ty D locals («use» a) = operand_ty D locals a
rvalue_ty D locals (binary op a b) = operand_ty D locals a >>= λ t. operand_ty D locals b >>= binary_ty op t
rvalue_ty D locals (overflow op a b) = operand_ty D locals a >>= λ t. operand_ty D locals b >>= overflow_ty t
rvalue_ty D locals (unary op a) = operand_ty D locals a >>= unary_ty op
rvalue_ty D locals (cast a ty) = operand_ty D locals a >>= cast_ty ty
rvalue_ty D locals (ref p) = place_ty D locals p >>= λ t. Some (tree.ref t)
rvalue_ty D locals (ref_mut p) = place_ty D locals p >>= λ t. Some (tree.ref_mut t)
rvalue_ty D locals (discriminant p) = place_ty D locals p >>= discriminant_ty D
rvalue_ty D locals (tuple parts) = operands_ty D locals parts
rvalue_ty D locals (build d v parts) = operands_ty D locals parts >>= build_ty D d v

-- ---- calls

abbrev pub args_of : TypedBody → List Tree
args_of b = take b.args (drop 1 b.locals)

-- the type of `_0`
abbrev pub result_of : TypedBody → Tree
result_of b = get_or b.locals 0 empty

-- the tuple of the types of the arguments that a call hands over
abbrev pub callee_args_ty : Crate → Callee → Option Tree
callee_args_ty C (callee.Local f) = slice_get C.functions f.0 >>= λ g. Some (tuple_of (args_of g.body))
callee_args_ty C (callee.Outside o) = slice_get C.outsides o.0 >>= λ g. Some (tuple_of g.args)

abbrev pub callee_result_ty : Crate → Callee → Option Tree
callee_result_ty C (callee.Local f) = slice_get C.functions f.0 >>= λ g. Some (result_of g.body)
callee_result_ty C (callee.Outside o) = slice_get C.outsides o.0 >>= λ g. Some g.result
