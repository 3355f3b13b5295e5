-- A body whose known scalars are constants and whose known branches are jumps, as rustc's DataflowConstProp makes it.
use Rattle.std.specs.Prelude.{ℕ, zero, suc, Bool, true, false, nat_eq, nat_lt, ◌^◌, if◌then◌else◌, List, [], ◌∷◌, map, Option, Some, None}
use Rattle.mir_syntax.specs.declared.types.ScalarTy.{ScalarTy}
use Rattle.mir_syntax.specs.declared.types.ScalarTy.TheVariants as scalar_ty
use Rattle.mir_syntax.specs.declared.body.Proj.TheVariants.{Field}
use Rattle.mir_syntax.specs.declared.body.Const.{Const}
use Rattle.mir_syntax.specs.declared.body.Const.TheVariants as constant
use Rattle.mir_syntax.specs.declared.body.Operand.{Operand}
use Rattle.mir_syntax.specs.declared.body.Operand.TheVariants as operand
use Rattle.mir_syntax.specs.declared.body.BinOp.{BinOp}
use Rattle.mir_syntax.specs.declared.body.Arm.{Arm}
use Rattle.mir_syntax.specs.declared.body.Term.{Term}
use Rattle.mir_syntax.specs.declared.body.Term.TheVariants.{Goto, Switch, Return, Unreachable, Drop, Call, Assert}
use Rattle.mir_syntax.specs.Crate.{TypedRvalue, «use», binary, overflow, unary, cast, discriminant, tuple, build, TypedStmt, assign, TypedBlock, TypedBody}
use Rattle.mir_syntax.specs.Crate as rvalue
use Rattle.mir_syntax.specs.Shapes.{Shape, ◌>>=◌}
use Rattle.mir_num.specs.Numbers as num
use Rattle.mir_num.specs.Widths.{width_of}
use Rattle.mir_rules.specs.Typing.{kind_of, made_by}
use Rattle.mir_semantics.specs.Step.{Here, scalar_in, scalar_ty_of, take_arm}
use Rattle.const_flow.specs.declared.cell.Cell.{Cell}
use Rattle.const_flow.specs.declared.cell.Cell.TheVariants.{Num}
use Rattle.const_flow.specs.Facts.{Facts, known, value_known, after_stmt, after_all}
use Rattle.const_flow.specs.ConstAt.{Reached, text, const_at}

-- ---- constants

-- the constant of a number that fits its type; a `bool` is 0 or 1
abbrev pub literal : ScalarTy → ℕ → Option Const
literal (scalar_ty.Int t) n = if nat_lt n (2 ^ width_of (scalar_ty.Int t)) then Some (constant.Int t n) else None
literal scalar_ty.Bool zero = Some (constant.Bool false)
literal scalar_ty.Bool (suc zero) = Some (constant.Bool true)
literal scalar_ty.Bool n = None

-- the constant of what is known
abbrev pub literal_of : Option ScalarTy → Cell → Option Const
literal_of (Some t) (Num n) = literal t n
literal_of _ _ = None

-- ---- operands

abbrev pub or_constant : Option Const → Operand → Operand
or_constant (Some c) o = operand.Const c
or_constant None o = o

unfoldable pub folded_operand : Here → Facts → Operand → Operand
folded_operand h fs o = or_constant (literal_of (scalar_ty_of h o) (known fs o)) o

abbrev pub folded_operands : Here → Facts → List Operand → List Operand
folded_operands h fs os = map (folded_operand h fs) os

-- ---- rvalues: a constant or two of them, else of folded operands

-- the type of the number that a binary rvalue makes
unfoldable pub binary_result : Here → BinOp → Operand → Option ScalarTy
binary_result h op a = scalar_ty_of h a >>= λ t. scalar_in (made_by (kind_of op) t)

abbrev pub number_or : Option Const → TypedRvalue → TypedRvalue
number_or (Some c) x = «use» (operand.Const c)
number_or None x = x

abbrev pub pair_or : Option Const → Option Const → TypedRvalue → TypedRvalue
pair_or (Some a) (Some b) x = tuple (operand.Const a ∷ operand.Const b ∷ [])
pair_or _ _ x = x

unfoldable pub folded_rvalue : Here → Facts → TypedRvalue → TypedRvalue
folded_rvalue h fs («use» o) = «use» (folded_operand h fs o)
folded_rvalue h fs (binary op a b) = number_or (literal_of (binary_result h op a) (value_known h fs (binary op a b) [])) (binary op (folded_operand h fs a) (folded_operand h fs b))
folded_rvalue h fs (overflow op a b) =
    pair_or (literal_of (scalar_ty_of h a) (value_known h fs (overflow op a b) (Field 0 ∷ []))) (literal_of (Some scalar_ty.Bool) (value_known h fs (overflow op a b) (Field 1 ∷ []))) (overflow op (folded_operand h fs a) (folded_operand h fs b))
folded_rvalue h fs (unary op a) = number_or (literal_of (scalar_ty_of h a) (value_known h fs (unary op a) [])) (unary op (folded_operand h fs a))
folded_rvalue h fs (cast a t) = number_or (literal_of (scalar_in t) (value_known h fs (cast a t) [])) (cast (folded_operand h fs a) t)
folded_rvalue h fs (rvalue.ref p) = rvalue.ref p
folded_rvalue h fs (rvalue.ref_mut p) = rvalue.ref_mut p
folded_rvalue h fs (discriminant p) = discriminant p
folded_rvalue h fs (tuple os) = tuple (folded_operands h fs os)
folded_rvalue h fs (build d k os) = build d k (folded_operands h fs os)

-- ---- statements, each by what is known before it

abbrev pub folded_stmt : Here → Facts → TypedStmt → TypedStmt
folded_stmt h fs (assign p x) = assign p (folded_rvalue h fs x)
folded_stmt h fs s = s

abbrev pub folded_stmts : Here → Facts → List TypedStmt → List TypedStmt
folded_stmts h fs [] = []
folded_stmts h fs (s ∷ ss) = folded_stmt h fs s ∷ folded_stmts h (after_stmt h s fs) ss

-- ---- terminators: a switch on a known number, and an `assert` that is known to hold, are a `goto`

abbrev pub switch_or : Cell → Operand → List Arm → ℕ → Term
switch_or (Num n) o arms other = Goto (take_arm n arms other)
switch_or _ o arms other = Switch o arms other

-- a condition that is known to be as expected
abbrev pub as_expected : Bool → Cell → Bool
as_expected e (Num n) = nat_eq n (num.flag e)
as_expected e _ = false

unfoldable pub folded_term : Here → Facts → Term → Term
folded_term h fs (Goto b) = Goto b
folded_term h fs (Switch o arms other) = switch_or (known fs o) o arms other
folded_term h fs Return = Return
folded_term h fs Unreachable = Unreachable
folded_term h fs (Drop p b) = Drop p b
folded_term h fs (Call p g os b) = Call p g (folded_operands h fs os) b
folded_term h fs (Assert o e x os b) = if as_expected e (known fs o) then Goto b else Assert (folded_operand h fs o) e x (folded_operands h fs os) b

-- ---- blocks, by what is known at their starts; those that no run reaches stay

unfoldable pub folded_block : Here → TypedBlock → Reached → TypedBlock
folded_block h k None = k
folded_block h k (Some fs) = record { stmts = folded_stmts h fs k.stmts; term = folded_term h (after_all h k.stmts fs) k.term }

abbrev pub folded_blocks : Here → List TypedBlock → List Reached → List TypedBlock
folded_blocks h (k ∷ ks) (x ∷ xs) = folded_block h k x ∷ folded_blocks h ks xs
folded_blocks h ks _ = ks

-- by these facts
unfoldable pub folded_by : List Shape → List Reached → TypedBody → TypedBody
folded_by D xs b = record b { blocks = folded_blocks (text D b) b.blocks xs }

-- by what is known in the body
unfoldable pub folded : List Shape → TypedBody → TypedBody
folded D b = folded_by D (const_at D b) b
