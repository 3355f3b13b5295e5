-- What becomes of operands, rvalues and statements at a point that may be unreached: what the code finds before it goes on, and what it puts.
use Rattle.std.specs.Prelude.{ℕ, Bool, false, nat_eq, List, [], ◌∷◌, get_or, Option, Some, None, option_map}
use Rattle.mir_syntax.specs.declared.types.ScalarTy.{ScalarTy}
use Rattle.mir_syntax.specs.declared.types.ScalarTy.TheVariants as scalar_ty
use Rattle.mir_syntax.specs.declared.body.Proj.{Proj}
use Rattle.mir_syntax.specs.declared.body.Proj.TheVariants.{Field}
use Rattle.mir_syntax.specs.declared.body.Const.{Const}
use Rattle.mir_syntax.specs.declared.body.Operand.{Operand}
use Rattle.mir_syntax.specs.declared.body.Operand.TheVariants as operand
use Rattle.mir_syntax.specs.declared.body.Rvalue.{Rvalue}
use Rattle.mir_syntax.specs.declared.body.Rvalue.TheVariants as rvalue
use Rattle.mir_syntax.specs.declared.body.Stmt.{Stmt}
use Rattle.mir_syntax.specs.declared.body.Stmt.TheVariants as stmt
use Rattle.mir_syntax.specs.Tree.{Tree, trees_of}
use Rattle.mir_syntax.specs.Crate.{TypedRvalue, binary, overflow, unary, cast}
use Rattle.mir_num.specs.Numbers as num
use Rattle.mir_semantics.specs.Step.{Here, scalar_in, scalar_ty_of}
use Rattle.const_flow.specs.declared.cell.Cell.{Cell}
use Rattle.const_flow.specs.declared.cell.Known.{Known}
use Rattle.const_flow.specs.declared.cell.Known.TheVariants as told
use Rattle.const_flow.specs.Facts.{Facts, known, value_known}
use Rattle.const_flow.specs.ConstAt.{Reached}
use Rattle.const_flow.specs.Cells.{told as told_of}
use Rattle.const_flow.specs.Sights.{text_of}
use Rattle.const_rewrite.specs.declared.point.Text.{Text}
use Rattle.const_rewrite.specs.declared.point.Value.{Value}
use Rattle.const_rewrite.specs.declared.point.Value.TheVariants.{Number, Pair, Operands}
use Rattle.const_rewrite.specs.Folded.{literal, literal_of, or_constant, binary_result}

-- a body as it is read
abbrev pub here : Text → Here
here t = text_of t.program.now t.body.now

-- what its ids stand for
abbrev pub trees_in : Text → List Tree
trees_in t = trees_of t.program.now.types

-- by what is known; what no run reaches stays as it is
abbrev pub where_reached : {A : Type 0} → (Facts → A → A) → Reached → A → A
where_reached f None a = a
where_reached f (Some fs) a = f fs a

-- ---- what is found

-- the constant of what is told
abbrev pub literal_told : Option ScalarTy → Known → Option Const
literal_told (Some t) (told.Num n) = literal t n
literal_told _ _ = None

-- the constant of what is known, and none where a point is unreached
abbrev pub literal_at : Option ScalarTy → Option Cell → Option Const
literal_at t None = None
literal_at t (Some k) = literal_of t k

-- the constant that an operand is known to be
abbrev pub constant_at : Here → Reached → Operand → Option Const
constant_at h x o = literal_at (scalar_ty_of h o) (option_map (λ fs. known fs o) x)

-- the constant that a part of an rvalue's value is known to be
abbrev pub part_at : Option ScalarTy → Here → Reached → TypedRvalue → List Proj → Option Const
part_at t h x r ps = literal_at t (option_map (λ fs. value_known h fs r ps) x)

abbrev pub number_value : Option Const → Value
number_value (Some c) = Number c
number_value None = Operands

abbrev pub pair_value : Option Const → Option Const → Value
pair_value (Some a) (Some b) = Pair a b
pair_value _ _ = Operands

-- what takes the place of an rvalue
abbrev pub value_at : Here → Reached → TypedRvalue → Value
value_at h x (binary op a b) = number_value (part_at (binary_result h op a) h x (binary op a b) [])
value_at h x (overflow op a b) = pair_value (part_at (scalar_ty_of h a) h x (overflow op a b) (Field 0 ∷ [])) (part_at (Some scalar_ty.Bool) h x (overflow op a b) (Field 1 ∷ []))
value_at h x (unary op a) = number_value (part_at (scalar_ty_of h a) h x (unary op a) [])
value_at h x (cast a t) = number_value (part_at (scalar_in t) h x (cast a t) [])
value_at h x r = Operands

-- ---- what is put

abbrev pub nth : List (Option Const) → ℕ → Option Const
nth cs i = get_or cs i None

abbrev pub put_each : List (Option Const) → List Operand → List Operand
put_each (c ∷ cs) (o ∷ os) = or_constant c o ∷ put_each cs os
put_each cs os = os

-- constants in the places of an rvalue's operands
abbrev pub put_constants : List (Option Const) → Rvalue → Rvalue
put_constants cs (rvalue.Use a) = rvalue.Use (or_constant (nth cs 0) a)
put_constants cs (rvalue.Binary op a b) = rvalue.Binary op (or_constant (nth cs 0) a) (or_constant (nth cs 1) b)
put_constants cs (rvalue.Overflow op a b) = rvalue.Overflow op (or_constant (nth cs 0) a) (or_constant (nth cs 1) b)
put_constants cs (rvalue.Unary op a) = rvalue.Unary op (or_constant (nth cs 0) a)
put_constants cs (rvalue.Cast a ty) = rvalue.Cast (or_constant (nth cs 0) a) ty
put_constants cs (rvalue.Ref p) = rvalue.Ref p
put_constants cs (rvalue.RefMut p) = rvalue.RefMut p
put_constants cs (rvalue.Discriminant p) = rvalue.Discriminant p
put_constants cs (rvalue.Tuple os) = rvalue.Tuple (put_each cs os)
put_constants cs (rvalue.Build d k os) = rvalue.Build d k (put_each cs os)

abbrev pub put_value : Value → List (Option Const) → Rvalue → Rvalue
put_value Operands cs r = put_constants cs r
put_value (Number c) cs r = rvalue.Use (operand.Const c)
put_value (Pair a b) cs r = rvalue.Tuple (operand.Const a ∷ operand.Const b ∷ [])

abbrev pub put_stmt : Value → List (Option Const) → Stmt → Stmt
put_stmt v cs (stmt.Assign p r) = stmt.Assign p (put_value v cs r)
put_stmt v cs (stmt.StorageLive x) = stmt.StorageLive x
put_stmt v cs (stmt.StorageDead x) = stmt.StorageDead x
put_stmt v cs (stmt.SetDiscriminant p k) = stmt.SetDiscriminant p k

-- ---- terminators

-- the number that is known
abbrev pub number_told : Known → Option ℕ
number_told (told.Num n) = Some n
number_told _ = None

abbrev pub number_at : Reached → Operand → Option ℕ
number_at x o = number_told (told_of (option_map (λ fs. known fs o) x))

-- a condition that is known to be as expected
abbrev pub is_flag : Bool → Option ℕ → Bool
is_flag e (Some n) = nat_eq n (num.flag e)
is_flag e None = false
