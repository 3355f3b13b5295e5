-- The constant of a number: its value, its type, and that it is formed.
use Rattle.std.proofs.Common.{◌≡◌, inl, inr, refl, sym, ap, ◌∙◌, ℕ, zero, suc, Bool, true, false, if◌then◌else◌, Option, Some, None, arith}
use Rattle.mir_syntax.specs.declared.types.ScalarTy.{ScalarTy}
use Rattle.mir_syntax.specs.declared.types.ScalarTy.TheVariants as scalar_ty
use Rattle.mir_syntax.specs.declared.body.Const.{Const}
use Rattle.mir_syntax.specs.declared.body.Const.TheVariants as constant
use Rattle.mir_syntax.specs.declared.body.Operand.TheVariants as operand
use Rattle.mir_syntax.specs.Tree.{scalar}
use Rattle.mir_syntax.specs.Shapes.{◌>>=◌}
use Rattle.mir_num.specs.Numbers as num
use Rattle.mir_rules.specs.Formed.{const_formed}
use Rattle.mir_rules.specs.Typing.{const_ty}
use Rattle.mir_semantics.specs.Values.{Value, number, hole, whole}
use Rattle.mir_semantics.specs.Step.{Here, const_value, operand_ty, scalar_ty_of}
use Rattle.const_flow.specs.declared.cell.Cell.{Cell}
use Rattle.const_flow.specs.declared.cell.Cell.TheVariants.{Nothing, Num, Many}
use Rattle.const_flow.specs.Holding.{Fits}
use Rattle.const_rewrite.specs.Folded.{literal, literal_of}

some_one : {A : Type 0} {x y : A} → Some x ≡ Some y → x ≡ y
some_one e = grind arith

-- of an integer type: the number fits
int_is : (b : Bool) (x c : Const) → (if b then Some x else None) ≡ Some c → (b ≡ true) × (x ≡ c)
int_is true x c e = (refl, some_one e)
int_is false x c e = absurd (grind arith)

pub literal_value : (t : ScalarTy) (n : ℕ) (c : Const) → literal t n ≡ Some c → const_value c ≡ number n
unfolding const_value num.flag
literal_value (scalar_ty.Int t) n c e = ap const_value (sym (int_is _ (constant.Int t n) c e).1)
literal_value scalar_ty.Bool zero c e = ap const_value (sym (some_one e))
literal_value scalar_ty.Bool (suc zero) c e = ap const_value (sym (some_one e))
literal_value scalar_ty.Bool (suc (suc n)) c e = absurd (grind arith)

pub literal_ty : (t : ScalarTy) (n : ℕ) (c : Const) → literal t n ≡ Some c → const_ty c ≡ scalar t
literal_ty (scalar_ty.Int t) n c e = ap const_ty (sym (int_is _ (constant.Int t n) c e).1)
literal_ty scalar_ty.Bool zero c e = ap const_ty (sym (some_one e))
literal_ty scalar_ty.Bool (suc zero) c e = ap const_ty (sym (some_one e))
literal_ty scalar_ty.Bool (suc (suc n)) c e = absurd (grind arith)

-- as runs see it
pub literal_scalar : (h : Here) (t : ScalarTy) (n : ℕ) (c : Const) → literal t n ≡ Some c → scalar_ty_of h (operand.Const c) ≡ Some t
unfolding scalar_ty_of operand_ty ◌>>=◌
literal_scalar h (scalar_ty.Int t) n c e = ap (λ c. scalar_ty_of h (operand.Const c)) (sym (int_is _ (constant.Int t n) c e).1)
literal_scalar h scalar_ty.Bool zero c e = ap (λ c. scalar_ty_of h (operand.Const c)) (sym (some_one e))
literal_scalar h scalar_ty.Bool (suc zero) c e = ap (λ c. scalar_ty_of h (operand.Const c)) (sym (some_one e))
literal_scalar h scalar_ty.Bool (suc (suc n)) c e = absurd (grind arith)

pub literal_formed : (t : ScalarTy) (n : ℕ) (c : Const) → literal t n ≡ Some c → const_formed c ≡ true
literal_formed (scalar_ty.Int t) n c e = (let (fits, same) = int_is _ (constant.Int t n) c e in ap const_formed (sym same) ∙ fits)
literal_formed scalar_ty.Bool zero c e = ap const_formed (sym (some_one e))
literal_formed scalar_ty.Bool (suc zero) c e = ap const_formed (sym (some_one e))
literal_formed scalar_ty.Bool (suc (suc n)) c e = absurd (grind arith)

-- what there is a constant of is known
pub literal_known : (o : Option ScalarTy) (k : Cell) (c : Const) → literal_of o k ≡ Some c → (t : ScalarTy) × (n : ℕ) × (o ≡ Some t) × (k ≡ Num n) × (literal t n ≡ Some c)
literal_known (Some t) (Num n) c e = (t, n, refl, refl, e)
literal_known None k c e = absurd (grind arith)
literal_known (Some t) Nothing c e = absurd (grind arith)
literal_known (Some t) Many c e = absurd (grind arith)

-- a value of which a number is known, and which is no hole
pub known_number : (n : ℕ) (v : Value) → Fits (Num n) (Some v) → whole v ≡ true → v ≡ number n
known_number n v (inl e) w = absurd (let z : whole hole ≡ true = ap whole (sym e) ∙ w in grind arith)
known_number n v (inr e) w = e
