-- Small bodies folded, computed.
use Rattle.std.proofs.Common.{◌≡◌, refl, ℕ, true, List, [], ◌∷◌, ◌^◌, ◌-◌}
use Rattle.mir_syntax.specs.declared.types.IntTy.TheVariants.{U8, I128}
use Rattle.mir_syntax.specs.declared.types.ScalarTy.TheVariants as scalar_ty
use Rattle.mir_syntax.specs.declared.body.Proj.TheVariants.{Field}
use Rattle.mir_syntax.specs.declared.body.Place.{Place}
use Rattle.mir_syntax.specs.declared.body.Const.TheVariants as constant
use Rattle.mir_syntax.specs.declared.body.Operand.{Operand}
use Rattle.mir_syntax.specs.declared.body.Operand.TheVariants.{Copy, Const}
use Rattle.mir_syntax.specs.declared.body.BinOp.TheVariants.{Add, Div, AddUnchecked}
use Rattle.mir_syntax.specs.declared.body.OverOp.TheVariants as over_op
use Rattle.mir_syntax.specs.declared.body.Term.TheVariants.{Return}
use Rattle.mir_syntax.specs.Tree.{Tree, scalar, empty, more}
use Rattle.mir_syntax.specs.Crate.{«use», binary, overflow, tuple, TypedStmt, assign, TypedBody}
use Rattle.mir_syntax.specs.Shapes.{◌>>=◌, place_ty}
use Rattle.mir_num.specs.Numbers.{wrap, integer_of, bits_of, fits, exactly, quotient, flag, binop, exact, over, unary, cast}
use Rattle.mir_semantics.specs.Step.{type_of, operand_ty, scalar_ty_of}
use Rattle.const_flow.specs.Rounds.{round}
use Rattle.place_map.specs.Tracked.{way, beyond, scalars, tracked}
use Rattle.const_flow.specs.Facts.{look, learn, part_known, known, nth_known, binary_of, wrapped_of, flag_of, unary_of, cast_of, value_known, moved, after_stmt, after_term, leads}
use Rattle.const_flow.specs.ConstAt.{sent, const_flow, const_at}
use Rattle.const_rewrite.specs.Folded.{folded_operand, binary_result, folded_rvalue, folded_term, folded_block, folded_by, folded}

abbrev local : ℕ → Place
local x = record { local = x; proj = [] }

abbrev u8 : Tree
u8 = scalar (scalar_ty.Int U8)

abbrev byte : ℕ → Operand
byte n = Const (constant.Int U8 n)

-- a body of one block that returns
abbrev returning : List Tree → List TypedStmt → TypedBody
returning ts ss = record { args = 0; locals = ts; blocks = record { stmts = ss; term = Return } ∷ [] }

-- a sum of known numbers
abbrev sum_body : TypedBody
sum_body = returning (u8 ∷ u8 ∷ []) (assign (local 1) («use» (byte 255)) ∷ assign (local 0) (binary Add (Copy (local 1)) (byte 1)) ∷ [])

folds_sum : folded [] sum_body ≡ returning (u8 ∷ u8 ∷ []) (assign (local 1) («use» (byte 255)) ∷ assign (local 0) («use» (byte 0)) ∷ [])
unfolding folded folded_by folded_block folded_term folded_rvalue binary_result folded_operand const_at const_flow tracked scalars sent leads after_term after_stmt moved value_known cast_of unary_of flag_of wrapped_of binary_of nth_known known part_known learn look beyond way round scalar_ty_of operand_ty type_of place_ty ◌>>=◌ wrap integer_of bits_of fits exactly quotient flag binop exact over unary cast
folds_sum = refl

-- what is undefined stays, with its operands known
abbrev i128 : Tree
i128 = scalar (scalar_ty.Int I128)

abbrev wide : ℕ → Operand
wide n = Const (constant.Int I128 n)

abbrev lowest : ℕ
lowest = 2 ^ 127

abbrev minus_one : ℕ
minus_one = 2 ^ 128 - 1

abbrev quotient_body : TypedBody
quotient_body = returning (i128 ∷ i128 ∷ []) (assign (local 1) («use» (wide lowest)) ∷ assign (local 0) (binary Div (Copy (local 1)) (wide minus_one)) ∷ [])

folds_undefined_quotient : folded [] quotient_body ≡ returning (i128 ∷ i128 ∷ []) (assign (local 1) («use» (wide lowest)) ∷ assign (local 0) (binary Div (wide lowest) (wide minus_one)) ∷ [])
unfolding folded folded_by folded_block folded_term folded_rvalue binary_result folded_operand const_at const_flow tracked scalars sent leads after_term after_stmt moved value_known cast_of unary_of flag_of wrapped_of binary_of nth_known known part_known learn look beyond way round scalar_ty_of operand_ty type_of place_ty ◌>>=◌ wrap integer_of bits_of fits exactly quotient flag binop exact over unary cast
folds_undefined_quotient = refl

-- a pair with its flag
abbrev bool : Tree
bool = scalar scalar_ty.Bool

abbrev flag_place : Place
flag_place = record { local = 1; proj = Field 1 ∷ [] }

folds_pair : folded [] (returning (bool ∷ more u8 (more bool empty) ∷ []) (assign (local 1) (overflow over_op.Add (byte 255) (byte 1)) ∷ assign (local 0) («use» (Copy flag_place)) ∷ [])) ≡ returning (bool ∷ more u8 (more bool empty) ∷ []) (assign (local 1) (tuple (byte 0 ∷ Const (constant.Bool true) ∷ [])) ∷ assign (local 0) («use» (Const (constant.Bool true))) ∷ [])
unfolding folded folded_by folded_block folded_term folded_rvalue binary_result folded_operand const_at const_flow tracked scalars sent leads after_term after_stmt moved value_known cast_of unary_of flag_of wrapped_of binary_of nth_known known part_known learn look beyond way round scalar_ty_of operand_ty type_of place_ty ◌>>=◌ wrap integer_of bits_of fits exactly quotient flag binop exact over unary cast
folds_pair = refl

-- an unchecked operator that is undefined stays, and is folded where its result fits
abbrev unchecked : ℕ → ℕ → TypedBody
unchecked a b = returning (u8 ∷ u8 ∷ []) (assign (local 1) («use» (byte a)) ∷ assign (local 0) (binary AddUnchecked (Copy (local 1)) (byte b)) ∷ [])

folds_undefined : folded [] (unchecked 255 1) ≡ returning (u8 ∷ u8 ∷ []) (assign (local 1) («use» (byte 255)) ∷ assign (local 0) (binary AddUnchecked (byte 255) (byte 1)) ∷ [])
unfolding folded folded_by folded_block folded_term folded_rvalue binary_result folded_operand const_at const_flow tracked scalars sent leads after_term after_stmt moved value_known cast_of unary_of flag_of wrapped_of binary_of nth_known known part_known learn look beyond way round scalar_ty_of operand_ty type_of place_ty ◌>>=◌ wrap integer_of bits_of fits exactly quotient flag binop exact over unary cast
folds_undefined = refl

folds_unchecked : folded [] (unchecked 250 5) ≡ returning (u8 ∷ u8 ∷ []) (assign (local 1) («use» (byte 250)) ∷ assign (local 0) («use» (byte 255)) ∷ [])
unfolding folded folded_by folded_block folded_term folded_rvalue binary_result folded_operand const_at const_flow tracked scalars sent leads after_term after_stmt moved value_known cast_of unary_of flag_of wrapped_of binary_of nth_known known part_known learn look beyond way round scalar_ty_of operand_ty type_of place_ty ◌>>=◌ wrap integer_of bits_of fits exactly quotient flag binop exact over unary cast
folds_unchecked = refl
