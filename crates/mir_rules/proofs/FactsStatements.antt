-- Rules on statements, on small crates.
use Rattle.std.proofs.Common.{◌≡◌, refl, true, false, [], ◌∷◌}
use Rattle.mir_syntax.specs.declared.types.IntTy.TheVariants as int_ty
use Rattle.mir_syntax.specs.declared.body.Proj.TheVariants.{Field, Downcast, Deref}
use Rattle.mir_syntax.specs.declared.body.Const.TheVariants as const
use Rattle.mir_syntax.specs.declared.body.Operand.TheVariants as operand
use Rattle.mir_syntax.specs.declared.body.BinOp.TheVariants as bin_op
use Rattle.mir_syntax.specs.declared.body.OverOp.TheVariants as over_op
use Rattle.mir_syntax.specs.declared.body.UnOp.TheVariants as un_op
use Rattle.mir_syntax.specs.declared.body.Term.TheVariants as term
use Rattle.mir_syntax.specs.Tree.{empty, more}
use Rattle.mir_syntax.specs.Tree as tree
use Rattle.mir_syntax.specs.Crate.{«use», binary, overflow, unary, cast, ref, ref_mut, discriminant, tuple, build, assign, storage_live, storage_dead, set_discriminant}
use Rattle.mir_rules.specs.Formed.{is_formed}
use Rattle.mir_rules.specs.Broken.{statement, broken}
use Rattle.mir_rules.proofs.Examples.{Open, u8, u32, i8, isize, bool, pair, l, at, copy, five, block, fun, guard, choice, holder, both, with_function, with_stmt}

-- ---- formed

small_statement_is_formed : is_formed (with_stmt (choice ∷ []) (assign (l 0) («use» (operand.Copy (at 1 (Downcast 1 ∷ Field 0 ∷ [])))))) ≡ true
unfolding Open
small_statement_is_formed = refl

downcast_at_the_end_is_not_formed : is_formed (with_stmt (choice ∷ []) (assign (l 0) («use» (operand.Copy (at 1 (Downcast 1 ∷ [])))))) ≡ false
unfolding Open
downcast_at_the_end_is_not_formed = refl

number_past_its_type_is_not_formed : is_formed (with_stmt [] (assign (l 0) («use» (operand.Const (const.Int int_ty.U8 256))))) ≡ false
unfolding Open
number_past_its_type_is_not_formed = refl

tuple_of_nothing_is_not_formed : is_formed (with_stmt (empty ∷ []) (assign (l 1) (tuple []))) ≡ false
unfolding Open
tuple_of_nothing_is_not_formed = refl

unknown_variant_is_not_formed : is_formed (with_stmt (choice ∷ []) (assign (l 1) (build 1 2 []))) ≡ false
unfolding Open
unknown_variant_is_not_formed = refl

unknown_local_is_not_formed : is_formed (with_stmt [] (storage_live 1)) ≡ false
unfolding Open
unknown_local_is_not_formed = refl

-- ---- V06

field_of_a_tuple_keeps_v06 : broken (with_stmt (pair bool u8 ∷ []) (assign (l 0) («use» (operand.Copy (at 1 (Field 1 ∷ [])))))) ≡ []
unfolding Open
field_of_a_tuple_keeps_v06 = refl

field_past_a_tuple_breaks_v06 : broken (with_stmt (pair bool u8 ∷ []) (assign (l 0) («use» (operand.Copy (at 1 (Field 2 ∷ [])))))) ≡ (statement 1 0 0, 6) ∷ []
unfolding Open
field_past_a_tuple_breaks_v06 = refl

dereference_of_a_scalar_breaks_v06 : broken (with_stmt (u8 ∷ []) (assign (at 1 (Deref ∷ [])) («use» five))) ≡ (statement 1 0 0, 6) ∷ []
unfolding Open
dereference_of_a_scalar_breaks_v06 = refl

-- ---- V08

own_local_keeps_v08 : broken (with_stmt (u8 ∷ []) (storage_live 1)) ≡ []
unfolding Open
own_local_keeps_v08 = refl

return_place_breaks_v08 : broken (with_stmt (u8 ∷ []) (storage_dead 0)) ≡ (statement 1 0 0, 8) ∷ []
unfolding Open
return_place_breaks_v08 = refl

argument_breaks_v08 : broken (with_function (fun 1 (u8 ∷ u8 ∷ []) (block (storage_live 1 ∷ []) term.Return ∷ []))) ≡ (statement 1 0 0, 8) ∷ []
unfolding Open
argument_breaks_v08 = refl

-- ---- V09

sum_keeps_v09 : broken (with_stmt (u8 ∷ []) (assign (l 0) (binary bin_op.Add (copy 1) five))) ≡ []
unfolding Open
sum_keeps_v09 = refl

unchecked_sum_keeps_v09 : broken (with_stmt (u8 ∷ []) (assign (l 0) (binary bin_op.AddUnchecked (copy 1) five))) ≡ []
unfolding Open
unchecked_sum_keeps_v09 = refl

shift_by_another_type_keeps_v09 : broken (with_stmt (u32 ∷ []) (assign (l 0) (binary bin_op.Shl five (copy 1)))) ≡ []
unfolding Open
shift_by_another_type_keeps_v09 = refl

comparison_of_bools_keeps_v09 : broken (with_stmt (bool ∷ []) (assign (l 1) (binary bin_op.Lt (copy 1) (copy 1)))) ≡ []
unfolding Open
comparison_of_bools_keeps_v09 = refl

overflow_keeps_v09 : broken (with_stmt (pair u8 bool ∷ []) (assign (l 1) (overflow over_op.Mul (copy 0) five))) ≡ []
unfolding Open
overflow_keeps_v09 = refl

sum_of_two_types_breaks_v09 : broken (with_stmt (u32 ∷ []) (assign (l 0) (binary bin_op.Add five (copy 1)))) ≡ (statement 1 0 0, 9) ∷ []
unfolding Open
sum_of_two_types_breaks_v09 = refl

unchecked_product_of_bools_breaks_v09 : broken (with_stmt (bool ∷ []) (assign (l 1) (binary bin_op.MulUnchecked (copy 1) (copy 1)))) ≡ (statement 1 0 0, 9) ∷ []
unfolding Open
unchecked_product_of_bools_breaks_v09 = refl

shift_of_a_bool_breaks_v09 : broken (with_stmt (bool ∷ []) (assign (l 1) (binary bin_op.Shr (copy 1) five))) ≡ (statement 1 0 0, 9) ∷ []
unfolding Open
shift_of_a_bool_breaks_v09 = refl

overflow_of_bools_breaks_v09 : broken (with_stmt (bool ∷ []) (assign (l 1) (overflow over_op.Add (copy 1) (copy 1)))) ≡ (statement 1 0 0, 9) ∷ []
unfolding Open
overflow_of_bools_breaks_v09 = refl

comparison_of_tuples_breaks_v09 : broken (with_stmt (bool ∷ pair u8 u8 ∷ []) (assign (l 1) (binary bin_op.Eq (copy 2) (copy 2)))) ≡ (statement 1 0 0, 9) ∷ []
unfolding Open
comparison_of_tuples_breaks_v09 = refl

-- ---- V10

not_of_a_bool_keeps_v10 : broken (with_stmt (bool ∷ []) (assign (l 1) (unary un_op.Not (copy 1)))) ≡ []
unfolding Open
not_of_a_bool_keeps_v10 = refl

negation_of_signed_keeps_v10 : broken (with_stmt (i8 ∷ []) (assign (l 1) (unary un_op.Neg (copy 1)))) ≡ []
unfolding Open
negation_of_signed_keeps_v10 = refl

negation_of_unsigned_breaks_v10 : broken (with_stmt [] (assign (l 0) (unary un_op.Neg five))) ≡ (statement 1 0 0, 10) ∷ []
unfolding Open
negation_of_unsigned_breaks_v10 = refl

not_of_unit_breaks_v10 : broken (with_stmt (empty ∷ []) (assign (l 1) (unary un_op.Not (copy 1)))) ≡ (statement 1 0 0, 10) ∷ []
unfolding Open
not_of_unit_breaks_v10 = refl

-- ---- V11

cast_of_a_bool_keeps_v11 : broken (with_stmt (bool ∷ []) (assign (l 0) (cast (copy 1) u8))) ≡ []
unfolding Open
cast_of_a_bool_keeps_v11 = refl

cast_to_bool_breaks_v11 : broken (with_stmt (bool ∷ []) (assign (l 1) (cast five bool))) ≡ (statement 1 0 0, 11) ∷ []
unfolding Open
cast_to_bool_breaks_v11 = refl

cast_of_unit_breaks_v11 : broken (with_stmt (empty ∷ []) (assign (l 0) (cast (copy 1) u8))) ≡ (statement 1 0 0, 11) ∷ []
unfolding Open
cast_of_unit_breaks_v11 = refl

-- ---- V12

build_of_a_struct_keeps_v12 : broken (with_stmt (guard ∷ []) (assign (l 1) (build 0 0 (five ∷ [])))) ≡ []
unfolding Open
build_of_a_struct_keeps_v12 = refl

build_of_a_variant_keeps_v12 : broken (with_stmt (choice ∷ []) (assign (l 1) (build 1 1 (five ∷ [])))) ≡ []
unfolding Open
build_of_a_variant_keeps_v12 = refl

operand_too_many_breaks_v12 : broken (with_stmt (guard ∷ []) (assign (l 1) (build 0 0 (five ∷ five ∷ [])))) ≡ (statement 1 0 0, 12) ∷ []
unfolding Open
operand_too_many_breaks_v12 = refl

operand_of_another_type_breaks_v12 : broken (with_stmt (guard ∷ bool ∷ []) (assign (l 1) (build 0 0 (copy 2 ∷ [])))) ≡ (statement 1 0 0, 12) ∷ []
unfolding Open
operand_of_another_type_breaks_v12 = refl

-- ---- V13

discriminant_of_an_enum_keeps_v13 : broken (with_stmt (choice ∷ isize ∷ []) (assign (l 2) (discriminant (l 1)))) ≡ []
unfolding Open
discriminant_of_an_enum_keeps_v13 = refl

discriminant_of_a_struct_breaks_v13 : broken (with_stmt (guard ∷ isize ∷ []) (assign (l 2) (discriminant (l 1)))) ≡ (statement 1 0 0, 13) ∷ []
unfolding Open
discriminant_of_a_struct_breaks_v13 = refl

-- ---- V14

reference_keeps_v14 : broken (with_stmt (tree.ref u8 ∷ []) (assign (l 1) (ref (l 0)))) ≡ []
unfolding Open
reference_keeps_v14 = refl

tuple_keeps_v14 : broken (with_stmt (pair u8 bool ∷ bool ∷ []) (assign (l 1) (tuple (five ∷ copy 2 ∷ [])))) ≡ []
unfolding Open
tuple_keeps_v14 = refl

shorter_tuple_breaks_v14 : broken (with_stmt (pair u8 bool ∷ []) (assign (l 1) (tuple (five ∷ [])))) ≡ (statement 1 0 0, 14) ∷ []
unfolding Open
shorter_tuple_breaks_v14 = refl

mutable_reference_breaks_v14 : broken (with_stmt (tree.ref u8 ∷ []) (assign (l 1) (ref_mut (l 0)))) ≡ (statement 1 0 0, 14) ∷ []
unfolding Open
mutable_reference_breaks_v14 = refl

comparison_into_a_number_breaks_v14 : broken (with_stmt [] (assign (l 0) (binary bin_op.Lt five five))) ≡ (statement 1 0 0, 14) ∷ []
unfolding Open
comparison_into_a_number_breaks_v14 = refl

discriminant_into_a_byte_breaks_v14 : broken (with_stmt (choice ∷ []) (assign (l 0) (discriminant (l 1)))) ≡ (statement 1 0 0, 14) ∷ []
unfolding Open
discriminant_into_a_byte_breaks_v14 = refl

-- ---- V21

move_of_a_field_keeps_v21 : broken (with_stmt (both ∷ guard ∷ []) (assign (l 2) («use» (operand.Move (at 1 (Field 0 ∷ [])))))) ≡ []
unfolding Open
move_of_a_field_keeps_v21 = refl

copy_through_a_destructor_keeps_v21 : broken (with_stmt (guard ∷ []) (assign (l 0) («use» (operand.Copy (at 1 (Field 0 ∷ [])))))) ≡ []
unfolding Open
copy_through_a_destructor_keeps_v21 = refl

-- a scalar too
move_through_a_destructor_breaks_v21 : broken (with_stmt (guard ∷ []) (assign (l 0) («use» (operand.Move (at 1 (Field 0 ∷ [])))))) ≡ (statement 1 0 0, 21) ∷ []
unfolding Open
move_through_a_destructor_breaks_v21 = refl

-- ---- V22

move_of_a_scalar_out_of_a_variant_keeps_v22 : broken (with_stmt (choice ∷ []) (assign (l 0) («use» (operand.Move (at 1 (Downcast 1 ∷ Field 0 ∷ [])))))) ≡ []
unfolding Open
move_of_a_scalar_out_of_a_variant_keeps_v22 = refl

move_out_of_a_variant_breaks_v22 : broken (with_stmt (holder ∷ guard ∷ []) (assign (l 2) («use» (operand.Move (at 1 (Downcast 1 ∷ Field 0 ∷ [])))))) ≡ (statement 1 0 0, 22) ∷ []
unfolding Open
move_out_of_a_variant_breaks_v22 = refl

move_behind_a_reference_breaks_v22 : broken (with_stmt (tree.ref_mut guard ∷ guard ∷ []) (assign (l 2) («use» (operand.Move (at 1 (Deref ∷ [])))))) ≡ (statement 1 0 0, 22) ∷ []
unfolding Open
move_behind_a_reference_breaks_v22 = refl

-- ---- V24 and V25

set_variant_keeps_v24_and_v25 : broken (with_stmt (choice ∷ []) (set_discriminant (l 1) 1)) ≡ []
unfolding Open
set_variant_keeps_v24_and_v25 = refl

set_on_a_scalar_breaks_v24 : broken (with_stmt (u8 ∷ []) (set_discriminant (l 1) 1)) ≡ (statement 1 0 0, 24) ∷ []
unfolding Open
set_on_a_scalar_breaks_v24 = refl

set_on_what_needs_drop_breaks_v24 : broken (with_stmt (holder ∷ []) (set_discriminant (l 1) 0)) ≡ (statement 1 0 0, 24) ∷ []
unfolding Open
set_on_what_needs_drop_breaks_v24 = refl

unknown_variant_breaks_v25 : broken (with_stmt (choice ∷ []) (set_discriminant (l 1) 2)) ≡ (statement 1 0 0, 25) ∷ []
unfolding Open
unknown_variant_breaks_v25 = refl
