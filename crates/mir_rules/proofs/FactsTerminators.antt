-- Rules on terminators, on small crates.
use Rattle.std.proofs.Common.{◌≡◌, refl, ℕ, true, [], ◌∷◌}
use Rattle.mir_syntax.specs.declared.body.Proj.TheVariants.{Field, Downcast, Deref}
use Rattle.mir_syntax.specs.declared.body.Operand.TheVariants as operand
use Rattle.mir_syntax.specs.declared.body.Arm.{Arm}
use Rattle.mir_syntax.specs.declared.body.Term.TheVariants as term
use Rattle.mir_syntax.specs.Tree.{empty, more}
use Rattle.mir_syntax.specs.Tree as tree
use Rattle.mir_rules.specs.Broken.{terminator, broken}
use Rattle.mir_rules.proofs.Examples.{Open, u8, bool, pair, l, at, copy, move, five, function, outside_fn, guard, holder, both, with_term}

abbrev arm : ℕ → ℕ → Arm
arm value block = record { value = value; block = block }

-- ---- V05

other_block_keeps_v05 : broken (with_term [] (term.Goto 1)) ≡ []
unfolding Open
other_block_keeps_v05 = refl

goto_to_the_start_breaks_v05 : broken (with_term [] (term.Goto 0)) ≡ (terminator 1 0, 5) ∷ []
unfolding Open
goto_to_the_start_breaks_v05 = refl

arm_to_the_start_breaks_v05 : broken (with_term [] (term.Switch five (arm 1 1 ∷ arm 2 0 ∷ []) 1)) ≡ (terminator 1 0, 5) ∷ []
unfolding Open
arm_to_the_start_breaks_v05 = refl

-- ---- V15 and V16

call_keeps_v15_and_v16 : broken (with_term [] (term.Call (l 0) (function 2) (five ∷ copy 0 ∷ []) 1)) ≡ []
unfolding Open
call_keeps_v15_and_v16 = refl

outside_call_keeps_v15_and_v16 : broken (with_term [] (term.Call (l 0) (outside_fn 0) (five ∷ []) 1)) ≡ []
unfolding Open
outside_call_keeps_v15_and_v16 = refl

argument_too_few_breaks_v15 : broken (with_term [] (term.Call (l 0) (function 2) (five ∷ []) 1)) ≡ (terminator 1 0, 15) ∷ []
unfolding Open
argument_too_few_breaks_v15 = refl

argument_of_another_type_breaks_v15 : broken (with_term (bool ∷ []) (term.Call (l 0) (outside_fn 0) (copy 1 ∷ []) 1)) ≡ (terminator 1 0, 15) ∷ []
unfolding Open
argument_of_another_type_breaks_v15 = refl

other_destination_breaks_v16 : broken (with_term (bool ∷ []) (term.Call (l 1) (function 2) (five ∷ five ∷ []) 1)) ≡ (terminator 1 0, 16) ∷ []
unfolding Open
other_destination_breaks_v16 = refl

-- ---- V17 and V18

switch_keeps_v17_and_v18 : broken (with_term [] (term.Switch five (arm 0 1 ∷ arm 255 1 ∷ []) 1)) ≡ []
unfolding Open
switch_keeps_v17_and_v18 = refl

switch_on_unit_breaks_v17 : broken (with_term (empty ∷ []) (term.Switch (copy 1) (arm 0 1 ∷ []) 1)) ≡ (terminator 1 0, 17) ∷ []
unfolding Open
switch_on_unit_breaks_v17 = refl

value_twice_breaks_v18 : broken (with_term [] (term.Switch five (arm 3 1 ∷ arm 4 1 ∷ arm 3 1 ∷ []) 1)) ≡ (terminator 1 0, 18) ∷ []
unfolding Open
value_twice_breaks_v18 = refl

value_past_the_width_breaks_v18 : broken (with_term [] (term.Switch five (arm 256 1 ∷ []) 1)) ≡ (terminator 1 0, 18) ∷ []
unfolding Open
value_past_the_width_breaks_v18 = refl

-- a `bool` is one bit wide
two_for_a_bool_breaks_v18 : broken (with_term (bool ∷ []) (term.Switch (copy 1) (arm 2 1 ∷ []) 1)) ≡ (terminator 1 0, 18) ∷ []
unfolding Open
two_for_a_bool_breaks_v18 = refl

-- ---- V19 and V20

assert_keeps_v19_and_v20 : broken (with_term (bool ∷ []) (term.Assert (copy 1) true [] (five ∷ copy 1 ∷ []) 1)) ≡ []
unfolding Open
assert_keeps_v19_and_v20 = refl

number_as_condition_breaks_v19 : broken (with_term [] (term.Assert five true [] [] 1)) ≡ (terminator 1 0, 19) ∷ []
unfolding Open
number_as_condition_breaks_v19 = refl

tuple_in_a_message_breaks_v20 : broken (with_term (bool ∷ pair u8 u8 ∷ []) (term.Assert (copy 1) true [] (five ∷ copy 2 ∷ []) 1)) ≡ (terminator 1 0, 20) ∷ []
unfolding Open
tuple_in_a_message_breaks_v20 = refl

-- ---- moves

moved_argument_keeps_v21_and_v22 : broken (with_term [] (term.Call (l 0) (outside_fn 0) (move 0 ∷ []) 1)) ≡ []
unfolding Open
moved_argument_keeps_v21_and_v22 = refl

argument_through_a_destructor_breaks_v21 : broken (with_term (guard ∷ []) (term.Call (l 0) (outside_fn 0) (operand.Move (at 1 (Field 0 ∷ [])) ∷ []) 1)) ≡ (terminator 1 0, 21) ∷ []
unfolding Open
argument_through_a_destructor_breaks_v21 = refl

-- ---- V23

drop_of_a_field_keeps_v23 : broken (with_term (both ∷ []) (term.Drop (at 1 (Field 0 ∷ [])) 1)) ≡ []
unfolding Open
drop_of_a_field_keeps_v23 = refl

-- also where the type needs no drop
drop_behind_a_reference_breaks_v23 : broken (with_term (tree.ref u8 ∷ []) (term.Drop (at 1 (Deref ∷ [])) 1)) ≡ (terminator 1 0, 23) ∷ []
unfolding Open
drop_behind_a_reference_breaks_v23 = refl

drop_inside_a_variant_breaks_v23 : broken (with_term (holder ∷ []) (term.Drop (at 1 (Downcast 1 ∷ Field 0 ∷ [])) 1)) ≡ (terminator 1 0, 23) ∷ []
unfolding Open
drop_inside_a_variant_breaks_v23 = refl

drop_through_a_destructor_breaks_v23 : broken (with_term (guard ∷ []) (term.Drop (at 1 (Field 0 ∷ [])) 1)) ≡ (terminator 1 0, 23) ∷ []
unfolding Open
drop_through_a_destructor_breaks_v23 = refl
