-- Runs of small crates: statements, calls, asserts, outside calls.
use Rattle.std.proofs.Common.{◌≡◌, refl, ℕ, ◌^◌, ◌-◌, true, false, List, [], ◌∷◌, Some, None}
use Rattle.std.specs.Prelude.{pos, negsuc}
use Rattle.mir_syntax.specs.declared.types.IntTy.TheVariants.{I32, I128, Isize, U8, U32}
use Rattle.mir_syntax.specs.declared.body.BinOp.TheVariants.{Sub, Div, AddUnchecked}
use Rattle.mir_syntax.specs.declared.body.OverOp.TheVariants as over_op
use Rattle.mir_syntax.specs.declared.body.Proj.TheVariants.{Field, Downcast, Deref}
use Rattle.mir_syntax.specs.declared.body.Term.TheVariants.{Goto, Switch, Return, Unreachable, Call, Assert}
use Rattle.mir_syntax.specs.Tree.{Tree, empty, more, ref, ref_mut, named}
use Rattle.mir_syntax.specs.Crate.{TypedBody, «use», binary, overflow, discriminant, assign, storage_live, storage_dead, set_discriminant, Crate}
use Rattle.mir_syntax.specs.Crate as rvalue
use Rattle.mir_semantics.specs.Values.{Value, number, nil, cons, variant}
use Rattle.mir_semantics.specs.Step.{Code, code_of, Called, returned, aborted, no_answer}
use Rattle.mir_semantics.specs.Run.{going, ended, undefined, Entry, run}
use Rattle.mir_semantics.specs.Entry.{flat, has_type, holds_reference}
use Rattle.mir_semantics.proofs.Opened.{Opened}
use Rattle.mir_semantics.proofs.Sample.{int, bool, place, part_of, lit, copy, move, arm, to_function, to_outside, block, body, function, field, variant_with, enum, outside}

abbrev entry : ℕ → List Value → Entry
entry f args = record { function = f; args = args }

-- ---- a checked addition

abbrev add : Code
add = code_of (record {
  defs = [];
  outsides = [];
  functions = function (body 2 (int I32 ∷ int I32 ∷ int I32 ∷ int I32 ∷ more (int I32) (more bool empty) ∷ [])
      (block (storage_live 3 ∷ assign (place 4) (overflow over_op.Add (copy (place 1)) (copy (place 2))) ∷ []) (Assert (move (part_of 4 (Field 1 ∷ []))) false (33 ∷ []) (copy (place 1) ∷ copy (place 2) ∷ []) 1)
      ∷ block (assign (place 3) («use» (move (part_of 4 (Field 0 ∷ [])))) ∷ assign (place 0) («use» (copy (place 3))) ∷ storage_dead 3 ∷ []) Return ∷ [])) ∷ [];
})

overflow_aborts : run add (entry 0 (number (2 ^ 31 - 1) ∷ number 1 ∷ [])) [] 3 ≡ ended [] (aborted (33 ∷ []) (pos (2 ^ 31 - 1) ∷ pos 1 ∷ []))
unfolding Opened
overflow_aborts = refl

negative_is_shown : run add (entry 0 (number (2 ^ 31) ∷ number (2 ^ 32 - 1) ∷ [])) [] 3 ≡ ended [] (aborted (33 ∷ []) (negsuc (2 ^ 31 - 1) ∷ negsuc 0 ∷ []))
unfolding Opened
negative_is_shown = refl

sum_returns : run add (entry 0 (number 2 ∷ number 3 ∷ [])) [] 7 ≡ ended [] (returned (number 5))
unfolding Opened
sum_returns = refl

sum_takes_seven_steps : run add (entry 0 (number 2 ∷ number 3 ∷ [])) [] 6 ≡ going []
unfolding Opened
sum_takes_seven_steps = refl

-- ---- undefined operations

abbrev unchecked : ℕ → ℕ → Code
unchecked a b = code_of (record {
  defs = [];
  outsides = [];
  functions = function (body 0 (int U8 ∷ int U8 ∷ [])
      (block (assign (place 1) («use» (lit U8 a)) ∷ assign (place 0) (binary AddUnchecked (copy (place 1)) (lit U8 b)) ∷ []) Return ∷ [])) ∷ [];
})

unchecked_overflow_is_undefined : run (unchecked 255 1) (entry 0 []) [] 2 ≡ undefined []
unfolding Opened
unchecked_overflow_is_undefined = refl

unchecked_sum_that_fits : run (unchecked 250 5) (entry 0 []) [] 3 ≡ ended [] (returned (number 255))
unfolding Opened
unchecked_sum_that_fits = refl

abbrev quotient : Code
quotient = code_of (record {
  defs = [];
  outsides = [];
  functions = function (body 0 (int I128 ∷ int I128 ∷ [])
      (block (assign (place 1) («use» (lit I128 (2 ^ 127))) ∷ assign (place 0) (binary Div (copy (place 1)) (lit I128 (2 ^ 128 - 1))) ∷ []) Return ∷ [])) ∷ [];
})

least_by_minus_one_is_undefined : run quotient (entry 0 []) [] 9 ≡ undefined []
unfolding Opened
least_by_minus_one_is_undefined = refl

-- ---- wrapping subtraction after a swap

abbrev swap : Code
swap = code_of (record {
  defs = [];
  outsides = [];
  functions = function (body 2 (int U8 ∷ int U8 ∷ int U8 ∷ int U8 ∷ [])
      (block (assign (place 3) («use» (copy (place 1))) ∷ assign (place 1) («use» (copy (place 2))) ∷ assign (place 2) («use» (copy (place 3))) ∷ assign (place 0) (binary Sub (copy (place 1)) (copy (place 2))) ∷ []) Return ∷ [])) ∷ [];
})

difference_wraps : run swap (entry 0 (number 7 ∷ number 3 ∷ [])) [] 9 ≡ ended [] (returned (number 252))
unfolding Opened
difference_wraps = refl

a_hole_is_not_read : run (code_of (record { defs = []; outsides = []; functions = function (body 0 (int U8 ∷ int U8 ∷ []) (block (assign (place 0) («use» (copy (place 1))) ∷ []) Return ∷ [])) ∷ [] })) (entry 0 []) [] 1 ≡ undefined []
unfolding Opened
a_hole_is_not_read = refl

-- ---- a destination behind a reference that the callee changes: it is resolved before the call

abbrev redirected : Code
redirected = code_of (record {
  defs = [];
  outsides = [];
  functions =
      function (body 0 (int U32 ∷ int U32 ∷ int U32 ∷ ref_mut (int U32) ∷ ref_mut (ref_mut (int U32)) ∷ ref_mut (int U32) ∷ [])
      (block (assign (place 1) («use» (lit U32 1)) ∷ assign (place 2) («use» (lit U32 2)) ∷ assign (place 3) (rvalue.ref_mut (place 1)) ∷ assign (place 4) (rvalue.ref_mut (place 3)) ∷ assign (place 5) (rvalue.ref_mut (place 2)) ∷ [])
      (Call (part_of 3 (Deref ∷ [])) (to_function 1) (copy (place 4) ∷ copy (place 5) ∷ []) 1)
      ∷ block (assign (place 0) («use» (copy (place 1))) ∷ []) Return ∷ []))
      ∷ function (body 2 (int U32 ∷ ref_mut (ref_mut (int U32)) ∷ ref_mut (int U32) ∷ [])
      (block (assign (part_of 1 (Deref ∷ [])) («use» (copy (place 2))) ∷ assign (place 0) («use» (lit U32 9)) ∷ []) Return ∷ []))
      ∷ [];
})

destination_is_resolved_first : run redirected (entry 0 []) [] 11 ≡ ended [] (returned (number 9))
unfolding Opened
destination_is_resolved_first = refl

-- ---- outside functions

abbrev asking : Tree → Code
asking result = code_of (record {
  defs = [];
  outsides = outside (int U8 ∷ []) result ∷ [];
  functions = function (body 0 (result ∷ [])
      (block [] (Call (place 0) (to_outside 0) (lit U8 3 ∷ []) 1) ∷ block [] Return ∷ [])) ∷ [];
})

abbrev asked : ℕ → List Called
asked answer = record { outside = 0; args = 3 ∷ []; answer = Some answer } ∷ []

answer_is_wrapped : run (asking (int U8)) (entry 0 []) (300 ∷ []) 2 ≡ ended (asked 44) (returned (number 44))
unfolding Opened
answer_is_wrapped = refl

bool_answer_is_modulo_2 : run (asking bool) (entry 0 []) (6 ∷ []) 2 ≡ ended (asked 0) (returned (number 0))
unfolding Opened
bool_answer_is_modulo_2 = refl

no_answer_is_left : run (asking (int U8)) (entry 0 []) [] 1 ≡ ended [] no_answer
unfolding Opened
no_answer_is_left = refl

a_hole_is_not_passed : run (code_of (record { defs = []; outsides = outside (int U8 ∷ []) empty ∷ []; functions = function (body 0 (empty ∷ int U8 ∷ []) (block [] (Call (place 0) (to_outside 0) (copy (place 1) ∷ []) 1) ∷ block [] Return ∷ [])) ∷ [] })) (entry 0 []) [] 1 ≡ undefined []
unfolding Opened
a_hole_is_not_passed = refl

unit_takes_no_answer : run (asking empty) (entry 0 []) [] 2 ≡ ended (record { outside = 0; args = 3 ∷ []; answer = None } ∷ []) (returned nil)
unfolding Opened
unit_takes_no_answer = refl

-- ---- enums

abbrev matching : Code
matching = code_of (record {
  defs = enum (variant_with [] ∷ variant_with (field (int U8) ∷ []) ∷ []) ∷ [];
  outsides = [];
  functions = function (body 1 (int U8 ∷ named 0 ∷ int Isize ∷ [])
      (block (assign (place 2) (discriminant (place 1)) ∷ []) (Switch (move (place 2)) (arm 0 1 ∷ arm 1 2 ∷ []) 3)
      ∷ block (assign (place 0) («use» (lit U8 0)) ∷ []) (Goto 4)
      ∷ block (assign (place 0) («use» (copy (part_of 1 (Downcast 1 ∷ Field 0 ∷ [])))) ∷ []) (Goto 4)
      ∷ block [] Unreachable
      ∷ block [] Return ∷ [])) ∷ [];
})

payload_returns : run matching (entry 0 (variant 1 (cons (number 9) nil) ∷ [])) [] 5 ≡ ended [] (returned (number 9))
unfolding Opened
payload_returns = refl

empty_variant_returns : run matching (entry 0 (variant 0 nil ∷ [])) [] 5 ≡ ended [] (returned (number 0))
unfolding Opened
empty_variant_returns = refl

flat_form_of_a_variant : flat matching.shapes (named 0) (variant 1 (cons (number 9) nil)) ≡ Some (pos 1 ∷ pos 9 ∷ [])
unfolding Opened
flat_form_of_a_variant = refl

no_third_variant : has_type matching.shapes (named 0) (variant 2 nil) ≡ false
unfolding Opened
no_third_variant = refl

number_out_of_range : has_type matching.shapes (named 0) (variant 1 (cons (number 256) nil)) ≡ false
unfolding Opened
number_out_of_range = refl

reference_inside : holds_reference (code_of (record { defs = enum (variant_with [] ∷ variant_with (field (ref (named 0)) ∷ []) ∷ []) ∷ []; outsides = []; functions = [] })).shapes (more (named 0) empty) ≡ true
unfolding Opened
reference_inside = refl

abbrev setting : ℕ → Code
setting k = code_of (record {
  defs = enum (variant_with [] ∷ variant_with (field (int U8) ∷ []) ∷ []) ∷ [];
  outsides = [];
  functions = function (body 1 (int U8 ∷ int U8 ∷ named 0 ∷ [])
      (block (set_discriminant (place 2) k ∷ assign (part_of 2 (Downcast 1 ∷ Field 0 ∷ [])) («use» (copy (place 1))) ∷ assign (place 0) («use» (copy (part_of 2 (Downcast 1 ∷ Field 0 ∷ [])))) ∷ []) Return ∷ [])) ∷ [];
})

discriminant_then_field : run (setting 1) (entry 0 (number 9 ∷ [])) [] 4 ≡ ended [] (returned (number 9))
unfolding Opened
discriminant_then_field = refl

field_of_another_variant : run (setting 0) (entry 0 (number 9 ∷ [])) [] 2 ≡ undefined []
unfolding Opened
field_of_another_variant = refl
