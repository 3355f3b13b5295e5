-- A made crate keeps the rules.
use Rattle.std.proofs.Common.{◌≡◌, ◌<◌, ◌+◌, ℕ, zero, suc, true, [], Some, length, nat_lt, refl, sym, subst, arith}
use Rattle.std.proofs.lemmas.Bool.Decides.{nat_tests}
use Rattle.std.specs.Prelude.{slice_get}
use Rattle.mir_syntax.specs.declared.types.IntTy.TheVariants as int_ty
use Rattle.mir_syntax.specs.declared.body.Const.TheVariants as constant
use Rattle.mir_syntax.specs.declared.body.Callee.TheVariants as callee
use Rattle.mir_syntax.specs.Tree.{empty, more}
use Rattle.mir_syntax.specs.Crate.{TypedFunction, Crate}
use Rattle.mir_syntax.specs.Shapes.{shapes_of, place_ty, needs_drop, ◌>>=◌}
use Rattle.mir_rules.specs.Same.{same_tree}
use Rattle.mir_rules.specs.Typing.{arithmetic, kind_of, operand_ty, operands_ty, rvalue_ty, callee_args_ty, callee_result_ty}
use Rattle.mir_rules.specs.Formed.{const_formed, callee_formed, stmt_formed, term_formed, body_formed, function_formed, is_formed}
use Rattle.mir_rules.specs.Broken.{rvalue_broken, statement_broken, terminator_broken, body_found, function_found, broken, gather}
use Rattle.mir_rules.specs.Valid.{Valid}
use Rattle.mir_rules.proofs.Lists.{gather_empty, list_all_true}
use Rattle.crate_gen.specs.declared.choice.Choice.{Choice}
use Rattle.crate_gen.specs.Made.{choice, number_ty, made_function, made_functions, made_crate}
use Rattle.crate_gen.proofs.Members.{made_long, made_at, made_there, choice_arithmetic, choice_value, choice_bound, choice_below, choice_otherwise}

lt_true : (a b : ℕ) → a < b → nat_lt a b ≡ true
lt_true a b low = grind (arith, nat_tests)

-- ---- calls

args_are : (start n f : ℕ) → f < n → callee_args_ty (made_crate start n) (callee.Local (record { 0 = f })) ≡ Some (more number_ty (more number_ty empty))
unfolding ◌>>=◌
args_are start n f low = let (j, y, at) = made_there n 0 n start f low in rw at refl

result_is : (start n f : ℕ) → f < n → callee_result_ty (made_crate start n) (callee.Local (record { 0 = f })) ≡ Some number_ty
unfolding ◌>>=◌
result_is start n f low = let (j, y, at) = made_there n 0 n start f low in rw at refl

-- ---- one function

keeps : (C : Crate) (i j : ℕ) (c : Choice) → kind_of c.op ≡ arithmetic
    → callee_args_ty C (callee.Local (record { 0 = c.below })) ≡ Some (more number_ty (more number_ty empty)) → callee_result_ty C (callee.Local (record { 0 = c.below })) ≡ Some number_ty
    → callee_args_ty C (callee.Local (record { 0 = c.otherwise })) ≡ Some (more number_ty (more number_ty empty)) → callee_result_ty C (callee.Local (record { 0 = c.otherwise })) ≡ Some number_ty
    → function_found C [] i (made_function j c) ≡ []
unfolding ◌>>=◌ place_ty needs_drop same_tree operand_ty operands_ty rvalue_ty rvalue_broken statement_broken terminator_broken body_found
keeps C i j c op args result args2 result2 = rw (op, args, result, args2, result2) refl

formed : (C : Crate) (j : ℕ) (c : Choice) → const_formed (constant.Int int_ty.U32 c.value) ≡ true → const_formed (constant.Int int_ty.U32 c.bound) ≡ true
    → callee_formed C (callee.Local (record { 0 = c.below })) ≡ true → callee_formed C (callee.Local (record { 0 = c.otherwise })) ≡ true → function_formed C (made_function j c) ≡ true
unfolding stmt_formed term_formed body_formed
formed C j c value bound below otherwise = rw (value, bound, below, otherwise) refl

-- ---- all of them

small_constant : (n : ℕ) → n < 100 → const_formed (constant.Int int_ty.U32 n) ≡ true
small_constant n small = let wide : n < 4294967296 = omega arith in lt_true n 4294967296 wide

is_there : (start n f : ℕ) → f < n → callee_formed (made_crate start n) (callee.Local (record { 0 = f })) ≡ true
is_there start n f low = lt_true f (length (made_functions n 0 n start)) (let long = made_long n 0 n start in omega (arith, long))

pub no_shapes : (start n : ℕ) → shapes_of (made_crate start n) ≡ []
unfolding shapes_of
no_shapes start n = refl

some_functions : (n k : ℕ) (start : ℕ) (g : TypedFunction) → slice_get (made_functions n 0 n start) k ≡ Some g → 0 < n
some_functions zero k start g at = absurd (grind (arith))
some_functions (suc n) k start g at = omega arith

all_keep : (start n k : ℕ) (g : TypedFunction) → slice_get (made_functions n 0 n start) k ≡ Some g → function_found (made_crate start n) [] (k + 0) g ≡ []
all_keep start n k g at =
    let some = some_functions n k start g at in
    let (j, y, is) = made_at n 0 n start k g at in
    let c = choice n y in
    let low = choice_below n y some in
    let low2 = choice_otherwise n y some in
    subst (λ f. function_found (made_crate start n) [] (k + 0) f ≡ []) (sym is)
    (keeps (made_crate start n) (k + 0) j c (choice_arithmetic n y) (args_are start n c.below low) (result_is start n c.below low) (args_are start n c.otherwise low2) (result_is start n c.otherwise low2))

all_formed : (start n k : ℕ) (g : TypedFunction) → slice_get (made_functions n 0 n start) k ≡ Some g → function_formed (made_crate start n) g ≡ true
all_formed start n k g at =
    let some = some_functions n k start g at in
    let (j, y, is) = made_at n 0 n start k g at in
    let c = choice n y in
    let low = choice_below n y some in
    let low2 = choice_otherwise n y some in
    subst (λ f. function_formed (made_crate start n) f ≡ true) (sym is)
    (formed (made_crate start n) j c (small_constant c.value (choice_value n y)) (small_constant c.bound (choice_bound n y)) (is_there start n c.below low) (is_there start n c.otherwise low2))

is_formed_made : (start n : ℕ) → is_formed (made_crate start n) ≡ true
unfolding is_formed
is_formed_made start n = list_all_true (function_formed (made_crate start n)) (made_functions n 0 n start) (all_formed start n)

none_broken : (start n : ℕ) → broken (made_crate start n) ≡ []
unfolding broken
none_broken start n =
    subst (λ D. gather (function_found (made_crate start n) D) 0 (made_functions n 0 n start) ≡ []) (sym (no_shapes start n))
    (gather_empty (function_found (made_crate start n) []) 0 (made_functions n 0 n start) (all_keep start n))

pub valid : (start n : ℕ) → Valid (made_crate start n)
valid start n = record { formed = is_formed_made start n; rules = none_broken start n }
