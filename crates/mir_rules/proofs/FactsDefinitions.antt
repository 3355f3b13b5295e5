-- Rules on definitions, outside functions and headers, on small crates.
use Rattle.std.proofs.Common.{◌≡◌, refl, true, false, [], ◌∷◌}
use Rattle.mir_syntax.specs.Tree.{empty, ref, ref_mut, named}
use Rattle.mir_syntax.specs.declared.body.Term.TheVariants as term
use Rattle.mir_rules.specs.Formed.{is_formed}
use Rattle.mir_rules.specs.Broken.{definition, outside, header, broken}
use Rattle.mir_rules.proofs.Examples.{Open, u8, bool, pair, block, fun, drop_fun, field, variant, struct, enum, the_defs, guard, choice, outside_of_u8, drop_guard, add, with_function, with_defs}

-- ---- formed

the_crate_is_formed : is_formed (with_function add) ≡ true
unfolding Open
the_crate_is_formed = refl

struct_with_two_variants_is_not_formed : is_formed (with_defs (record { path = []; is_enum = false; variants = variant [] ∷ variant [] ∷ [] } ∷ []) []) ≡ false
unfolding Open
struct_with_two_variants_is_not_formed = refl

unknown_definition_is_not_formed : is_formed (with_defs (struct (field (ref (named 1)) ∷ []) ∷ []) []) ≡ false
unfolding Open
unknown_definition_is_not_formed = refl

body_without_blocks_is_not_formed : is_formed (with_defs [] (fun 0 (u8 ∷ []) [] ∷ [])) ≡ false
unfolding Open
body_without_blocks_is_not_formed = refl

body_without_its_argument_is_not_formed : is_formed (with_defs [] (fun 1 (u8 ∷ []) (block [] term.Return ∷ []) ∷ [])) ≡ false
unfolding Open
body_without_its_argument_is_not_formed = refl

target_past_the_blocks_is_not_formed : is_formed (with_defs [] (fun 0 (u8 ∷ []) (block [] (term.Goto 1) ∷ []) ∷ [])) ≡ false
unfolding Open
target_past_the_blocks_is_not_formed = refl

-- ---- V01

-- `struct S { a: &S }`
reference_to_itself_keeps_v01 : broken (with_defs (struct (field (ref (named 0)) ∷ []) ∷ []) []) ≡ []
unfolding Open
reference_to_itself_keeps_v01 = refl

-- `struct S { a: S }`
holding_itself_breaks_v01 : broken (with_defs (struct (field (named 0) ∷ []) ∷ []) []) ≡ (definition 0, 1) ∷ []
unfolding Open
holding_itself_breaks_v01 = refl

-- `struct A(B); enum B { X((A, u8)) } struct C(A);`: C lies on no cycle
cycle_of_two_breaks_v01_at_both : broken (with_defs (struct (field (named 1) ∷ []) ∷ enum (variant (field (pair (named 0) u8) ∷ []) ∷ []) ∷ struct (field (named 0) ∷ []) ∷ []) []) ≡ (definition 0, 1) ∷ (definition 1, 1) ∷ []
unfolding Open
cycle_of_two_breaks_v01_at_both = refl

-- ---- V02

scalars_keep_v02 : broken (record { defs = []; outsides = outside_of_u8 (u8 ∷ bool ∷ []) empty ∷ []; functions = [] }) ≡ []
unfolding Open
scalars_keep_v02 = refl

reference_argument_breaks_v02 : broken (record { defs = []; outsides = outside_of_u8 [] u8 ∷ outside_of_u8 (ref u8 ∷ []) empty ∷ []; functions = [] }) ≡ (outside 1, 2) ∷ []
unfolding Open
reference_argument_breaks_v02 = refl

tuple_result_breaks_v02 : broken (record { defs = []; outsides = outside_of_u8 [] (pair u8 u8) ∷ []; functions = [] }) ≡ (outside 0, 2) ∷ []
unfolding Open
tuple_result_breaks_v02 = refl

-- ---- V03 and V04

destructor_keeps_v03 : broken (with_function add) ≡ []
unfolding Open
destructor_keeps_v03 = refl

shared_reference_breaks_v03 : broken (with_defs the_defs (drop_fun 1 (empty ∷ ref guard ∷ []) ∷ [])) ≡ (header 0, 3) ∷ []
unfolding Open
shared_reference_breaks_v03 = refl

second_argument_breaks_v03 : broken (with_defs the_defs (drop_fun 2 (empty ∷ ref_mut guard ∷ u8 ∷ []) ∷ [])) ≡ (header 0, 3) ∷ []
unfolding Open
second_argument_breaks_v03 = refl

result_breaks_v03 : broken (with_defs the_defs (drop_fun 1 (u8 ∷ ref_mut guard ∷ []) ∷ [])) ≡ (header 0, 3) ∷ []
unfolding Open
result_breaks_v03 = refl

destructors_of_two_types_keep_v04 : broken (with_defs the_defs (drop_guard ∷ drop_fun 1 (empty ∷ ref_mut choice ∷ []) ∷ [])) ≡ []
unfolding Open
destructors_of_two_types_keep_v04 = refl

second_destructor_breaks_v04 : broken (with_defs the_defs (drop_guard ∷ add ∷ drop_guard ∷ [])) ≡ (header 2, 4) ∷ []
unfolding Open
second_destructor_breaks_v04 = refl
