-- The rules on statements and terminators. A rule that speaks of a type fails only where the type is there: where a projection doesn't
-- fit, V06 alone speaks.
use Rattle.std.specs.Prelude.{ℕ, Bool, false, not, ◌&&◌, ◌||◌, nat_lt, nat_le, ◌==◌, ◌^◌, List, [], ◌∷◌, map, Option, Some, None, is_some, is_none, slice_get}
use Rattle.std.specs.Bool.{then_some}
use Rattle.std.specs.List.{list_any}
use Rattle.mir_num.specs.Widths.{width_of}
use Rattle.mir_syntax.specs.declared.types.ScalarTy.{ScalarTy}
use Rattle.mir_syntax.specs.declared.body.Place.{Place}
use Rattle.mir_syntax.specs.declared.body.Operand.{Operand}
use Rattle.mir_syntax.specs.declared.body.Operand.TheVariants as operand
use Rattle.mir_syntax.specs.declared.body.UnOp.{UnOp}
use Rattle.mir_syntax.specs.declared.body.Callee.{Callee}
use Rattle.mir_syntax.specs.declared.body.Arm.{Arm}
use Rattle.mir_syntax.specs.declared.body.Term.{Term}
use Rattle.mir_syntax.specs.Tree.{Tree}
use Rattle.mir_syntax.specs.Crate.{TypedRvalue, Crate}
use Rattle.mir_syntax.specs.Shapes.{◌>>=◌, Shape, place_ty, goes_through_destructor, needs_drop}
use Rattle.mir_rules.specs.Same.{same_tree}
use Rattle.mir_syntax.specs.Parts.{is_direct, targets}
use Rattle.mir_rules.specs.Typing.{bool_ty, scalar_of, operand_ty, operands_ty, unary_ty, cast_ty, discriminant_ty, enum_of, build_ty, rvalue_ty, callee_args_ty, callee_result_ty}

-- ---- what is said of types that may be missing

-- both are there, and they aren't the same
abbrev pub differ : Option Tree → Option Tree → Bool
differ (Some t) (Some u) = not (same_tree t u)
differ _ _ = false

-- it is there, and nothing is made of it
abbrev pub unfit : {A B : Type 0} → Option A → (A → Option B) → Bool
unfit None make = false
unfit (Some a) make = is_none (make a)

abbrev pub unfit_pair : {A B C : Type 0} → Option A → Option B → (A → B → Option C) → Bool
unfit_pair None o make = false
unfit_pair (Some a) o make = unfit o (make a)

-- ---- all statements and terminators

-- a terminator goes to bb0
abbrev pub breaks_v05 : Term → Bool
breaks_v05 t = list_any (λ i. i == 0) (targets t)

-- a projection doesn't fit its place
abbrev pub breaks_v06 : List Shape → List Tree → List Place → Bool
breaks_v06 D locals places = list_any (λ p. is_none (place_ty D locals p)) places

-- ---- statements

-- a storage statement names `_0` or an argument
abbrev pub breaks_v08 : ℕ → ℕ → Bool
breaks_v08 args x = nat_le x args

-- a binary operator doesn't take the operands
abbrev pub breaks_v09 : List Shape → List Tree → (Tree → Tree → Option Tree) → Operand → Operand → Bool
breaks_v09 D locals make a b = unfit_pair (operand_ty D locals a) (operand_ty D locals b) make

-- `Not` isn't on a scalar, or `Neg` not on a signed integer
abbrev pub breaks_v10 : List Shape → List Tree → UnOp → Operand → Bool
breaks_v10 D locals op a = unfit (operand_ty D locals a) (unary_ty op)

-- a cast isn't from a scalar to an integer type
abbrev pub breaks_v11 : List Shape → List Tree → Operand → Tree → Bool
breaks_v11 D locals a ty = unfit (operand_ty D locals a) (cast_ty ty)

-- a build has the wrong number or types of operands
abbrev pub breaks_v12 : List Shape → List Tree → ℕ → ℕ → List Operand → Bool
breaks_v12 D locals d v parts = unfit (operands_ty D locals parts) (build_ty D d v)

-- `discriminant` isn't of an enum
abbrev pub breaks_v13 : List Shape → List Tree → Place → Bool
breaks_v13 D locals p = unfit (place_ty D locals p) (discriminant_ty D)

-- the rvalue's type isn't the place's
abbrev pub breaks_v14 : List Shape → List Tree → Place → TypedRvalue → Bool
breaks_v14 D locals p r = differ (rvalue_ty D locals r) (place_ty D locals p)

-- an enum that needs no drop
abbrev pub settable : List Shape → Tree → Option Shape
settable D t = enum_of D t >>= λ s. then_some (not (needs_drop D t)) s

-- a discriminant is set on a type that isn't an enum or needs drop
abbrev pub breaks_v24 : List Shape → List Tree → Place → Bool
breaks_v24 D locals p = unfit (place_ty D locals p) (settable D)

-- the set variant isn't one of the enum's
abbrev pub breaks_v25 : List Shape → List Tree → Place → ℕ → Bool
breaks_v25 D locals p k = unfit (place_ty D locals p >>= enum_of D) (λ s. slice_get s.variants k)

-- ---- terminators

-- a call has the wrong number or types of arguments
abbrev pub breaks_v15 : Crate → List Shape → List Tree → Callee → List Operand → Bool
breaks_v15 C D locals callee args = differ (operands_ty D locals args) (callee_args_ty C callee)

-- a call's destination hasn't the result's type
abbrev pub breaks_v16 : Crate → List Shape → List Tree → Callee → Place → Bool
breaks_v16 C D locals callee p = differ (callee_result_ty C callee) (place_ty D locals p)

-- a switch's operand isn't scalar
abbrev pub breaks_v17 : List Shape → List Tree → Operand → Bool
breaks_v17 D locals a = unfit (operand_ty D locals a) scalar_of

abbrev pub arm_value : Arm → ℕ
arm_value a = a.value

abbrev pub has_twice : List ℕ → Bool
has_twice [] = false
has_twice (v ∷ vs) = list_any (λ u. u == v) vs || has_twice vs

abbrev pub has_too_wide : Option ScalarTy → List ℕ → Bool
has_too_wide None vs = false
has_too_wide (Some s) vs = list_any (λ v. not (nat_lt v (2 ^ width_of s))) vs

-- a switch value stands twice or doesn't fit the operand's width
abbrev pub breaks_v18 : List Shape → List Tree → Operand → List Arm → Bool
breaks_v18 D locals a arms = has_twice (map arm_value arms) || has_too_wide (operand_ty D locals a >>= scalar_of) (map arm_value arms)

-- an assert's condition isn't `bool`
abbrev pub breaks_v19 : List Shape → List Tree → Operand → Bool
breaks_v19 D locals a = differ (operand_ty D locals a) (Some bool_ty)

-- an assert's message operand isn't scalar
abbrev pub breaks_v20 : List Shape → List Tree → List Operand → Bool
breaks_v20 D locals args = list_any (λ a. unfit (operand_ty D locals a) scalar_of) args

-- ---- moves and drops

abbrev pub moves_through_destructor : List Shape → List Tree → Operand → Bool
moves_through_destructor D locals (operand.Move p) = goes_through_destructor D locals p
moves_through_destructor D locals _ = false

-- a `move` goes through a field of a type with a destructor
abbrev pub breaks_v21 : List Shape → List Tree → List Operand → Bool
breaks_v21 D locals operands = list_any (moves_through_destructor D locals) operands

abbrev pub some_needs_drop : List Shape → Option Tree → Bool
some_needs_drop D None = false
some_needs_drop D (Some t) = needs_drop D t

abbrev pub moves_needing_indirectly : List Shape → List Tree → Operand → Bool
moves_needing_indirectly D locals (operand.Move p) = not (is_direct p.proj) && some_needs_drop D (place_ty D locals p)
moves_needing_indirectly D locals _ = false

-- a `move` of a type that needs drop has a dereference or a downcast
abbrev pub breaks_v22 : List Shape → List Tree → List Operand → Bool
breaks_v22 D locals operands = list_any (moves_needing_indirectly D locals) operands

-- a `drop` has a dereference or a downcast, or goes through a field of a type with a destructor
abbrev pub breaks_v23 : List Shape → List Tree → Place → Bool
breaks_v23 D locals p = not (is_direct p.proj) || goes_through_destructor D locals p
