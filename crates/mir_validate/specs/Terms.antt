-- Forms of the rules on terminators in the shape of the code. No public promise rests on these.
use Rattle.std.specs.Prelude.{ℕ, Bool, true, false, ◌&&◌, ◌||◌, ◌==◌, nat_lt, List, [], ◌∷◌, ◌++◌, Option, Some, None}
use Rattle.std.specs.List.{list_any, list_all}
use Rattle.mir_syntax.specs.declared.types.ScalarTy.{ScalarTy}
use Rattle.mir_syntax.specs.declared.types.ScalarTy.TheVariants as scalar_ty
use Rattle.mir_syntax.specs.declared.body.Place.{Place}
use Rattle.mir_syntax.specs.declared.body.Operand.{Operand}
use Rattle.mir_syntax.specs.declared.body.Callee.{Callee}
use Rattle.mir_syntax.specs.declared.body.Arm.{Arm}
use Rattle.mir_syntax.specs.declared.body.Block.{Block}
use Rattle.mir_syntax.specs.declared.body.Term.{Term}
use Rattle.mir_syntax.specs.declared.body.Term.TheVariants as term
use Rattle.mir_syntax.specs.Tree.{Tree}
use Rattle.mir_syntax.specs.Crate.{Crate}
use Rattle.mir_syntax.specs.Shapes.{Shape, ◌>>=◌}
use Rattle.mir_rules.specs.Same.{same_tree}
use Rattle.mir_syntax.specs.Parts.{stmt_whole, term_whole}
use Rattle.mir_rules.specs.Formed.{call_formed}
use Rattle.mir_rules.specs.Typing.{scalar_of, operand_ty, operands_ty, callee_args_ty, callee_result_ty}
use Rattle.mir_rules.specs.BodyRules.{unfit, breaks_v15, breaks_v16, breaks_v17, breaks_v18, breaks_v19, breaks_v20}
use Rattle.mir_rules.specs.Broken.{if_broken}
use Rattle.mir_validate.specs.Codes.{place_untyped, operand_untyped}

abbrev pub arm_goes_back : Arm → Bool
arm_goes_back a = a.block == 0

-- a terminator goes to bb0
abbrev pub goes_back : Term → Bool
goes_back (term.Goto next) = next == 0
goes_back (term.Switch a arms other) = list_any arm_goes_back arms || (other == 0)
goes_back term.Return = false
goes_back term.Unreachable = false
goes_back (term.Drop p next) = next == 0
goes_back (term.Call p callee args next) = next == 0
goes_back (term.Assert a expected text args next) = next == 0

-- a block is whole, and what it calls is there
abbrev pub block_ready : Crate → Block → Bool
block_ready C b = list_all stmt_whole b.stmts && (term_whole b.term && call_formed C b.term)

abbrev pub term_untyped : List Shape → List Tree → Term → Bool
term_untyped D locals (term.Switch a arms other) = operand_untyped D locals a
term_untyped D locals (term.Drop p next) = place_untyped D locals p
term_untyped D locals (term.Call p callee args next) = place_untyped D locals p || list_any (operand_untyped D locals) args
term_untyped D locals (term.Assert a expected text args next) = operand_untyped D locals a || list_any (operand_untyped D locals) args
term_untyped D locals (term.Goto next) = false
term_untyped D locals term.Return = false
term_untyped D locals term.Unreachable = false

-- a test of each operand of a terminator
abbrev pub term_any : (Operand → Bool) → Term → Bool
term_any test (term.Switch a arms other) = test a
term_any test (term.Call p callee args next) = list_any test args
term_any test (term.Assert a expected text args next) = test a || list_any test args
term_any test (term.Drop p next) = false
term_any test (term.Goto next) = false
term_any test term.Return = false
term_any test term.Unreachable = false

-- the scalar that an operand's type is
abbrev pub scalar_operand : List Shape → List Tree → Operand → Option ScalarTy
scalar_operand D locals a = operand_ty D locals a >>= scalar_of

abbrev pub is_bool_scalar : Option ScalarTy → Bool
is_bool_scalar None = false
is_bool_scalar (Some scalar_ty.Bool) = true
is_bool_scalar (Some (scalar_ty.Int t)) = false

abbrev pub unscalar : List Shape → List Tree → Operand → Bool
unscalar D locals a = unfit (operand_ty D locals a) scalar_of

-- both types are there and the same
abbrev pub agree : Option Tree → Option Tree → Bool
agree None o = false
agree (Some t) None = false
agree (Some t) (Some u) = same_tree t u

abbrev pub callee_takes : Crate → List Shape → List Tree → Callee → List Operand → Bool
callee_takes C D locals callee args = agree (operands_ty D locals args) (callee_args_ty C callee)

abbrev pub callee_returns : Crate → Callee → Tree → Bool
callee_returns C callee t = agree (callee_result_ty C callee) (Some t)

abbrev pub switch_broken : List Shape → List Tree → Operand → List Arm → List ℕ
switch_broken D locals a arms = if_broken (breaks_v17 D locals a) 17 ++ if_broken (breaks_v18 D locals a arms) 18

abbrev pub call_broken : Crate → List Shape → List Tree → Callee → List Operand → Place → List ℕ
call_broken C D locals callee args p = if_broken (breaks_v15 C D locals callee args) 15 ++ if_broken (breaks_v16 C D locals callee p) 16

abbrev pub assert_broken : List Shape → List Tree → Operand → List Operand → List ℕ
assert_broken D locals a args = if_broken (breaks_v19 D locals a) 19 ++ if_broken (breaks_v20 D locals args) 20

-- ---- values of switches

-- each is above the one before it
abbrev pub ascends_from : ℕ → List ℕ → Bool
ascends_from v [] = true
ascends_from v (u ∷ us) = nat_lt v u && ascends_from u us

abbrev pub ascends : List ℕ → Bool
ascends [] = true
ascends (v ∷ vs) = ascends_from v vs
