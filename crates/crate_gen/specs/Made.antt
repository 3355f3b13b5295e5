-- The crate that is made from a number: so many functions of one shape, each of which compares a constant with a bound and calls one of two
-- functions. What is compared and called is drawn.
use Rattle.std.specs.Prelude.{ℕ, zero, suc, ◌+◌, ◌/◌, ◌%◌, List, [], ◌∷◌, false, None}
use Rattle.mir_syntax.specs.declared.types.IntTy.TheVariants as int_ty
use Rattle.mir_syntax.specs.declared.types.ScalarTy.TheVariants as scalar_ty
use Rattle.mir_syntax.specs.declared.body.BinOp.{BinOp}
use Rattle.mir_syntax.specs.declared.body.BinOp.TheVariants as operator
use Rattle.mir_syntax.specs.declared.body.Const.TheVariants as constant
use Rattle.mir_syntax.specs.declared.body.Place.{Place}
use Rattle.mir_syntax.specs.declared.body.Operand.{Operand}
use Rattle.mir_syntax.specs.declared.body.Operand.TheVariants as operand
use Rattle.mir_syntax.specs.declared.body.Callee.TheVariants as callee
use Rattle.mir_syntax.specs.declared.body.Inline.TheVariants as inlining
use Rattle.mir_syntax.specs.declared.body.Term.TheVariants.{Switch, Call, Return}
use Rattle.mir_syntax.specs.declared.lines.BlockLines.{BlockLines}
use Rattle.mir_syntax.specs.declared.lines.FnLines.{FnLines}
use Rattle.mir_syntax.specs.declared.lines.Lines.{Lines}
use Rattle.mir_syntax.specs.Tree.{Tree, scalar}
use Rattle.mir_syntax.specs.Crate.{«use», binary, assign, TypedBlock, TypedBody, TypedFunction, Crate}
use Rattle.crate_gen.specs.declared.choice.Choice.{Choice}
use Rattle.crate_gen.specs.Draws.{next, drawn}

-- ---- what is drawn for a function

abbrev pub op_of : ℕ → BinOp
op_of zero = operator.Add
op_of (suc zero) = operator.Sub
op_of _ = operator.Mul

-- of so many functions, where this number has been reached: five draws
abbrev pub choice : ℕ → ℕ → Choice
choice functions x = record {
  value = drawn 100 x;
  op = op_of (drawn 3 (next x));
  bound = drawn 100 (next (next x));
  below = drawn functions (next (next (next x)));
  otherwise = drawn functions (next (next (next (next x))));
}

abbrev pub after_choice : ℕ → ℕ
after_choice x = next (next (next (next (next x))))

-- ---- its body

abbrev pub whole : ℕ → Place
whole x = record { local = x; proj = [] }

abbrev pub copied : ℕ → Operand
copied x = operand.Copy (whole x)

abbrev pub number : ℕ → Operand
number n = operand.Const (constant.Int int_ty.U32 n)

abbrev pub number_ty : Tree
number_ty = scalar (scalar_ty.Int int_ty.U32)

abbrev pub bool_ty : Tree
bool_ty = scalar scalar_ty.Bool

-- the constant, what the operator makes of the first argument and it, and whether it is below the bound
abbrev pub comparing : Choice → TypedBlock
comparing c = record {
  stmts = assign (whole 3) («use» (number c.value)) ∷ assign (whole 4) (binary c.op (copied 1) (copied 3)) ∷ assign (whole 5) (binary operator.Lt (copied 3) (number c.bound)) ∷ [];
  term = Switch (operand.Move (whole 5)) (record { value = 0; block = 2 } ∷ []) 1;
}

-- a function is called with two locals, and what it answers is the result
abbrev pub calling : ℕ → ℕ → ℕ → TypedBlock
calling g a b = record { stmts = []; term = Call (whole 0) (callee.Local (record { 0 = g })) (copied a ∷ copied b ∷ []) 3 }

abbrev pub returning : TypedBlock
returning = record { stmts = []; term = Return }

abbrev pub made_body : Choice → TypedBody
made_body c = record {
  args = 2;
  locals = number_ty ∷ number_ty ∷ number_ty ∷ number_ty ∷ number_ty ∷ bool_ty ∷ [];
  blocks = comparing c ∷ calling c.below 4 2 ∷ calling c.otherwise 2 4 ∷ returning ∷ [];
}

-- ---- the crate

-- the last decimal digit of a number
abbrev pub digit : ℕ → ℕ
digit n = 48 + n % 10

-- `f` and the number of the function in five digits
abbrev pub made_path : ℕ → List ℕ
made_path i = 102 ∷ digit (i / 10000) ∷ digit (i / 1000) ∷ digit (i / 100) ∷ digit (i / 10) ∷ digit i ∷ []

abbrev pub made_function : ℕ → Choice → TypedFunction
made_function i c = record { path = made_path i; inlining = inlining.Plain; is_drop = false; body = made_body c }

-- so many more functions, the first of which has the number i, where the number x has been reached
abbrev pub made_functions : ℕ → ℕ → ℕ → ℕ → List TypedFunction
made_functions functions i zero x = []
made_functions functions i (suc more) x = made_function i (choice functions x) ∷ made_functions functions (suc i) more (after_choice x)

abbrev pub made_crate : ℕ → ℕ → Crate
made_crate start functions = record { defs = []; outsides = []; functions = made_functions functions 0 functions start }

-- ---- the lines of its text

abbrev pub no_statements : ℕ → BlockLines
no_statements term = record { stmts = []; term = term }

-- of a function whose text begins on this line
abbrev pub function_lines : ℕ → FnLines
function_lines line = record {
  head = line;
  locals = (line + 1) ∷ line ∷ line ∷ (line + 2) ∷ (line + 3) ∷ (line + 4) ∷ [];
  blocks = record { stmts = (line + 7) ∷ (line + 8) ∷ (line + 9) ∷ []; term = line + 10 } ∷ no_statements (line + 14) ∷ no_statements (line + 18) ∷ no_statements (line + 22) ∷ [];
}

-- a function has 25 lines, and an empty one comes before the next
abbrev pub functions_lines : ℕ → ℕ → List FnLines
functions_lines line zero = []
functions_lines line (suc more) = function_lines line ∷ functions_lines (line + 26) more

abbrev pub made_lines : ℕ → Lines
made_lines functions = record { defs = []; outsides = []; functions = functions_lines 1 functions; wrong_field = None }
