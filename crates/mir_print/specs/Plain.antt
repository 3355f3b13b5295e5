-- Crates of the first form: functions of scalars and `()`, with assignments of operands to locals, gotos and returns.
use Rattle.std.specs.Prelude.{◌≡◌, ◌<◌, ⊤, [], length, All}
use Rattle.mir_syntax.specs.declared.body.Place.{Place}
use Rattle.mir_syntax.specs.declared.body.Operand.{Operand}
use Rattle.mir_syntax.specs.declared.body.Operand.TheVariants as operand
use Rattle.mir_syntax.specs.declared.body.Term.{Term}
use Rattle.mir_syntax.specs.declared.body.Term.TheVariants as term
use Rattle.mir_syntax.specs.Tree.{Tree, scalar, empty}
use Rattle.mir_syntax.specs.Crate.{TypedRvalue, «use», TypedStmt, assign, TypedBlock, TypedFunction, Crate}

-- a scalar or `()`
abbrev pub IsPlainTy : Tree → Type 0
IsPlainTy (scalar s) = ⊤
IsPlainTy empty = ⊤
IsPlainTy _ = ⊥

-- a local with no projection
abbrev pub IsPlainPlace : Place → Type 0
IsPlainPlace p = p.proj ≡ []

abbrev pub IsPlainOperand : Operand → Type 0
IsPlainOperand (operand.Copy p) = IsPlainPlace p
IsPlainOperand (operand.Move p) = IsPlainPlace p
IsPlainOperand (operand.Const x) = ⊤

abbrev pub IsPlainRvalue : TypedRvalue → Type 0
IsPlainRvalue («use» x) = IsPlainOperand x
IsPlainRvalue _ = ⊥

abbrev pub IsPlainStmt : TypedStmt → Type 0
IsPlainStmt (assign p r) = IsPlainPlace p × IsPlainRvalue r
IsPlainStmt _ = ⊥

abbrev pub IsPlainTerm : Term → Type 0
IsPlainTerm (term.Goto b) = ⊤
IsPlainTerm term.Return = ⊤
IsPlainTerm term.Unreachable = ⊤
IsPlainTerm _ = ⊥

pub record IsPlainBlock (b : TypedBlock) : Type 0 where
  pub stmts : All IsPlainStmt b.stmts
  pub term : IsPlainTerm b.term

-- `_0` and the arguments are there
pub record IsPlainFunction (f : TypedFunction) : Type 0 where
  pub headed : f.body.args < length f.body.locals
  pub locals : All IsPlainTy f.body.locals
  pub blocks : All IsPlainBlock f.body.blocks

-- functions alone
pub record IsPlain (c : Crate) : Type 0 where
  pub defs : c.defs ≡ []
  pub outsides : c.outsides ≡ []
  pub functions : All IsPlainFunction c.functions
