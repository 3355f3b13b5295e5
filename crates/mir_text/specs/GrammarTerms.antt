-- The grammar of terminators and blocks.
--
--     term   = "goto" "->" bb | "return" | "unreachable"
--            | "switchInt" "(" operand ")" "->" "[" (number ":" bb ",")* "otherwise" ":" bb "]"
--            | place "=" path "(" operand,* ")" "->" "[" "return" ":" bb "," unwind "]"
--            | "drop" "(" place ")" "->" "[" "return" ":" bb "," unwind "]"
--            | "assert" "(" "!"? operand ("," string) ("," operand)* ")" "->" "[" "success" ":" bb "," unwind "]"
--     unwind = "unwind" ( "continue" | "unreachable" )
--     block  = bb ":" "{" (stmt ";")* term ";" "}"
use Rattle.std.specs.Prelude.{ℕ, Bool, true, false, List, ◌∷◌}
use Rattle.mir_text.specs.declared.symbol.Symbol.{Symbol}
use Rattle.mir_text.specs.declared.symbol.Symbol.TheVariants as s
use Rattle.mir_text.specs.Symbols.{success_name}
use Rattle.mir_text.specs.Grammar.{Put, Items, items_put, each_put}
use Rattle.mir_text.specs.GrammarTypes.{PathRule, path_put}
use Rattle.mir_text.specs.GrammarPlaces.{PlaceRule, place_put, OperandRule, operand_put}
use Rattle.mir_text.specs.GrammarStatements.{StmtRule, stmt_put}

-- ---- unwind

pub data UnwindRule : Type 0 where
  continues : UnwindRule
  unreachable : UnwindRule

abbrev pub unwind_put : Put UnwindRule
unwind_put continues rest = s.Unwind ∷ s.Continue ∷ rest
unwind_put unreachable rest = s.Unwind ∷ s.Unreachable ∷ rest

-- ---- term

-- a number and a block
abbrev pub ArmRule : Type 0
ArmRule = ℕ × ℕ

pub data TermRule : Type 0 where
  goto : ℕ → TermRule
  returns : TermRule
  never : TermRule
  switch : OperandRule → List ArmRule → ℕ → TermRule
  call : PlaceRule → PathRule → Items OperandRule → ℕ → UnwindRule → TermRule
  drop : PlaceRule → ℕ → UnwindRule → TermRule
  assert : Bool → OperandRule → ℕ → List OperandRule → ℕ → UnwindRule → TermRule  -- false: with "!"

-- "->" "[" word ":" bb "," unwind "]"
abbrev pub goes_put : Symbol → ℕ → UnwindRule → List Symbol → List Symbol
goes_put word b u rest = s.Arrow ∷ s.OpenBracket ∷ word ∷ s.Colon ∷ s.Block b ∷ s.Comma ∷ unwind_put u (s.CloseBracket ∷ rest)

-- number ":" bb ","
abbrev pub arm_put : Put ArmRule
arm_put a rest = s.Number a.0 ∷ s.Colon ∷ s.Block a.1 ∷ s.Comma ∷ rest

-- "," operand
abbrev pub value_operand_put : Put OperandRule
value_operand_put x rest = s.Comma ∷ operand_put x rest

-- "!"?
abbrev pub expected_put : Put Bool
expected_put true rest = rest
expected_put false rest = s.Exclamation ∷ rest

abbrev pub term_put : Put TermRule
term_put (goto b) rest = s.Goto ∷ s.Arrow ∷ s.Block b ∷ rest
term_put returns rest = s.Return ∷ rest
term_put never rest = s.Unreachable ∷ rest
term_put (switch x arms b) rest =
    s.SwitchInt ∷ s.Open ∷ operand_put x (s.Close ∷ s.Arrow ∷ s.OpenBracket ∷ each_put arm_put arms (s.Otherwise ∷ s.Colon ∷ s.Block b ∷ s.CloseBracket ∷ rest))
term_put (call q path xs b u) rest = place_put q (s.Equals ∷ path_put path (s.Open ∷ items_put operand_put s.Close xs (goes_put s.Return b u rest)))
term_put (drop q b u) rest = s.Drop ∷ s.Open ∷ place_put q (s.Close ∷ goes_put s.Return b u rest)
term_put (assert expected x message xs b u) rest =
    s.Assert ∷ s.Open ∷ expected_put expected (operand_put x (s.Comma ∷ s.Text message ∷ each_put value_operand_put xs (s.Close ∷ goes_put success_name b u rest)))

-- ---- block

pub record BlockRule : Type 0 where
  pub label : ℕ
  pub stmts : List StmtRule
  pub term : TermRule

-- stmt ";"
abbrev pub ended_put : Put StmtRule
ended_put x rest = stmt_put x (s.Semicolon ∷ rest)

abbrev pub block_put : Put BlockRule
block_put b rest = s.Block b.label ∷ s.Colon ∷ s.OpenBrace ∷ each_put ended_put b.stmts (term_put b.term (s.Semicolon ∷ s.CloseBrace ∷ rest))
