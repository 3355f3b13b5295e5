-- The lines of the parts of a derivation: of each item, argument, `let`, statement and terminator, that of its first symbol.
use Rattle.std.specs.Prelude.{ℕ, List, [], ◌∷◌, ◌++◌, length, drop, get_or}
use Rattle.mir_text.specs.declared.symbol.Symbol.TheVariants as s
use Rattle.mir_text.specs.Grammar.{Put, Items, end, last, more, items_put, each_put}
use Rattle.mir_text.specs.GrammarStatements.{StmtRule}
use Rattle.mir_text.specs.GrammarTerms.{TermRule, BlockRule, ended_put, block_put}
use Rattle.mir_text.specs.GrammarItems as m
use Rattle.mir_text.specs.GrammarItems.{ArgRule, arg_put, DeclRule, DeclsRule, inlined_put, decl_put, decls_put, FnRule, fn_front_put, result_put, ItemRule, item_put, FileRule}

-- the lines of symbols, in order; the first one is where a rule begins
abbrev pub LinesFrom : Type 0
LinesFrom = List ℕ

abbrev pub first_line : LinesFrom → ℕ
first_line lines = get_or lines 0 0

-- the lines of what stands behind a rule
abbrev pub past : {R : Type 0} → Put R → R → LinesFrom → LinesFrom
past put r lines = drop (length (put r [])) lines

-- a rule and the line of its first symbol
abbrev pub Lined : Type 0 → Type 0
Lined R = ℕ × R

-- the items of a list; a comma stands between two
abbrev pub items_lined : {R : Type 0} → Put R → Items R → LinesFrom → List (Lined R)
items_lined put end lines = []
items_lined put (last r) lines = (first_line lines, r) ∷ []
items_lined put (more r rs) lines = (first_line lines, r) ∷ items_lined put rs (drop 1 (past put r lines))

abbrev pub each_lined : {R : Type 0} → Put R → List R → LinesFrom → List (Lined R)
each_lined put [] lines = []
each_lined put (r ∷ rs) lines = (first_line lines, r) ∷ each_lined put rs (past put r lines)

-- ---- `let` lines

-- how many symbols stand before the declarations of a scope
abbrev pub scope_front : DeclRule → ℕ
scope_front (m.scope n p ds) = length (s.Scope ∷ s.Number n ∷ inlined_put p (s.OpenBrace ∷ []))
scope_front d = 0

abbrev mutual
  pub lets_lined_in : DeclRule → LinesFrom → List (Lined ArgRule)
  lets_lined_in (m.«let» mutable x u) lines = (first_line lines, (x, u)) ∷ []
  lets_lined_in (m.debug xs) lines = []
  lets_lined_in (m.scope n p ds) lines = lets_lined ds (drop (scope_front (m.scope n p ds)) lines)

  pub lets_lined : DeclsRule → LinesFrom → List (Lined ArgRule)
  lets_lined m.no_decls lines = []
  lets_lined (m.decls d ds) lines = lets_lined_in d lines ++ lets_lined ds (past decl_put d lines)

-- ---- blocks

pub record LinedBlock : Type 0 where
  pub label : ℕ
  pub stmts : List (Lined StmtRule)
  pub term : Lined TermRule

-- bb, `:` and `{` stand before the statements
abbrev pub block_lined : BlockRule → LinesFrom → LinedBlock
block_lined b lines = record {
  label = b.label;
  stmts = each_lined ended_put b.stmts (drop 3 lines);
  term = (first_line (past (each_put ended_put) b.stmts (drop 3 lines)), b.term);
}

abbrev pub blocks_lined : List BlockRule → LinesFrom → List LinedBlock
blocks_lined [] lines = []
blocks_lined (b ∷ bs) lines = block_lined b lines ∷ blocks_lined bs (past block_put b lines)

-- ---- functions

pub record LinedFn : Type 0 where
  pub head : ℕ
  pub rule : FnRule
  pub args : List (Lined ArgRule)
  pub lets : List (Lined ArgRule)
  pub blocks : List LinedBlock

abbrev pub after_front : FnRule → LinesFrom → LinesFrom
after_front f lines = past fn_front_put f lines

-- the lines from the declarations on
abbrev pub after_result : FnRule → LinesFrom → LinesFrom
after_result f lines = past result_put f.result (past (items_put arg_put s.Close) f.args (after_front f lines))

abbrev pub fn_lined : FnRule → LinesFrom → LinedFn
fn_lined f lines = record {
  head = first_line lines;
  rule = f;
  args = items_lined arg_put f.args (after_front f lines);
  lets = lets_lined f.locals (after_result f lines);
  blocks = blocks_lined f.blocks (past decls_put f.locals (after_result f lines));
}

-- ---- items

pub data LinedItem : Type 0 where
  other : ℕ → ItemRule → LinedItem  -- a struct, an enum or an outside function
  function : LinedFn → LinedItem

abbrev pub item_lined : ItemRule → LinesFrom → LinedItem
item_lined (m.function f) lines = function (fn_lined f lines)
item_lined item lines = other (first_line lines) item

abbrev pub file_lined : FileRule → LinesFrom → List LinedItem
file_lined [] lines = []
file_lined (item ∷ items) lines = item_lined item lines ∷ file_lined items (past item_put item lines)
