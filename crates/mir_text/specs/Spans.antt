-- Which part of a derivation a symbol stands in. Parts are items, arguments, `let` lines, statements and terminators.
use Rattle.std.specs.Prelude.{ℕ, zero, suc, ◌+◌, Bool, true, false, ◌&&◌, ◌||◌, not, nat_lt, nat_eq, List, [], ◌∷◌, ◌++◌, map, length, drop}
use Rattle.mir_text.specs.Grammar.{Put}
use Rattle.mir_text.specs.GrammarStatements.{StmtRule}
use Rattle.mir_text.specs.GrammarTerms.{TermRule, term_put, ended_put}
use Rattle.mir_text.specs.GrammarItems as m
use Rattle.mir_text.specs.GrammarItems.{ArgRule, arg_put, DeclRule, DeclsRule, decl_put, FnRule, ItemRule, item_put, FileRule, file_put}
use Rattle.mir_text.specs.NameFaults.{each}
use Rattle.mir_text.specs.PartLines.{Lined, LinedBlock, fn_lined, scope_front, after_result, first_line, past}

-- the places of a part's symbols among those of the file: from the first one on, up to one behind the last
pub record Span : Type 0 where
  pub from : ℕ
  pub until : ℕ
  pub is_let : Bool

abbrev pub size : {R : Type 0} → Put R → R → ℕ
size put r = length (put r [])

abbrev pub span_at : ℕ → ℕ → Span
span_at n len = record { from = n; until = n + len; is_let = false }

-- ---- the spans of parts, by the places of symbols in order

-- an argument ends with its type
abbrev pub arg_span : Lined ArgRule → Span
arg_span a = span_at a.0 (size arg_put a.1)

-- a `let` line ends with its semicolon
abbrev pub let_span : ℕ → DeclRule → Span
let_span n d = record { from = n; until = n + size decl_put d; is_let = true }

abbrev mutual
  pub let_spans : DeclRule → List ℕ → List Span
  let_spans (m.«let» mutable x u) places = let_span (first_line places) (m.«let» mutable x u) ∷ []
  let_spans (m.debug xs) places = []
  let_spans (m.scope n p ds) places = lets_spans ds (drop (scope_front (m.scope n p ds)) places)

  pub lets_spans : DeclsRule → List ℕ → List Span
  lets_spans m.no_decls places = []
  lets_spans (m.decls d ds) places = let_spans d places ++ lets_spans ds (past decl_put d places)

-- a statement and a terminator end with their semicolon
abbrev pub stmt_span : Lined StmtRule → Span
stmt_span x = span_at x.0 (size ended_put x.1)

abbrev pub term_span : Lined TermRule → Span
term_span x = span_at x.0 (size term_put x.1 + 1)

abbrev pub block_spans : LinedBlock → List Span
block_spans b = map stmt_span b.stmts ++ term_span b.term ∷ []

abbrev pub fn_spans : FnRule → List ℕ → List Span
fn_spans f places =
    map arg_span (fn_lined f places).args ++ lets_spans f.locals (after_result f places) ++ each block_spans (fn_lined f places).blocks

abbrev pub inner_spans : ItemRule → List ℕ → List Span
inner_spans (m.function f) places = fn_spans f places
inner_spans item places = []

abbrev pub items_spans : FileRule → List ℕ → List Span
items_spans [] places = []
items_spans (item ∷ items) places =
    (span_at (first_line places) (size item_put item) ∷ inner_spans item places) ++ items_spans items (past item_put item places)

-- so many numbers in order, from a given one on
abbrev pub numbers_from : ℕ → ℕ → List ℕ
numbers_from n zero = []
numbers_from n (suc k) = n ∷ numbers_from (suc n) k

-- the spans of the parts of a file
abbrev pub spans_of : FileRule → List Span
spans_of file = items_spans file (numbers_from 0 (size file_put file))

-- ---- what stands at a place

-- a part that begins at one place holds another place
abbrev pub is_open : List Span → ℕ → ℕ → Bool
is_open [] start k = false
is_open (x ∷ xs) start k = (nat_eq x.from start && (not (nat_lt k x.from) && nat_lt k x.until)) || is_open xs start k

-- an item, an argument, a statement or a terminator begins at a place
abbrev pub begins_part : List Span → ℕ → Bool
begins_part [] k = false
begins_part (x ∷ xs) k = (nat_eq x.from k && not x.is_let) || begins_part xs k
