-- Parsing declarations is the grammar's rule: each derivation is read.
use Rattle.std.proofs.Common.{◌≡◌, ℕ, zero, suc, ◌<◌, ◌≤◌, Bool, true, false, List, [], ◌∷◌, ◌++◌, map, length, Ok, Option, Some, None, refl, sym, ap, ◌∙◌, arith, append_assoc, append-nil}
use Rattle.std.proofs.lemmas.List.{map-append}
use Rattle.mir_text.specs.declared.symbol.Symbol.{Symbol}
use Rattle.mir_text.specs.declared.symbol.Symbol.TheVariants as s
use Rattle.mir_text.specs.Grammar.{each_put, AllOf}
use Rattle.mir_text.specs.GrammarTypes.{PathRule, mut_put}
use Rattle.mir_text.specs.GrammarItems as m
use Rattle.mir_text.specs.GrammarItems.{ArgRule, arg_put, DebugSymbol, is_semicolon, debug_put, DeclRule, DeclsRule, inlined_put, decl_put, decls_put}
use Rattle.mir_text.specs.PartLines.{scope_front, lets_lined_in, lets_lined, past}
use Rattle.mir_text.specs.PartLines.{Lined as LinedRule}
use Rattle.mir_text.specs.Nesting.{type_depth, decl_depth, decls_depth, DebugGood, DebugSymbolGood, DeclSmall, DeclsSmall}
use Rattle.mir_tree.specs.declared.Lined.{Lined}
use Rattle.mir_tree.specs.declared.item.ArgText.{ArgText}
use Rattle.mir_tree.specs.Types.{type_text}
use Rattle.mir_parse.specs.Promises.{starts_colons}
use Rattle.mir_parse.specs.Parser.{Found}
use Rattle.mir_parse.specs.Signs.{local, colon, semicolon, this_name, close, open_brace, close_brace}
use Rattle.mir_parse.proofs.Laws.{small_number-complete}
use Rattle.mir_parse.proofs.PathsRead.{path-complete}
use Rattle.mir_parse.proofs.TypesRead.{type-complete}
use Rattle.mir_items.specs.Lines.{line_of, lines_at}
use Rattle.mir_items.specs.Decls.{arg_at, with_line, mut_past, let_end, let_at, debug_end, inlined, scope_front as scope_front_at, ParseLets, scope_with, decl_turn, decls_from, scope_at, decls_at}
use Rattle.mir_items.proofs.Sizes.{decl_size, scope_size, first-line, lines-past}

-- ---- arguments

abbrev pub arg_text : ArgRule → ArgText
arg_text a = record { local = a.0; ty = type_text a.1 }

abbrev pub lined_text : LinedRule ArgRule → Lined ArgText
lined_text q = with_line q.0 (arg_text q.1)

pub arg_at-complete : (a : ArgRule) (d : ℕ) (rest : List Symbol) → type_depth a.1 ≤ d → starts_colons rest ≡ false → arg_at d (arg_put a rest) ≡ Ok (arg_text a, rest)
unfolding arg_at local colon
arg_at-complete a d rest h e = rw (type-complete a.1 d rest h e) refl

-- ---- the `let` lines of declarations at the front of symbols

abbrev pub let_text : List ℕ → DeclRule → List Symbol → List (Lined ArgText)
let_text lines x ts = map lined_text (lets_lined_in x (lines_at lines ts))

abbrev pub lets_text : List ℕ → DeclsRule → List Symbol → List (Lined ArgText)
lets_text lines ds ts = map lined_text (lets_lined ds (lines_at lines ts))

-- those of the first declaration, and then the others
pub lets_text-more : (lines : List ℕ) (x : DeclRule) (ds : DeclsRule) (rest : List Symbol) → length (decls_put (m.decls x ds) rest) ≤ length lines
    → lets_text lines (m.decls x ds) (decls_put (m.decls x ds) rest) ≡ let_text lines x (decl_put x (decls_put ds rest)) ++ lets_text lines ds (decls_put ds rest)
lets_text-more lines x ds rest h =
    let ts = decl_put x (decls_put ds rest) in
    map-append lined_text (lets_lined_in x (lines_at lines ts)) (lets_lined ds (past decl_put x (lines_at lines ts)))
    ∙ ap (λ l. let_text lines x ts ++ map lined_text (lets_lined ds l))
    (lines-past lines (length (decl_put x [])) (length (decls_put ds rest)) (length ts) (decl_size x (decls_put ds rest)) h)

-- those of a scope are those of its declarations
pub scope_text : (lines : List ℕ) (n : ℕ) (q : Option PathRule) (ds : DeclsRule) (rest : List Symbol) → length (decl_put (m.scope n q ds) rest) ≤ length lines
    → let_text lines (m.scope n q ds) (decl_put (m.scope n q ds) rest) ≡ lets_text lines ds (decls_put ds (s.CloseBrace ∷ rest))
scope_text lines n q ds rest h =
    ap (λ l. map lined_text (lets_lined ds l))
    (lines-past lines (scope_front (m.scope n q ds)) (length (decls_put ds (s.CloseBrace ∷ rest))) (length (decl_put (m.scope n q ds) rest)) (scope_size n q ds rest) h)

-- ---- single declarations

let_end-complete : (mutable : Bool) (a : ArgRule) (d : ℕ) (rest : List Symbol) → type_depth a.1 ≤ d → let_end d (mut_put mutable (arg_put a (s.Semicolon ∷ rest))) ≡ Ok (arg_text a, rest)
unfolding let_end mut_past semicolon
let_end-complete true a d rest h = rw (arg_at-complete a d (s.Semicolon ∷ rest) h refl) refl
let_end-complete false a d rest h = rw (arg_at-complete a d (s.Semicolon ∷ rest) h refl) refl

debug_step : (x : Symbol) (ts : List Symbol) → is_semicolon x ≡ false → DebugGood x → debug_end (x ∷ ts) ≡ debug_end ts
unfolding debug_end
debug_step s.Semicolon ts other good = absurd cc
debug_step s.LargeLocal ts other good = absurd good
debug_step s.LargeBlock ts other good = absurd good
debug_step x ts other good = refl

debug-complete : (xs : List DebugSymbol) (rest : List Symbol) → AllOf DebugSymbolGood xs → debug_end (each_put debug_put xs (s.Semicolon ∷ rest)) ≡ Ok (tt, rest)
unfolding debug_end
debug-complete [] rest good = refl
debug-complete (x ∷ xs) rest good = debug_step x.symbol (each_put debug_put xs (s.Semicolon ∷ rest)) x.other good.0 ∙ debug-complete xs rest good.1

inlined-complete : (q : Option PathRule) (rest : List Symbol) → inlined (inlined_put q (s.OpenBrace ∷ rest)) ≡ Ok (tt, s.OpenBrace ∷ rest)
unfolding inlined this_name close
inlined-complete None rest = refl
inlined-complete (Some q) rest = rw (path-complete q (s.Close ∷ s.OpenBrace ∷ rest) refl) refl

front-complete : (n : ℕ) (q : Option PathRule) (rest : List Symbol) → n ≤ 4294967295 → scope_front_at (s.Number n ∷ inlined_put q (s.OpenBrace ∷ rest)) ≡ Ok (tt, rest)
unfolding scope_front_at open_brace
front-complete n q rest h = rw (small_number-complete n (inlined_put q (s.OpenBrace ∷ rest)) h, inlined-complete q rest) refl

-- ---- declarations

abbrev pub count : DeclsRule → ℕ
count m.no_decls = 0
count (m.decls x ds) = suc (count ds)

some_symbols : (x : DeclRule) → 0 < length (decl_put x [])
some_symbols (m.«let» mutable x u) = omega arith
some_symbols (m.debug xs) = omega arith
some_symbols (m.scope n q ds) = omega arith

few_decls : (ds : DeclsRule) (rest : List Symbol) → count ds ≤ length (decls_put ds rest)
few_decls m.no_decls rest = omega arith
few_decls (m.decls x ds) rest = omega (arith, few_decls ds rest, decl_size x (decls_put ds rest), some_symbols x)

-- no declaration begins
abbrev pub EndsDecls : List Symbol → Type 0
EndsDecls rest = (scope : ParseLets) (lines : List ℕ) (d : ℕ) (before : List (Lined ArgText)) → decl_turn scope lines d before rest ≡ Ok ((true, before), rest)

pub close-ends : (rest : List Symbol) → EndsDecls (s.CloseBrace ∷ rest)
unfolding decl_turn
close-ends rest scope lines d before = refl

pub block-ends : (n : ℕ) (rest : List Symbol) → EndsDecls (s.Block n ∷ rest)
unfolding decl_turn
block-ends n rest scope lines d before = refl

abbrev LetsOk : List (Lined ArgText) → List Symbol → Found (List (Lined ArgText))
LetsOk ls rest = Ok (ls, rest)

scope-joins : (decls : ParseLets) (before ls : List (Lined ArgText)) (ts over rest : List Symbol) → scope_front_at ts ≡ Ok (tt, over) → decls before over ≡ Ok (ls, s.CloseBrace ∷ rest) → scope_with decls before ts ≡ Ok (ls, rest)
unfolding scope_with close_brace
scope-joins decls before ls ts over rest front inner = rw (front, inner) refl

scope-outer : (lines : List ℕ) (d : ℕ) (before ls : List (Lined ArgText)) (ts rest : List Symbol) → scope_with (decls_at lines d) before ts ≡ Ok (ls, rest) → scope_at lines (suc d) before ts ≡ Ok (ls, rest)
unfolding scope_at
scope-outer lines d before ls ts rest h = h

turn-let : (scope : ParseLets) (lines : List ℕ) (d : ℕ) (before : List (Lined ArgText)) (ts rest : List Symbol) (l : Lined ArgText) → let_at lines d ts ≡ Ok (l, rest) → decl_turn scope lines d before (s.Let ∷ ts) ≡ Ok ((false, before ++ l ∷ []), rest)
unfolding decl_turn
turn-let scope lines d before ts rest l h = rw h refl

turn-debug : (scope : ParseLets) (lines : List ℕ) (d : ℕ) (before : List (Lined ArgText)) (ts rest : List Symbol) → debug_end ts ≡ Ok (tt, rest) → decl_turn scope lines d before (s.Debug ∷ ts) ≡ Ok ((false, before), rest)
unfolding decl_turn
turn-debug scope lines d before ts rest h = rw h refl

turn-scope : (scope : ParseLets) (lines : List ℕ) (d : ℕ) (before ls : List (Lined ArgText)) (ts rest : List Symbol) → scope before ts ≡ Ok (ls, rest) → decl_turn scope lines d before (s.Scope ∷ ts) ≡ Ok ((false, ls), rest)
unfolding decl_turn
turn-scope scope lines d before ls ts rest h = rw h refl

let_at-complete : (lines : List ℕ) (mutable : Bool) (a : ArgRule) (d : ℕ) (rest : List Symbol) → type_depth a.1 ≤ d
    → let_at lines d (mut_put mutable (arg_put a (s.Semicolon ∷ rest))) ≡ Ok (with_line (line_of lines (s.Let ∷ mut_put mutable (arg_put a (s.Semicolon ∷ rest)))) (arg_text a), rest)
unfolding let_at
let_at-complete lines mutable a d rest h = rw (let_end-complete mutable a d rest h) refl

decls-end : (lines : List ℕ) (d n : ℕ) (before : List (Lined ArgText)) (rest : List Symbol) → EndsDecls rest → decls_from (scope_at lines d) lines d (suc n) before rest ≡ Ok (before, rest)
unfolding decls_from
decls-end lines d n before rest ends = rw (ends (scope_at lines d) lines d before) refl

decls-step : (lines : List ℕ) (d n : ℕ) (before ls : List (Lined ArgText)) (ts past : List Symbol) → decl_turn (scope_at lines d) lines d before ts ≡ Ok ((false, ls), past)
    → decls_from (scope_at lines d) lines d (suc n) before ts ≡ decls_from (scope_at lines d) lines d n ls past
unfolding decls_from
decls-step lines d n before ls ts past turned = rw turned refl

mutual
  decl-complete : (x : DeclRule) (lines : List ℕ) (d : ℕ) (before : List (Lined ArgText)) (rest : List Symbol) → decl_depth x ≤ d → DeclSmall x → length (decl_put x rest) ≤ length lines
      → decl_turn (scope_at lines d) lines d before (decl_put x rest) ≡ Ok ((false, before ++ let_text lines x (decl_put x rest)), rest)
  decl-complete (m.«let» mutable x u) lines d before rest nests small within =
      let ts = mut_put mutable (arg_put (x, u) (s.Semicolon ∷ rest)) in
      turn-let (scope_at lines d) lines d before ts rest _ (let_at-complete lines mutable (x, u) d rest nests)
      ∙ ap (λ n. Ok ((false, before ++ with_line n (arg_text (x, u)) ∷ []), rest)) (sym (first-line lines (s.Let ∷ ts)))
  decl-complete (m.debug xs) lines d before rest nests small within =
      turn-debug (scope_at lines d) lines d before (each_put debug_put xs (s.Semicolon ∷ rest)) rest (debug-complete xs rest small)
      ∙ ap (λ ls. Ok ((false, ls), rest)) (sym (append-nil before))
  decl-complete (m.scope n q ds) lines zero before rest nests small within = absurd (omega arith)
  decl-complete (m.scope n q ds) lines (suc d) before rest nests small within =
      let over = decls_put ds (s.CloseBrace ∷ rest) in
      let few : length over ≤ length lines = omega (arith, scope_size n q ds rest) in
      let inner = decls-complete ds lines d (suc (length over)) before (s.CloseBrace ∷ rest) (omega arith) small.1 few (omega (arith, few_decls ds (s.CloseBrace ∷ rest))) (close-ends rest) in
      turn-scope (scope_at lines (suc d)) lines (suc d) before _ (s.Number n ∷ inlined_put q (s.OpenBrace ∷ over)) rest
      (scope-outer lines d before _ _ rest (scope-joins (decls_at lines d) before _ _ over rest (front-complete n q over small.0) inner))
      ∙ ap (λ ls. Ok ((false, before ++ ls), rest)) (sym (scope_text lines n q ds rest within))

  pub decls-complete : (ds : DeclsRule) (lines : List ℕ) (d n : ℕ) (before : List (Lined ArgText)) (rest : List Symbol) → decls_depth ds ≤ d → DeclsSmall ds → length (decls_put ds rest) ≤ length lines
      → count ds < n → EndsDecls rest → decls_from (scope_at lines d) lines d n before (decls_put ds rest) ≡ Ok (before ++ lets_text lines ds (decls_put ds rest), rest)
  decls-complete ds lines d zero before rest nests small within few ends = absurd (omega arith)
  decls-complete m.no_decls lines d (suc n) before rest nests small within few ends = decls-end lines d n before rest ends ∙ ap (λ ls. Ok (ls, rest)) (sym (append-nil before))
  decls-complete (m.decls x ds) lines d (suc n) before rest nests small within few ends =
      let ts = decl_put x (decls_put ds rest) in
      let less : length (decls_put ds rest) ≤ length lines = omega (arith, decl_size x (decls_put ds rest)) in
      decls-step lines d n before (before ++ let_text lines x ts) ts (decls_put ds rest) (decl-complete x lines d before (decls_put ds rest) (omega arith) small.0 within)
      ∙ decls-complete ds lines d n (before ++ let_text lines x ts) rest (omega arith) small.1 less (omega arith) ends
      ∙ ap (λ ls. Ok (ls, rest)) (append_assoc before (let_text lines x ts) (lets_text lines ds (decls_put ds rest)) ∙ ap (λ ls. before ++ ls) (sym (lets_text-more lines x ds rest within)))

pub decls_at-complete : (ds : DeclsRule) (lines : List ℕ) (d : ℕ) (rest : List Symbol) → decls_depth ds ≤ d → DeclsSmall ds → length (decls_put ds rest) ≤ length lines → EndsDecls rest
    → decls_at lines d [] (decls_put ds rest) ≡ Ok (lets_text lines ds (decls_put ds rest), rest)
decls_at-complete ds lines d rest nests small within ends =
    decls-complete ds lines d (suc (length (decls_put ds rest))) [] rest nests small within (omega (arith, few_decls ds rest)) ends
