-- Parsing arguments and declarations: `let` lines go to the end of a list, `debug` lines and scopes leave nothing.
use Rattle.std.specs.Prelude.{ℕ, zero, suc, ◌-◌, ◌<◌, ◌≡◌, refl, Bool, true, false, List, [], ◌∷◌, ◌++◌, length, Ok, Err}
use Rattle.std.proofs.Common.{arith}
use Rattle.mir_text.specs.declared.symbol.Symbol.{Symbol}
use Rattle.mir_text.specs.declared.symbol.Symbol.TheVariants as s
use Rattle.mir_tree.specs.declared.Items.{Items}
use Rattle.mir_tree.specs.declared.Lined.{Lined}
use Rattle.mir_tree.specs.declared.item.ArgText.{ArgText}
use Rattle.mir_parse.specs.Faults.{no_reading, fault_at}
use Rattle.mir_parse.specs.Parser.{Parse, and_then}
use Rattle.mir_parse.specs.Signs.{local, colon, semicolon, small_number, this_name, close, open_brace, close_brace}
use Rattle.mir_parse.specs.Lists.{closing_paren, items_at}
use Rattle.mir_parse.specs.Paths.{path}
use Rattle.mir_parse.specs.Types.{type_text_at}
use Rattle.mir_items.specs.Lines.{line_of, in_part}

-- ---- arguments

-- local : type
unfoldable pub arg_at : ℕ → Parse ArgText
arg_at d ts = and_then (local ts) (λ x ts. and_then (colon ts) (λ _ ts. and_then (type_text_at d ts) (λ u ts. Ok (record { local = x; ty = u }, ts))))

-- a part with its line
abbrev pub with_line : {A : Type 0} → ℕ → A → Lined A
with_line line x = record { line = line; part = x }

unfoldable pub arg : List ℕ → Parse (Lined ArgText)
arg lines ts = in_part ts (and_then (arg_at 65 ts) (λ a rest. Ok (with_line (line_of lines ts) a, rest)))

-- arg,* and the parenthesis that closes it
abbrev pub args : List ℕ → Parse (Items (Lined ArgText))
args lines ts = items_at closing_paren (arg lines) ts

-- ---- `let` lines

unfoldable pub mut_past : List Symbol → List Symbol
mut_past (s.Mut ∷ ts) = ts
mut_past ts = ts

-- past `let`
unfoldable pub let_end : ℕ → Parse ArgText
let_end d ts = and_then (arg_at d (mut_past ts)) (λ a ts. and_then (semicolon ts) (λ _ ts. Ok (a, ts)))

-- a `let` line, whose first symbol is `let`
unfoldable pub let_at : List ℕ → ℕ → Parse (Lined ArgText)
let_at lines d ts = in_part (s.Let ∷ ts) (and_then (let_end d ts) (λ a rest. Ok (with_line (line_of lines (s.Let ∷ ts)) a, rest)))

-- ---- `debug` lines and scopes

-- past `debug`
unfoldable pub debug_end : Parse (Unit {0})
debug_end [] = Err (no_reading [])
debug_end (s.Semicolon ∷ ts) = Ok (tt, ts)
debug_end (s.LargeLocal ∷ ts) = Err (fault_at 9 (s.LargeLocal ∷ ts))
debug_end (s.LargeBlock ∷ ts) = Err (fault_at 9 (s.LargeBlock ∷ ts))
debug_end (x ∷ ts) = debug_end ts

-- `( inlined path )`, if it comes next
unfoldable pub inlined : Parse (Unit {0})
inlined (s.Open ∷ ts) = and_then (this_name 3 ts) (λ _ ts. and_then (path ts) (λ _ ts. and_then (close ts) (λ _ ts. Ok (tt, ts))))
inlined ts = Ok (tt, ts)

-- past `scope`, up to the brace that opens it
unfoldable pub scope_front : Parse (Unit {0})
scope_front ts = and_then (small_number ts) (λ _ ts. and_then (inlined ts) (λ _ ts. and_then (open_brace ts) (λ _ ts. Ok (tt, ts))))

-- ---- declarations

-- puts `let` lines behind others
abbrev pub ParseLets : Type 0
ParseLets = List (Lined ArgText) → Parse (List (Lined ArgText))

unfoldable pub scope_with : ParseLets → ParseLets
scope_with decls before ts = and_then (scope_front ts) (λ _ ts. and_then (decls before ts) (λ ls ts. and_then (close_brace ts) (λ _ ts. Ok (ls, ts))))

-- the next declaration, if one comes next: whether the declarations end, and the `let` lines so far
unfoldable pub decl_turn : ParseLets → List ℕ → ℕ → List (Lined ArgText) → Parse (Bool × List (Lined ArgText))
decl_turn scope lines d before (s.Let ∷ ts) = and_then (let_at lines d ts) (λ l ts. Ok ((false, before ++ l ∷ []), ts))
decl_turn scope lines d before (s.Debug ∷ ts) = and_then (debug_end ts) (λ _ ts. Ok ((false, before), ts))
decl_turn scope lines d before (s.Scope ∷ ts) = and_then (scope before ts) (λ ls ts. Ok ((false, ls), ts))
decl_turn scope lines d before ts = Ok ((true, before), ts)

abbrev pub decls_go_on : ParseLets → Bool × List (Lined ArgText) → Parse (List (Lined ArgText))
decls_go_on more (true, ls) ts = Ok (ls, ts)
decls_go_on more (false, ls) ts = more ls ts

-- the number bounds the turns
unfoldable pub decls_from : ParseLets → List ℕ → ℕ → ℕ → ParseLets
decls_from scope lines d zero before ts = Err (no_reading ts)
decls_from scope lines d (suc n) before ts = and_then (decl_turn scope lines d before ts) (decls_go_on (decls_from scope lines d n))

abbrev pub decls_with : ParseLets → List ℕ → ℕ → ParseLets
decls_with scope lines d before ts = decls_from scope lines d (suc (length ts)) before ts

-- a scope past the word `scope`, that nests no deeper than the number
unfoldable pub scope_at : List ℕ → ℕ → ParseLets
scope_at lines zero before ts = Err (fault_at 6 (s.Scope ∷ ts))
scope_at lines (suc d) before ts = scope_with (decls_with (scope_at lines d) lines d) before ts

-- declarations that nest no deeper than the number
abbrev pub decls_at : List ℕ → ℕ → ParseLets
decls_at lines d before ts = decls_with (scope_at lines d) lines d before ts

pub scope_at-outer : (lines : List ℕ) (d : ℕ) (before : List (Lined ArgText)) (ts : List Symbol) → 0 < d → scope_at lines d before ts ≡ scope_with (decls_at lines (d - 1)) before ts
unfolding scope_at
scope_at-outer lines zero before ts h = absurd (omega arith)
scope_at-outer lines (suc d) before ts h = let same : suc d - 1 ≡ d = omega arith in rw same refl

pub scope_at-too_deep : (lines : List ℕ) (d : ℕ) (before : List (Lined ArgText)) (ts : List Symbol) → d ≡ 0 → scope_at lines d before ts ≡ Err (fault_at 6 (s.Scope ∷ ts))
unfolding scope_at
scope_at-too_deep lines zero before ts h = refl
scope_at-too_deep lines (suc d) before ts h = absurd (omega arith)
