-- Parsing the lines of a block, which are statements and terminators, and blocks.
use Rattle.std.specs.Prelude.{ℕ, zero, suc, ◌-◌, List, [], ◌∷◌, ◌++◌, length, get_or, Ok, Err, Some}
use Rattle.mir_text.specs.declared.symbol.Symbol.{Symbol}
use Rattle.mir_text.specs.declared.symbol.Symbol.TheVariants as s
use Rattle.mir_tree.specs.declared.Items.{Items}
use Rattle.mir_tree.specs.declared.Lined.{Lined}
use Rattle.mir_tree.specs.declared.ty.PathText.{PathText}
use Rattle.mir_tree.specs.declared.operand.PlaceText.{PlaceText}
use Rattle.mir_tree.specs.declared.operand.OperandText.{OperandText}
use Rattle.mir_tree.specs.declared.rvalue.BuildText.{BuildText}
use Rattle.mir_tree.specs.declared.rvalue.BuildText.TheVariants as u
use Rattle.mir_tree.specs.declared.rvalue.RvalueText.TheVariants as r
use Rattle.mir_tree.specs.declared.body.StmtText.{StmtText}
use Rattle.mir_tree.specs.declared.body.StmtText.TheVariants as st
use Rattle.mir_tree.specs.declared.body.TermText.{TermText}
use Rattle.mir_tree.specs.declared.body.TermText.TheVariants as m
use Rattle.mir_tree.specs.declared.body.BlockText.{BlockText}
use Rattle.mir_parse.specs.declared.fault.SyntaxFault.{SyntaxFault}
use Rattle.mir_parse.specs.declared.line.LineText.{LineText}
use Rattle.mir_parse.specs.declared.line.LineText.TheVariants as l
use Rattle.mir_parse.specs.Faults.{no_reading}
use Rattle.mir_parse.specs.Parser.{Found, Parse, and_then}
use Rattle.mir_parse.specs.Signs.{close, open_paren, open_brace, close_brace, colon, equals, semicolon, local, block, small_number}
use Rattle.mir_parse.specs.Paths.{path}
use Rattle.mir_parse.specs.Places.{place_at}
use Rattle.mir_parse.specs.Rvalues.{place_single, parts, rvalue}
use Rattle.mir_parse.specs.Terms.{return_target, goto_end, switch_end, drop_end, assert_end}

-- behind the arguments of a call or a build
unfoldable pub after_args : PlaceText → PathText → Items OperandText → Parse LineText
after_args q x xs (s.Arrow ∷ ts) = and_then (return_target (s.Arrow ∷ ts)) (λ g ts. Ok (l.Term (m.Call q x xs g.0 g.1), ts))
after_args q x xs ts = Ok (l.Stmt (st.Assign q (r.Build x (u.Tupled xs))), ts)

unfoldable pub built : PlaceText → PathText → BuildText → Parse LineText
built q x (u.Tupled xs) ts = and_then (after_args q x xs ts) (λ y ts. Ok (y, ts))
built q x parts ts = Ok (l.Stmt (st.Assign q (r.Build x parts)), ts)

unfoldable pub build_or_call : PlaceText → Parse LineText
build_or_call q ts = and_then (path ts) (λ x ts. and_then (parts ts) (λ b ts. and_then (built q x b ts) (λ y ts. Ok (y, ts))))

-- behind `place =`
unfoldable pub assigned : PlaceText → Parse LineText
assigned q (s.Name n ∷ ts) = and_then (build_or_call q (s.Name n ∷ ts)) (λ y ts. Ok (y, ts))
assigned q ts = and_then (rvalue ts) (λ v ts. Ok (l.Stmt (st.Assign q v), ts))

unfoldable pub assignment : Parse LineText
assignment ts = and_then (place_at 65 ts) (λ q ts. and_then (equals ts) (λ _ ts. and_then (assigned q ts) (λ y ts. Ok (y, ts))))

-- ( local )
unfoldable pub local_single : Parse ℕ
local_single ts = and_then (open_paren ts) (λ _ ts. and_then (local ts) (λ n ts. and_then (close ts) (λ _ ts. Ok (n, ts))))

-- ( place ) = number
unfoldable pub set_end : Parse StmtText
set_end ts = and_then (place_single ts) (λ q ts. and_then (equals ts) (λ _ ts. and_then (small_number ts) (λ k ts. Ok (st.SetDiscriminant q k, ts))))

unfoldable pub term_or_assignment : Parse LineText
term_or_assignment (s.Goto ∷ ts) = and_then (goto_end ts) (λ x ts. Ok (l.Term x, ts))
term_or_assignment (s.Return ∷ ts) = Ok (l.Term m.Return, ts)
term_or_assignment (s.Unreachable ∷ ts) = Ok (l.Term m.Unreachable, ts)
term_or_assignment (s.SwitchInt ∷ ts) = and_then (switch_end ts) (λ x ts. Ok (l.Term x, ts))
term_or_assignment (s.Drop ∷ ts) = and_then (drop_end ts) (λ x ts. Ok (l.Term x, ts))
term_or_assignment (s.Assert ∷ ts) = and_then (assert_end ts) (λ x ts. Ok (l.Term x, ts))
term_or_assignment ts = and_then (assignment ts) (λ y ts. Ok (y, ts))

-- a statement or a terminator, without its semicolon
unfoldable pub line : Parse LineText
line (s.Nop ∷ ts) = Ok (l.Stmt st.Nop, ts)
line (s.StorageLive ∷ ts) = and_then (local_single ts) (λ n ts. Ok (l.Stmt (st.StorageLive n), ts))
line (s.StorageDead ∷ ts) = and_then (local_single ts) (λ n ts. Ok (l.Stmt (st.StorageDead n), ts))
line (s.Discriminant ∷ ts) = and_then (set_end ts) (λ x ts. Ok (l.Stmt x, ts))
line ts = and_then (term_or_assignment ts) (λ y ts. Ok (y, ts))

unfoldable pub line_end : Parse LineText
line_end ts = and_then (line ts) (λ y ts. and_then (semicolon ts) (λ _ ts. Ok (y, ts)))

-- a fault in a part that began with so many symbols left
abbrev pub in_part : ℕ → SyntaxFault → SyntaxFault
in_part n e = record { code = e.code; left = e.left; part = Some n }

abbrev pub within : {A : Type 0} → ℕ → Found A → Found A
within n (Ok p) = Ok p
within n (Err e) = Err (in_part n e)

-- a statement or a terminator and its semicolon; a fault in it tells where it began
unfoldable pub ended_line : Parse LineText
ended_line ts = within (length ts) (line_end ts)

-- ---- blocks

-- the line of the first of the symbols that are left of so many
abbrev pub line_of : List ℕ → ℕ → List Symbol → ℕ
line_of lines whole ts = get_or lines (whole - length ts) 0

abbrev pub Stmts : Type 0
Stmts = List (Lined StmtText)

-- a terminator ends the lines
abbrev pub line_goes_on : ℕ → (Stmts → Parse (Stmts × Lined TermText)) → Stmts → LineText → Parse (Stmts × Lined TermText)
line_goes_on at more before (l.Stmt x) ts = more (before ++ (record { line = at; part = x }) ∷ []) ts
line_goes_on at more before (l.Term x) ts = Ok ((before, record { line = at; part = x }), ts)

-- the number bounds the turns
unfoldable pub lines_from : List ℕ → ℕ → ℕ → Stmts → Parse (Stmts × Lined TermText)
lines_from lines whole zero before ts = Err (no_reading ts)
lines_from lines whole (suc n) before ts = and_then (ended_line ts) (line_goes_on (line_of lines whole ts) (lines_from lines whole n) before)

abbrev pub lines_at : List ℕ → ℕ → Parse (Stmts × Lined TermText)
lines_at lines whole ts = lines_from lines whole (suc (length ts)) [] ts

-- a block whose symbols have these lines
unfoldable pub block_at : List ℕ → Parse BlockText
block_at lines ts =
    and_then (block ts) (λ label past. and_then (colon past) (λ _ past. and_then (open_brace past) (λ _ past.
    and_then (lines_at lines (length ts) past) (λ b past. and_then (close_brace past) (λ _ past. Ok (record { label = label; stmts = b.0; term = b.1 }, past))))))
