-- Parsing blocks is the grammar's rule, both ways, and each part has the line of its first symbol.
use Rattle.std.proofs.Common.{◌≡◌, ℕ, zero, suc, ◌+◌, ◌-◌, ◌<◌, List, [], ◌∷◌, ◌++◌, map, length, get_or, drop, Result, Ok, Err, IfOk, refl, sym, ap, ap₂, ◌∙◌, arith, append_assoc, append-nil}
use Rattle.std.proofs.lemmas.List.{get_or-drop, drop-drop}
use Rattle.mir_text.specs.declared.symbol.Symbol.{Symbol}
use Rattle.mir_text.specs.declared.symbol.Symbol.TheVariants as s
use Rattle.mir_text.specs.Grammar.{each_put, AllOf}
use Rattle.mir_text.specs.GrammarStatements.{StmtRule, stmt_put}
use Rattle.mir_text.specs.GrammarTerms.{TermRule, term_put, BlockRule, ended_put, block_put}
use Rattle.mir_text.specs.PartLines.{first_line, past, each_lined, LinedBlock, block_lined}
use Rattle.mir_text.specs.PartLines.{Lined as LinedRule}
use Rattle.mir_text.specs.Nesting.{StmtGood, TermGood, BlockGood}
use Rattle.mir_tree.specs.declared.Lined.{Lined}
use Rattle.mir_tree.specs.declared.body.StmtText.{StmtText}
use Rattle.mir_tree.specs.declared.body.TermText.{TermText}
use Rattle.mir_tree.specs.declared.body.BlockText.{BlockText}
use Rattle.mir_tree.specs.Bodies.{stmt_rule, lined, lined_block}
use Rattle.mir_tree.specs.Rules.{block_rule}
use Rattle.mir_parse.specs.declared.fault.ParseRefused.{ParseRefused}
use Rattle.mir_parse.specs.declared.line.LineText.{LineText}
use Rattle.mir_parse.specs.LineRules.{LineRule, stmt, term, line_put, LineGood}
use Rattle.mir_parse.specs.Parser.{Found, and_then, Gives}
use Rattle.mir_parse.specs.Signs.{open_brace, close_brace, colon, semicolon, block}
use Rattle.mir_parse.specs.Lines.{line, line_end, within, ended_line, line_of, Stmts, line_goes_on, lines_from, block_at}
use Rattle.mir_parse.proofs.TermsRead.{term_text, term-back}
use Rattle.mir_parse.proofs.LinesRead.{stmt_text, stmt-back, line_text, line-complete, line-sound, IsLine}
use Rattle.mir_parse.proofs.Sizes.{ended_size, some_ended}
use Rattle.mir_parse.proofs.Laws.{in_steps, ok_same, IsRead, semicolon-sound, colon-sound, open_brace-sound, close_brace-sound, block-sound as number_of_block}

-- ---- the tree of a block whose symbols have lines

abbrev pub lined_stmt : StmtRule → List ℕ → Lined StmtText
lined_stmt x lines = record { line = first_line lines; part = stmt_text x }

abbrev pub lined_term : TermRule → List ℕ → Lined TermText
lined_term x lines = record { line = first_line lines; part = term_text x }

abbrev pub stmts_text : List StmtRule → List ℕ → Stmts
stmts_text [] lines = []
stmts_text (x ∷ xs) lines = lined_stmt x lines ∷ stmts_text xs (past ended_put x lines)

abbrev pub block_text : List ℕ → BlockRule → BlockText
block_text lines b = record {
  label = b.label;
  stmts = stmts_text b.stmts (drop 3 lines);
  term = lined_term b.term (past (each_put ended_put) b.stmts (drop 3 lines));
}

stmts-lined : (xs : List StmtRule) (lines : List ℕ) → map (lined stmt_rule) (stmts_text xs lines) ≡ each_lined ended_put xs lines
stmts-lined [] lines = refl
stmts-lined (x ∷ xs) lines =
    let f : StmtRule → LinedRule StmtRule = λ z. (first_line lines, z) in
    let join : LinedRule StmtRule → List (LinedRule StmtRule) → List (LinedRule StmtRule) = λ y ys. y ∷ ys in
    ap₂ join (ap f (stmt-back x)) (stmts-lined xs (past ended_put x lines))

pub block-lined : (lines : List ℕ) (b : BlockRule) → lined_block (block_text lines b) ≡ block_lined b lines
block-lined lines b =
    let at = past (each_put ended_put) b.stmts (drop 3 lines) in
    let f : TermRule → LinedRule TermRule = λ z. (first_line at, z) in
    let make : List (LinedRule StmtRule) → LinedRule TermRule → LinedBlock = λ xs y. record { label = b.label; stmts = xs; term = y } in
    ap₂ make (stmts-lined b.stmts (drop 3 lines)) (ap f (term-back b.term))

parts_only : (xs : List StmtRule) (lines : List ℕ) → map (λ (x : LinedRule StmtRule). x.1) (each_lined ended_put xs lines) ≡ xs
parts_only [] lines = refl
parts_only (x ∷ xs) lines = ap (λ ys. x ∷ ys) (parts_only xs (past ended_put x lines))

-- a block is that of its tree
pub block-back : (lines : List ℕ) (b : BlockRule) → block_rule (lined_block (block_text lines b)) ≡ b
block-back lines b =
    let make : List StmtRule → BlockRule = λ xs. record { label = b.label; stmts = xs; term = b.term } in
    ap block_rule (block-lined lines b) ∙ ap make (parts_only b.stmts (drop 3 lines))

-- ---- places and lines

at_line : (lines : List ℕ) (whole k : ℕ) (ts : List Symbol) → whole ≡ k + length ts → line_of lines whole ts ≡ first_line (drop k lines)
at_line lines whole k ts e =
    let same : whole - length ts ≡ k = omega arith in
    let zero_more : k + 0 ≡ k = omega arith in
    ap (λ n. get_or lines n 0) same ∙ sym (get_or-drop k lines 0 0 ∙ ap (λ n. get_or lines n 0) zero_more)

-- one statement on
abbrev next : ℕ → StmtRule → ℕ
next k x = k + length (ended_put x [])

next-lines : (k : ℕ) (x : StmtRule) (lines : List ℕ) → past ended_put x (drop k lines) ≡ drop (next k x) lines
next-lines k x lines = drop-drop (length (ended_put x [])) k lines

next-term : (k : ℕ) (x : StmtRule) (xs : List StmtRule) (lines : List ℕ) → past (each_put ended_put) (x ∷ xs) (drop k lines) ≡ past (each_put ended_put) xs (drop (next k x) lines)
next-term k x xs lines =
    let size : length (ended_put x []) + length (each_put ended_put xs []) ≡ length (ended_put x (each_put ended_put xs [])) = sym (ended_size x (each_put ended_put xs [])) in
    ap (λ n. drop n (drop k lines)) (sym size)
    ∙ sym (drop-drop (length (each_put ended_put xs [])) (length (ended_put x [])) (drop k lines))
    ∙ ap (drop (length (each_put ended_put xs []))) (next-lines k x lines)

-- ---- what the grammar puts is read

ended-complete : (x : LineRule) (rest : List Symbol) → LineGood x → ended_line (line_put x (s.Semicolon ∷ rest)) ≡ Ok (line_text x, rest)
unfolding ended_line line_end semicolon
ended-complete x rest g = rw (line-complete x rest g) refl

few_lines : (xs : List StmtRule) (rest : List Symbol) → length xs < suc (length (each_put ended_put xs rest))
few_lines [] rest = omega arith
few_lines (x ∷ xs) rest = omega (arith, some_ended x, ended_size x (each_put ended_put xs rest), few_lines xs rest)

lines-complete : (xs : List StmtRule) (t : TermRule) (lines : List ℕ) (whole k n : ℕ) (before : Stmts) (rest : List Symbol) → AllOf StmtGood xs → TermGood t → length xs < n
    → whole ≡ k + length (each_put ended_put xs (term_put t (s.Semicolon ∷ rest)))
    → lines_from lines whole n before (each_put ended_put xs (term_put t (s.Semicolon ∷ rest))) ≡ Ok ((before ++ stmts_text xs (drop k lines), lined_term t (past (each_put ended_put) xs (drop k lines))), rest)
unfolding lines_from
lines-complete xs t lines whole k zero before rest g gt h e = absurd (omega arith)
lines-complete [] t lines whole k (suc n) before rest g gt h e =
    let f : Stmts → ℕ → Found (Stmts × Lined TermText) = λ b m. Ok ((b, record { line = m; part = term_text t }), rest) in
    rw (ended-complete (term t) rest gt) (ap₂ f (sym (append-nil before)) (at_line lines whole k (term_put t (s.Semicolon ∷ rest)) e))
lines-complete (x ∷ xs) t lines whole k (suc n) before rest g gt h e =
    let after = each_put ended_put xs (term_put t (s.Semicolon ∷ rest)) in
    let f : Stmts → List ℕ → Found (Stmts × Lined TermText) = λ b at. Ok ((b, lined_term t at), rest) in
    let from : ℕ → Found (Stmts × Lined TermText) = λ m. lines_from lines whole n (before ++ (record { line = m; part = stmt_text x }) ∷ []) after in
    let size : length (ended_put x after) ≡ length (ended_put x []) + length after = ended_size x after in
    let e2 : whole ≡ next k x + length after = omega arith in
    let first = lined_stmt x (drop k lines) in
    rw (ended-complete (stmt x) after g.0) (
    ap from (at_line lines whole k (ended_put x after) e)
    ∙ lines-complete xs t lines whole (next k x) n (before ++ first ∷ []) rest g.1 gt (omega arith) e2
    ∙ ap₂ f
    (append_assoc before (first ∷ []) (stmts_text xs (drop (next k x) lines)) ∙ ap (λ a. before ++ first ∷ stmts_text xs a) (sym (next-lines k x lines)))
    (sym (next-term k x xs lines)))

pub block-complete : (lines : List ℕ) (b : BlockRule) (rest : List Symbol) → BlockGood b → block_at lines (block_put b rest) ≡ Ok (block_text lines b, rest)
unfolding block_at block colon open_brace close_brace
block-complete lines b rest g =
    let body = each_put ended_put b.stmts (term_put b.term (s.Semicolon ∷ s.CloseBrace ∷ rest)) in
    rw (lines-complete b.stmts b.term lines (suc (suc (suc (length body)))) 3 (suc (length body)) [] (s.CloseBrace ∷ rest) g.0 g.1 (few_lines b.stmts (term_put b.term (s.Semicolon ∷ s.CloseBrace ∷ rest))) (omega arith)) refl

-- ---- what is read is what the grammar puts

within-ok : {A : Type 0} (n : ℕ) (found : Found A) (y : A × List Symbol) → within n found ≡ Ok y → found ≡ Ok y
within-ok n (Ok p) y h = h
within-ok n (Err e) y h = absurd cc

ended-sound : (ts : List Symbol) (y : LineText) (past : List Symbol) → ended_line ts ≡ Ok (y, past) → IsLine ts y (s.Semicolon ∷ past)
unfolding ended_line line_end
ended-sound ts y past h =
    in_steps _ _ (y, past) (within-ok (length ts) (and_then (line ts) (λ y ts. and_then (semicolon ts) (λ _ ts. Ok (y, ts)))) (y, past) h) (λ z past1 found h1.
    in_steps _ _ (y, past) h1 (λ a past2 closes same_h.
    let same = ok_same _ _ same_h in
    let inner = line-sound ts z past1 found in
    record {
      rule = inner.rule;
      reads = inner.reads ∙ ap (λ q. q.0) same;
      yields = inner.yields ∙ ap (line_put inner.rule) (semicolon-sound past1 (a, past2) closes ∙ ap (λ q. s.Semicolon ∷ q.1) same);
      good = inner.good;
    }))

record AreLines (lines : List ℕ) (ts : List Symbol) (before : Stmts) (q : Stmts × Lined TermText) (rest : List Symbol) : Type 0 where
  pub stmts : List StmtRule
  pub end_term : TermRule
  pub reads : (before ++ stmts_text stmts lines, lined_term end_term (past (each_put ended_put) stmts lines)) ≡ q
  pub yields : ts ≡ each_put ended_put stmts (term_put end_term (s.Semicolon ∷ rest))
  pub goods : AllOf StmtGood stmts
  pub good : TermGood end_term

abbrev LinesSound : ℕ → Type 0
LinesSound n = (lines : List ℕ) (whole k : ℕ) (ts : List Symbol) (before : Stmts) (q : Stmts × Lined TermText) (rest : List Symbol) → whole ≡ k + length ts
    → lines_from lines whole n before ts ≡ Ok (q, rest) → AreLines (drop k lines) ts before q rest

by_line : (n : ℕ) → LinesSound n → (lines : List ℕ) (whole k : ℕ) (ts after : List Symbol) (before : Stmts) (y : LineText) (q : Stmts × Lined TermText) (rest : List Symbol) → whole ≡ k + length ts
    → (r : LineRule) → line_text r ≡ y → ts ≡ line_put r (s.Semicolon ∷ after) → LineGood r → line_goes_on (line_of lines whole ts) (lines_from lines whole n) before y after ≡ Ok (q, rest) → AreLines (drop k lines) ts before q rest
by_line n more lines whole k ts after before y q rest e (stmt x) reads yields good went =
    let at = line_of lines whole ts in
    let went1 = ap (λ z. line_goes_on at (lines_from lines whole n) before z after) reads ∙ went in
    let from : ℕ → Found (Stmts × Lined TermText) = λ m. lines_from lines whole n (before ++ (record { line = m; part = stmt_text x }) ∷ []) after in
    let went2 = ap from (sym (at_line lines whole k ts e)) ∙ went1 in
    let size : length ts ≡ length (ended_put x []) + length after = ap length yields ∙ ended_size x after in
    let e2 : whole ≡ next k x + length after = omega arith in
    let first = lined_stmt x (drop k lines) in
    let others = more lines whole (next k x) after (before ++ first ∷ []) q rest e2 went2 in
    let pair : Stmts → List ℕ → Stmts × Lined TermText = λ b c. (b, lined_term others.end_term c) in
    record {
      stmts = x ∷ others.stmts;
      end_term = others.end_term;
      reads =
          ap₂ pair
          (ap (λ a. before ++ first ∷ stmts_text others.stmts a) (next-lines k x lines) ∙ sym (append_assoc before (first ∷ []) (stmts_text others.stmts (drop (next k x) lines))))
          (next-term k x others.stmts lines)
          ∙ others.reads;
      yields = yields ∙ ap (λ l. stmt_put x (s.Semicolon ∷ l)) others.yields;
      goods = (good, others.goods);
      good = others.good;
    }
by_line n more lines whole k ts after before y q rest e (term t) reads yields good went =
    let at = line_of lines whole ts in
    let same = ok_same _ _ (ap (λ z. line_goes_on at (lines_from lines whole n) before z after) reads ∙ went) in
    let pair : Stmts → ℕ → Stmts × Lined TermText = λ b m. (b, record { line = m; part = term_text t }) in
    record {
      stmts = [];
      end_term = t;
      reads = ap₂ pair (append-nil before) (sym (at_line lines whole k ts e)) ∙ ap (λ z. z.0) same;
      yields = yields ∙ ap (λ z. term_put t (s.Semicolon ∷ z.1)) same;
      goods = tt;
      good = good;
    }

lines-sound : (n : ℕ) → LinesSound n
unfolding lines_from
lines-sound zero lines whole k ts before q rest e h = absurd cc
lines-sound (suc n) lines whole k ts before q rest e h =
    in_steps _ _ (q, rest) h (λ y after found went.
    let inner = ended-sound ts y after found in
    by_line n (lines-sound n) lines whole k ts after before y q rest e inner.rule inner.reads inner.yields inner.good went)

pub block-sound : (lines : List ℕ) (ts : List Symbol) (x : BlockText) (rest : List Symbol) → block_at lines ts ≡ Ok (x, rest) → IsRead block_put (block_text lines) BlockGood ts x rest
unfolding block_at
block-sound lines ts x rest h =
    in_steps _ _ (x, rest) h (λ label past1 labelled h1.
    in_steps _ _ (x, rest) h1 (λ a past2 coloned h2.
    in_steps _ _ (x, rest) h2 (λ c past3 opens h3.
    in_steps _ _ (x, rest) h3 (λ b past4 found h4.
    in_steps _ _ (x, rest) h4 (λ d past5 closes same_h.
    let same = ok_same _ _ same_h in
    let front : ts ≡ s.Block label ∷ s.Colon ∷ s.OpenBrace ∷ past3 =
    number_of_block ts (label, past1) labelled ∙ ap (λ l. s.Block label ∷ l) (colon-sound past1 (a, past2) coloned ∙ ap (λ l. s.Colon ∷ l) (open_brace-sound past2 (c, past3) opens)) in
    let size : length ts ≡ suc (suc (suc (length past3))) = ap length front in
    let e : length ts ≡ 3 + length past3 = omega arith in
    let inner = lines-sound _ lines (length ts) 3 past3 [] b past4 e found in
    let make : Stmts × Lined TermText → BlockText = λ z. record { label = label; stmts = z.0; term = z.1 } in
    record {
      rule = record { label = label; stmts = inner.stmts; term = inner.end_term };
      reads = ap make inner.reads ∙ ap (λ z. z.0) same;
      yields = front ∙ ap (λ l. s.Block label ∷ s.Colon ∷ s.OpenBrace ∷ l)
          (inner.yields ∙ ap (λ l. each_put ended_put inner.stmts (term_put inner.end_term (s.Semicolon ∷ l))) (close_brace-sound past4 (d, past5) closes ∙ ap (λ z. s.CloseBrace ∷ z.1) same));
      good = (inner.goods, inner.good);
    })))))

-- the lines of a block that was read
lines_read : (lines : List ℕ) (ts : List Symbol) (x : BlockText) (rest : List Symbol) → IsRead block_put (block_text lines) BlockGood ts x rest → lined_block x ≡ block_lined (block_rule (lined_block x)) lines
lines_read lines ts x rest read =
    let same : block_rule (lined_block x) ≡ read.rule = ap (λ z. block_rule (lined_block z)) (sym read.reads) ∙ block-back lines read.rule in
    ap lined_block (sym read.reads) ∙ block-lined lines read.rule ∙ ap (λ b. block_lined b lines) (sym same)

pub right_lines : {X : Type 0} (lines : List ℕ) (view : X → BlockText × List Symbol) (ts : List Symbol) (result : Result X ParseRefused) → Gives view result (block_at lines ts)
    → IfOk result (λ x. lined_block (view x).0 ≡ block_lined (block_rule (lined_block (view x).0)) lines)
right_lines lines view ts (Ok x) h = lines_read lines ts (view x).0 (view x).1 (block-sound lines ts (view x).0 (view x).1 h)
right_lines lines view ts (Err e) h = tt
