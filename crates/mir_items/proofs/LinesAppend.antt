-- The lines of the parts of a rule are among those of its symbols: lines behind them change nothing.
use Rattle.std.proofs.Common.{◌≡◌, ℕ, ◌+◌, ◌-◌, ◌<◌, ◌≤◌, List, [], ◌∷◌, ◌++◌, length, drop, refl, ap, ap₂, ◌∙◌, arith, length-append, length-drop}
use Rattle.std.proofs.lemmas.List.{drop-append-le, get_or_append_left}
use Rattle.mir_text.specs.declared.symbol.Symbol.{Symbol}
use Rattle.mir_text.specs.declared.symbol.Symbol.TheVariants as s
use Rattle.mir_text.specs.Grammar.{Put, Items, end, last, more, items_put, each_put}
use Rattle.mir_text.specs.GrammarStatements.{StmtRule}
use Rattle.mir_text.specs.GrammarTerms.{TermRule, term_put, BlockRule, ended_put, block_put}
use Rattle.mir_text.specs.GrammarItems as m
use Rattle.mir_text.specs.GrammarItems.{ArgRule, arg_put, DeclRule, DeclsRule, decl_put, decls_put, FnRule, fn_front_put, result_put, fn_put, ItemRule, item_put, FileRule, file_put}
use Rattle.mir_text.specs.PartLines.{LinesFrom, first_line, past, Lined, items_lined, each_lined, scope_front, lets_lined_in, lets_lined, LinedBlock, block_lined, blocks_lined, LinedFn, after_result, fn_lined, LinedItem, other, function, item_lined, file_lined}
use Rattle.mir_parse.proofs.Sizes.{Sized, ended_size, each_ended_size, some_ended, block_size}
use Rattle.mir_items.proofs.Sizes.{decl_size, decls_size, scope_size, arg_size, args_size, fn_front_size, result_size, blocks_size, body_put, item_size}
use Rattle.mir_items.proofs.PutsAppend.{term_append}

-- so many lines are there
abbrev Fits : {R : Type 0} → Put R → R → LinesFrom → Type 0
Fits put r lines = length (put r []) ≤ length lines

first-append : (lines behind : LinesFrom) → 0 < length lines → first_line (lines ++ behind) ≡ first_line lines
first-append lines behind some = get_or_append_left lines behind 0 0 some

past-append : {R : Type 0} (put : Put R) (r : R) (lines behind : LinesFrom) → Fits put r lines → past put r (lines ++ behind) ≡ past put r lines ++ behind
past-append put r lines behind fits = drop-append-le (length (put r [])) lines behind fits

past-length : {R : Type 0} (put : Put R) (r : R) (lines : LinesFrom) → length (past put r lines) ≡ length lines - length (put r [])
past-length put r lines = length-drop (length (put r [])) lines

-- ---- lists

items-append : {R : Type 0} (put : Put R) → Sized put → (closing : Symbol) (xs : Items R) (lines behind : LinesFrom) → Fits (items_put put closing) xs lines → items_lined put xs (lines ++ behind) ≡ items_lined put xs lines
items-append put sized closing end lines behind fits = refl
items-append put sized closing (last x) lines behind fits =
    ap (λ n. (n, x) ∷ []) (first-append lines behind (omega (arith, sized x (closing ∷ []))))
items-append {R} put sized closing (more x xs) lines behind fits =
    let over = items_put put closing xs [] in
    let size = sized x (s.Comma ∷ over) in
    let first = first-append lines behind (omega arith) in
    let left = past put x lines in
    let shorter = past-length put x lines in
    let here : past put x (lines ++ behind) ≡ left ++ behind = past-append put x lines behind (omega arith) in
    let there : drop 1 (left ++ behind) ≡ drop 1 left ++ behind = drop-append-le 1 left behind (omega arith) in
    let others = items-append put sized closing xs (drop 1 left) behind (omega (arith, length-drop 1 left)) in
    let join : ℕ → List (Lined R) → List (Lined R) = λ n l. (n, x) ∷ l in
    ap₂ join first (ap (λ l. items_lined put xs (drop 1 l)) here ∙ ap (items_lined put xs) there ∙ others)

ended-append : (xs : List StmtRule) (lines behind : LinesFrom) → Fits (each_put ended_put) xs lines → each_lined ended_put xs (lines ++ behind) ≡ each_lined ended_put xs lines
ended-append [] lines behind fits = refl
ended-append (x ∷ xs) lines behind fits =
    let size = ended_size x (each_put ended_put xs []) in
    let some = some_ended x in
    let first = first-append lines behind (omega arith) in
    let here = past-append ended_put x lines behind (omega arith) in
    let others = ended-append xs (past ended_put x lines) behind (omega (arith, past-length ended_put x lines)) in
    let join : ℕ → List (Lined StmtRule) → List (Lined StmtRule) = λ n l. (n, x) ∷ l in
    ap₂ join first (ap (each_lined ended_put xs) here ∙ others)

-- ---- `let` lines

mutual
  let-append : (d : DeclRule) (lines behind : LinesFrom) → Fits decl_put d lines → lets_lined_in d (lines ++ behind) ≡ lets_lined_in d lines
  let-append (m.«let» b x u) lines behind fits = ap (λ n. (n, (x, u)) ∷ []) (first-append lines behind (omega arith))
  let-append (m.debug xs) lines behind fits = refl
  let-append (m.scope n q ds) lines behind fits =
      let front = scope_front (m.scope n q ds) in
      let size = scope_size n q ds [] in
      let inner = decls_size ds (s.CloseBrace ∷ []) in
      let here = drop-append-le front lines behind (omega arith) in
      ap (lets_lined ds) here ∙ lets-append ds (drop front lines) behind (omega (arith, length-drop front lines))

  lets-append : (ds : DeclsRule) (lines behind : LinesFrom) → Fits decls_put ds lines → lets_lined ds (lines ++ behind) ≡ lets_lined ds lines
  lets-append m.no_decls lines behind fits = refl
  lets-append (m.decls d ds) lines behind fits =
      let size = decl_size d (decls_put ds []) in
      let first = let-append d lines behind (omega arith) in
      let here = past-append decl_put d lines behind (omega arith) in
      let others = lets-append ds (past decl_put d lines) behind (omega (arith, past-length decl_put d lines)) in
      let join : List (Lined ArgRule) → List (Lined ArgRule) → List (Lined ArgRule) = λ xs ys. xs ++ ys in
      ap₂ join first (ap (lets_lined ds) here ∙ others)

-- ---- blocks

some-term : (x : TermRule) → 0 < length (term_put x (s.Semicolon ∷ s.CloseBrace ∷ []))
some-term x =
    let e = term_append x [] (s.Semicolon ∷ s.CloseBrace ∷ []) in
    omega (arith, ap length e, length-append (term_put x []) (s.Semicolon ∷ s.CloseBrace ∷ []))

abbrev block_made : BlockRule → List (Lined StmtRule) → ℕ → LinedBlock
block_made b stmts n = record { label = b.label; stmts = stmts; term = (n, b.term) }

block-append : (b : BlockRule) (lines behind : LinesFrom) → Fits block_put b lines → block_lined b (lines ++ behind) ≡ block_lined b lines
block-append b lines behind fits =
    let size = each_ended_size b.stmts (term_put b.term (s.Semicolon ∷ s.CloseBrace ∷ [])) in
    let some = some-term b.term in
    let here : drop 3 (lines ++ behind) ≡ drop 3 lines ++ behind = drop-append-le 3 lines behind (omega arith) in
    let three = length-drop 3 lines in
    let stmts = ended-append b.stmts (drop 3 lines) behind (omega arith) in
    let there = past-append (each_put ended_put) b.stmts (drop 3 lines) behind (omega arith) in
    let left = past (each_put ended_put) b.stmts (drop 3 lines) in
    let term = first-append left behind (omega (arith, past-length (each_put ended_put) b.stmts (drop 3 lines))) in
    ap₂ (block_made b)
    (ap (each_lined ended_put b.stmts) here ∙ stmts)
    (ap (λ l. first_line (past (each_put ended_put) b.stmts l)) here ∙ ap first_line there ∙ term)

blocks-append : (bs : List BlockRule) (lines behind : LinesFrom) → Fits (each_put block_put) bs lines → blocks_lined bs (lines ++ behind) ≡ blocks_lined bs lines
blocks-append [] lines behind fits = refl
blocks-append (b ∷ bs) lines behind fits =
    let size = block_size b (each_put block_put bs []) in
    let here = past-append block_put b lines behind (omega arith) in
    let others = blocks-append bs (past block_put b lines) behind (omega (arith, past-length block_put b lines)) in
    let join : LinedBlock → List LinedBlock → List LinedBlock = λ y ys. y ∷ ys in
    ap₂ join (block-append b lines behind (omega arith)) (ap (blocks_lined bs) here ∙ others)

-- ---- functions

abbrev fn_made : FnRule → ℕ → List (Lined ArgRule) → List (Lined ArgRule) → List LinedBlock → LinedFn
fn_made f n args lets blocks = record { head = n; rule = f; args = args; lets = lets; blocks = blocks }

fn-append : (f : FnRule) (lines behind : LinesFrom) → Fits fn_put f lines → fn_lined f (lines ++ behind) ≡ fn_lined f lines
fn-append f lines behind fits =
    let args_put = items_put arg_put s.Close in
    let over = each_put block_put f.blocks (s.CloseBrace ∷ []) in
    let blocks = blocks_size f.blocks (s.CloseBrace ∷ []) in
    let locals = decls_size f.locals over in
    let result = result_size f.result (decls_put f.locals over) in
    let args = args_size f.args (body_put f []) in
    let front = fn_front_size f (args_put f.args (body_put f [])) in
    let lines_1 = past fn_front_put f lines in
    let lines_2 = past args_put f.args lines_1 in
    let lines_3 = past result_put f.result lines_2 in
    let lines_4 = past decls_put f.locals lines_3 in
    let long_1 = past-length fn_front_put f lines in
    let long_2 = past-length args_put f.args lines_1 in
    let long_3 = past-length result_put f.result lines_2 in
    let long_4 = past-length decls_put f.locals lines_3 in
    let to_1 : past fn_front_put f (lines ++ behind) ≡ lines_1 ++ behind = past-append fn_front_put f lines behind (omega arith) in
    let to_2 = past-append args_put f.args lines_1 behind (omega arith) in
    let to_3 = past-append result_put f.result lines_2 behind (omega arith) in
    let to_4 = past-append decls_put f.locals lines_3 behind (omega arith) in
    let same_3 : after_result f (lines ++ behind) ≡ lines_3 ++ behind =
    ap (λ l. past result_put f.result (past args_put f.args l)) to_1 ∙ ap (past result_put f.result) to_2 ∙ to_3 in
    let head = first-append lines behind (omega arith) in
    let arg_lines = ap (items_lined arg_put f.args) to_1 ∙ items-append arg_put arg_size s.Close f.args lines_1 behind (omega arith) in
    let let_lines = ap (lets_lined f.locals) same_3 ∙ lets-append f.locals lines_3 behind (omega arith) in
    let block_lines = ap (λ l. blocks_lined f.blocks (past decls_put f.locals l)) same_3 ∙ ap (blocks_lined f.blocks) to_4 ∙ blocks-append f.blocks lines_4 behind (omega arith) in
    λ k. fn_made f (head k) (arg_lines k) (let_lines k) (block_lines k)

-- ---- items and files

pub item-append : (x : ItemRule) (lines behind : LinesFrom) → Fits item_put x lines → item_lined x (lines ++ behind) ≡ item_lined x lines
item-append (m.struct p fs) lines behind fits = ap (λ n. other n (m.struct p fs)) (first-append lines behind (omega arith))
item-append (m.enum p vs) lines behind fits = ap (λ n. other n (m.enum p vs)) (first-append lines behind (omega arith))
item-append (m.extern p us u) lines behind fits = ap (λ n. other n (m.extern p us u)) (first-append lines behind (omega arith))
item-append (m.function f) lines behind fits = ap function (fn-append f lines behind fits)

-- one more item behind a file
pub file-append : (xs : FileRule) (x : ItemRule) (lines behind : LinesFrom) → length lines ≡ length (file_put xs []) → file_lined (xs ++ x ∷ []) (lines ++ behind) ≡ file_lined xs lines ++ item_lined x behind ∷ []
file-append [] x [] behind same = refl
file-append [] x (n ∷ lines) behind same = absurd (omega arith)
file-append (y ∷ xs) x lines behind same =
    let size = item_size y (file_put xs []) in
    let here = past-append item_put y lines behind (omega arith) in
    let others = file-append xs x (past item_put y lines) behind (omega (arith, past-length item_put y lines)) in
    let join : LinedItem → List LinedItem → List LinedItem = λ z zs. z ∷ zs in
    ap₂ join (item-append y lines behind (omega arith)) (ap (file_lined (xs ++ x ∷ [])) here ∙ others)
