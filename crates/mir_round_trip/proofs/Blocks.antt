-- Blocks: the rule that writes one, its text, and back.
use Rattle.mir_round_trip.specs.Bodies.{IsBlock, names_at, IsStmt}
use Rattle.std.proofs.Common.{◌≡◌, ◌<◌, ◌≤◌, ◌+◌, ◌^◌, ℕ, zero, suc, Bool, true, false, ◌||◌, nat_eq, List, [], ◌∷◌, ◌++◌, map, length, codes, refl, ap, subst, arith}
use Rattle.std.proofs.lemmas.Bool.Decides.{nat_tests}
use Rattle.mir_syntax.specs.declared.body.Term.{Term}
use Rattle.mir_syntax.specs.Tree.{Tree}
use Rattle.mir_syntax.specs.Crate.{Crate, TypedStmt, TypedBlock}
use Rattle.mir_text.specs.declared.symbol.Symbol.TheVariants as s
use Rattle.mir_text.specs.Grammar.{AllOf, each_put}
use Rattle.mir_text.specs.GrammarTerms.{term_put, ended_put, BlockRule, block_put}
use Rattle.mir_text.specs.Names.{Strings}
use Rattle.mir_text.specs.NamedBodies.{Declared, block_named}
use Rattle.mir_text.specs.PartLines.{LinesFrom, first_line, past, each_lined, block_lined, blocks_lined}
use Rattle.mir_text.specs.NameFaults.{on_line, each, is_among, stmt_faults, block_faults, in_order, blocks_in_order}
use Rattle.mir_text.specs.Nesting.{StmtGood, BlockGood}
use Rattle.mir_text.specs.TypeText.{piece}
use Rattle.mir_text.specs.TermText.{term_line, block_text, blocks_text}
use Rattle.mir_round_trip.proofs.Spelling.{Spelt, after, and_then, alone, none, all-map}
use Rattle.mir_round_trip.proofs.Atoms.{block_spelt}
use Rattle.mir_round_trip.proofs.Literals.{eight_spaces, end_of_line, four_spaces, block_open, block_close, empty_line}
use Rattle.mir_round_trip.proofs.Paths.{Back}
use Rattle.mir_round_trip.proofs.PlacesBack.{Setting}
use Rattle.mir_round_trip.proofs.Lists.{Front, all-of-map}
use Rattle.mir_round_trip.proofs.Rvalues.{two-same}
use Rattle.mir_round_trip.proofs.Statements.{stmt_rule, stmts_spelt, stmts_back, stmt_faultless, stmt_good}
use Rattle.mir_round_trip.proofs.Terms.{term_rule, term_names, term_spelt}
use Rattle.mir_round_trip.proofs.TermsBack.{term_back, HasLabels, term_faultless, term_good}

-- ---- the rule

unfoldable pub block_rule : Crate → Strings → List Tree → ℕ → TypedBlock → BlockRule
block_rule c strings locals n b = record { label = n; stmts = map (stmt_rule c strings locals) b.stmts; term = term_rule c strings locals b.term }

-- the first one has this number
abbrev pub blocks_rule : Crate → Strings → List Tree → ℕ → List TypedBlock → List BlockRule
blocks_rule c strings locals n [] = []
blocks_rule c strings locals n (b ∷ bs) = block_rule c strings locals n b ∷ blocks_rule c strings locals (suc n) bs

abbrev pub block_names : TypedBlock → List (List ℕ)
block_names b = term_names b.term

abbrev pub blocks_names : List TypedBlock → List (List ℕ)
blocks_names [] = []
blocks_names (b ∷ bs) = block_names b ++ blocks_names bs

-- ---- its text

line-spelt : (c : Crate) (locals : List Tree) (n : ℕ) (b : TypedBlock) → IsBlock c locals n b
    → Spelt (term_line c locals b.term) (λ strings rest. term_put (term_rule c strings locals b.term) (s.Semicolon ∷ rest)) (block_names b ++ [])
unfolding term_line piece
line-spelt c locals n b h = after eight_spaces (and_then (term_spelt c locals n b.term h.term) (λ left clear. refl) (alone end_of_line))

block-spelt : (c : Crate) (locals : List Tree) (n k : ℕ) (b : TypedBlock) → IsBlock c locals n b → k < 2 ^ 32
    → Spelt (block_text c locals k b) (λ strings. block_put (block_rule c strings locals k b)) ((block_names b ++ []) ++ [])
unfolding block_text block_rule term_line piece
block-spelt c locals n k b h small =
    after four_spaces (and_then (block_spelt k small) (λ left clear. refl)
    (after block_open (and_then (stmts_spelt c locals b.stmts h.stmts) (λ left clear. refl) (and_then (line-spelt c locals n b h) (λ left clear. refl) (alone block_close)))))

blocks-front : (c : Crate) (locals : List Tree) (k : ℕ) (bs : List TypedBlock) → Front (blocks_text c locals k bs)
unfolding blocks_text piece
blocks-front c locals k [] = λ left clear. clear
blocks-front c locals k (b ∷ bs) = λ left clear. refl

name-same : (ns : List (List ℕ)) → (ns ++ []) ++ [] ≡ ns
name-same [] = refl
name-same (n ∷ ns) = ap (λ l. n ∷ l) (name-same ns)

pub blocks_spelt : (c : Crate) (locals : List Tree) (n k : ℕ) (bs : List TypedBlock) → AllOf (IsBlock c locals n) bs → k + length bs ≤ 2 ^ 32
    → Spelt (blocks_text c locals k bs) (λ strings. each_put block_put (blocks_rule c strings locals k bs)) (blocks_names bs)
unfolding blocks_text piece
blocks_spelt c locals n k [] h small = none
blocks_spelt c locals n k (b ∷ bs) h small =
    let first = subst (Spelt (block_text c locals k b) (λ strings. block_put (block_rule c strings locals k b))) (name-same (block_names b)) (block-spelt c locals n k b h.0 (omega arith)) in
    after empty_line (and_then first (blocks-front c locals (suc k) bs) (blocks_spelt c locals n (suc k) bs h.1 (omega arith)))

-- ---- back

pub all-left : {A : Type 0} (P : A → Type 0) (xs ys : List A) → AllOf P (xs ++ ys) → AllOf P xs
all-left P [] ys h = tt
all-left P (x ∷ xs) ys h = (h.0, all-left P xs ys h.1)

pub all-right : {A : Type 0} (P : A → Type 0) (xs ys : List A) → AllOf P (xs ++ ys) → AllOf P ys
all-right P [] ys h = h
all-right P (x ∷ xs) ys h = all-right P xs ys h.1

as-block : (a x : List TypedStmt) (b y : Term) → a ≡ x → b ≡ y → ◌≡◌ {A = TypedBlock} (record { stmts = a; term = b }) (record { stmts = x; term = y })
as-block a x b y e h = two-same (λ u v. let r : TypedBlock = record { stmts = u; term = v } in r) e h

block-back : (c : Crate) (strings : Strings) (L : Declared) (locals : List Tree) → Setting c strings L locals → (n k : ℕ) (b : TypedBlock) → IsBlock c locals n b → AllOf (Back strings) (block_names b)
    → block_named (names_at c strings) L (block_rule c strings locals k b) ≡ b
unfolding block_rule
block-back c strings L locals set n k b h kept = as-block _ _ _ _ (stmts_back c strings L locals set b.stmts h.stmts) (term_back c strings L locals set n b.term h.term kept)

pub blocks_back : (c : Crate) (strings : Strings) (L : Declared) (locals : List Tree) → Setting c strings L locals → (n k : ℕ) (bs : List TypedBlock) → AllOf (IsBlock c locals n) bs
    → AllOf (Back strings) (blocks_names bs) → map (block_named (names_at c strings) L) (blocks_rule c strings locals k bs) ≡ bs
blocks_back c strings L locals set n k [] h kept = refl
blocks_back c strings L locals set n k (b ∷ bs) h kept =
    two-same (λ u v. u ∷ v) (block-back c strings L locals set n k b h.0 (all-left (Back strings) (block_names b) (blocks_names bs) kept))
    (blocks_back c strings L locals set n (suc k) bs h.1 (all-right (Back strings) (block_names b) (blocks_names bs) kept))

-- ---- no fault

pub line-none : (n : ℕ) (codes : List ℕ) → codes ≡ [] → on_line n codes ≡ []
line-none n codes h = ap (on_line n) h

stmts-faultless : (c : Crate) (strings : Strings) (L : Declared) (locals : List Tree) → Setting c strings L locals → (xs : List TypedStmt) (lines : LinesFrom) → AllOf (IsStmt c locals) xs
    → each (stmt_faults (names_at c strings) L) (each_lined ended_put (map (stmt_rule c strings locals) xs) lines) ≡ []
stmts-faultless c strings L locals set [] lines h = refl
stmts-faultless c strings L locals set (x ∷ xs) lines h =
    two-same (λ u v. u ++ v) (line-none (first_line lines) _ (stmt_faultless c strings L locals set x h.0))
    (stmts-faultless c strings L locals set xs (past ended_put (stmt_rule c strings locals x) lines) h.1)

block-faultless : (c : Crate) (strings : Strings) (L : Declared) (locals : List Tree) → Setting c strings L locals → (labels : List ℕ) (n : ℕ) → HasLabels labels n → (k : ℕ) (b : TypedBlock) (lines : LinesFrom)
    → IsBlock c locals n b → block_faults (names_at c strings) L labels (block_lined (block_rule c strings locals k b) lines) ≡ []
unfolding block_rule
block-faultless c strings L locals set labels n has k b lines h =
    two-same (λ u v. u ++ v) (stmts-faultless c strings L locals set b.stmts _ h.stmts) (line-none _ _ (term_faultless c strings L locals set labels n has b.term h.term))

pub blocks_faultless : (c : Crate) (strings : Strings) (L : Declared) (locals : List Tree) → Setting c strings L locals → (labels : List ℕ) (n : ℕ) → HasLabels labels n → (k : ℕ) (bs : List TypedBlock) (lines : LinesFrom)
    → AllOf (IsBlock c locals n) bs → each (block_faults (names_at c strings) L labels) (blocks_lined (blocks_rule c strings locals k bs) lines) ≡ []
blocks_faultless c strings L locals set labels n has k [] lines h = refl
blocks_faultless c strings L locals set labels n has k (b ∷ bs) lines h =
    two-same (λ u v. u ++ v) (block-faultless c strings L locals set labels n has k b lines h.0)
    (blocks_faultless c strings L locals set labels n has (suc k) bs (past block_put (block_rule c strings locals k b) lines) h.1)

-- ---- labels

-- so many numbers from one on
abbrev pub numbers_from : ℕ → ℕ → List ℕ
numbers_from k zero = []
numbers_from k (suc n) = k ∷ numbers_from (suc k) n

pub block-labels : (c : Crate) (strings : Strings) (locals : List Tree) (k : ℕ) (bs : List TypedBlock) (lines : LinesFrom)
    → map (λ b. b.label) (blocks_lined (blocks_rule c strings locals k bs) lines) ≡ numbers_from k (length bs)
unfolding block_rule
block-labels c strings locals k [] lines = refl
block-labels c strings locals k (b ∷ bs) lines = ap (λ l. k ∷ l) (block-labels c strings locals (suc k) bs (past block_put (block_rule c strings locals k b) lines))

same-number : (n : ℕ) → nat_eq n n ≡ true
same-number n = grind (arith, nat_tests)

among-by : (k x : ℕ) (b : Bool) → k ≤ x → (suc k ≤ x → b ≡ true) → (nat_eq k x || b) ≡ true
among-by k x true h later = grind (arith, nat_tests)
among-by k x false h later = grind (arith, nat_tests)

pub among : (k n x : ℕ) → k ≤ x → x < k + n → is_among (numbers_from k n) x ≡ true
among k zero x h less = absurd (omega arith)
among k (suc n) x h less = among-by k x (is_among (numbers_from (suc k) n) x) h (λ later. among (suc k) n x later (omega arith))

pub in-order : (k n : ℕ) → in_order k (numbers_from k n) ≡ true
in-order k zero = refl
in-order k (suc n) = rw (same-number k) (in-order (suc k) n)

pub blocks-in-order : (n : ℕ) → 0 < n → blocks_in_order (numbers_from 0 n) ≡ true
blocks-in-order zero h = absurd (omega arith)
blocks-in-order (suc n) h = in-order 0 (suc n)

-- ---- good

block-good : (c : Crate) (strings : Strings) (locals : List Tree) (n k : ℕ) (b : TypedBlock) → IsBlock c locals n b → BlockGood (block_rule c strings locals k b)
unfolding block_rule
block-good c strings locals n k b h =
    (all-of-map StmtGood (stmt_rule c strings locals) b.stmts (all-map (stmt_good c strings locals) b.stmts h.stmts), term_good c strings locals n b.term h.term)

pub blocks_good : (c : Crate) (strings : Strings) (locals : List Tree) (n k : ℕ) (bs : List TypedBlock) → AllOf (IsBlock c locals n) bs → AllOf BlockGood (blocks_rule c strings locals k bs)
blocks_good c strings locals n k [] h = tt
blocks_good c strings locals n k (b ∷ bs) h = (block-good c strings locals n k b h.0, blocks_good c strings locals n (suc k) bs h.1)
