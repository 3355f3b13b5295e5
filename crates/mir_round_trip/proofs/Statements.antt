-- Statements: the rule that writes one, its text, and back.
use Rattle.mir_round_trip.specs.Bodies.{IsLocal, IsStmt, names_at}
use Rattle.std.proofs.Common.{◌≡◌, ◌≤◌, ℕ, List, [], ◌∷◌, ◌++◌, map, refl, ap, arith, decimal, is_some}
use Rattle.mir_syntax.specs.Tree.{Tree}
use Rattle.mir_syntax.specs.Crate as C
use Rattle.mir_syntax.specs.Crate.{Crate, TypedStmt}
use Rattle.mir_rules.proofs.Lists.{append_empty}
use Rattle.mir_text.specs.declared.symbol.Symbol.TheVariants as s
use Rattle.mir_text.specs.Grammar.{AllOf, each_put}
use Rattle.mir_text.specs.GrammarStatements as r
use Rattle.mir_text.specs.GrammarStatements.{StmtRule, stmt_put}
use Rattle.mir_text.specs.GrammarTerms.{ended_put}
use Rattle.mir_text.specs.Names.{Strings}
use Rattle.mir_text.specs.NamedBodies.{Declared, stmt_named, stmts_named}
use Rattle.mir_text.specs.NameFaults.{local_codes, stmt_codes}
use Rattle.mir_text.specs.Nesting.{StmtGood}
use Rattle.mir_text.specs.TypeText.{piece}
use Rattle.mir_text.specs.StatementText.{stmt_text, stmt_line, stmts_text}
use Rattle.mir_round_trip.proofs.Spelling.{Spelt, after, and_then, alone, none}
use Rattle.mir_round_trip.proofs.Atoms.{number_spelt, local_spelt}
use Rattle.mir_round_trip.proofs.Literals.{close_sign, discriminant_open, equals_sign, live_open, dead_open, close_equals, eight_spaces, end_of_line}
use Rattle.mir_round_trip.proofs.Meaning.{met}
use Rattle.mir_round_trip.proofs.Places.{place_rule, place_spelt}
use Rattle.mir_round_trip.proofs.PlacesBack.{Setting, place_back, place_faultless, place_good}
use Rattle.mir_round_trip.proofs.Lists.{Front}
use Rattle.mir_round_trip.proofs.Rvalues.{rvalue_rule, rvalue_spelt, two-same, rvalue_back, rvalue_faultless, rvalue_good}

unfoldable pub stmt_rule : Crate → Strings → List Tree → TypedStmt → StmtRule
stmt_rule c strings locals (C.assign q x) = r.assign (place_rule c strings locals q) (rvalue_rule c strings locals x)
stmt_rule c strings locals (C.storage_live x) = r.live x
stmt_rule c strings locals (C.storage_dead x) = r.dead x
stmt_rule c strings locals (C.set_discriminant q k) = r.set (place_rule c strings locals q) k

-- ---- statements that a text writes

-- ---- its text

small-number : (k : ℕ) → k ≤ 4294967295 → Spelt (decimal k) (λ strings rest. s.Number k ∷ rest) []
small-number k h = number_spelt k (omega arith)

stmt-spelt : (c : Crate) (locals : List Tree) (x : TypedStmt) → IsStmt c locals x → Spelt (stmt_text c locals x) (λ strings. stmt_put (stmt_rule c strings locals x)) []
unfolding stmt_text stmt_rule IsStmt piece
stmt-spelt c locals (C.assign q x) h = and_then (place_spelt c locals q h.0) (λ left clear. refl) (after equals_sign (rvalue_spelt c locals x h.1))
stmt-spelt c locals (C.storage_live x) h = after live_open (and_then (local_spelt x h.small) (λ left clear. refl) (alone close_sign))
stmt-spelt c locals (C.storage_dead x) h = after dead_open (and_then (local_spelt x h.small) (λ left clear. refl) (alone close_sign))
stmt-spelt c locals (C.set_discriminant q k) h =
    after discriminant_open (and_then (place_spelt c locals q h.0) (λ left clear. refl) (after close_equals (small-number k h.1)))

line-spelt : (c : Crate) (locals : List Tree) (x : TypedStmt) → IsStmt c locals x → Spelt (stmt_line c locals x) (λ strings. ended_put (stmt_rule c strings locals x)) []
unfolding stmt_line piece
line-spelt c locals x h = after eight_spaces (and_then (stmt-spelt c locals x h) (λ left clear. refl) (alone end_of_line))

stmts-front : (c : Crate) (locals : List Tree) (xs : List TypedStmt) → Front (stmts_text c locals xs)
unfolding stmts_text stmt_line piece
stmts-front c locals [] = λ left clear. clear
stmts-front c locals (x ∷ xs) = λ left clear. refl

pub stmts_spelt : (c : Crate) (locals : List Tree) (xs : List TypedStmt) → AllOf (IsStmt c locals) xs → Spelt (stmts_text c locals xs) (λ strings. each_put ended_put (map (stmt_rule c strings locals) xs)) []
unfolding stmts_text
stmts_spelt c locals [] h = none
stmts_spelt c locals (x ∷ xs) h = and_then (line-spelt c locals x h.0) (stmts-front c locals xs) (stmts_spelt c locals xs h.1)

-- ---- back

stmt-back : (c : Crate) (strings : Strings) (L : Declared) (locals : List Tree) → Setting c strings L locals → (x : TypedStmt) → IsStmt c locals x
    → stmt_named (names_at c strings) L (stmt_rule c strings locals x) ≡ x ∷ []
unfolding stmt_rule IsStmt
stmt-back c strings L locals set (C.assign q x) h = two-same (λ a b. C.assign a b ∷ []) (place_back c strings L locals set q h.0) (rvalue_back c strings L locals set x h.1)
stmt-back c strings L locals set (C.storage_live x) h = refl
stmt-back c strings L locals set (C.storage_dead x) h = refl
stmt-back c strings L locals set (C.set_discriminant q k) h = ap (λ a. C.set_discriminant a k ∷ []) (place_back c strings L locals set q h.0)

pub stmts_back : (c : Crate) (strings : Strings) (L : Declared) (locals : List Tree) → Setting c strings L locals → (xs : List TypedStmt) → AllOf (IsStmt c locals) xs
    → stmts_named (names_at c strings) L (map (stmt_rule c strings locals) xs) ≡ xs
stmts_back c strings L locals set [] h = refl
stmts_back c strings L locals set (x ∷ xs) h = two-same (λ a b. a ++ b) (stmt-back c strings L locals set x h.0) (stmts_back c strings L locals set xs h.1)

-- ---- no fault

local-faultless : (c : Crate) (strings : Strings) (L : Declared) (locals : List Tree) → Setting c strings L locals → (x : ℕ) → IsLocal locals x → local_codes L x ≡ []
local-faultless c strings L locals set x h = met _ 14 (ap is_some (set.declares x h.there))

pub stmt_faultless : (c : Crate) (strings : Strings) (L : Declared) (locals : List Tree) → Setting c strings L locals → (x : TypedStmt) → IsStmt c locals x
    → stmt_codes (names_at c strings) L (stmt_rule c strings locals x) ≡ []
unfolding stmt_rule IsStmt
stmt_faultless c strings L locals set (C.assign q x) h = append_empty _ _ (place_faultless c strings L locals set q h.0) (rvalue_faultless c strings L locals set x h.1)
stmt_faultless c strings L locals set (C.storage_live x) h = local-faultless c strings L locals set x h
stmt_faultless c strings L locals set (C.storage_dead x) h = local-faultless c strings L locals set x h
stmt_faultless c strings L locals set (C.set_discriminant q k) h = place_faultless c strings L locals set q h.0

-- ---- good

pub stmt_good : (c : Crate) (strings : Strings) (locals : List Tree) (x : TypedStmt) → IsStmt c locals x → StmtGood (stmt_rule c strings locals x)
unfolding stmt_rule IsStmt
stmt_good c strings locals (C.assign q x) h = (place_good c strings locals q h.0, rvalue_good c strings locals x h.1)
stmt_good c strings locals (C.storage_live x) h = tt
stmt_good c strings locals (C.storage_dead x) h = tt
stmt_good c strings locals (C.set_discriminant q k) h = (place_good c strings locals q h.0, h.1)
