-- The statements, terminators and blocks that a derivation names are such as a canonical text writes.
use Rattle.mir_round_trip.specs.Names.{IsPath}
use Rattle.mir_round_trip.specs.Bodies.{names_at, IsOperand, IsLocal, IsStmt, IsTarget, IsArm, IsCallee, IsTerm, IsBlock}
use Rattle.std.proofs.Common.{◌≡◌, ◌<◌, ◌≤◌, ◌^◌, ℕ, true, List, [], ◌∷◌, ◌++◌, map, length, get_or, refl, sym, ap, ◌∙◌, arith, Option, Some, None, is_some}
use Rattle.mir_syntax.specs.Tree.{Tree}
use Rattle.mir_syntax.specs.Crate.{Crate}
use Rattle.mir_text.specs.Words.{place_in}
use Rattle.mir_text.specs.Grammar.{AllOf}
use Rattle.mir_text.specs.GrammarPlaces.{OperandRule}
use Rattle.mir_text.specs.GrammarStatements as r
use Rattle.mir_text.specs.GrammarStatements.{StmtRule}
use Rattle.mir_text.specs.GrammarTerms as g
use Rattle.mir_text.specs.GrammarTerms.{ArmRule, TermRule, BlockRule}
use Rattle.mir_text.specs.Names.{Strings, path_bytes}
use Rattle.mir_text.specs.NamedBodies.{Declared, operand_named, function_or, or_first_function, arm_named, stmt_named, stmts_named, term_named, block_named}
use Rattle.mir_text.specs.NameFaults.{each, each_item, is_among, local_codes, place_codes, operand_codes, stmt_codes, target_codes, call_codes, arm_codes, term_codes}
use Rattle.mir_text.specs.Nesting.{OperandGood, StmtGood, TermGood, BlockGood}
use Rattle.mir_text.specs.ReadLines.{operand_places, stmt_places, term_places}
use Rattle.mir_text.specs.TermText.{function_paths, outside_paths, callee_path}
use Rattle.mir_text.proofs.Numbered.{place_from-there}
use Rattle.mir_text.proofs.Codes.{unless_met}
use Rattle.mir_rules.proofs.Lists.{append_empty-left, append_empty-right}
use Rattle.mir_round_trip.proofs.Numbering.{stands-at}
use Rattle.mir_round_trip.proofs.Spelling.{all-append}
use Rattle.mir_round_trip.proofs.Blocks.{all-left, all-right}
use Rattle.mir_round_trip.proofs.TermsBack.{all-at}
use Rattle.mir_round_trip.proofs.Carried.{ArmNice, TermNice}
use Rattle.mir_round_trip.proofs.PlacesWritten.{Given, Read, place_written}
use Rattle.mir_round_trip.proofs.OperandsWritten.{operand_written, operands_written, rvalue_written}

-- ---- statements

local-written : (c : Crate) (strings : Strings) (L : Declared) (locals : List Tree) → Given c strings L locals → (x : ℕ) → local_codes L x ≡ [] → IsLocal locals x
local-written c strings L locals given x codes =
    let less = given.there x (unless_met _ 14 codes) in
    let few = given.few in
    record { there = less; small = omega arith }

stmt-written : (c : Crate) (strings : Strings) (L : Declared) (locals : List Tree) → Given c strings L locals → (x : StmtRule) → AllOf (Read c strings L) (stmt_places x)
    → stmt_codes (names_at c strings) L x ≡ [] → StmtGood x → AllOf (IsStmt c locals) (stmt_named (names_at c strings) L x)
unfolding IsStmt
stmt-written c strings L locals given (r.assign q x) h codes good = (
  (
    place_written c strings L locals given q h.0 (append_empty-left (place_codes (names_at c strings) L q) _ codes) good.0,
    rvalue_written c strings L locals given x h.1 (append_empty-right (place_codes (names_at c strings) L q) _ codes) good.1,
  ),
  tt,
)
stmt-written c strings L locals given r.nop h codes good = tt
stmt-written c strings L locals given (r.live x) h codes good = (local-written c strings L locals given x codes, tt)
stmt-written c strings L locals given (r.dead x) h codes good = (local-written c strings L locals given x codes, tt)
stmt-written c strings L locals given (r.set q k) h codes good = ((place_written c strings L locals given q h.0 codes good.0, good.1), tt)

pub stmts_written : (c : Crate) (strings : Strings) (L : Declared) (locals : List Tree) → Given c strings L locals → (xs : List StmtRule) → AllOf (λ x. AllOf (Read c strings L) (stmt_places x)) xs
    → AllOf (λ x. stmt_codes (names_at c strings) L x ≡ []) xs → AllOf StmtGood xs → AllOf (IsStmt c locals) (stmts_named (names_at c strings) L xs)
stmts_written c strings L locals given [] h codes good = tt
stmts_written c strings L locals given (x ∷ xs) h codes good =
    all-append (IsStmt c locals) (stmt_named (names_at c strings) L x) (stmts_named (names_at c strings) L xs) (stmt-written c strings L locals given x h.0 codes.0 good.0)
    (stmts_written c strings L locals given xs h.1 codes.1 good.1)

-- ---- callees

-- paths of functions and outside functions are such
pub record CallsKnown (c : Crate) : Type 0 where
  pub functions : AllOf IsPath (function_paths c.functions)
  pub outsides : AllOf IsPath (outside_paths c.outsides)

place-back : (paths : List (List ℕ)) (bytes : List ℕ) (n : ℕ) → place_in paths bytes ≡ Some n → get_or paths n [] ≡ bytes
place-back paths bytes n h =
    let at = stands-at 0 n paths bytes h in
    let same : at.0 ≡ n = omega (arith, at.1) in
    ap (λ k. get_or paths k []) (sym same) ∙ at.2

callee-by : (c : Crate) (bytes : List ℕ) (a b : Option ℕ) → CallsKnown c → place_in (function_paths c.functions) bytes ≡ a → place_in (outside_paths c.outsides) bytes ≡ b
    → is_some (function_or a b) ≡ true → IsCallee c (or_first_function (function_or a b))
unfolding callee_path
callee-by c bytes (Some f) b known e k h =
    let less = place_from-there 0 f (function_paths c.functions) bytes e in
    let there : f < length (function_paths c.functions) = omega (arith, less) in
    let path = place-back (function_paths c.functions) bytes f e in
    record { path = all-at IsPath [] (function_paths c.functions) f known.functions there; is = (there, ap (place_in (function_paths c.functions)) path ∙ e) }
callee-by c bytes None (Some o) known e k h =
    let less = place_from-there 0 o (outside_paths c.outsides) bytes k in
    let there : o < length (outside_paths c.outsides) = omega (arith, less) in
    let path = place-back (outside_paths c.outsides) bytes o k in
    record {
      path = all-at IsPath [] (outside_paths c.outsides) o known.outsides there;
      is = (there, ap (place_in (function_paths c.functions)) path ∙ e, ap (place_in (outside_paths c.outsides)) path ∙ k);
    }
callee-by c bytes None None known e k h = absurd cc

-- ---- terminators

-- the labels of so many blocks
pub record Labelled (labels : List ℕ) (n : ℕ) : Type 0 where
  pub below : (b : ℕ) → is_among labels b ≡ true → b < n
  pub few : n ≤ 2 ^ 32

target-written : (labels : List ℕ) (n b : ℕ) → Labelled labels n → target_codes labels b ≡ [] → IsTarget n b
target-written labels n b is codes =
    let less = is.below b (unless_met _ 15 codes) in
    let few = is.few in
    record { there = less; small = omega arith }

arms-written : (labels : List ℕ) (n : ℕ) (arms : List ArmRule) → Labelled labels n → each (arm_codes labels) arms ≡ [] → AllOf ArmNice arms → AllOf (IsArm n) (map arm_named arms)
arms-written labels n [] is codes nice = tt
arms-written labels n (a ∷ arms) is codes nice =
    (record { value = nice.0; block = target-written labels n a.1 is (append_empty-left (arm_codes labels a) _ codes) }, arms-written labels n arms is (append_empty-right (arm_codes labels a) _ codes) nice.1)

args-written : (c : Crate) (strings : Strings) (L : Declared) (locals : List Tree) → Given c strings L locals → (xs : List OperandRule) → AllOf (Read c strings L) (each operand_places xs)
    → each (operand_codes (names_at c strings) L) xs ≡ [] → AllOf OperandGood xs → AllOf (IsOperand c locals) (map (operand_named (names_at c strings) L) xs)
args-written c strings L locals given [] h codes good = tt
args-written c strings L locals given (x ∷ xs) h codes good = (
  operand_written c strings L locals given x (all-left (Read c strings L) (operand_places x) _ h) (append_empty-left (operand_codes (names_at c strings) L x) _ codes) good.0,
  args-written c strings L locals given xs (all-right (Read c strings L) (operand_places x) _ h) (append_empty-right (operand_codes (names_at c strings) L x) _ codes) good.1,
)

pub term_written : (c : Crate) (strings : Strings) (L : Declared) (locals : List Tree) → Given c strings L locals → CallsKnown c → (labels : List ℕ) (n : ℕ) → Labelled labels n → (x : TermRule)
    → AllOf (Read c strings L) (term_places x) → term_codes (names_at c strings) L labels x ≡ [] → TermGood x → TermNice strings x → IsTerm c locals n (term_named (names_at c strings) L x)
unfolding IsTerm
term_written c strings L locals given known labels n is (g.goto b) h codes good nice = target-written labels n b is codes
term_written c strings L locals given known labels n is g.returns h codes good nice = tt
term_written c strings L locals given known labels n is g.never h codes good nice = tt
term_written c strings L locals given known labels n is (g.switch x arms b) h codes good nice =
    let N = names_at c strings in
    let front = append_empty-left (operand_codes N L x ++ each (arm_codes labels) arms) (target_codes labels b) codes in (
      operand_written c strings L locals given x h (append_empty-left (operand_codes N L x) _ front) good,
      arms-written labels n arms is (append_empty-right (operand_codes N L x) _ front) nice,
      target-written labels n b is (append_empty-right (operand_codes N L x ++ each (arm_codes labels) arms) (target_codes labels b) codes),
    )
term_written c strings L locals given known labels n is (g.call q path xs b u) h codes good nice =
    let N = names_at c strings in
    let third = append_empty-left (place_codes N L q ++ call_codes N path ++ each_item (operand_codes N L) xs) (target_codes labels b) codes in
    let second = append_empty-left (place_codes N L q ++ call_codes N path) (each_item (operand_codes N L) xs) third in
    let callee = unless_met _ 11 (append_empty-right (place_codes N L q) (call_codes N path) second) in (
      place_written c strings L locals given q h.0 (append_empty-left (place_codes N L q) (call_codes N path) second) good.0,
      callee-by c (path_bytes strings path) _ _ known refl refl callee,
      operands_written c strings L locals given xs h.1 (append_empty-right (place_codes N L q ++ call_codes N path) (each_item (operand_codes N L) xs) third) good.1,
      target-written labels n b is (append_empty-right (place_codes N L q ++ call_codes N path ++ each_item (operand_codes N L) xs) (target_codes labels b) codes),
    )
term_written c strings L locals given known labels n is (g.drop q b u) h codes good nice =
    let N = names_at c strings in (
      place_written c strings L locals given q h.0 (append_empty-left (place_codes N L q) (target_codes labels b) codes) good,
      target-written labels n b is (append_empty-right (place_codes N L q) (target_codes labels b) codes),
    )
term_written c strings L locals given known labels n is (g.assert expected x message xs b u) h codes good nice =
    let N = names_at c strings in
    let front = append_empty-left (operand_codes N L x ++ each (operand_codes N L) xs) (target_codes labels b) codes in (
      operand_written c strings L locals given x (all-left (Read c strings L) (operand_places x) _ h) (append_empty-left (operand_codes N L x) _ front) good.0,
      nice,
      args-written c strings L locals given xs (all-right (Read c strings L) (operand_places x) _ h) (append_empty-right (operand_codes N L x) _ front) good.1,
      target-written labels n b is (append_empty-right (operand_codes N L x ++ each (operand_codes N L) xs) (target_codes labels b) codes),
    )

-- ---- blocks

-- what is said of a block's parts
pub record BlockRead (c : Crate) (strings : Strings) (L : Declared) (labels : List ℕ) (b : BlockRule) : Type 0 where
  pub stmts : AllOf (λ x. AllOf (Read c strings L) (stmt_places x)) b.stmts
  pub stmt_codes : AllOf (λ x. stmt_codes (names_at c strings) L x ≡ []) b.stmts
  pub term : AllOf (Read c strings L) (term_places b.term)
  pub term_codes : term_codes (names_at c strings) L labels b.term ≡ []
  pub good : BlockGood b
  pub nice : TermNice strings b.term

pub blocks_written : (c : Crate) (strings : Strings) (L : Declared) (locals : List Tree) → Given c strings L locals → CallsKnown c → (labels : List ℕ) (n : ℕ) → Labelled labels n → (bs : List BlockRule)
    → AllOf (BlockRead c strings L labels) bs → AllOf (IsBlock c locals n) (map (block_named (names_at c strings) L) bs)
blocks_written c strings L locals given known labels n is [] h = tt
blocks_written c strings L locals given known labels n is (b ∷ bs) h = (
  record {
    stmts = stmts_written c strings L locals given b.stmts h.0.stmts h.0.stmt_codes h.0.good.0;
    term = term_written c strings L locals given known labels n is b.term h.0.term h.0.term_codes h.0.good.1 h.0.nice;
  },
  blocks_written c strings L locals given known labels n is bs h.1,
)
