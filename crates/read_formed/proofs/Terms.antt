-- Terminators and blocks whose names have no fault are formed.
use Rattle.std.proofs.Common.{◌≡◌, ℕ, true, nat_lt, List, [], ◌∷◌, ◌++◌, map, Option, Some, None, is_some, refl, subst}
use Rattle.std.specs.List.{list_all, flat_map}
use Rattle.std.proofs.lemmas.Bool.{and_from}
use Rattle.mir_syntax.specs.declared.body.Term.{Term}
use Rattle.mir_syntax.specs.declared.body.Term.TheVariants as term
use Rattle.mir_syntax.specs.Crate.{TypedBody, Crate}
use Rattle.mir_text.specs.Words.{place_in}
use Rattle.mir_text.specs.Grammar.{items_of, AllOf}
use Rattle.mir_text.specs.GrammarTypes.{PathRule}
use Rattle.mir_text.specs.GrammarPlaces.{PlaceRule, OperandRule}
use Rattle.mir_text.specs.GrammarStatements.{StmtRule}
use Rattle.mir_text.specs.GrammarTerms as g
use Rattle.mir_text.specs.GrammarTerms.{ArmRule, TermRule, BlockRule, ended_put, block_put}
use Rattle.mir_text.specs.Names.{Names, path_bytes}
use Rattle.mir_text.specs.NamedBodies.{Declared, place_named, operand_named, function_or, called_by, or_first_function, arm_named, stmts_named, term_named, block_named}
use Rattle.mir_text.specs.PartLines.{LinesFrom, past, each_lined, block_lined, blocks_lined}
use Rattle.mir_text.specs.NameFaults.{on_line, each, each_item, is_among, place_codes, operand_codes, stmt_codes, target_codes, call_codes, arm_codes, term_codes, stmt_faults, block_faults}
use Rattle.mir_text.specs.Nesting.{OperandGood, TermGood, BlockGood}
use Rattle.mir_text.proofs.Codes.{unless_met, no_codes}
use Rattle.mir_syntax.specs.Parts.{operand_places, term_operands, term_places, arm_block, targets}
use Rattle.mir_rules.specs.Formed.{place_formed, operand_formed, callee_formed, call_formed, block_there, stmt_formed, term_formed, block_formed}
use Rattle.mir_rules.proofs.Lists.{append_empty-left, append_empty-right}
use Rattle.read_formed.proofs.Tests.{all_append, all_each, all_good}
use Rattle.read_formed.proofs.Types.{place_there}
use Rattle.read_formed.proofs.Knows.{Knows}
use Rattle.read_formed.proofs.Places.{Holds, place_named_formed, one-place, operand_named_formed}
use Rattle.read_formed.proofs.Operands.{Placed, passes, placed, operand_passes, one_placed, more_placed, items_placed, Fitting, one_fitting, more_fitting, items_fitting}
use Rattle.read_formed.proofs.Rvalues.{stmts_formed}

-- ---- callees

callee-by : (C : Crate) (N : Names) → Knows C N → (bytes : List ℕ) (a b : Option ℕ) → place_in N.functions bytes ≡ a → place_in N.outsides bytes ≡ b → is_some (function_or a b) ≡ true → callee_formed C (or_first_function (function_or a b)) ≡ true
callee-by C N knows bytes (Some f) b e k h = subst (λ n. nat_lt f n ≡ true) knows.functions (place_there f N.functions bytes e)
callee-by C N knows bytes None (Some o) e k h = subst (λ n. nat_lt o n ≡ true) knows.outsides (place_there o N.outsides bytes k)
callee-by C N knows bytes None None e k h = absurd cc

callee-formed : (C : Crate) (N : Names) → Knows C N → (path : PathRule) → call_codes N path ≡ [] → callee_formed C (or_first_function (called_by N path)) ≡ true
callee-formed C N knows path h =
    let bytes = path_bytes N.strings path in
    callee-by C N knows bytes (place_in N.functions bytes) (place_in N.outsides bytes) refl refl (unless_met (is_some (called_by N path)) 11 h)

module _ (C : Crate) (N : Names) (knows : Knows C N) (L : Declared) (labels : List ℕ) (b : TypedBody) (holds : Holds L labels b) where
  -- ---- targets

  target-there : (n : ℕ) → target_codes labels n ≡ [] → block_there b n ≡ true
  target-there n h = holds.blocks n (unless_met (is_among labels n) 15 h)

  one-target : (n : ℕ) → target_codes labels n ≡ [] → list_all (block_there b) (n ∷ []) ≡ true
  one-target n h = and_from (block_there b n) true (target-there n h) refl

  arms-there : (arms : List ArmRule) → each (arm_codes labels) arms ≡ [] → list_all (block_there b) (map arm_block (map arm_named arms)) ≡ true
  arms-there [] h = refl
  arms-there (a ∷ arms) h =
      and_from (block_there b a.1) (list_all (block_there b) (map arm_block (map arm_named arms))) (target-there a.1 (append_empty-left (arm_codes labels a) (each (arm_codes labels) arms) h))
      (arms-there arms (append_empty-right (arm_codes labels a) (each (arm_codes labels) arms) h))

  -- ---- terminators

  formed-by : (t : Term) → call_formed C t ≡ true → list_all operand_formed (term_operands t) ≡ true → list_all (place_formed b) (term_places t) ≡ true → list_all (block_there b) (targets t) ≡ true → term_formed C b t ≡ true
  unfolding term_formed
  formed-by t call fitting placed there =
      and_from (call_formed C t) _ call
      (and_from (list_all operand_formed (term_operands t)) _ fitting
      (and_from (list_all (place_formed b) (term_places t)) (list_all (block_there b) (targets t)) placed there))

  args-placed : (xs : List OperandRule) → each (operand_codes N L) xs ≡ [] → Placed b (map (operand_named N L) xs)
  args-placed xs h = placed b (map (operand_named N L) xs) (all_each (passes b) (operand_codes N L) (operand_named N L) (operand_passes N L labels b holds) xs h)

  args-fitting : (xs : List OperandRule) → AllOf OperandGood xs → Fitting (map (operand_named N L) xs)
  args-fitting xs h = all_good operand_formed OperandGood (operand_named N L) (operand_named_formed N L) xs h

  term-formed : (x : TermRule) → term_codes N L labels x ≡ [] → TermGood x → term_formed C b (term_named N L x) ≡ true
  term-formed (g.goto n) h good = formed-by (term.Goto n) refl refl refl (one-target n h)
  term-formed g.returns h good = formed-by term.Return refl refl refl refl
  term-formed g.never h good = formed-by term.Unreachable refl refl refl refl
  term-formed (g.switch x arms n) h good =
      let front = append_empty-left (operand_codes N L x ++ each (arm_codes labels) arms) (target_codes labels n) h in
      let last = append_empty-right (operand_codes N L x ++ each (arm_codes labels) arms) (target_codes labels n) h in
      formed-by (term_named N L (g.switch x arms n)) refl (one_fitting N L x good)
      (one_placed N L labels b holds x (append_empty-left (operand_codes N L x) (each (arm_codes labels) arms) front))
      (all_append (block_there b) (map arm_block (map arm_named arms)) (n ∷ []) (arms-there arms (append_empty-right (operand_codes N L x) (each (arm_codes labels) arms) front)) (one-target n last))
  term-formed (g.call q path xs n u) h good =
      let third = append_empty-left (place_codes N L q ++ call_codes N path ++ each_item (operand_codes N L) xs) (target_codes labels n) h in
      let second = append_empty-left (place_codes N L q ++ call_codes N path) (each_item (operand_codes N L) xs) third in
      let place = place_named_formed N L labels b holds q (append_empty-left (place_codes N L q) (call_codes N path) second) in
      let args = items_placed N L labels b holds xs (append_empty-right (place_codes N L q ++ call_codes N path) (each_item (operand_codes N L) xs) third) in
      formed-by (term_named N L (g.call q path xs n u)) (callee-formed C N knows path (append_empty-right (place_codes N L q) (call_codes N path) second)) (items_fitting N L xs good.1)
      (and_from (place_formed b (place_named N L q)) (list_all (place_formed b) (flat_map operand_places (items_of (operand_named N L) xs))) place args)
      (one-target n (append_empty-right (place_codes N L q ++ call_codes N path ++ each_item (operand_codes N L) xs) (target_codes labels n) h))
  term-formed (g.drop q n u) h good =
      formed-by (term_named N L (g.drop q n u)) refl refl (one-place N L labels b holds q (append_empty-left (place_codes N L q) (target_codes labels n) h)) (one-target n (append_empty-right (place_codes N L q) (target_codes labels n) h))
  term-formed (g.assert expected x message xs n u) h good =
      let front = append_empty-left (operand_codes N L x ++ each (operand_codes N L) xs) (target_codes labels n) h in
      formed-by (term_named N L (g.assert expected x message xs n u)) refl (more_fitting N L x (map (operand_named N L) xs) good.0 (args-fitting xs good.1))
      (more_placed N L labels b holds x (map (operand_named N L) xs) (append_empty-left (operand_codes N L x) (each (operand_codes N L) xs) front)
      (args-placed xs (append_empty-right (operand_codes N L x) (each (operand_codes N L) xs) front)))
      (one-target n (append_empty-right (operand_codes N L x ++ each (operand_codes N L) xs) (target_codes labels n) h))

  -- ---- blocks

  stmts-clean : (xs : List StmtRule) (lines : LinesFrom) → each (stmt_faults N L) (each_lined ended_put xs lines) ≡ [] → AllOf (λ x. stmt_codes N L x ≡ []) xs
  stmts-clean [] lines h = tt
  stmts-clean (x ∷ xs) lines h = (no_codes _ (stmt_codes N L x) (append_empty-left _ _ h), stmts-clean xs (past ended_put x lines) (append_empty-right _ _ h))

  block-formed : (k : BlockRule) (lines : LinesFrom) → block_faults N L labels (block_lined k lines) ≡ [] → BlockGood k → block_formed C b (block_named N L k) ≡ true
  block-formed k lines h good =
      let lined = block_lined k lines in
      let stmts = stmts-clean k.stmts _ (append_empty-left (each (stmt_faults N L) lined.stmts) (on_line lined.term.0 (term_codes N L labels k.term)) h) in
      let codes = no_codes lined.term.0 (term_codes N L labels k.term) (append_empty-right (each (stmt_faults N L) lined.stmts) (on_line lined.term.0 (term_codes N L labels k.term)) h) in
      and_from (list_all (stmt_formed C b) (stmts_named N L k.stmts)) (term_formed C b (term_named N L k.term)) (stmts_formed C N knows L labels b holds k.stmts stmts good.0) (term-formed k.term codes good.1)

  pub blocks_formed : (bs : List BlockRule) (lines : LinesFrom) → each (block_faults N L labels) (blocks_lined bs lines) ≡ [] → AllOf BlockGood bs → list_all (block_formed C b) (map (block_named N L) bs) ≡ true
  blocks_formed [] lines h good = refl
  blocks_formed (k ∷ bs) lines h good =
      and_from (block_formed C b (block_named N L k)) (list_all (block_formed C b) (map (block_named N L) bs)) (block-formed k lines (append_empty-left _ _ h) good.0)
      (blocks_formed bs (past block_put k lines) (append_empty-right (block_faults N L labels (block_lined k lines)) _ h) good.1)
