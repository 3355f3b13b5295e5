-- Lists of operands: the places in them are formed, and the constants fit.
use Rattle.std.proofs.Common.{◌≡◌, ℕ, Bool, true, List, [], ◌∷◌, refl}
use Rattle.std.specs.List.{list_all, flat_map}
use Rattle.std.proofs.lemmas.Bool.{and_from}
use Rattle.mir_syntax.specs.declared.body.Operand.{Operand}
use Rattle.mir_syntax.specs.Crate.{TypedBody}
use Rattle.mir_text.specs.Grammar.{Items, items_of, AllItems}
use Rattle.mir_text.specs.GrammarPlaces.{OperandRule}
use Rattle.mir_text.specs.GrammarStatements as r
use Rattle.mir_text.specs.GrammarStatements.{BuildRule}
use Rattle.mir_text.specs.Names.{Names}
use Rattle.mir_text.specs.NamedBodies.{Declared, operand_named, parts_named}
use Rattle.mir_text.specs.NameFaults.{each_item, operand_codes, named_operand_codes, parts_codes}
use Rattle.mir_text.specs.Nesting.{OperandGood, NamedGood, PartsGood}
use Rattle.mir_syntax.specs.Parts.{operand_places}
use Rattle.mir_rules.specs.Formed.{place_formed, operand_formed}
use Rattle.read_formed.proofs.Tests.{all_append, all_flat, all_items, all_good_items}
use Rattle.read_formed.proofs.Places.{Holds, operand_places_formed, operand_named_formed}

-- the places of operands are formed
abbrev pub passes : TypedBody → Operand → Bool
passes b a = list_all (place_formed b) (operand_places a)

abbrev pub Placed : TypedBody → List Operand → Type 0
Placed b xs = list_all (place_formed b) (flat_map operand_places xs) ≡ true

pub placed : (b : TypedBody) (xs : List Operand) → list_all (passes b) xs ≡ true → Placed b xs
placed b xs h = all_flat (place_formed b) operand_places xs h

module _ (N : Names) (L : Declared) (labels : List ℕ) (b : TypedBody) (holds : Holds L labels b) where
  pub operand_passes : (x : OperandRule) → operand_codes N L x ≡ [] → passes b (operand_named N L x) ≡ true
  operand_passes x h = operand_places_formed N L labels b holds x h

  pub one_placed : (x : OperandRule) → operand_codes N L x ≡ [] → Placed b (operand_named N L x ∷ [])
  one_placed x h = placed b (operand_named N L x ∷ []) (and_from (passes b (operand_named N L x)) true (operand_passes x h) refl)

  pub more_placed : (x : OperandRule) (xs : List Operand) → operand_codes N L x ≡ [] → Placed b xs → Placed b (operand_named N L x ∷ xs)
  more_placed x xs h k = all_append (place_formed b) (operand_places (operand_named N L x)) (flat_map operand_places xs) (operand_passes x h) k

  pub items_placed : (xs : Items OperandRule) → each_item (operand_codes N L) xs ≡ [] → Placed b (items_of (operand_named N L) xs)
  items_placed xs h = placed b (items_of (operand_named N L) xs) (all_items (passes b) (operand_codes N L) (operand_named N L) operand_passes xs h)

  pub parts_placed : (x : BuildRule) → parts_codes N L x ≡ [] → Placed b (parts_named N L x)
  parts_placed r.plain h = refl
  parts_placed (r.tupled xs) h = items_placed xs h
  parts_placed (r.labelled xs) h =
      placed b (items_of (λ x. operand_named N L x.1) xs) (all_items (passes b) (named_operand_codes N L) (λ x. operand_named N L x.1) (λ x k. operand_passes x.1 k) xs h)

-- ---- constants

-- the constants of operands fit their types
abbrev pub Fitting : List Operand → Type 0
Fitting xs = list_all operand_formed xs ≡ true

module _ (N : Names) (L : Declared) where
  pub one_fitting : (x : OperandRule) → OperandGood x → Fitting (operand_named N L x ∷ [])
  one_fitting x h = and_from (operand_formed (operand_named N L x)) true (operand_named_formed N L x h) refl

  pub more_fitting : (x : OperandRule) (xs : List Operand) → OperandGood x → Fitting xs → Fitting (operand_named N L x ∷ xs)
  more_fitting x xs h k = and_from (operand_formed (operand_named N L x)) (list_all operand_formed xs) (operand_named_formed N L x h) k

  pub items_fitting : (xs : Items OperandRule) → AllItems OperandGood xs → Fitting (items_of (operand_named N L) xs)
  items_fitting xs h = all_good_items operand_formed OperandGood (operand_named N L) (operand_named_formed N L) xs h

  pub parts_fitting : (x : BuildRule) → PartsGood x → Fitting (parts_named N L x)
  parts_fitting r.plain h = refl
  parts_fitting (r.tupled xs) h = items_fitting xs h
  parts_fitting (r.labelled xs) h = all_good_items operand_formed NamedGood (λ x. operand_named N L x.1) (λ x k. operand_named_formed N L x.1 k) xs h
