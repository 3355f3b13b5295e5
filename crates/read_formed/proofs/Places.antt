-- Places and operands whose names have no fault are formed.
use Rattle.std.proofs.Common.{◌≡◌, ℕ, true, nat_lt, List, [], ◌∷◌, ◌++◌, length, is_some, refl}
use Rattle.std.specs.List.{list_all}
use Rattle.std.proofs.lemmas.Bool.{and_from, and_parts}
use Rattle.mir_syntax.specs.declared.body.Proj.{Proj}
use Rattle.mir_syntax.specs.declared.body.Proj.TheVariants.{Field, Downcast, Deref}
use Rattle.mir_syntax.specs.Crate.{TypedBody}
use Rattle.mir_text.specs.GrammarPlaces as p
use Rattle.mir_text.specs.GrammarPlaces.{PlaceRule, OperandRule}
use Rattle.mir_text.specs.Names.{Names}
use Rattle.mir_text.specs.NamedBodies.{Declared, declared_ty, variant_at_place, or_zero, local_in, projs_named, place_named, operand_named}
use Rattle.mir_text.specs.NameFaults.{unless, is_among, type_codes, place_codes, operand_codes}
use Rattle.mir_text.specs.Nesting.{OperandGood}
use Rattle.mir_text.proofs.Codes.{unless_met}
use Rattle.mir_syntax.specs.Parts.{operand_places, begins_with_field, path_formed}
use Rattle.mir_rules.specs.Formed.{place_formed, operand_formed}
use Rattle.mir_rules.proofs.Lists.{append_empty-left}
use Rattle.read_formed.proofs.Values.{value_formed}

-- ---- projections

begins-more : (ps qs : List Proj) → begins_with_field ps ≡ true → begins_with_field (ps ++ qs) ≡ true
begins-more [] qs h = absurd cc
begins-more (Field i ∷ ps) qs h = refl
begins-more (Downcast k ∷ ps) qs h = absurd cc
begins-more (Deref ∷ ps) qs h = absurd cc

path-more : (ps qs : List Proj) → path_formed ps ≡ true → path_formed qs ≡ true → path_formed (ps ++ qs) ≡ true
path-more [] qs h k = k
path-more (Field i ∷ ps) qs h k = path-more ps qs h k
path-more (Downcast i ∷ ps) qs h k =
    let (first, rest) = and_parts (begins_with_field ps) (path_formed ps) h in
    and_from (begins_with_field (ps ++ qs)) (path_formed (ps ++ qs)) (begins-more ps qs first) (path-more ps qs rest k)
path-more (Deref ∷ ps) qs h k = path-more ps qs h k

projs-formed : (N : Names) (L : Declared) (q : PlaceRule) → path_formed (projs_named N L q) ≡ true
projs-formed N L (p.local x) = refl
projs-formed N L (p.deref q) = path-more (projs_named N L q) (Deref ∷ []) (projs-formed N L q) refl
projs-formed N L (p.field q n u) = path-more (projs_named N L q) (Field n ∷ []) (projs-formed N L q) refl
projs-formed N L (p.variant_field q v n u) = path-more (projs_named N L q) (Downcast (or_zero (variant_at_place N L q v)) ∷ Field n ∷ []) (projs-formed N L q) refl

-- ---- what a body holds

-- the declared locals, and the blocks of the labels
pub record Holds (L : Declared) (labels : List ℕ) (b : TypedBody) : Type 0 where
  pub locals : (x : ℕ) → is_some (declared_ty L x) ≡ true → nat_lt x (length b.locals) ≡ true
  pub blocks : (n : ℕ) → is_among labels n ≡ true → nat_lt n (length b.blocks) ≡ true

module _ (N : Names) (L : Declared) (labels : List ℕ) (b : TypedBody) (holds : Holds L labels b) where
  -- ---- places

  local-there : (q : PlaceRule) → place_codes N L q ≡ [] → nat_lt (local_in q) (length b.locals) ≡ true
  local-there (p.local x) h = holds.locals x (unless_met (is_some (declared_ty L x)) 14 h)
  local-there (p.deref q) h = local-there q h
  local-there (p.field q n u) h = local-there q (append_empty-left (place_codes N L q) (type_codes N u) h)
  local-there (p.variant_field q v n u) h =
      let front = append_empty-left (place_codes N L q ++ unless (is_some (variant_at_place N L q v)) 13) (type_codes N u) h in
      local-there q (append_empty-left (place_codes N L q) (unless (is_some (variant_at_place N L q v)) 13) front)

  pub place_named_formed : (q : PlaceRule) → place_codes N L q ≡ [] → place_formed b (place_named N L q) ≡ true
  place_named_formed q h = and_from (nat_lt (local_in q) (length b.locals)) (path_formed (projs_named N L q)) (local-there q h) (projs-formed N L q)

  -- ---- operands

  pub one-place : (q : PlaceRule) → place_codes N L q ≡ [] → list_all (place_formed b) (place_named N L q ∷ []) ≡ true
  one-place q h = and_from (place_formed b (place_named N L q)) true (place_named_formed q h) refl

  pub operand_places_formed : (x : OperandRule) → operand_codes N L x ≡ [] → list_all (place_formed b) (operand_places (operand_named N L x)) ≡ true
  operand_places_formed (p.copy q) h = one-place q h
  operand_places_formed (p.move q) h = one-place q h
  operand_places_formed (p.bare q) h = one-place q h
  operand_places_formed (p.const v) h = refl

pub operand_named_formed : (N : Names) (L : Declared) (x : OperandRule) → OperandGood x → operand_formed (operand_named N L x) ≡ true
operand_named_formed N L (p.copy q) h = refl
operand_named_formed N L (p.move q) h = refl
operand_named_formed N L (p.bare q) h = refl
operand_named_formed N L (p.const v) h = value_formed v h
