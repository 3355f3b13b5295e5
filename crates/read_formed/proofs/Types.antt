-- A type whose paths are known is formed; so are the structs and enums, and the outside functions, that a file names.
use Rattle.std.proofs.Common.{◌≡◌, ℕ, Bool, true, false, nat_lt, List, [], map, length, Option, Some, None, is_some, refl, subst, arith}
use Rattle.std.specs.List.{list_all}
use Rattle.std.proofs.lemmas.Bool.{and_from, and_parts, lt-ltb}
use Rattle.mir_syntax.specs.Crate.{Crate}
use Rattle.mir_text.specs.Words.{place_in}
use Rattle.mir_text.specs.GrammarTypes as t
use Rattle.mir_text.specs.GrammarTypes.{TypeRule, TypesRule, types_in}
use Rattle.mir_text.specs.GrammarItems as m
use Rattle.mir_text.specs.GrammarItems.{FieldsRule, VariantRule, ItemRule}
use Rattle.mir_text.specs.Grammar.{Items, items_of}
use Rattle.mir_text.specs.Names.{Names, string_at, path_bytes, named_or, ty_of, type_named, types_named, is_known, are_known, part_named, field_named, fields_named, variant_named, def_in, def_named}
use Rattle.mir_text.specs.Naming.{outside_in}
use Rattle.mir_text.specs.NameFaults.{unless, each_item, none_twice, type_codes, fields_codes, other_codes}
use Rattle.mir_rules.specs.Formed.{type_formed, field_formed, variant_formed, def_formed, outside_formed}
use Rattle.mir_rules.proofs.Lists.{append_empty-left, append_empty-right}
use Rattle.mir_text.proofs.Numbered.{place_from-there}
use Rattle.mir_text.proofs.Codes.{unless_met}
use Rattle.read_formed.proofs.Tests.{all_items}

-- the place of a text in a list
pub place_there : (n : ℕ) (texts : List (List ℕ)) (bytes : List ℕ) → place_in texts bytes ≡ Some n → nat_lt n (length texts) ≡ true
place_there n texts bytes h = let less = place_from-there 0 n texts bytes h in lt-ltb n (length texts) (omega (arith, less))

module _ (C : Crate) (N : Names) (many : length N.paths ≡ length C.defs) where
  -- ---- types

  named-formed : (bytes : List ℕ) (o : Option ℕ) → place_in N.paths bytes ≡ o → is_some o ≡ true → type_formed C (named_or (length N.paths) o) ≡ true
  named-formed bytes None e h = absurd cc
  named-formed bytes (Some d) e h = subst (λ n. nat_lt d n ≡ true) many (place_there d N.paths bytes e)

  mutual
    known-formed : (u : TypeRule) → is_known N.strings N.paths u ≡ true → type_formed C (type_named N.strings N.paths u) ≡ true
    known-formed (t.int x) h = refl
    known-formed t.bool h = refl
    known-formed (t.ref true u) h = known-formed u h
    known-formed (t.ref false u) h = known-formed u h
    known-formed (t.path q) h = named-formed (path_bytes N.strings q) (place_in N.paths (path_bytes N.strings q)) refl h
    known-formed t.unit h = refl
    known-formed (t.tuple u us) h =
        let (first, rest) = and_parts (is_known N.strings N.paths u) (are_known N.strings N.paths us) h in
        and_from _ _ (known-formed u first) (all-known-formed us rest)

    all-known-formed : (us : TypesRule) → are_known N.strings N.paths us ≡ true → type_formed C (types_named N.strings N.paths us) ≡ true
    all-known-formed t.end h = refl
    all-known-formed (t.last u) h = and_from _ true (known-formed u h) refl
    all-known-formed (t.more u us) h =
        let (first, rest) = and_parts (is_known N.strings N.paths u) (are_known N.strings N.paths us) h in
        and_from _ _ (known-formed u first) (all-known-formed us rest)

  pub ty_formed : (u : TypeRule) → type_codes N u ≡ [] → type_formed C (ty_of N u) ≡ true
  ty_formed u h = known-formed u (unless_met (is_known N.strings N.paths u) 12 h)

  -- what is so of the type of each of a list, known as they are
  each-known : {A : Type 0} (p : A → Bool) (g : TypeRule → A) → ((u : TypeRule) → is_known N.strings N.paths u ≡ true → p (g u) ≡ true) → (us : TypesRule) → are_known N.strings N.paths us ≡ true → list_all p (map g (types_in us)) ≡ true
  each-known p g pass t.end h = refl
  each-known p g pass (t.last u) h = and_from (p (g u)) true (pass u h) refl
  each-known p g pass (t.more u us) h =
      let (first, rest) = and_parts (is_known N.strings N.paths u) (are_known N.strings N.paths us) h in
      and_from (p (g u)) (list_all p (map g (types_in us))) (pass u first) (each-known p g pass us rest)

  -- ---- structs and enums

  fields-formed : (fs : FieldsRule) → fields_codes N fs ≡ [] → list_all (field_formed C) (fields_named N.strings N.paths fs) ≡ true
  fields-formed m.plain h = refl
  fields-formed (m.tupled us) h = each-known (field_formed C) (part_named N.strings N.paths) (λ u k. known-formed u k) us (unless_met (are_known N.strings N.paths us) 12 h)
  fields-formed (m.labelled fs) h =
      all_items (field_formed C) (λ f. type_codes N f.1) (field_named N.strings N.paths) (λ f k. ty_formed f.1 k) fs
      (append_empty-right (unless (none_twice [] (items_of (λ f. string_at N.strings f.0) fs)) 10) (each_item (λ f. type_codes N f.1) fs) h)

  variants-formed : (vs : Items VariantRule) → each_item (λ v. fields_codes N v.1) vs ≡ [] → list_all (variant_formed C) (items_of (variant_named N.strings N.paths) vs) ≡ true
  variants-formed vs h = all_items (variant_formed C) (λ v. fields_codes N v.1) (variant_named N.strings N.paths) (λ v k. fields-formed v.1 k) vs h

  pub def_item_formed : (item : ItemRule) → other_codes N item ≡ [] → list_all (def_formed C) (map (def_named N.strings N.paths) (def_in item)) ≡ true
  def_item_formed (m.struct q fs) h = rw (fields-formed fs h) refl
  def_item_formed (m.enum q vs) h =
      rw (variants-formed vs (append_empty-right (unless (none_twice [] (items_of (λ v. string_at N.strings v.0) vs)) 10) (each_item (λ v. fields_codes N v.1) vs) h)) refl
  def_item_formed (m.extern q us u) h = refl
  def_item_formed (m.function f) h = refl

  -- ---- outside functions

  pub outside_item_formed : (item : ItemRule) → other_codes N item ≡ [] → list_all (outside_formed C) (outside_in N item) ≡ true
  outside_item_formed (m.struct q fs) h = refl
  outside_item_formed (m.enum q vs) h = refl
  outside_item_formed (m.extern q us u) h =
      let args = unless_met (are_known N.strings N.paths us) 12 (append_empty-left (unless (are_known N.strings N.paths us) 12) (type_codes N u) h) in
      let result = append_empty-right (unless (are_known N.strings N.paths us) 12) (type_codes N u) h in
      rw (each-known (type_formed C) (ty_of N) (λ u k. known-formed u k) us args, ty_formed u result) refl
  outside_item_formed (m.function f) h = refl
