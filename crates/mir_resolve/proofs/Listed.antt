-- The items and the types of lists with commas, as the tree has them.
use Rattle.std.proofs.Common.{◌≡◌, ℕ, ◌&&◌, Bool, true, false, List, [], ◌∷◌, map, refl, ap, ◌∙◌}
use Rattle.std.specs.List.{list_all}
use Rattle.mir_text.specs.Grammar.{items_of}
use Rattle.mir_text.specs.GrammarTypes.{TypeRule, types_in}
use Rattle.mir_text.specs.Names.{Strings, is_known, are_known}
use Rattle.mir_tree.specs.declared.ty.TypeText.{TypeText}
use Rattle.mir_tree.specs.Lists.{listed}
use Rattle.mir_tree.specs.Types.{type_rule, types_of, types_listed}
use Rattle.mir_resolve.specs.Definitions.{is_known_text}

pub items_listed : {X R A : Type 0} (h : R → A) (of : X → R) (xs : List X) (b : Bool) → items_of h (listed of xs b) ≡ map (λ x. h (of x)) xs
items_listed h of [] b = refl
items_listed h of (x ∷ []) false = refl
items_listed h of (x ∷ []) true = refl
items_listed h of (x ∷ y ∷ ys) b = ap (λ l. h (of x) ∷ l) (items_listed h of (y ∷ ys) b)

types-listed : (ts : List TypeRule) (b : Bool) → types_in (types_listed ts b) ≡ ts
types-listed [] b = refl
types-listed (t ∷ []) false = refl
types-listed (t ∷ []) true = refl
types-listed (t ∷ u ∷ us) b = ap (λ l. t ∷ l) (types-listed (u ∷ us) b)

map-types : {A : Type 0} (h : TypeRule → A) (xs : List TypeText) → map h (types_of xs) ≡ map (λ u. h (type_rule u)) xs
map-types h [] = refl
map-types h (x ∷ xs) = ap (λ l. h (type_rule x) ∷ l) (map-types h xs)

-- what the types of a list are, in order
pub types_each : {A : Type 0} (h : TypeRule → A) (xs : List TypeText) (b : Bool) → map h (types_in (types_listed (types_of xs) b)) ≡ map (λ u. h (type_rule u)) xs
types_each h xs b = ap (map h) (types-listed (types_of xs) b) ∙ map-types h xs

and-true : (b : Bool) → b ≡ (b && true)
and-true true = refl
and-true false = refl

known-listed : (strings : Strings) (paths : List (List ℕ)) (ts : List TypeRule) (b : Bool) → are_known strings paths (types_listed ts b) ≡ list_all (is_known strings paths) ts
known-listed strings paths [] b = refl
known-listed strings paths (t ∷ []) false = and-true (is_known strings paths t)
known-listed strings paths (t ∷ []) true = refl
known-listed strings paths (t ∷ u ∷ us) b = ap (λ k. is_known strings paths t && k) (known-listed strings paths (u ∷ us) b)

all-types : (strings : Strings) (paths : List (List ℕ)) (xs : List TypeText) → list_all (is_known strings paths) (types_of xs) ≡ list_all (is_known_text strings paths) xs
all-types strings paths [] = refl
all-types strings paths (x ∷ xs) = ap (λ k. is_known strings paths (type_rule x) && k) (all-types strings paths xs)

pub known_each : (strings : Strings) (paths : List (List ℕ)) (xs : List TypeText) (b : Bool)
    → are_known strings paths (types_listed (types_of xs) b) ≡ list_all (is_known_text strings paths) xs
known_each strings paths xs b = known-listed strings paths (types_of xs) b ∙ all-types strings paths xs
