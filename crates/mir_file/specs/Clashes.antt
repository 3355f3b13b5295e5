-- Paths that are defined twice, found by what was seen before.
use Rattle.std.specs.Prelude.{ℕ, Bool, true, false, ◌&&◌, ◌||◌, List, [], ◌∷◌, ◌++◌, codes, cond}
use Rattle.mir_text.specs.Names.{Strings, string_at}
use Rattle.mir_text.specs.NameFaults.{Defined, defined_by, stands_in}
use Rattle.mir_tree.specs.declared.Lined.{Lined}
use Rattle.mir_tree.specs.declared.item.ItemText.{ItemText}
use Rattle.mir_tree.specs.declared.item.VariantText.{VariantText}
use Rattle.mir_tree.specs.Rules.{lined_item_at}
use Rattle.mir_resolve.specs.Definitions.{before_defs}
use Rattle.mir_resolve.specs.Once.{SameTexts}
use Rattle.mir_file.specs.declared.clashes.SeenPaths.{SeenPaths}

abbrev pub defined_at : Strings → ℕ → ItemText → Defined
defined_at strings line part = defined_by (before_defs strings []) (lined_item_at line part)

abbrev pub defined_as : Strings → Lined ItemText → Defined
defined_as strings x = defined_at strings x.line x.part

abbrev pub variant_path : Strings → List ℕ → VariantText → List ℕ
variant_path strings path v = path ++ codes "::" ++ string_at strings v.name

-- one of the texts stands in a list
abbrev pub any_stands : List (List ℕ) → List (List ℕ) → Bool
any_stands texts [] = false
any_stands texts (x ∷ xs) = stands_in texts x || any_stands texts xs

abbrev pub if_so : Bool → List ℕ → List (List ℕ)
if_so true path = path ∷ []
if_so false path = []

-- the paths of an item by the lists in which they are seen
abbrev pub as_type : Defined → List (List ℕ)
as_type a = if_so a.is_type a.path

abbrev pub as_function : Defined → List (List ℕ)
as_function a = cond a.is_type [] (a.path ∷ [])

abbrev pub as_struct : Defined → List (List ℕ)
as_struct a = if_so a.is_struct a.path

-- an item clashes with what was seen
abbrev pub meets : SeenPaths → Defined → Bool
meets seen a =
    stands_in (cond a.is_type seen.types seen.functions) a.path
    || ((a.is_struct && stands_in seen.variants a.path) || any_stands seen.structs a.variants)

-- an item was seen
pub record Saw (old new : SeenPaths) (a : Defined) : Type 0 where
  pub types : SameTexts new.types (as_type a ++ old.types)
  pub functions : SameTexts new.functions (as_function a ++ old.functions)
  pub structs : SameTexts new.structs (as_struct a ++ old.structs)
  pub variants : SameTexts new.variants (a.variants ++ old.variants)
