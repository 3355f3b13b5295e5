-- What is read of definitions, over the strings of a file and the paths of its structs and enums.
use Rattle.std.specs.Prelude.{◌≡◌, ℕ, Bool, nat_lt, List, [], map}
use Rattle.mir_text.specs.GrammarTypes.{TypeRule}
use Rattle.mir_syntax.specs.declared.types.TyId.{TyId}
use Rattle.mir_syntax.specs.Crate.{TypedOutside}
use Rattle.mir_text.specs.GrammarTypes.{PathRule, TypeRule, TypesRule, types_in}
use Rattle.mir_text.specs.Names.{path_bytes, type_named, Strings, is_known, Names}
use Rattle.mir_text.specs.NameFaults.{on_line, unless, fields_codes}
use Rattle.mir_tree.specs.declared.ty.TypeText.{TypeText}
use Rattle.mir_tree.specs.declared.item.FieldText.{FieldText}
use Rattle.mir_tree.specs.declared.item.VariantText.{VariantText}
use Rattle.mir_tree.specs.Types.{type_rule}
use Rattle.mir_tree.specs.Rules.{fields_rule}
use Rattle.mir_resolve.specs.declared.draft.Draft.{Draft}
use Rattle.mir_resolve.specs.Types.{Grown}
use Rattle.mir_resolve.specs.Faults.{noted}

-- names of which strings and paths are known, and nothing is defined yet
abbrev pub before_defs : Strings → List (List ℕ) → Names
before_defs strings paths = record { strings = strings; paths = paths; defs = []; shapes = []; functions = []; outsides = [] }

-- each path in a type names a struct or enum
abbrev pub is_known_text : Strings → List (List ℕ) → TypeText → Bool
is_known_text strings paths u = is_known strings paths (type_rule u)

-- S12
abbrev pub text_codes : Strings → List (List ℕ) → TypeText → List ℕ
text_codes strings paths u = unless (is_known_text strings paths u) 12

abbrev pub field_codes : Strings → List (List ℕ) → FieldText → List ℕ
field_codes strings paths f = text_codes strings paths f.ty

-- a draft after a part on a line: its table has grown, and the codes of that part are noted
pub record Went (old new : Draft) (line : ℕ) (codes : List ℕ) : Type 0 where
  pub grown : Grown old.program new.program
  pub notes : new.notes ≡ noted old.notes (on_line line codes)

abbrev pub variant_codes : Strings → List (List ℕ) → VariantText → List ℕ
variant_codes strings paths v = fields_codes (before_defs strings paths) (fields_rule v.fields)

abbrev pub id_below : ℕ → TyId → Bool
id_below n id = nat_lt id.0 n

-- an outside function that a rule declares
abbrev pub outside_named : Strings → List (List ℕ) → PathRule → TypesRule → TypeRule → TypedOutside
outside_named strings paths path args ty =
    record { path = path_bytes strings path; args = map (type_named strings paths) (types_in args); result = type_named strings paths ty }
