-- What a path builds.
use Rattle.std.specs.Prelude.{ℕ, List, Option}
use Rattle.mir_syntax.specs.declared.types.Field.{Field}
use Rattle.mir_syntax.specs.Crate.{TypedVariant}
use Rattle.mir_syntax.specs.Shapes.{◌>>=◌}
use Rattle.mir_text.specs.Words.{place_in}
use Rattle.mir_text.specs.GrammarTypes.{PathRule}
use Rattle.mir_text.specs.Names.{Strings, Names, string_at, path_bytes, last_name, without_last}
use Rattle.mir_text.specs.NamedBodies.{struct_at, enum_variant_at}
use Rattle.mir_text.specs.NameFaults.{built_variant}
use Rattle.mir_tree.specs.declared.rvalue.NamedText.{NamedText}
use Rattle.mir_bodies.specs.declared.build.Built.{Built}

-- the numbers of the definition and of its variant
abbrev pub pair_of : Built → ℕ × ℕ
pair_of b = (b.def, b.variant)

abbrev pub pair_with : ℕ → ℕ → ℕ × ℕ
pair_with d k = (d, k)

abbrev pub struct_by_path : Names → List ℕ → Option (ℕ × ℕ)
struct_by_path names path = place_in names.paths path >>= struct_at names

abbrev pub variant_by_path : Names → List ℕ → List ℕ → Option (ℕ × ℕ)
variant_by_path names path bytes = place_in names.paths path >>= enum_variant_at names bytes

-- the variant of the enum before the last name of a path
abbrev pub variant_by_rule : Names → PathRule → Option (ℕ × ℕ)
variant_by_rule names path = without_last path >>= λ front. variant_by_path names (path_bytes names.strings front) (string_at names.strings (last_name path))

abbrev pub variant_of_pair : Names → Option (ℕ × ℕ) → Option TypedVariant
variant_of_pair names x = x >>= built_variant names

abbrev pub name_before : Strings → NamedText → List ℕ
name_before strings x = string_at strings x.name

abbrev pub field_name : Field → List ℕ
field_name f = f.name
