-- Definitions that are marked in a list, and how marks spread over the definitions that hold marked ones by value.
-- In the shape of the code; no public promise rests on these.
use Rattle.std.specs.Prelude.{ℕ, zero, suc, Bool, false, ◌||◌, if◌then◌else◌, List, [], ◌∷◌, ◌++◌, map, get_or, set, Option, None, Some, is_some, slice_get}
use Rattle.std.specs.List.{list_any}
use Rattle.mir_syntax.specs.declared.types.TyId.{TyId}
use Rattle.mir_syntax.specs.declared.types.FnId.{FnId}
use Rattle.mir_syntax.specs.declared.types.Field.{Field}
use Rattle.mir_syntax.specs.declared.types.Variant.{Variant}
use Rattle.mir_syntax.specs.Shapes.{Shape, field_id}
use Rattle.mir_syntax.specs.Crate.{TypedFunction}
use Rattle.mir_rules.specs.DefinitionRules.{holds_one, dropped_by}

-- what a list says of a number; none that it doesn't reach is marked
abbrev pub is_marked : List Bool → ℕ → Bool
is_marked marks d = get_or marks d false

-- what a list says of a type
abbrev pub id_marked : List Bool → TyId → Bool
id_marked marks id = is_marked marks id.0

abbrev pub field_marked : List Bool → Field → Bool
field_marked marks f = id_marked marks f.ty

-- the types of a variant's fields
abbrev pub ids_of : Variant → List TyId
ids_of v = map field_id v.fields

abbrev pub variant_marked : List Bool → Variant → Bool
variant_marked marks v = list_any (field_marked marks) v.fields

-- own marks, and those of the definitions that held a marked one a round before
abbrev pub spread : List Shape → (ℕ → Bool) → (ℕ → Bool) → ℕ → ℕ → Bool
spread D own start zero d = start d
spread D own start (suc n) d = own d || holds_one (spread D own start n) (slice_get D d)

-- the lists with a number put into that of a definition, if it is there
abbrev pub noted_at : List (List ℕ) → ℕ → ℕ → List (List ℕ)
noted_at holders def from = set holders def (get_or holders def [] ++ from ∷ [])

-- ---- destructors

-- the list with a function at the definition that it is the destructor of, if there is one
abbrev pub noted : List (Option FnId) → Option ℕ → FnId → List (Option FnId)
noted found None f = found
noted found (Some d) f = set found d (Some f)

abbrev pub has_one : Option FnId → Bool
has_one destructor = is_some destructor

-- the definition that a function is a destructor of
abbrev pub drop_of : TypedFunction → Option ℕ
drop_of f = if f.is_drop then dropped_by f else None

-- a definition has a destructor
abbrev pub own_of : Option Shape → Bool
own_of None = false
own_of (Some s) = is_some s.destructor
