-- What the names of a derivation mean: byte strings, paths, definitions, types. A name that is defined twice means its first definition.
use Rattle.std.specs.Prelude.{ℕ, Bool, true, false, ◌&&◌, nat_eq, List, [], ◌∷◌, ◌++◌, map, length, get_or, Option, Some, None, is_some, codes}
use Rattle.mir_syntax.specs.declared.types.IntTy.{IntTy}
use Rattle.mir_syntax.specs.declared.types.IntTy.TheVariants as i
use Rattle.mir_syntax.specs.declared.types.ScalarTy.{ScalarTy}
use Rattle.mir_syntax.specs.declared.types.ScalarTy.TheVariants as scalar_ty
use Rattle.mir_syntax.specs.declared.types.Form.{Form}
use Rattle.mir_syntax.specs.declared.types.Form.TheVariants as form
use Rattle.mir_syntax.specs.Tree.{Tree, scalar, empty, more, ref, ref_mut, named}
use Rattle.mir_syntax.specs.Crate.{TypedField, TypedVariant, TypedDef}
use Rattle.mir_syntax.specs.Shapes.{Shape, shapes_from}
use Rattle.mir_text.specs.Words.{place_in}
use Rattle.mir_text.specs.Grammar.{Items, items_of}
use Rattle.mir_text.specs.GrammarTypes as t
use Rattle.mir_text.specs.GrammarTypes.{PathRule, name, name_in, TypeRule, TypesRule, types_in}
use Rattle.mir_text.specs.GrammarItems as m
use Rattle.mir_text.specs.GrammarItems.{FieldRule, FieldsRule, VariantRule, ItemRule, FileRule}

-- the byte strings of a text, each at its number
abbrev pub Strings : Type 0
Strings = List (List ℕ)

abbrev pub string_at : Strings → ℕ → List ℕ
string_at strings n = get_or strings n []

-- ---- paths

-- the names with `::` between two
abbrev pub path_bytes : Strings → PathRule → List ℕ
path_bytes strings (name n) = string_at strings n
path_bytes strings (name_in n p) = string_at strings n ++ codes "::" ++ path_bytes strings p

abbrev pub last_name : PathRule → ℕ
last_name (name n) = n
last_name (name_in n p) = last_name p

-- the path of a name in which a path stands
abbrev pub within : ℕ → Option PathRule → Option PathRule
within n None = None
within n (Some p) = Some (name_in n p)

-- a path without its last name; nothing is left of a single name
abbrev pub without_last : PathRule → Option PathRule
without_last (name n) = None
without_last (name_in n (name k)) = Some (name n)
without_last (name_in n (name_in k p)) = within n (without_last (name_in k p))

-- ---- items of each kind, in order

pub data DefRule : Type 0 where
  struct : PathRule → FieldsRule → DefRule
  enum : PathRule → Items VariantRule → DefRule

abbrev pub def_path : DefRule → PathRule
def_path (struct p fs) = p
def_path (enum p vs) = p

abbrev pub def_in : ItemRule → List DefRule
def_in (m.struct p fs) = struct p fs ∷ []
def_in (m.enum p vs) = enum p vs ∷ []
def_in item = []

abbrev pub defs_in : FileRule → List DefRule
defs_in [] = []
defs_in (item ∷ items) = def_in item ++ defs_in items

-- the paths of structs and enums: their places are their numbers
abbrev pub def_paths : Strings → FileRule → List (List ℕ)
def_paths strings items = map (λ d. path_bytes strings (def_path d)) (defs_in items)

-- ---- types

-- the struct or enum at the place of a path; a path that names none is a type that is none of so many
abbrev pub named_or : ℕ → Option ℕ → Tree
named_or many None = named many
named_or many (Some d) = named d

abbrev pub ref_to : Bool → Tree → Tree
ref_to true u = ref_mut u
ref_to false u = ref u

-- the type that a rule writes
abbrev mutual
  pub type_named : Strings → List (List ℕ) → TypeRule → Tree
  type_named strings paths (t.int i) = scalar (scalar_ty.Int i)
  type_named strings paths t.bool = scalar scalar_ty.Bool
  type_named strings paths (t.ref m u) = ref_to m (type_named strings paths u)
  type_named strings paths (t.path p) = named_or (length paths) (place_in paths (path_bytes strings p))
  type_named strings paths t.unit = empty
  type_named strings paths (t.tuple u us) = more (type_named strings paths u) (types_named strings paths us)

  -- the tuple of the types of a list
  pub types_named : Strings → List (List ℕ) → TypesRule → Tree
  types_named strings paths t.end = empty
  types_named strings paths (t.last u) = more (type_named strings paths u) empty
  types_named strings paths (t.more u us) = more (type_named strings paths u) (types_named strings paths us)

-- each path in a type names a struct or enum
abbrev mutual
  pub is_known : Strings → List (List ℕ) → TypeRule → Bool
  is_known strings paths (t.int i) = true
  is_known strings paths t.bool = true
  is_known strings paths (t.ref m u) = is_known strings paths u
  is_known strings paths (t.path p) = is_some (place_in paths (path_bytes strings p))
  is_known strings paths t.unit = true
  is_known strings paths (t.tuple u us) = is_known strings paths u && are_known strings paths us

  pub are_known : Strings → List (List ℕ) → TypesRule → Bool
  are_known strings paths t.end = true
  are_known strings paths (t.last u) = is_known strings paths u
  are_known strings paths (t.more u us) = is_known strings paths u && are_known strings paths us

-- ---- structs and enums

abbrev pub field_named : Strings → List (List ℕ) → FieldRule → TypedField
field_named strings paths f = record { name = string_at strings f.0; ty = type_named strings paths f.1 }

-- a field of a tuple has no name
abbrev pub part_named : Strings → List (List ℕ) → TypeRule → TypedField
part_named strings paths u = record { name = []; ty = type_named strings paths u }

abbrev pub form_of : FieldsRule → Form
form_of m.plain = form.Unit
form_of (m.tupled us) = form.Tuple
form_of (m.labelled fs) = form.Named

abbrev pub fields_named : Strings → List (List ℕ) → FieldsRule → List TypedField
fields_named strings paths m.plain = []
fields_named strings paths (m.tupled us) = map (part_named strings paths) (types_in us)
fields_named strings paths (m.labelled fs) = items_of (field_named strings paths) fs

-- the variant of a struct has no name
abbrev pub variant_of : Strings → List (List ℕ) → List ℕ → FieldsRule → TypedVariant
variant_of strings paths bytes fs = record { name = bytes; form = form_of fs; fields = fields_named strings paths fs }

abbrev pub variant_named : Strings → List (List ℕ) → VariantRule → TypedVariant
variant_named strings paths v = variant_of strings paths (string_at strings v.0) v.1

abbrev pub def_named : Strings → List (List ℕ) → DefRule → TypedDef
def_named strings paths (struct p fs) = record { path = path_bytes strings p; is_enum = false; variants = variant_of strings paths [] fs ∷ [] }
def_named strings paths (enum p vs) = record { path = path_bytes strings p; is_enum = true; variants = items_of (variant_named strings paths) vs }

-- ---- what a file defines

abbrev pub function_path_in : Strings → ItemRule → List (List ℕ)
function_path_in strings (m.function f) = path_bytes strings f.path ∷ []
function_path_in strings item = []

abbrev pub function_paths_in : Strings → FileRule → List (List ℕ)
function_paths_in strings [] = []
function_paths_in strings (item ∷ items) = function_path_in strings item ++ function_paths_in strings items

abbrev pub outside_path_in : Strings → ItemRule → List (List ℕ)
outside_path_in strings (m.extern p us u) = path_bytes strings p ∷ []
outside_path_in strings item = []

abbrev pub outside_paths_in : Strings → FileRule → List (List ℕ)
outside_paths_in strings [] = []
outside_paths_in strings (item ∷ items) = outside_path_in strings item ++ outside_paths_in strings items

-- what the names of a file mean: its byte strings, the paths of structs and enums, these themselves and their shapes, and the paths of
-- functions and outside functions
pub record Names : Type 0 where
  pub strings : Strings
  pub paths : List (List ℕ)
  pub defs : List TypedDef
  pub shapes : List Shape
  pub functions : List (List ℕ)
  pub outsides : List (List ℕ)

abbrev pub defs_named : Strings → FileRule → List TypedDef
defs_named strings items = map (def_named strings (def_paths strings items)) (defs_in items)

abbrev pub names_of : Strings → FileRule → Names
names_of strings items = record {
  strings = strings;
  paths = def_paths strings items;
  defs = defs_named strings items;
  shapes = shapes_from [] 0 (defs_named strings items);
  functions = function_paths_in strings items;
  outsides = outside_paths_in strings items;
}

abbrev pub ty_of : Names → TypeRule → Tree
ty_of names u = type_named names.strings names.paths u

-- ---- the same type

abbrev pub int_number : IntTy → ℕ
int_number i.I8 = 0
int_number i.I16 = 1
int_number i.I32 = 2
int_number i.I64 = 3
int_number i.I128 = 4
int_number i.Isize = 5
int_number i.U8 = 6
int_number i.U16 = 7
int_number i.U32 = 8
int_number i.U64 = 9
int_number i.U128 = 10
int_number i.Usize = 11

abbrev pub same_scalar : ScalarTy → ScalarTy → Bool
same_scalar scalar_ty.Bool scalar_ty.Bool = true
same_scalar (scalar_ty.Int a) (scalar_ty.Int b) = nat_eq (int_number a) (int_number b)
same_scalar a b = false

abbrev pub same_type : Tree → Tree → Bool
same_type (scalar a) (scalar b) = same_scalar a b
same_type empty empty = true
same_type (more a as') (more b bs) = same_type a b && same_type as' bs
same_type (ref a) (ref b) = same_type a b
same_type (ref_mut a) (ref_mut b) = same_type a b
same_type (named d) (named k) = nat_eq d k
same_type a b = false
