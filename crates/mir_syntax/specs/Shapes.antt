-- What rules and meaning see of a crate's definitions: the fields of each variant and the destructor; and by them the types of places
-- and which types need drop.
use Rattle.std.specs.Prelude.{ℕ, zero, suc, Bool, true, false, ◌&&◌, ◌||◌, nat_eq, if◌then◌else◌, cond, List, [], ◌∷◌, map, length, Option, Some, None, is_some, slice_get}
use Rattle.mir_syntax.specs.declared.body.Proj.{Proj}
use Rattle.mir_syntax.specs.declared.body.Proj.TheVariants.{Field, Downcast, Deref}
use Rattle.mir_syntax.specs.declared.body.Place.{Place}
use Rattle.mir_syntax.specs.Tree.{Tree, empty, more, ref, ref_mut, named, tuple_of}
use Rattle.mir_syntax.specs.declared.types.TyId.{TyId}
use Rattle.mir_syntax.specs.declared.types.Field.{Field as SyntaxField}
use Rattle.mir_syntax.specs.Crate.{field_of, TypedField, TypedVariant, TypedDef, TypedFunction, Crate}

-- a struct has one variant; of each variant the tuple of its fields' types; the number of the function that is its destructor
pub record Shape : Type 0 where
  pub is_enum : Bool
  pub variants : List Tree
  pub destructor : Option ℕ

abbrev pub field_ty_of : TypedField → Tree
field_ty_of f = f.ty

abbrev pub fields_tuple : TypedVariant → Tree
fields_tuple v = tuple_of (map field_ty_of v.fields)

-- the header of a destructor of a definition: its one argument is `&mut` of it, and its result `()`
abbrev pub drops_locals : ℕ → List Tree → Bool
drops_locals d (empty ∷ ref_mut (named k) ∷ others) = nat_eq k d
drops_locals d locals = false

abbrev pub is_destructor_of : ℕ → TypedFunction → Bool
is_destructor_of d f = f.is_drop && (nat_eq f.body.args 1 && drops_locals d f.body.locals)

-- the first function that is a destructor of the definition, the functions being counted from a number
abbrev pub destructor_from : ℕ → ℕ → List TypedFunction → Option ℕ
destructor_from d i [] = None
destructor_from d i (f ∷ fs) = if is_destructor_of d f then Some i else destructor_from d (suc i) fs

abbrev pub shape_of : List TypedFunction → ℕ → TypedDef → Shape
shape_of functions d def = record { is_enum = def.is_enum; variants = map fields_tuple def.variants; destructor = destructor_from d 0 functions }

abbrev pub shapes_from : List TypedFunction → ℕ → List TypedDef → List Shape
shapes_from functions d [] = []
shapes_from functions d (def ∷ defs) = shape_of functions d def ∷ shapes_from functions (suc d) defs

-- what is seen of the definitions of a crate, in their order
unfoldable pub shapes_of : Crate → List Shape
shapes_of c = shapes_from c.functions 0 c.defs

-- ---- parts of a type

infixl 10 ◌>>=◌
-- goes on with what is there
unfoldable pub ◌>>=◌ : {A B : Type 0} → Option A → (A → Option B) → Option B
None >>= f = None
(Some x) >>= f = f x

-- the fields of a struct: those of its one variant
abbrev pub first_variant : List Tree → Tree
first_variant [] = empty
first_variant (t ∷ ts) = t

abbrev pub struct_fields : Shape → Tree
struct_fields s = first_variant s.variants

-- the id of the type of a field as the program has it
abbrev pub field_id : SyntaxField → TyId
field_id f = f.ty

-- the tuple of the types that fields of the program have
abbrev pub fields_tree : List Tree → List SyntaxField → Tree
fields_tree trees fields = tuple_of (map field_ty_of (map (field_of trees) fields))

-- the type at a place of a tuple
abbrev pub field_ty : Tree → ℕ → Option Tree
field_ty (more t ts) zero = Some t
field_ty (more t ts) (suc i) = field_ty ts i
field_ty _ _ = None

abbrev pub fields_of_struct : Shape → Option Tree
fields_of_struct s = if s.is_enum then None else Some (struct_fields s)

-- the tuple of the fields that a tuple type or a struct has
abbrev pub fields_of : List Shape → Tree → Option Tree
fields_of D empty = Some empty
fields_of D (more t ts) = Some (more t ts)
fields_of D (named d) = slice_get D d >>= fields_of_struct
fields_of D _ = None

abbrev pub variant_of_enum : ℕ → Shape → Option Tree
variant_of_enum k s = if s.is_enum then slice_get s.variants k else None

-- the tuple of the fields of an enum's variant
abbrev pub variant_ty : List Shape → Tree → ℕ → Option Tree
variant_ty D (named d) k = slice_get D d >>= variant_of_enum k
variant_ty D _ k = None

abbrev pub pointee : Tree → Option Tree
pointee (ref t) = Some t
pointee (ref_mut t) = Some t
pointee _ = None

-- what one projection makes of a type; after a downcast stands the tuple of the variant's fields
abbrev pub proj_ty : List Shape → Tree → Proj → Option Tree
proj_ty D t (Field i) = fields_of D t >>= λ u. field_ty u i
proj_ty D t (Downcast k) = variant_ty D t k
proj_ty D t Deref = pointee t

abbrev pub path_ty : List Shape → Tree → List Proj → Option Tree
path_ty D t [] = Some t
path_ty D t (p ∷ ps) = proj_ty D t p >>= λ u. path_ty D u ps

-- the type of a place, given those of the locals; none where a projection doesn't fit
unfoldable pub place_ty : List Shape → List Tree → Place → Option Tree
place_ty D locals p = slice_get locals p.local >>= λ t. path_ty D t p.proj

-- after a last downcast stands the tuple of a variant's fields, which is no type of a program
abbrev pub ends_in_downcast : List Proj → Bool
ends_in_downcast [] = false
ends_in_downcast (Field i ∷ []) = false
ends_in_downcast (Downcast k ∷ []) = true
ends_in_downcast (Deref ∷ []) = false
ends_in_downcast (p ∷ q ∷ ps) = ends_in_downcast (q ∷ ps)

-- the type that stands at the end of a path; none where a projection doesn't fit, and none after a last downcast
unfoldable pub whole_path_ty : List Shape → Tree → List Proj → Option Tree
whole_path_ty D t ps = cond (ends_in_downcast ps) None (path_ty D t ps)

-- the type of a place that is whole
abbrev pub whole_place_ty : List Shape → List Tree → Place → Option Tree
whole_place_ty D locals p = slice_get locals p.local >>= λ t. whole_path_ty D t p.proj

-- ---- drop

abbrev pub destructor_of : List Shape → Tree → Option ℕ
destructor_of D (named d) = slice_get D d >>= λ s. s.destructor
destructor_of D _ = None

-- on the way along the path stands a type with a destructor, of which a part is taken
abbrev pub path_through : List Shape → Option Tree → List Proj → Bool
path_through D o [] = false
path_through D None (p ∷ ps) = false
path_through D (Some t) (p ∷ ps) = is_some (destructor_of D t) || path_through D (proj_ty D t p) ps

abbrev pub goes_through_destructor : List Shape → List Tree → Place → Bool
goes_through_destructor D locals p = path_through D (slice_get locals p.local) p.proj

abbrev pub needs_by : (ℕ → Bool) → Tree → Bool
needs_by of_def (more t ts) = needs_by of_def t || needs_by of_def ts
needs_by of_def (named d) = of_def d
needs_by of_def _ = false

abbrev pub any_needs : (ℕ → Bool) → List Tree → Bool
any_needs of_def [] = false
any_needs of_def (t ∷ ts) = needs_by of_def t || any_needs of_def ts

abbrev pub needs_of : (ℕ → Bool) → Option Shape → Bool
needs_of of_def None = false
needs_of of_def (Some s) = is_some s.destructor || any_needs of_def s.variants

-- to a depth of definitions inside one another; their number is depth enough
abbrev pub needs_def : List Shape → ℕ → ℕ → Bool
needs_def D zero d = false
needs_def D (suc n) d = needs_of (needs_def D n) (slice_get D d)

-- a type needs drop where it has a destructor or holds a type that needs drop by value (references are not followed)
unfoldable pub needs_drop : List Shape → Tree → Bool
needs_drop D t = needs_by (needs_def D (length D)) t
