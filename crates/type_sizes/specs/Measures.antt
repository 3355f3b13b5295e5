-- What is counted in types: nodes, units of drop, and what needs drop inside. These are the counts of `mir_rules/specs/Weights.antt`, of
-- which units are counted and not listed.
use Rattle.std.specs.Prelude.{ℕ, zero, suc, ◌+◌, ◌<◌, Bool, true, false, List, get_or, Option, None, Some, is_some, length, slice_get, sum_by}
use Rattle.mir_syntax.specs.declared.types.TyId.{TyId}
use Rattle.mir_syntax.specs.Tree.{Tree, more, named, at_id}
use Rattle.mir_syntax.specs.Shapes.{Shape, first_variant, needs_drop}
use Rattle.mir_rules.specs.Weights.{counted}
use Rattle.type_sizes.specs.UpTo.{Tells}
use Rattle.type_sizes.specs.declared.measure.Measure.{Measure}
use Rattle.type_sizes.specs.declared.measure.Measure.TheVariants.{Nodes, Units, Inside}

-- of a scalar, a reference, and the end of a tuple
abbrev pub leaf : Measure → ℕ
leaf Nodes = 1
leaf Units = 0
leaf Inside = 0

-- up to which number it is counted
abbrev pub most : Measure → ℕ
most Nodes = 1025
most Units = 17
most Inside = 10001

-- what a part adds to what holds it
abbrev pub part : Measure → Bool → ℕ → ℕ
part Nodes needs n = n
part Units needs n = n
part Inside needs n = counted needs n

-- given that of each definition
abbrev pub size_by : List Shape → Measure → (ℕ → ℕ) → Tree → ℕ
size_by D m g (more t ts) = part m (needs_drop D t) (size_by D m g t) + size_by D m g ts
size_by D m g (named d) = g d
size_by D m g _ = leaf m

abbrev pub variant_size : List Shape → Measure → (ℕ → ℕ) → Tree → ℕ
variant_size D m g fields = part m (needs_drop D fields) (size_by D m g fields)

abbrev pub one_if : Bool → ℕ
one_if true = 1
one_if false = 0

-- of an enum, given the sum over its variants, and of a struct
abbrev pub enum_size : Measure → Bool → ℕ → ℕ
enum_size Nodes needs n = suc n
enum_size Units needs n = one_if needs
enum_size Inside needs n = n

abbrev pub shape_size : List Shape → Measure → (ℕ → ℕ) → Bool → Bool → List Tree → ℕ
shape_size D m g needs true variants = enum_size m needs (sum_by (variant_size D m g) variants)
shape_size D m g needs false variants = size_by D m g (first_variant variants)

-- a type with a destructor is one unit
abbrev pub with_destructor : Measure → Bool → ℕ → ℕ
with_destructor Units true n = 1
with_destructor Units false n = n
with_destructor Nodes has n = n
with_destructor Inside has n = n

abbrev pub whole : List Shape → Measure → (ℕ → ℕ) → Bool → Option Shape → ℕ
whole D m g needs None = leaf m
whole D m g needs (Some s) = with_destructor m (is_some s.destructor) (shape_size D m g needs s.is_enum s.variants)

-- to a depth of definitions inside one another
abbrev pub level : List Shape → Measure → ℕ → ℕ → ℕ
level D m zero d = leaf m
level D m (suc n) d = whole D m (level D m n) (needs_drop D (named d)) (slice_get D d)

-- what a list says of a number; what it doesn't reach is a leaf
abbrev pub told : Measure → List ℕ → ℕ → ℕ
told m sizes d = get_or sizes d (leaf m)

-- a list tells the sizes of definitions, and of the types that it reaches
abbrev pub Told : Measure → List ℕ → (ℕ → ℕ) → Type 0
Told m sizes g = (d : ℕ) → Tells (most m) (told m sizes d) (g d)

abbrev pub TypesTold : List Shape → List Tree → Measure → List ℕ → (ℕ → ℕ) → Type 0
TypesTold D trees m sizes g = (id : TyId) → id.0 < length sizes → Tells (most m) (told m sizes id.0) (size_by D m g (at_id trees id))
