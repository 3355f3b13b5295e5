-- The size of a type: its nodes, its units of drop and its drop weight. References are not followed.
use Rattle.std.specs.Prelude.{ℕ, zero, suc, ◌+◌, Bool, true, false, List, [], ◌∷◌, ◌++◌, map, length, Option, Some, None, is_some, slice_get, sum_by}
use Rattle.mir_syntax.specs.declared.body.Proj.{Proj}
use Rattle.mir_syntax.specs.declared.body.Proj.TheVariants.{Field}
use Rattle.mir_syntax.specs.Tree.{Tree, more, named}
use Rattle.mir_syntax.specs.Shapes.{Shape, first_variant, needs_drop}

-- ---- nodes: each scalar, reference, tuple, struct, enum and variant

-- given those of each definition; the end of a tuple stands for the tuple itself
abbrev pub nodes_by : (ℕ → ℕ) → Tree → ℕ
nodes_by of_def (more t ts) = nodes_by of_def t + nodes_by of_def ts
nodes_by of_def (named d) = of_def d
nodes_by of_def _ = 1

-- a struct is one with the tuple of its fields, and so is a variant; an enum is one more
abbrev pub nodes_of_variants : (ℕ → ℕ) → Bool → List Tree → ℕ
nodes_of_variants of_def true variants = suc (sum_by (nodes_by of_def) variants)
nodes_of_variants of_def false variants = nodes_by of_def (first_variant variants)

abbrev pub nodes_of : (ℕ → ℕ) → Option Shape → ℕ
nodes_of of_def None = 1
nodes_of of_def (Some s) = nodes_of_variants of_def s.is_enum s.variants

abbrev pub nodes_def : List Shape → ℕ → ℕ → ℕ
nodes_def D zero d = 1
nodes_def D (suc n) d = nodes_of (nodes_def D n) (slice_get D d)

unfoldable pub nodes : List Shape → Tree → ℕ
nodes D t = nodes_by (nodes_def D (length D)) t

-- ---- units of drop: each part that has a destructor or is an enum that needs drop, none inside another

abbrev pub under : ℕ → List Proj → List Proj
under i path = Field i ∷ path

-- of the parts of a tuple from a number on, or of a definition
abbrev pub units_from : (ℕ → List (List Proj)) → ℕ → Tree → List (List Proj)
units_from of_def i (more t ts) = map (under i) (units_from of_def 0 t) ++ units_from of_def (suc i) ts
units_from of_def i (named d) = of_def d
units_from of_def i _ = []

abbrev pub one_unit : Bool → List (List Proj)
one_unit true = [] ∷ []
one_unit false = []

-- of a definition without a destructor
abbrev pub units_of_parts : (ℕ → List (List Proj)) → Bool → Bool → List Tree → List (List Proj)
units_of_parts of_def needs true variants = one_unit needs
units_of_parts of_def needs false variants = units_from of_def 0 (first_variant variants)

abbrev pub units_of_shape : (ℕ → List (List Proj)) → Bool → Bool → Shape → List (List Proj)
units_of_shape of_def needs true s = one_unit true
units_of_shape of_def needs false s = units_of_parts of_def needs s.is_enum s.variants

abbrev pub units_of : (ℕ → List (List Proj)) → Bool → Option Shape → List (List Proj)
units_of of_def needs None = []
units_of of_def needs (Some s) = units_of_shape of_def needs (is_some s.destructor) s

abbrev pub units_def : List Shape → ℕ → ℕ → List (List Proj)
units_def D zero d = []
units_def D (suc n) d = units_of (units_def D n) (needs_drop D (named d)) (slice_get D d)

-- the paths to a type's units of drop, in the order of declaration
unfoldable pub units : List Shape → Tree → List (List Proj)
units D t = units_from (units_def D (length D)) 0 t

-- ---- drop weight: the number of nodes that need drop

-- a node that needs drop counts with what is inside it
abbrev pub counted : Bool → ℕ → ℕ
counted true inside = suc inside
counted false inside = 0

-- what a type's parts weigh, given what those of each definition do
abbrev pub inside_by : List Shape → (ℕ → ℕ) → Tree → ℕ
inside_by D of_def (more t ts) = counted (needs_drop D t) (inside_by D of_def t) + inside_by D of_def ts
inside_by D of_def (named d) = of_def d
inside_by D of_def _ = 0

abbrev pub variant_weight : List Shape → (ℕ → ℕ) → Tree → ℕ
variant_weight D of_def fields = counted (needs_drop D fields) (inside_by D of_def fields)

-- a variant of an enum is a node, and that of a struct isn't
abbrev pub inside_variants : List Shape → (ℕ → ℕ) → Bool → List Tree → ℕ
inside_variants D of_def true variants = sum_by (variant_weight D of_def) variants
inside_variants D of_def false variants = inside_by D of_def (first_variant variants)

abbrev pub inside_of : List Shape → (ℕ → ℕ) → Option Shape → ℕ
inside_of D of_def None = 0
inside_of D of_def (Some s) = inside_variants D of_def s.is_enum s.variants

abbrev pub inside_def : List Shape → ℕ → ℕ → ℕ
inside_def D zero d = 0
inside_def D (suc n) d = inside_of D (inside_def D n) (slice_get D d)

unfoldable pub drop_weight : List Shape → Tree → ℕ
drop_weight D t = counted (needs_drop D t) (inside_by D (inside_def D (length D)) t)
