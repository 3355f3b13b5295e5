-- The rules on definitions, outside functions and headers of functions.
use Rattle.std.specs.Prelude.{ℕ, zero, suc, Bool, true, false, not, ◌&&◌, ◌||◌, nat_lt, ◌==◌, List, ◌∷◌, length, Option, Some, None, is_none, slice_get}
use Rattle.std.specs.List.{list_all}
use Rattle.mir_syntax.specs.Tree.{Tree, scalar, empty, ref_mut, named}
use Rattle.mir_syntax.specs.Crate.{TypedOutside, TypedFunction}
use Rattle.mir_syntax.specs.Shapes.{Shape, any_needs, destructor_of}

-- ---- V01

-- a variant of the shape names by value, through tuples, a definition that passes the test
abbrev pub holds_one : (ℕ → Bool) → Option Shape → Bool
holds_one test None = false
holds_one test (Some s) = any_needs test s.variants

-- the definition d holds e by value, through fewer than so many others
abbrev pub holds : List Shape → ℕ → ℕ → ℕ → Bool
holds D zero e d = false
holds D (suc n) e d = holds_one (λ k. k == e || holds D n e k) (slice_get D d)

-- a struct or enum holds itself by value
abbrev pub breaks_v01 : List Shape → ℕ → Bool
breaks_v01 D d = holds D (length D) d d

-- ---- V02

abbrev pub is_scalar : Tree → Bool
is_scalar (scalar s) = true
is_scalar _ = false

abbrev pub is_scalar_or_unit : Tree → Bool
is_scalar_or_unit (scalar s) = true
is_scalar_or_unit empty = true
is_scalar_or_unit _ = false

-- an outside function has an argument that isn't scalar, or a result that is neither scalar nor `()`
abbrev pub breaks_v02 : TypedOutside → Bool
breaks_v02 o = not (list_all is_scalar o.args && is_scalar_or_unit o.result)

-- ---- V03 and V04

-- the definition that a header of a destructor names: the one argument is `&mut` of it, and the result `()`
abbrev pub dropped_by_locals : List Tree → Option ℕ
dropped_by_locals (empty ∷ ref_mut (named d) ∷ others) = Some d
dropped_by_locals _ = None

abbrev pub dropped_by_args : ℕ → List Tree → Option ℕ
dropped_by_args (suc zero) locals = dropped_by_locals locals
dropped_by_args _ locals = None

abbrev pub dropped_by : TypedFunction → Option ℕ
dropped_by f = dropped_by_args f.body.args f.body.locals

-- a `drop fn` hasn't the header of a destructor
abbrev pub breaks_v03 : TypedFunction → Bool
breaks_v03 f = f.is_drop && is_none (dropped_by f)

abbrev pub is_before : Option ℕ → ℕ → Bool
is_before None i = false
is_before (Some j) i = nat_lt j i

abbrev pub has_earlier : List Shape → ℕ → Option ℕ → Bool
has_earlier D i None = false
has_earlier D i (Some d) = is_before (destructor_of D (named d)) i

-- function i is a `drop fn` of a type whose destructor is an earlier one
abbrev pub breaks_v04 : List Shape → ℕ → TypedFunction → Bool
breaks_v04 D i f = f.is_drop && has_earlier D i (dropped_by f)
