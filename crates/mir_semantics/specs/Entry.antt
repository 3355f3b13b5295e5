-- Values that hold no reference, as they are given and shown: their types and their flat form. This project's own.
use Rattle.std.specs.Prelude.{◌≡◌, ℕ, zero, suc, Bool, true, false, not, ◌&&◌, ◌||◌, nat_lt, if◌then◌else◌, List, [], ◌∷◌, ◌++◌, length, take, drop, Option, Some, None, slice_get, IsTrue, ℤ, pos}
use Rattle.mir_syntax.specs.Tree.{Tree, scalar, empty, more, ref, ref_mut, named, tuple_of}
use Rattle.mir_syntax.specs.Crate.{TypedBody}
use Rattle.mir_syntax.specs.Shapes.{Shape, ◌>>=◌, struct_fields}
use Rattle.mir_num.specs.Widths.{patterns}
use Rattle.mir_num.specs.Numbers.{integer_of}
use Rattle.mir_semantics.specs.Values.{Value, number, nil, cons, variant, listed}
use Rattle.mir_semantics.specs.Step.{Code}
use Rattle.mir_semantics.specs.Run.{Entry}

-- ---- types that hold a reference

abbrev pub refers_by : (ℕ → Bool) → Tree → Bool
refers_by of_def (more t ts) = refers_by of_def t || refers_by of_def ts
refers_by of_def (ref t) = true
refers_by of_def (ref_mut t) = true
refers_by of_def (named d) = of_def d
refers_by of_def _ = false

abbrev pub any_refers : (ℕ → Bool) → List Tree → Bool
any_refers of_def [] = false
any_refers of_def (t ∷ ts) = refers_by of_def t || any_refers of_def ts

abbrev pub refers_of : (ℕ → Bool) → Option Shape → Bool
refers_of of_def None = false
refers_of of_def (Some s) = any_refers of_def s.variants

abbrev pub refers_def : List Shape → ℕ → ℕ → Bool
refers_def D zero d = false
refers_def D (suc n) d = refers_of (refers_def D n) (slice_get D d)

-- a reference stands in the type, or in a type that it holds
unfoldable pub holds_reference : List Shape → Tree → Bool
holds_reference D t = refers_by (refers_def D (length D)) t

-- ---- the values of a type without references

abbrev pub is_by : (ℕ → Value → Bool) → Tree → Value → Bool
is_by of_def (scalar s) (number n) = nat_lt n (patterns s)
is_by of_def empty nil = true
is_by of_def (more t ts) (cons v vs) = is_by of_def t v && is_by of_def ts vs
is_by of_def (named d) v = of_def d v
is_by of_def _ _ = false

abbrev pub is_fields : (ℕ → Value → Bool) → Option Tree → Value → Bool
is_fields of_def None v = false
is_fields of_def (Some t) v = is_by of_def t v

abbrev pub is_variant_of : (ℕ → Value → Bool) → List Tree → Value → Bool
is_variant_of of_def ts (variant k v) = is_fields of_def (slice_get ts k) v
is_variant_of of_def ts _ = false

abbrev pub is_of : (ℕ → Value → Bool) → Option Shape → Value → Bool
is_of of_def None v = false
is_of of_def (Some s) v = if s.is_enum then is_variant_of of_def s.variants v else is_by of_def (struct_fields s) v

abbrev pub is_def : List Shape → ℕ → ℕ → Value → Bool
is_def D zero d v = false
is_def D (suc n) d v = is_of (is_def D n) (slice_get D d) v

-- the value is one of the type: whole, its numbers in range, with no reference
unfoldable pub has_type : List Shape → Tree → Value → Bool
has_type D t v = is_by (is_def D (length D)) t v

-- ---- the flat form

abbrev pub both : Option (List ℤ) → Option (List ℤ) → Option (List ℤ)
both a b = a >>= λ xs. b >>= λ ys. Some (xs ++ ys)

abbrev pub flat_by : (ℕ → Value → Option (List ℤ)) → Tree → Value → Option (List ℤ)
flat_by of_def (scalar s) (number n) = Some (integer_of s n ∷ [])
flat_by of_def empty nil = Some []
flat_by of_def (more t ts) (cons v vs) = both (flat_by of_def t v) (flat_by of_def ts vs)
flat_by of_def (named d) v = of_def d v
flat_by of_def _ _ = None

abbrev pub flat_fields : (ℕ → Value → Option (List ℤ)) → Option Tree → Value → Option (List ℤ)
flat_fields of_def None v = None
flat_fields of_def (Some t) v = flat_by of_def t v

abbrev pub flat_variant : (ℕ → Value → Option (List ℤ)) → List Tree → Value → Option (List ℤ)
flat_variant of_def ts (variant k v) = both (Some (pos k ∷ [])) (flat_fields of_def (slice_get ts k) v)
flat_variant of_def ts _ = None

abbrev pub flat_of : (ℕ → Value → Option (List ℤ)) → Option Shape → Value → Option (List ℤ)
flat_of of_def None v = None
flat_of of_def (Some s) v = if s.is_enum then flat_variant of_def s.variants v else flat_by of_def (struct_fields s) v

abbrev pub flat_def : List Shape → ℕ → ℕ → Value → Option (List ℤ)
flat_def D zero d v = None
flat_def D (suc n) d v = flat_of (flat_def D n) (slice_get D d) v

-- a scalar's integer; a tuple's or struct's fields in order; an enum's variant number, and then that variant's fields
unfoldable pub flat : List Shape → Tree → Value → Option (List ℤ)
flat D t v = flat_by (flat_def D (length D)) t v

-- these integers are the flat form of these values of these types, one after the other
pub record AreFlat (D : List Shape) (types : List Tree) (integers : List ℤ) (values : List Value) : Type 0 where
  pub typed : IsTrue (has_type D (tuple_of types) (listed values))
  pub form : flat D (tuple_of types) (listed values) ≡ Some integers

-- ---- entries

abbrev pub result_and_args : TypedBody → List Tree
result_and_args b = take (suc b.args) b.locals

abbrev pub arg_types : TypedBody → List Tree
arg_types b = drop 1 (result_and_args b)

-- a function whose signature holds no reference, with arguments of its types
pub record IsEntry (C : Code) (e : Entry) : Type 0 where
  pub body : TypedBody
  pub there : slice_get C.bodies e.function ≡ Some body
  pub plain : IsTrue (not (holds_reference C.shapes (tuple_of (result_and_args body))))
  pub typed : IsTrue (has_type C.shapes (tuple_of (arg_types body)) (listed e.args))
