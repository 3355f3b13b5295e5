-- The blank of a type has the type, where no definition holds itself by value.
use Rattle.std.proofs.Common.{◌≡◌, refl, ap, ◌∙◌, ℕ, zero, suc, Bool, true, false, if◌then◌else◌, List, [], ◌∷◌, length, map, Option, Some, None, is_some, slice_get, arith}
use Rattle.mir_syntax.specs.Tree.{Tree, scalar, empty, more, ref, ref_mut, named, tuple_of}
use Rattle.mir_syntax.specs.Crate.{TypedVariant, Crate}
use Rattle.mir_syntax.specs.Shapes.{Shape, fields_tuple, shapes_of, first_variant, struct_fields, fields_of, needs_by, any_needs}
use Rattle.mir_rules.specs.DefinitionRules.{holds, holds_one}
use Rattle.mir_rules.proofs.Lists.{or_false-left, or_false-right}
use Rattle.mir_rules.proofs.Depth.{is_deep, not_deep}
use Rattle.mir_rules.proofs.Destructors.{shape_is}
use Rattle.mir_semantics.specs.Values.{Value, number, nil, cons, variant, pointer, hole, is_unit, blank_by, blank_of, blank_def, blank}
use Rattle.mir_syntax.proofs.Binds.{some_bind}
use Rattle.mir_renaming.proofs.Types.{TypeMap, HasTy, holds_by}

-- a tuple
abbrev pub Tupled : Tree → Type 0
Tupled empty = Unit {0}
Tupled (more t ts) = Unit {0}
Tupled _ = ⊥

-- the fields of each variant are a tuple
abbrev pub Tuples : List Shape → Type 0
Tuples D = (d : ℕ) (s : Shape) → slice_get D d ≡ Some s → (k : ℕ) (us : Tree) → slice_get s.variants k ≡ Some us → Tupled us

tuple_tupled : (ts : List Tree) → Tupled (tuple_of ts)
tuple_tupled [] = tt
tuple_tupled (t ∷ ts) = tt

pub fields_tupled : (D : List Shape) (us : Tree) → Tupled us → fields_of D us ≡ Some us
fields_tupled D empty h = refl
fields_tupled D (more t ts) h = refl
fields_tupled D us h = absurd h

row_tupled : (vs : List TypedVariant) (k : ℕ) (us : Tree) → slice_get (map fields_tuple vs) k ≡ Some us → Tupled us
row_tupled [] k us e = absurd (grind arith)
row_tupled (v ∷ vs) zero us e = rw (let same : us ≡ fields_tuple v = grind arith in same) (tuple_tupled _)
row_tupled (v ∷ vs) (suc k) us e = row_tupled vs k us e

pub shapes_tupled : (C : Crate) → Tuples (shapes_of C)
shapes_tupled C d s e k us f =
    let (def, at, same) = shape_is C d s e in
    row_tupled def.variants k us (rw same at f)

pub first_tupled : (ts : List Tree) → ((k : ℕ) (us : Tree) → slice_get ts k ≡ Some us → Tupled us) → Tupled (first_variant ts)
first_tupled [] h = tt
first_tupled (t ∷ ts) h = h 0 t refl

-- a struct has the values of the tuple of its fields
pub struct_ty : (D : List Shape) (G : TypeMap) (d : ℕ) (us : Tree) (v : Value) → Tupled us → fields_of D (named d) ≡ Some us → HasTy D G us v → HasTy D G (named d) v
struct_ty D G d empty nil t e h = e
struct_ty D G d (more u us) nil t e h = e ∙ h
struct_ty D G d (more u us) (cons v vs) t e (a, as', q, x, y) = (a, as', e ∙ q, x, y)
struct_ty D G d empty (cons v vs) t e (a, as', q, x, y) = (a, as', e ∙ q, x, y)
struct_ty D G d empty (number n) t e h = absurd (grind arith)
struct_ty D G d (more u us) (number n) t e h = absurd (grind arith)
struct_ty D G d empty hole t e h = absurd (grind arith)
struct_ty D G d (more u us) hole t e h = absurd (grind arith)
struct_ty D G d empty (variant k v) t e (u, q, h) = absurd (grind arith)
struct_ty D G d (more w us) (variant k v) t e (u, q, h) = absurd (grind arith)
struct_ty D G d empty (pointer a) t e (u, q, h) = absurd (grind arith)
struct_ty D G d (more w us) (pointer a) t e (u, q, h) = absurd (grind arith)
struct_ty D G d us v t e h = absurd t

first_none : (test : ℕ → Bool) (ts : List Tree) → any_needs test ts ≡ false → needs_by test (first_variant ts) ≡ false
first_none test [] h = refl
first_none test (t ∷ ts) h = or_false-left (needs_by test t) (any_needs test ts) h

none_named : (test : ℕ → Bool) → ((d : ℕ) → test d ≡ false) → (t : Tree) → needs_by test t ≡ false
none_named test h (scalar s) = refl
none_named test h empty = refl
none_named test h (more t ts) = rw (none_named test h t) (none_named test h ts)
none_named test h (ref t) = refl
none_named test h (ref_mut t) = refl
none_named test h (named d) = h d

pub no_enum : (s : Shape) → is_unit s ≡ false → s.is_enum ≡ false
no_enum s e = or_false-left s.is_enum (is_some s.destructor) e

module _ (D : List Shape) (G : TypeMap) (tuples : Tuples D) where
  blank_by_ty : (of_def : ℕ → Value) (test : ℕ → Bool) → ((d : ℕ) → test d ≡ false → HasTy D G (named d) (of_def d)) → (t : Tree) → needs_by test t ≡ false → HasTy D G t (blank_by of_def t)
  blank_by_ty of_def test h (scalar s) n = refl
  blank_by_ty of_def test h empty n = refl
  blank_by_ty of_def test h (more t ts) n = (t, ts, refl, blank_by_ty of_def test h t (or_false-left (needs_by test t) (needs_by test ts) n), blank_by_ty of_def test h ts (or_false-right (needs_by test t) (needs_by test ts) n))
  blank_by_ty of_def test h (ref t) n = refl
  blank_by_ty of_def test h (ref_mut t) n = refl
  blank_by_ty of_def test h (named d) n = h d n

  blank_def_ty : (n d : ℕ) → is_deep D n d ≡ false → HasTy D G (named d) (blank_def D n d)
  blank_def_ty zero d shallow = go (slice_get D d) shallow
    where
      go : (o : Option Shape) → is_some o ≡ false → holds_by o ≡ true
      go None e = refl
      go (Some s) e = absurd (grind arith)
  blank_def_ty (suc n) d shallow = go (slice_get D d) refl shallow (λ k. blank_def_ty n k)
    where
      pick : (s : Shape) → slice_get D d ≡ Some s → any_needs (is_deep D n) s.variants ≡ false → ((k : ℕ) → is_deep D n k ≡ false → HasTy D G (named k) (blank_def D n k)) → (b : Bool) → is_unit s ≡ b → HasTy D G (named d) (if b then hole else blank_by (blank_def D n) (struct_fields s))
      pick s e sh ih true u = ap holds_by e ∙ u
      pick s e sh ih false u =
          struct_ty D G d (struct_fields s) (blank_by (blank_def D n) (struct_fields s)) (first_tupled s.variants (tuples d s e)) (some_bind _ e (ap (λ b. if b then None else Some (struct_fields s)) (no_enum s u)))
          (blank_by_ty (blank_def D n) (is_deep D n) ih (struct_fields s) (first_none (is_deep D n) s.variants sh))

      go : (o : Option Shape) → slice_get D d ≡ o → holds_one (is_deep D n) o ≡ false → ((k : ℕ) → is_deep D n k ≡ false → HasTy D G (named k) (blank_def D n k)) → HasTy D G (named d) (blank_of (blank_def D n) o)
      go None e sh ih = ap holds_by e
      go (Some s) e sh ih = pick s e sh ih (is_unit s) refl

  pub blank_typed : ((d : ℕ) → holds D (length D) d d ≡ false) → (t : Tree) → HasTy D G t (blank D t)
  unfolding blank
  blank_typed apart t = blank_by_ty (blank_def D (length D)) (is_deep D (length D)) (blank_def_ty (length D)) t (none_named (is_deep D (length D)) (not_deep D apart) t)
