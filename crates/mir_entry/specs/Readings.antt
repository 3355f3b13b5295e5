-- Values that are read from their flat form. No public promise rests on these: those of `mir_semantics` speak of the flat form.
use Rattle.std.specs.Prelude.{◌≡◌, ⊤, take, ℕ, zero, suc, ◌^◌, nat_lt, if◌then◌else◌, List, [], ◌∷◌, map, length, Option, Some, None, slice_get, ℤ, pos, negsuc}
use Rattle.mir_syntax.specs.declared.number.Number.{Number}
use Rattle.mir_syntax.specs.declared.types.TyId.{TyId}
use Rattle.mir_syntax.specs.declared.program.Program.{Program}
use Rattle.mir_syntax.specs.Tree.{Tree, scalar, empty, more, named, at_id, at_ids, trees_of}
use Rattle.mir_syntax.specs.Shapes.{Shape, ◌>>=◌, struct_fields}
use Rattle.mir_num.specs.Numbers.{exactly}
use Rattle.mir_semantics.specs.Values.{Value, number, nil, cons, variant}
use Rattle.mir_machine.specs.Ends.{integer_in}
use Rattle.mir_syntax.specs.declared.types.ScalarTy.{ScalarTy}
use Rattle.mir_entry.specs.declared.reads.Arguments.{Arguments}
use Rattle.mir_entry.specs.declared.reads.Arguments.TheVariants.{Fit, Stop}
use Rattle.mir_meaning.specs.declared.datum.Datum.{Datum}
use Rattle.mir_meaning.specs.Programs.{shapes_in}
use Rattle.mir_meaning.specs.Views.{fields_of}

-- a value, and the integers behind its flat form
abbrev pub Reading : Type 0
Reading = Option (Value × List ℤ)

abbrev pub read_scalar : List ℤ → Option ℕ → Reading
read_scalar is None = None
read_scalar is (Some n) = Some (number n, is)

abbrev pub scalar_front : ScalarTy → List ℤ → Reading
scalar_front s [] = None
scalar_front s (i ∷ is) = read_scalar is (exactly s i)

abbrev pub then_read : (List ℤ → Reading) → Reading → Reading
then_read next None = None
then_read next (Some x) = next x.1 >>= λ y. Some (cons x.0 y.0, y.1)

abbrev pub read_by : (ℕ → List ℤ → Reading) → Tree → List ℤ → Reading
read_by of_def (scalar s) is = scalar_front s is
read_by of_def empty is = Some (nil, is)
read_by of_def (more t ts) is = then_read (read_by of_def ts) (read_by of_def t is)
read_by of_def (named d) is = of_def d is
read_by of_def _ _ = None

abbrev pub as_variant : ℕ → Reading → Reading
as_variant k None = None
as_variant k (Some x) = Some (variant k x.0, x.1)

abbrev pub with_number : ℕ → Option Tree → Option (ℕ × Tree)
with_number k None = None
with_number k (Some t) = Some (k, t)

abbrev pub small_natural : ℤ → Option ℕ
small_natural (pos k) = if nat_lt k (2 ^ 32) then Some k else None
small_natural (negsuc k) = None

abbrev pub numbered : List Tree → Option ℕ → Option (ℕ × Tree)
numbered ts None = None
numbered ts (Some k) = with_number k (slice_get ts k)

-- the variant that an integer below 2^32 names: its place, and the tuple of its fields
abbrev pub variant_named : List Tree → ℤ → Option (ℕ × Tree)
variant_named ts i = numbered ts (small_natural i)

abbrev pub read_fields : (ℕ → List ℤ → Reading) → List ℤ → Option (ℕ × Tree) → Reading
read_fields of_def is None = None
read_fields of_def is (Some v) = as_variant v.0 (read_by of_def v.1 is)

abbrev pub read_variant : (ℕ → List ℤ → Reading) → List Tree → List ℤ → Reading
read_variant of_def ts [] = None
read_variant of_def ts (i ∷ is) = read_fields of_def is (variant_named ts i)

abbrev pub read_of : (ℕ → List ℤ → Reading) → Option Shape → List ℤ → Reading
read_of of_def None is = None
read_of of_def (Some s) is = if s.is_enum then read_variant of_def s.variants is else read_by of_def (struct_fields s) is

abbrev pub read_def : List Shape → ℕ → ℕ → List ℤ → Reading
read_def D zero d is = None
read_def D (suc n) d is = read_of (read_def D n) (slice_get D d) is

-- the one value of a type whose flat form stands in front of integers, and what is behind it
unfoldable pub reading : List Shape → Tree → List ℤ → Reading
reading D t is = read_by (read_def D (length D)) t is

-- ---- as the code has them

abbrev pub integers_of : List Number → List ℤ
integers_of ns = map integer_in ns

-- values that were read before are put in front of those of a reading
abbrev pub in_front : List Value → Value → Value
in_front [] w = w
in_front (v ∷ vs) w = cons v (in_front vs w)

abbrev pub behind : List Value → Reading → Reading
behind vs None = None
behind vs (Some x) = Some (in_front vs x.0, x.1)

-- what arguments were read, where all of them were
abbrev pub arguments_in : Arguments → Reading
arguments_in (Fit values rest) = Some (fields_of values, integers_of rest.now)
arguments_in (Stop place) = None

-- values of the first k types are read, and none of the next
pub record StopsAt (p : Program) (ids : List TyId) (is : List ℤ) (k : ℕ) : Type 0 where
  pub next : TyId
  pub values : List Datum
  pub rest : List ℤ
  pub there : slice_get ids k ≡ Some next
  pub before : reading (shapes_in p) (at_ids (trees_of p.types) (take k ids)) is ≡ Some (fields_of values, rest)
  pub none : reading (shapes_in p) (at_id (trees_of p.types) next) rest ≡ None

-- where reading stopped
abbrev pub StopsWhere : Program → List TyId → List ℤ → Arguments → Type 0
StopsWhere p ids is (Fit values rest) = ⊤
StopsWhere p ids is (Stop place) = StopsAt p ids is place
