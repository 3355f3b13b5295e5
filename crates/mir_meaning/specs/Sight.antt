-- What a statement sees, and what stands at a place that it names.
use Rattle.std.specs.Prelude.{◌≡◌, Option, Some, None}
use Rattle.mir_syntax.specs.declared.body.Place.{Place}
use Rattle.mir_syntax.specs.Tree.{trees_of}
use Rattle.mir_syntax.specs.Crate.{body_of}
use Rattle.mir_syntax.specs.Shapes.{◌>>=◌}
use Rattle.mir_semantics.specs.Values.{Addr, Value}
use Rattle.mir_semantics.specs.Memory.{Memory, value_at}
use Rattle.mir_semantics.specs.Step as sem
use Rattle.mir_semantics.specs.Step.{resolve, dest_of, store}
use Rattle.mir_meaning.specs.declared.here.Here.{Here}
use Rattle.mir_meaning.specs.Programs.{shapes_in}

abbrev pub here_of : Here → sem.Here
here_of h = record { shapes = shapes_in h.program.now; locals = (body_of (trees_of h.program.now.types) h.body.now).locals; frame = h.frame }

-- nothing stands at the place
abbrev pub Misses : sem.Here → Memory → Place → Type 0
Misses h m p = (resolve h m p >>= value_at m) ≡ None

-- the place is there, and what stands at it
pub record Finds (h : sem.Here) (m : Memory) (p : Place) (a : Addr) (v : Value) : Type 0 where
  pub place : resolve h m p ≡ Some a
  pub value : value_at m a ≡ Some v

-- the memory after a value was assigned to a place
abbrev pub assigned : sem.Here → Memory → Place → Value → Option Memory
assigned h m p v = dest_of h m p >>= λ d. store h.shapes m d v
