-- What the types of this crate stand for.
use Rattle.std.specs.Prelude.{ℕ, List, [], ◌∷◌, map}
use Rattle.mir_semantics.specs.Values.{Value, number, variant, pointer, hole, listed, Addr}
use Rattle.mir_semantics.specs.Memory as sem
use Rattle.mir_meaning.specs.declared.memory.Store.{Store}
use Rattle.mir_meaning.specs.declared.memory.Memory.{Memory}
use Rattle.mir_syntax.specs.declared.body.Proj.{Proj}
use Rattle.mir_meaning.specs.declared.pointer.Pointer.{Pointer}
use Rattle.mir_meaning.specs.declared.datum.Datum.{Datum, fold-Datum}
use Rattle.mir_meaning.specs.declared.datum.Datum.TheOpen.{Datum-F}
use Rattle.mir_meaning.specs.declared.part.Part.{Part}
use Rattle.mir_meaning.specs.declared.part.Part.TheVariants.{Whole, Fields}

abbrev pub address : ℕ → ℕ → List Proj → Addr
address f x ps = record { frame = f; local = x; path = ps }

abbrev pub addr_of : Pointer → Addr
addr_of p = record { frame = p.frame; local = p.local; path = p.path }

-- one level, with each value inside already seen
abbrev pub view_step : Datum-F Value → Value
view_step (Datum-F.Num n) = number n
view_step (Datum-F.Parts vs) = listed vs
view_step (Datum-F.Variant k vs) = variant k (listed vs)
view_step (Datum-F.Ref p) = pointer (addr_of p)
view_step Datum-F.Hole = hole

abbrev pub value_of : Datum → Value
value_of = fold-Datum Value view_step

-- the list of values that data stand for
abbrev pub fields_of : List Datum → Value
fields_of ds = listed (map value_of ds)

abbrev pub part_of : Part → Value
part_of (Whole d) = value_of d.now
part_of (Fields ds) = listed (map value_of ds.now)

abbrev pub store_of : Store → sem.Store
store_of s = record { frame = s.frame; slots = map value_of s.slots }

-- the newest frame, which comes last here, stands first there
abbrev pub memory_from : List Store → sem.Memory → sem.Memory
memory_from [] m = m
memory_from (s ∷ ss) m = memory_from ss (store_of s ∷ m)

abbrev pub memory_of : Memory → sem.Memory
memory_of m = memory_from m.stores []
