-- Places that were found in memory.
use Rattle.std.specs.Prelude.{◌≡◌, ◌++◌, option_map}
use Rattle.mir_semantics.specs.Values.{Addr}
use Rattle.mir_semantics.specs.Memory.{Memory, value_at}
use Rattle.mir_meaning.specs.Views.{address, part_of}
use Rattle.mir_meaning.specs.declared.place.Spot.{Spot}

abbrev pub spot_of : Spot → Addr
spot_of s = address s.frame s.local (s.front.now ++ s.back.now)

-- the part of a spot is what stands at its address
abbrev pub IsSpot : Memory → Spot → Type 0
IsSpot m s = option_map part_of s.part ≡ value_at m (spot_of s)
