-- The round trip: from a text to its crate, and from the crate's canonical text to that crate again.
use Rattle.std.specs.Prelude.{◌≡◌, ℕ, List, None}
use Rattle.mir_syntax.specs.Crate.{Crate}
use Rattle.mir_text.specs.Reads.{Reads, wrong_field}
use Rattle.mir_text.specs.Text.{text}
use Rattle.mir_rules.specs.Valid.{Valid}
use Rattle.mir_round_trip.specs.Readable.{Readable}

-- a valid crate that a reading gave is read from its canonical text, where each field was written with its type
abbrev pub RoundTrips : Type 0
RoundTrips = (bytes : List ℕ) (c : Crate) (r : Reads bytes c) → wrong_field r.derivation ≡ None → Valid c → Reads (text c) c

-- so is any crate that a text can write, whoever made it
abbrev pub ReadsBack : Type 0
ReadsBack = (c : Crate) → Readable c → Reads (text c) c

-- what such a reading gives is a crate that a text can write
abbrev pub ReadingsAreReadable : Type 0
ReadingsAreReadable = (bytes : List ℕ) (c : Crate) (r : Reads bytes c) → wrong_field r.derivation ≡ None → Valid c → Readable c
