-- Texts that are accepted.
use Rattle.std.specs.Prelude.{◌≡◌, ℕ, ◌≤◌, List, length, None}
use Rattle.mir_syntax.specs.Crate.{Crate}
use Rattle.mir_text.specs.Reads.{Reads, wrong_field}
use Rattle.mir_rules.specs.Valid.{Valid, Within}

abbrev pub most_bytes : ℕ
most_bytes = 67108864

-- a text of a valid crate within the limits, whose projections are written with the types of their fields (V07)
pub record Accepted (bytes : List ℕ) (C : Crate) : Type 0 where
  pub reads : Reads bytes C
  pub fields : wrong_field reads.derivation ≡ None
  pub valid : Valid C
  pub within : Within C
  pub short : length bytes ≤ most_bytes
