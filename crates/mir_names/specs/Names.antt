-- What the answer to an added name says.
use Rattle.std.specs.Prelude.{◌≡◌, ℕ, Option, None, Some, Result, Ok, Err}
use Rattle.mir_names.specs.declared.names.NameFault.{NameFault}
use Rattle.mir_names.specs.declared.names.NameFault.TheVariants as fault

-- `Twice` is answered exactly where the name has a place among the names, with that place
abbrev pub SaysTwice : Option ℕ → Result ℕ NameFault → Type 0
SaysTwice place (Ok n) = place ≡ None
SaysTwice place (Err (fault.Twice n)) = place ≡ Some n
SaysTwice place (Err fault.OutOfMemory) = place ≡ None
