-- The first fault among those that were noted, one after another.
use Rattle.std.specs.Prelude.{List, [], ◌∷◌, Option, Some}
use Rattle.mir_text.specs.NameFaults.{Fault, earlier}

-- the first of what was kept and of further faults
unfoldable pub noted : Option Fault → List Fault → Option Fault
noted kept [] = kept
noted kept (f ∷ fs) = noted (Some (earlier f kept)) fs
