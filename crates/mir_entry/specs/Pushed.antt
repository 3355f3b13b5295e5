-- Integers that are put at the end of a list. No public promise rests on this.
use Rattle.std.specs.Prelude.{Bool, true, false, List, map, Option, Some, None, ℤ}
use Rattle.mir_syntax.specs.declared.number.Number.{Number}
use Rattle.mir_semantics.specs.Values.{Value, nil, cons}
use Rattle.mir_machine.specs.Ends.{integer_in}

-- the list with them, where there are such integers
abbrev pub pushed : Bool → List Number → Option (List ℤ)
pushed true ns = Some (map integer_in ns)
pushed false ns = None

-- a list of values, as that of a tuple or a struct
abbrev pub is_listed : Value → Bool
is_listed nil = true
is_listed (cons v vs) = true
is_listed _ = false
