-- What the code answers, beside what the meaning gives.
use Rattle.std.specs.Prelude.{◌≡◌, Option, Some, None, Result, Ok, Err}
use Rattle.mir_meaning.specs.declared.stop.Stop.{Stop}
use Rattle.mir_meaning.specs.declared.stop.Stop.TheVariants.{Undefined, OutOfMemory}

-- the answer is what the meaning gives, as it is seen; `Undefined` where the meaning gives nothing; where memory is wanting, nothing is said
abbrev pub Gives : {A B : Type 0} → Result A Stop → Option B → (A → B) → Type 0
Gives (Ok x) meaning seen = meaning ≡ Some (seen x)
Gives (Err Undefined) meaning seen = meaning ≡ None
Gives (Err OutOfMemory) meaning seen = Unit {0}
