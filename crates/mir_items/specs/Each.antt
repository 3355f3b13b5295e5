-- None or more items without a sign that closes them: the list ends where no item begins.
use Rattle.std.specs.Prelude.{ℕ, zero, suc, Bool, List, [], ◌∷◌, ◌++◌, length, Ok, Err, if◌then◌else◌}
use Rattle.mir_text.specs.declared.symbol.Symbol.{Symbol}
use Rattle.mir_parse.specs.Faults.{no_reading}
use Rattle.mir_parse.specs.Parser.{Parse, and_then}

-- an item is read where one begins; the number bounds the turns
unfoldable pub each_from : {A : Type 0} → (List Symbol → Bool) → Parse A → ℕ → List A → Parse (List A)
each_from begins item zero before ts = Err (no_reading ts)
each_from begins item (suc n) before ts =
    if begins ts then and_then (item ts) (λ x ts. each_from begins item n (before ++ x ∷ []) ts) else Ok (before, ts)

abbrev pub each_at : {A : Type 0} → (List Symbol → Bool) → Parse A → Parse (List A)
each_at begins item ts = each_from begins item (suc (length ts)) [] ts
