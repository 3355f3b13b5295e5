-- Parsing paths.
use Rattle.std.specs.Prelude.{ℕ, zero, suc, Bool, true, false, List, [], ◌∷◌, ◌++◌, length, Ok, Err}
use Rattle.mir_text.specs.declared.symbol.Symbol.TheVariants as s
use Rattle.mir_tree.specs.declared.ty.PathText.{PathText}
use Rattle.mir_parse.specs.Faults.{no_reading}
use Rattle.mir_parse.specs.Parser.{Parse, and_then}
use Rattle.mir_parse.specs.Signs.{name}

-- `:: name`, where it comes next: whether the names end, and those so far
unfoldable pub path_turn : List ℕ → Parse (Bool × List ℕ)
path_turn before (s.Colons ∷ ts) = and_then (name ts) (λ n ts. Ok ((false, before ++ n ∷ []), ts))
path_turn before ts = Ok ((true, before), ts)

abbrev pub path_goes_on : (List ℕ → Parse (List ℕ)) → Bool × List ℕ → Parse (List ℕ)
path_goes_on more (true, ns) ts = Ok (ns, ts)
path_goes_on more (false, ns) ts = more ns ts

-- the number bounds the turns
unfoldable pub path_from : ℕ → List ℕ → Parse (List ℕ)
path_from zero before ts = Err (no_reading ts)
path_from (suc n) before ts = and_then (path_turn before ts) (path_goes_on (path_from n))

abbrev pub path_at : List ℕ → Parse (List ℕ)
path_at before ts = path_from (suc (length ts)) before ts

unfoldable pub path : Parse PathText
path ts = and_then (name ts) (λ n ts. and_then (path_at [] ts) (λ ns ts. Ok (record { first = n; rest = ns }, ts)))
