-- Parsing attributes and `drop`.
use Rattle.std.specs.Prelude.{Bool, true, false, List, ◌∷◌, ◌==◌, Ok, Err, if◌then◌else◌}
use Rattle.mir_syntax.specs.declared.body.Inline.{Inline}
use Rattle.mir_syntax.specs.declared.body.Inline.TheVariants as i
use Rattle.mir_text.specs.declared.symbol.Symbol.{Symbol}
use Rattle.mir_text.specs.declared.symbol.Symbol.TheVariants as s
use Rattle.mir_parse.specs.Faults.{no_reading}
use Rattle.mir_parse.specs.Parser.{Parse, and_then}
use Rattle.mir_parse.specs.Signs.{close, open_bracket, close_bracket, this_name}

-- `always` or `never`
unfoldable pub wish : Parse Inline
wish (s.Name n ∷ ts) = if n == 1 then Ok (i.Always, ts) else (if n == 2 then Ok (i.Never, ts) else Err (no_reading (s.Name n ∷ ts)))
wish ts = Err (no_reading ts)

-- what may stand behind `inline`
unfoldable pub wish_end : Parse Inline
wish_end (s.Open ∷ ts) = and_then (wish ts) (λ w ts. and_then (close ts) (λ _ ts. Ok (w, ts)))
wish_end ts = Ok (i.Hint, ts)

unfoldable pub attr_end : Parse Inline
attr_end ts = and_then (open_bracket ts) (λ _ ts. and_then (this_name 0 ts) (λ _ ts. and_then (wish_end ts) (λ w ts. and_then (close_bracket ts) (λ _ ts. Ok (w, ts)))))

-- an attribute, if one comes next
unfoldable pub attr : Parse Inline
attr (s.Hash ∷ ts) = and_then (attr_end ts) (λ w ts. Ok (w, ts))
attr ts = Ok (i.Plain, ts)

-- whether `drop` comes next, and what stands past it
unfoldable pub drop_at : List Symbol → Bool × List Symbol
drop_at (s.Drop ∷ ts) = (true, ts)
drop_at ts = (false, ts)
