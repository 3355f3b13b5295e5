-- Parsing constants, operands and named operands.
use Rattle.std.specs.Prelude.{Bool, true, false, ◌==◌, ◌∷◌, Ok, Err, if◌then◌else◌}
use Rattle.mir_syntax.specs.declared.types.IntTy.{IntTy}
use Rattle.mir_text.specs.declared.symbol.Symbol.TheVariants as s
use Rattle.mir_text.specs.Numbers.{fits}
use Rattle.mir_tree.specs.declared.operand.ValueText.{ValueText}
use Rattle.mir_tree.specs.declared.operand.ValueText.TheVariants as v
use Rattle.mir_tree.specs.declared.operand.OperandText.{OperandText}
use Rattle.mir_tree.specs.declared.operand.OperandText.TheVariants as o
use Rattle.mir_tree.specs.declared.Items.{Items}
use Rattle.mir_tree.specs.declared.rvalue.NamedText.{NamedText}
use Rattle.mir_parse.specs.Faults.{no_reading, fault_at}
use Rattle.mir_parse.specs.Parser.{Parse, and_then}
use Rattle.mir_parse.specs.Signs.{close, colon, colons, name}
use Rattle.mir_parse.specs.Lists.{closing_paren, closing_brace, items_at}
use Rattle.mir_parse.specs.Places.{place_at}

-- a number with its type, behind a minus or not
unfoldable pub number : Bool → Parse ValueText
number minus (s.Typed t n ∷ ts) = if fits minus n t then Ok (v.Number minus t n, ts) else Err (fault_at 8 (s.Typed t n ∷ ts))
number minus (s.Number n ∷ ts) = Err (fault_at 8 (s.Number n ∷ ts))
number minus ts = Err (no_reading ts)

-- `MIN` is name 5 and `MAX` name 6
unfoldable pub bound : IntTy → Parse ValueText
bound t (s.Name n ∷ ts) = if n == 5 then Ok (v.Least t, ts) else (if n == 6 then Ok (v.Most t, ts) else Err (no_reading (s.Name n ∷ ts)))
bound t ts = Err (no_reading ts)

unfoldable pub bound_end : IntTy → Parse ValueText
bound_end t ts = and_then (colons ts) (λ _ ts. and_then (bound t ts) (λ x ts. Ok (x, ts)))

unfoldable pub value : Parse ValueText
value (s.Minus ∷ ts) = and_then (number true ts) (λ x ts. Ok (x, ts))
value (s.True ∷ ts) = Ok (v.Bool true, ts)
value (s.False ∷ ts) = Ok (v.Bool false, ts)
value (s.Open ∷ ts) = and_then (close ts) (λ _ ts. Ok (v.Unit, ts))
value (s.Int t ∷ ts) = and_then (bound_end t ts) (λ x ts. Ok (x, ts))
value ts = and_then (number false ts) (λ x ts. Ok (x, ts))

unfoldable pub operand : Parse OperandText
operand (s.Copy ∷ ts) = and_then (place_at 65 ts) (λ q ts. Ok (o.Copy q, ts))
operand (s.Move ∷ ts) = and_then (place_at 65 ts) (λ q ts. Ok (o.Move q, ts))
operand (s.Const ∷ ts) = and_then (value ts) (λ x ts. Ok (o.Const x, ts))
operand ts = and_then (place_at 65 ts) (λ q ts. Ok (o.Bare q, ts))

-- name : operand
unfoldable pub named : Parse NamedText
named ts = and_then (name ts) (λ n ts. and_then (colon ts) (λ _ ts. and_then (operand ts) (λ x ts. Ok (record { name = n; operand = x }, ts))))

-- operand,* and the parenthesis that closes it
abbrev pub operands_at : Parse (Items OperandText)
operands_at ts = items_at closing_paren operand ts

-- named,* and the brace that closes it
abbrev pub nameds_at : Parse (Items NamedText)
nameds_at ts = items_at closing_brace named ts
