-- The grammar of places, constants and operands.
--
--     place   = local | "(" "*" place ")" | "(" place "." number ":" type ")"
--             | "(" "(" place "as" name ")" "." number ":" type ")"
--     value   = "-"? number | "true" | "false" | "(" ")" | integer type "::" ( "MIN" | "MAX" )
--     operand = "copy" place | "move" place | place | "const" value
use Rattle.std.specs.Prelude.{ℕ, Bool, true, false, List, ◌∷◌}
use Rattle.mir_syntax.specs.declared.types.IntTy.{IntTy}
use Rattle.mir_text.specs.declared.symbol.Symbol.{Symbol}
use Rattle.mir_text.specs.declared.symbol.Symbol.TheVariants as s
use Rattle.mir_text.specs.Symbols.{min_name, max_name}
use Rattle.mir_text.specs.Grammar.{Put}
use Rattle.mir_text.specs.GrammarTypes.{TypeRule, type_put}

-- ---- place

pub data PlaceRule : Type 0 where
  local : ℕ → PlaceRule
  deref : PlaceRule → PlaceRule
  field : PlaceRule → ℕ → TypeRule → PlaceRule
  variant_field : PlaceRule → ℕ → ℕ → TypeRule → PlaceRule

-- "." number ":" type ")"
abbrev pub field_put : ℕ → TypeRule → List Symbol → List Symbol
field_put n t rest = s.Dot ∷ s.Number n ∷ s.Colon ∷ type_put t (s.Close ∷ rest)

-- "as" name ")"
abbrev pub variant_put : ℕ → List Symbol → List Symbol
variant_put name rest = s.As ∷ s.Name name ∷ s.Close ∷ rest

abbrev pub place_put : Put PlaceRule
place_put (local x) rest = s.Local x ∷ rest
place_put (deref q) rest = s.Open ∷ s.Star ∷ place_put q (s.Close ∷ rest)
place_put (field q n t) rest = s.Open ∷ place_put q (field_put n t rest)
place_put (variant_field q name n t) rest = s.Open ∷ s.Open ∷ place_put q (variant_put name (field_put n t rest))

-- ---- value

pub data ValueRule : Type 0 where
  number : Bool → ℕ → IntTy → ValueRule  -- true: with a minus
  boolean : Bool → ValueRule
  unit : ValueRule
  least : IntTy → ValueRule
  most : IntTy → ValueRule

-- "-"?
abbrev pub minus_put : Put Bool
minus_put true rest = s.Minus ∷ rest
minus_put false rest = rest

abbrev pub truth : Bool → Symbol
truth true = s.True
truth false = s.False

abbrev pub value_put : Put ValueRule
value_put (number negative n t) rest = minus_put negative (s.Typed t n ∷ rest)
value_put (boolean x) rest = truth x ∷ rest
value_put unit rest = s.Open ∷ s.Close ∷ rest
value_put (least t) rest = s.Int t ∷ s.Colons ∷ min_name ∷ rest
value_put (most t) rest = s.Int t ∷ s.Colons ∷ max_name ∷ rest

-- ---- operand

pub data OperandRule : Type 0 where
  copy : PlaceRule → OperandRule
  move : PlaceRule → OperandRule
  bare : PlaceRule → OperandRule
  const : ValueRule → OperandRule

abbrev pub operand_put : Put OperandRule
operand_put (copy q) rest = s.Copy ∷ place_put q rest
operand_put (move q) rest = s.Move ∷ place_put q rest
operand_put (bare q) rest = place_put q rest
operand_put (const x) rest = s.Const ∷ value_put x rest
