-- The grammar of rvalues and statements.
--
--     rvalue = operand | operand "as" type "(" "IntToInt" ")"
--            | binary "(" operand "," operand ")" | unary "(" operand ")"
--            | "&" "mut"? place | "discriminant" "(" place ")"
--            | "(" ")" | "(" operand "," operand,* ")"
--            | path ( "(" operand,* ")" | "{" named,* "}" )?
--     named  = name ":" operand
--     stmt   = place "=" rvalue | "nop"
--            | "StorageLive" "(" local ")" | "StorageDead" "(" local ")"
--            | "discriminant" "(" place ")" "=" number
use Rattle.std.specs.Prelude.{ℕ, Bool, List, ◌∷◌}
use Rattle.mir_syntax.specs.declared.body.BinOp.{BinOp}
use Rattle.mir_syntax.specs.declared.body.OverOp.{OverOp}
use Rattle.mir_syntax.specs.declared.body.UnOp.{UnOp}
use Rattle.mir_text.specs.declared.symbol.Symbol.{Symbol}
use Rattle.mir_text.specs.declared.symbol.Symbol.TheVariants as s
use Rattle.mir_text.specs.Symbols.{int_to_int_name}
use Rattle.mir_text.specs.Grammar.{Put, Items, items_put}
use Rattle.mir_text.specs.GrammarTypes.{PathRule, path_put, TypeRule, type_put, mut_put}
use Rattle.mir_text.specs.GrammarPlaces.{PlaceRule, place_put, OperandRule, operand_put}

-- ---- named

abbrev pub NamedRule : Type 0
NamedRule = ℕ × OperandRule

abbrev pub named_put : Put NamedRule
named_put x rest = s.Name x.0 ∷ s.Colon ∷ operand_put x.1 rest

-- ---- rvalue

-- what may follow the path of a struct or a variant
pub data BuildRule : Type 0 where
  plain : BuildRule
  tupled : Items OperandRule → BuildRule
  labelled : Items NamedRule → BuildRule

pub data RvalueRule : Type 0 where
  «use» : OperandRule → RvalueRule
  cast : OperandRule → TypeRule → RvalueRule
  binary : BinOp → OperandRule → OperandRule → RvalueRule
  overflow : OverOp → OperandRule → OperandRule → RvalueRule
  unary : UnOp → OperandRule → RvalueRule
  reference : Bool → PlaceRule → RvalueRule
  discriminant : PlaceRule → RvalueRule
  nothing : RvalueRule
  tuple_of : OperandRule → Items OperandRule → RvalueRule
  build : PathRule → BuildRule → RvalueRule

-- "(" operand "," operand ")"
abbrev pub pair_put : OperandRule → OperandRule → List Symbol → List Symbol
pair_put x y rest = s.Open ∷ operand_put x (s.Comma ∷ operand_put y (s.Close ∷ rest))

-- ( "(" operand,* ")" | "{" named,* "}" )?
abbrev pub parts_put : Put BuildRule
parts_put plain rest = rest
parts_put (tupled xs) rest = s.Open ∷ items_put operand_put s.Close xs rest
parts_put (labelled xs) rest = s.OpenBrace ∷ items_put named_put s.CloseBrace xs rest

-- "as" type "(" "IntToInt" ")"
abbrev pub cast_put : TypeRule → List Symbol → List Symbol
cast_put t rest = s.As ∷ type_put t (s.Open ∷ int_to_int_name ∷ s.Close ∷ rest)

abbrev pub rvalue_put : Put RvalueRule
rvalue_put («use» x) rest = operand_put x rest
rvalue_put (cast x t) rest = operand_put x (cast_put t rest)
rvalue_put (binary op x y) rest = s.Binary op ∷ pair_put x y rest
rvalue_put (overflow op x y) rest = s.Over op ∷ pair_put x y rest
rvalue_put (unary op x) rest = s.Unary op ∷ s.Open ∷ operand_put x (s.Close ∷ rest)
rvalue_put (reference m q) rest = s.Ampersand ∷ mut_put m (place_put q rest)
rvalue_put (discriminant q) rest = s.Discriminant ∷ s.Open ∷ place_put q (s.Close ∷ rest)
rvalue_put nothing rest = s.Open ∷ s.Close ∷ rest
rvalue_put (tuple_of x xs) rest = s.Open ∷ operand_put x (s.Comma ∷ items_put operand_put s.Close xs rest)
rvalue_put (build path parts) rest = path_put path (parts_put parts rest)

-- ---- stmt

pub data StmtRule : Type 0 where
  assign : PlaceRule → RvalueRule → StmtRule
  nop : StmtRule
  live : ℕ → StmtRule
  dead : ℕ → StmtRule
  set : PlaceRule → ℕ → StmtRule

abbrev pub stmt_put : Put StmtRule
stmt_put (assign q x) rest = place_put q (s.Equals ∷ rvalue_put x rest)
stmt_put nop rest = s.Nop ∷ rest
stmt_put (live x) rest = s.StorageLive ∷ s.Open ∷ s.Local x ∷ s.Close ∷ rest
stmt_put (dead x) rest = s.StorageDead ∷ s.Open ∷ s.Local x ∷ s.Close ∷ rest
stmt_put (set q k) rest = s.Discriminant ∷ s.Open ∷ place_put q (s.Close ∷ s.Equals ∷ s.Number k ∷ rest)
