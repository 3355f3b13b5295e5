-- Parsing types: the parts of a type go to the end of a list.
use Rattle.std.specs.Prelude.{ℕ, zero, suc, ◌+◌, ◌-◌, ◌<◌, ◌≡◌, refl, Bool, true, false, List, [], ◌∷◌, ◌++◌, length, Ok, Err}
use Rattle.std.proofs.Common.{arith}
use Rattle.mir_text.specs.declared.symbol.Symbol.{Symbol}
use Rattle.mir_text.specs.declared.symbol.Symbol.TheVariants as s
use Rattle.mir_tree.specs.declared.Items.{Items}
use Rattle.mir_tree.specs.declared.ty.TypePart.{TypePart}
use Rattle.mir_tree.specs.declared.ty.TypePart.TheVariants as p
use Rattle.mir_tree.specs.declared.ty.TypeText.{TypeText}
use Rattle.mir_parse.specs.declared.fault.SyntaxFault.{SyntaxFault}
use Rattle.mir_parse.specs.declared.list.Turn.{Turn}
use Rattle.mir_parse.specs.declared.list.Turn.TheVariants as turn
use Rattle.mir_parse.specs.Faults.{no_reading, fault_at}
use Rattle.mir_parse.specs.Parser.{Parse, and_then}
use Rattle.mir_parse.specs.Signs.{comma}
use Rattle.mir_parse.specs.Lists.{closing_paren, after_item, items_at}
use Rattle.mir_parse.specs.Paths.{path}

-- whether `mut` comes first, and what stands past it
unfoldable pub mut_at : List Symbol → Bool × List Symbol
mut_at (s.Mut ∷ ts) = (true, ts)
mut_at ts = (false, ts)

-- no type may be opened: one that begins is too deep
unfoldable pub no_type : List Symbol → SyntaxFault
no_type (s.Int i ∷ ts) = fault_at 6 (s.Int i ∷ ts)
no_type (s.Bool ∷ ts) = fault_at 6 (s.Bool ∷ ts)
no_type (s.Name n ∷ ts) = fault_at 6 (s.Name n ∷ ts)
no_type (s.Ampersand ∷ ts) = fault_at 6 (s.Ampersand ∷ ts)
no_type (s.Open ∷ ts) = fault_at 6 (s.Open ∷ ts)
no_type ts = no_reading ts

-- puts the parts of a type behind others
abbrev pub ParseType : Type 0
ParseType = List TypePart → Parse (List TypePart)

-- the types of a tuple behind its first comma, so many before: the closing parenthesis, or the next type and what stands behind it
unfoldable pub tuple_turn : ParseType → List TypePart → ℕ → Parse ((Turn × ℕ) × List TypePart)
tuple_turn type before count (s.Close ∷ ts) = Ok (((turn.Ends true, count), before), ts)
tuple_turn type before count ts = and_then (type before ts) (λ parts ts. and_then (after_item closing_paren ts) (λ t ts. Ok (((t, count + 1), parts), ts)))

abbrev pub tuple_goes_on : (List TypePart → ℕ → Parse (List TypePart)) → (Turn × ℕ) × List TypePart → Parse (List TypePart)
tuple_goes_on more ((turn.Ends trailing, count), parts) ts = Ok (parts ++ p.Tuple count trailing ∷ [], ts)
tuple_goes_on more ((turn.More, count), parts) ts = more parts count ts

-- the number bounds the turns
unfoldable pub tuple_from : ParseType → ℕ → List TypePart → ℕ → Parse (List TypePart)
tuple_from type zero before count ts = Err (no_reading ts)
tuple_from type (suc n) before count ts = and_then (tuple_turn type before count ts) (tuple_goes_on (tuple_from type n))

abbrev pub tuple_at : ParseType → List TypePart → ℕ → Parse (List TypePart)
tuple_at type before count ts = tuple_from type (suc (length ts)) before count ts

-- past the opening parenthesis
unfoldable pub parens_with : ParseType → ParseType
parens_with type before (s.Close ∷ ts) = Ok (before ++ p.Unit ∷ [], ts)
parens_with type before ts =
    and_then (type before ts) (λ parts ts. and_then (comma ts) (λ _ ts. and_then (tuple_at type parts 1 ts) (λ parts ts. Ok (parts, ts))))

unfoldable pub type_with : ParseType → ParseType
type_with type before (s.Int i ∷ ts) = Ok (before ++ p.Int i ∷ [], ts)
type_with type before (s.Bool ∷ ts) = Ok (before ++ p.Bool ∷ [], ts)
type_with type before (s.Name n ∷ ts) = and_then (path (s.Name n ∷ ts)) (λ x ts. Ok (before ++ p.Path x ∷ [], ts))
type_with type before (s.Ampersand ∷ ts) = and_then (type before (mut_at ts).1) (λ parts rest. Ok (parts ++ p.Ref (mut_at ts).0 ∷ [], rest))
type_with type before (s.Open ∷ ts) = and_then (parens_with type before ts) (λ parts ts. Ok (parts, ts))
type_with type before ts = Err (no_reading ts)

-- a type that nests no deeper than the number
unfoldable pub type_at : ℕ → ParseType
type_at zero before ts = Err (no_type ts)
type_at (suc d) before ts = type_with (type_at d) before ts

pub type_at-outer : (d : ℕ) (before : List TypePart) (ts : List Symbol) → 0 < d → type_at d before ts ≡ type_with (type_at (d - 1)) before ts
unfolding type_at
type_at-outer zero before ts h = absurd (omega arith)
type_at-outer (suc d) before ts h = let same : suc d - 1 ≡ d = omega arith in rw same refl

unfoldable pub type_text_at : ℕ → Parse TypeText
type_text_at d ts = and_then (type_at d [] ts) (λ parts ts. Ok (record { parts = parts }, ts))

-- type,* and the parenthesis that closes it
abbrev pub types_at : ℕ → Parse (Items TypeText)
types_at d ts = items_at closing_paren (type_text_at d) ts
