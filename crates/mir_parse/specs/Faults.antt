-- Which fault symbols are refused with.
use Rattle.std.specs.Prelude.{ℕ, List, [], ◌∷◌, length, None}
use Rattle.mir_text.specs.declared.symbol.Symbol.{Symbol}
use Rattle.mir_text.specs.declared.symbol.Symbol.TheVariants as s
use Rattle.mir_parse.specs.declared.fault.SyntaxFault.{SyntaxFault}

-- a fault at the first symbol
abbrev pub fault_at : ℕ → List Symbol → SyntaxFault
fault_at code ts = record { code = code; left = length ts; part = None }

-- the symbols end, or the first one is a left-out word, or no reading goes on with it
unfoldable pub no_reading : List Symbol → SyntaxFault
no_reading [] = fault_at 5 []
no_reading (s.LeftOut ∷ ts) = fault_at 7 (s.LeftOut ∷ ts)
no_reading (t ∷ ts) = fault_at 4 (t ∷ ts)
