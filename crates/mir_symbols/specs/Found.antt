-- Which symbols a text has.
use Rattle.std.specs.Prelude.{◌≡◌, ℕ, List, [], Option, Some, None}
use Rattle.mir_text.specs.Pieces.{Piece, line_past}
use Rattle.mir_text.specs.Symbols.{symbols_of, strings_of}
use Rattle.mir_text.specs.Reads.{symbol_lines}
use Rattle.mir_text.specs.ReadFaults.{IsCut, IsByteFault}
use Rattle.mir_lex.specs.declared.kind.LexFault.{LexFault}
use Rattle.mir_symbols.specs.declared.scan.Symbols.{Symbols}

-- without a fault nothing is left of the text; a fault is that of the bytes that are left, on a line
abbrev pub IsFault : ℕ → List ℕ → Option LexFault → Type 0
IsFault n left None = left ≡ []
IsFault n left (Some fault) = IsByteFault left fault.code × (fault.line ≡ n)

-- A text is cut into pieces, as far as pieces stand there, and these are their symbols with their lines and byte strings.
pub record IsSymbolsOf (bytes : List ℕ) (found : Symbols) : Type 0 where
  pub pieces : List Piece
  pub left : List ℕ
  pub cut : IsCut bytes pieces left
  pub symbols : found.symbols ≡ symbols_of pieces
  pub lines : found.lines ≡ symbol_lines pieces
  pub strings : found.strings ≡ strings_of pieces
  pub end_line : found.end_line ≡ line_past 1 pieces
  pub fault : IsFault (line_past 1 pieces) left found.fault
