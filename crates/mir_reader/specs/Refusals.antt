-- With which code and line a text is refused.
use Rattle.std.specs.Prelude.{◌≡◌, ◌⊎◌, ℕ, ◌==◌, List, Option, Some, None, option_map, Ok, Err, if◌then◌else◌}
use Rattle.mir_lex.specs.declared.kind.LexFault.{LexFault}
use Rattle.mir_symbols.specs.declared.scan.Symbols.{Symbols}
use Rattle.mir_symbols.specs.Found.{IsSymbolsOf}
use Rattle.mir_parse.specs.declared.fault.SyntaxFault.{SyntaxFault}
use Rattle.mir_parse.specs.Parser.{Found}
use Rattle.mir_text.specs.ReadFaults.{NameFault}
use Rattle.mir_items.specs.FaultLines.{fault_line}
use Rattle.mir_items.specs.Files.{file}
use Rattle.mir_file.specs.declared.resolve.Unresolved.{Unresolved}
use Rattle.mir_file.specs.declared.resolve.Unresolved.TheVariants as unresolved
use Rattle.mir_reader.specs.declared.refused.ReadRefused.{ReadRefused}
use Rattle.mir_reader.specs.declared.refused.ReadRefused.TheVariants as refused

-- a code and a line
abbrev pub Refusal : Type 0
Refusal = ℕ × ℕ

abbrev pub refused_with : Refusal → ReadRefused
refused_with r = refused.Fault r.0 r.1

abbrev pub byte_refusal : LexFault → Refusal
byte_refusal fault = (fault.code, fault.line)

abbrev pub symbol_refusal : Symbols → SyntaxFault → Refusal
symbol_refusal found fault = (fault.code, fault_line found.lines found.end_line fault)

-- the fault of a byte at which the symbols end, or else that of the text's end
abbrev pub at_end : Option LexFault → Refusal → Refusal
at_end (Some fault) other = byte_refusal fault
at_end None other = other

-- where the symbols end inside an item (5), the byte behind them counts if no piece stands there
unfoldable pub by_symbols : Symbols → SyntaxFault → Refusal
by_symbols found fault = if fault.code == 5 then at_end found.fault (symbol_refusal found fault) else symbol_refusal found fault

abbrev pub by_parse : {A : Type 0} → Symbols → Found A → Option Refusal
by_parse found (Ok parsed) = option_map byte_refusal found.fault
by_parse found (Err fault) = Some (by_symbols found fault)

-- the first fault of the bytes and symbols of a text
abbrev pub first_of : Symbols → Option Refusal
first_of found = by_parse found (file found.lines found.symbols)

abbrev pub refused_by_names : Unresolved → ReadRefused
refused_by_names (unresolved.Names fault) = refused.Fault fault.code fault.line
refused_by_names unresolved.OutOfMemory = refused.OutOfMemory

-- a text is refused by its bytes or symbols
pub record SymbolsRefused (bytes : List ℕ) (code line : ℕ) : Type 0 where
  pub found : Symbols
  pub is : IsSymbolsOf bytes found
  pub first : first_of found ≡ Some (code, line)

-- Where bytes and symbols have a fault, a text is refused with the first of them, and else with the first one of its names.
abbrev pub IsRefusedWith : List ℕ → ℕ → ℕ → Type 0
IsRefusedWith bytes code line = SymbolsRefused bytes code line ⊎ NameFault bytes code line
