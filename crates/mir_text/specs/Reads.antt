-- Which crate a text names.
use Rattle.std.specs.Prelude.{◌≡◌, ℕ, List, [], map, Option, None}
use Rattle.mir_syntax.specs.declared.lines.Lines.{Lines}
use Rattle.mir_syntax.specs.Crate.{Crate}
use Rattle.mir_text.specs.Pieces.{Piece, text_of, Stand}
use Rattle.mir_text.specs.Symbols.{symbols_of, strings_of, lined_symbols, line_in}
use Rattle.mir_text.specs.GrammarItems.{FileRule, file_put}
use Rattle.mir_text.specs.Nesting.{FileGood}
use Rattle.mir_text.specs.Names.{Names, names_of}
use Rattle.mir_text.specs.Naming.{crate_named}
use Rattle.mir_text.specs.PartLines.{LinedItem, file_lined}
use Rattle.mir_text.specs.NameFaults.{Fault, name_faults}
use Rattle.mir_text.specs.ReadLines.{lines_named, wrong_field_in}

-- the lines of the symbols of pieces
abbrev pub symbol_lines : List Piece → List ℕ
symbol_lines ps = map line_in (lined_symbols ps)

-- the items of a file that pieces derive, with the lines of their parts
abbrev pub items_in : List Piece → FileRule → List LinedItem
items_in ps file = file_lined file (symbol_lines ps)

abbrev pub names_in : List Piece → FileRule → Names
names_in ps file = names_of (strings_of ps) file

-- what is wrong with its names
abbrev pub faults_in : List Piece → FileRule → List Fault
faults_in ps file = name_faults (names_in ps file) (items_in ps file)

-- Bytes derive from the grammar: they are cut into pieces, whose symbols are those of a file; it is good, and its names have no fault.
pub record Derivation (bytes : List ℕ) : Type 0 where
  pub pieces : List Piece
  pub whole : bytes ≡ text_of pieces
  pub stand : Stand pieces []
  pub file : FileRule
  pub derives : symbols_of pieces ≡ file_put file []
  pub good : FileGood file
  pub faultless : faults_in pieces file ≡ []

-- the crate that a derivation names
abbrev pub crate_read : {bytes : List ℕ} → Derivation bytes → Crate
crate_read d = crate_named (strings_of d.pieces) d.file

-- the lines of its parts
abbrev pub lines_read : {bytes : List ℕ} → Derivation bytes → Lines
lines_read d = lines_named (names_in d.pieces d.file) (items_in d.pieces d.file)

-- the line of the first place whose written field type isn't the definition's
abbrev pub wrong_field : {bytes : List ℕ} → Derivation bytes → Option ℕ
wrong_field d = wrong_field_in (names_in d.pieces d.file) (items_in d.pieces d.file)

-- a text names a crate
pub record Reads (bytes : List ℕ) (c : Crate) : Type 0 where
  pub derivation : Derivation bytes
  pub named : crate_read derivation ≡ c

-- a text names a crate, and its parts have these lines
pub record ReadsWith (bytes : List ℕ) (c : Crate) (lines : Lines) : Type 0 where
  pub derivation : Derivation bytes
  pub named : crate_read derivation ≡ c
  pub lined : lines_read derivation ≡ lines
