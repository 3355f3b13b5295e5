-- A text that is refused names no crate, and its first fault is told.
use Rattle.std.proofs.Common.{◌≡◌, ℕ, List, [], ◌∷◌, Some, None, refl, sym, ap, ◌∙◌, append-nil}
use Rattle.mir_syntax.specs.Crate.{Crate}
use Rattle.mir_text.specs.Pieces.{text_of, line_past}
use Rattle.mir_text.specs.Symbols.{symbols_of, strings_of}
use Rattle.mir_text.specs.GrammarItems.{FileRule, file_put}
use Rattle.mir_text.specs.Nesting.{FileGood}
use Rattle.mir_text.specs.PartLines.{LinedItem, file_lined}
use Rattle.mir_text.specs.Names.{names_of}
use Rattle.mir_text.specs.NameFaults.{Fault, name_faults, first_fault}
use Rattle.mir_text.specs.Reads.{symbol_lines, Derivation, Reads}
use Rattle.mir_text.specs.ReadFaults.{NameFault}
use Rattle.mir_tree.specs.declared.item.FileText.{FileText}
use Rattle.mir_tree.specs.Rules.{file_of, IsTreeOf}
use Rattle.mir_symbols.specs.declared.scan.Symbols.{Symbols}
use Rattle.mir_symbols.specs.Found.{IsSymbolsOf}
use Rattle.mir_items.specs.Files.{IsFile, IsOnlyFile}
use Rattle.mir_reader.proofs.Whole.{whole-cut, names-same}

-- ---- the symbols of a derivation

symbols-read : {bytes : List ℕ} → Derivation bytes → Symbols
symbols-read d = record { symbols = symbols_of d.pieces; lines = symbol_lines d.pieces; strings = strings_of d.pieces; fault = None; end_line = line_past 1 d.pieces }

are-symbols : {bytes : List ℕ} (d : Derivation bytes) → IsSymbolsOf bytes (symbols-read d)
unfolding symbols-read
are-symbols d = record {
  pieces = d.pieces;
  left = [];
  cut = record { whole = d.whole ∙ sym (append-nil (text_of d.pieces)); stand = d.stand };
  symbols = refl;
  lines = refl;
  strings = refl;
  end_line = refl;
  fault = refl;
}

-- the symbols of a text, of which there is one such answer, are those of each derivation
abbrev IsOnly : List ℕ → Symbols → Type 0
IsOnly bytes found = (other : Symbols) → IsSymbolsOf bytes other → other ≡ found

record AreThose {bytes : List ℕ} (d : Derivation bytes) (found : Symbols) : Type 0 where
  symbols : found.symbols ≡ symbols_of d.pieces
  lines : found.lines ≡ symbol_lines d.pieces
  strings : found.strings ≡ strings_of d.pieces
  fault : found.fault ≡ None

are-those : {bytes : List ℕ} (d : Derivation bytes) (found : Symbols) → IsOnly bytes found → AreThose d found
unfolding symbols-read
are-those d found only =
    let e : found ≡ symbols-read d = sym (only (symbols-read d) (are-symbols d)) in
    record { symbols = ap (λ x. x.symbols) e; lines = ap (λ x. x.lines) e; strings = ap (λ x. x.strings) e; fault = ap (λ x. x.fault) e }

-- ---- no crate is named

-- a whole text whose symbols are those of no good file names no crate
pub symbols-refuse : (bytes : List ℕ) (found : Symbols) → ((other : Symbols) → IsSymbolsOf bytes other → other ≡ found)
    → (found.fault ≡ None → (rule : FileRule) → FileGood rule → found.symbols ≡ file_put rule [] → ⊥)
    → (c : Crate) → Reads bytes c → ⊥
symbols-refuse bytes found only none c r =
    let d = r.derivation in
    let those = are-those d found only in
    none those.fault d.file d.good (those.symbols ∙ d.derives)

no-fault : (faults : List Fault) (f : Fault) → first_fault faults ≡ Some f → faults ≡ [] → ⊥
no-fault [] f e none = absurd cc
no-fault (g ∷ faults) f e none = absurd cc

-- a text whose names have a fault names no crate
pub names-refuse : (bytes : List ℕ) (found : Symbols) → ((other : Symbols) → IsSymbolsOf bytes other → other ≡ found)
    → (file : FileText) → IsOnlyFile found.symbols found.lines file
    → (fault : Fault)
    → ((items : List LinedItem) → IsTreeOf file items → first_fault (name_faults (names_of found.strings (file_of items)) items) ≡ Some fault)
    → (c : Crate) → Reads bytes c → ⊥
names-refuse bytes found only file once fault refused c r =
    let d = r.derivation in
    let those = are-those d found only in
    let tree = once d.file d.good (those.symbols ∙ d.derives) in
    let items = file_lined d.file found.lines in
    let faults = names-same name_faults found d.file (strings_of d.pieces) (symbol_lines d.pieces) those.strings those.lines in
    no-fault (name_faults (names_of found.strings (file_of items)) items) fault (refused items tree) (faults ∙ d.faultless)

-- ---- the first fault

-- a text whose symbols are those of a good file is refused with the first fault of its names
pub names-first : (bytes : List ℕ) (found : Symbols) → IsSymbolsOf bytes found → found.fault ≡ None
    → (file : FileText) → IsFile found.symbols found.lines file
    → (code line : ℕ)
    → ((items : List LinedItem) → IsTreeOf file items → first_fault (name_faults (names_of found.strings (file_of items)) items) ≡ Some (line, code))
    → NameFault bytes code line
names-first bytes found is none file tree code line refused =
    let items = file_lined tree.rule found.lines in
    let faults = names-same name_faults found tree.rule (strings_of is.pieces) (symbol_lines is.pieces) is.strings is.lines in
    record {
      pieces = is.pieces;
      cut = whole-cut bytes found is none;
      file = tree.rule;
      derives = sym is.symbols ∙ tree.derives;
      good = tree.good;
      first = sym (ap first_fault faults) ∙ refused items tree.tree_of;
    }
