-- The tree of a text, and how far a text is read item by item.
use Rattle.std.specs.Prelude.{◌≡◌, ℕ, List, [], length, None}
use Rattle.mir_text.specs.declared.symbol.Symbol.{Symbol}
use Rattle.mir_tree.specs.declared.Lined.{Lined}
use Rattle.mir_tree.specs.declared.item.ItemText.{ItemText}
use Rattle.mir_symbols.specs.declared.scan.Symbols.{Symbols}
use Rattle.mir_symbols.specs.Scan.{scan, EndsWith, ahead}
use Rattle.mir_symbols.specs.Found.{IsSymbolsOf}
use Rattle.mir_items.specs.Files.{IsFile, IsOnlyFile}
use Rattle.mir_reader.specs.declared.text.TextTree.{TextTree}

-- A text is cut to its end. Its symbols are those of a good file, whose tree this is, and the tree is that of each such file.
pub record IsTreeOfText (bytes : List ℕ) (tree : TextTree) : Type 0 where
  pub found : Symbols
  pub is : IsSymbolsOf bytes found
  pub only : (other : Symbols) → IsSymbolsOf bytes other → other ≡ found
  pub whole : found.fault ≡ None
  pub strings : tree.strings ≡ found.strings
  pub derives : IsFile found.symbols found.lines tree.file
  pub once : IsOnlyFile found.symbols found.lines tree.file

-- The symbols of the items that were read were given up, and no other is found yet. With them ahead, a scan of the bytes left ends with the
-- symbols of the text.
pub record IsReadTo (bytes : List ℕ) (found : Symbols) (items : List (Lined ItemText)) (left : List ℕ) : Type 0 where
  pub symbols : List Symbol
  pub lines : List ℕ
  pub same : length lines ≡ length symbols
  pub file : IsFile symbols lines (record { items = items })
  pub goes_on : EndsWith (ahead symbols lines found) left (scan bytes)
  pub none_left : found.symbols ≡ []
  pub no_lines : found.lines ≡ []
  pub whole : found.fault ≡ None
