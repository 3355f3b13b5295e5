-- A text that is read item by item has the tree of these items.
use Rattle.std.proofs.Common.{◌≡◌, ℕ, ◌+◌, Bool, true, ◌==◌, List, [], ◌∷◌, ◌++◌, length, Option, Some, None, refl, sym, ap, subst, ◌∙◌, arith, append-nil, length-append}
use Rattle.std.proofs.lemmas.Bool.{eqb-true}
use Rattle.mir_text.specs.declared.symbol.Symbol.{Symbol}
use Rattle.mir_tree.specs.declared.Lined.{Lined}
use Rattle.mir_tree.specs.declared.item.ItemText.{ItemText}
use Rattle.mir_symbols.specs.declared.scan.Symbols.{Symbols}
use Rattle.mir_symbols.specs.Scan.{no_symbols, scan, EndsWith, ahead, cleared, InStep}
use Rattle.mir_symbols.proofs.Scanned.{scan_cut, scan_once}
use Rattle.mir_symbols.proofs.GoesOn.{ends-here, begins, ahead-goes_on, cleared-goes_on}
use Rattle.mir_items.specs.Files.{IsItem, IsItemOrNone, IsFile}
use Rattle.mir_items.proofs.FilesGrow.{no-items, one-more-item, only-file}
use Rattle.mir_reader.specs.declared.text.TextTree.{TextTree}
use Rattle.mir_reader.specs.Text.{IsTreeOfText, IsReadTo}

-- before the first item
pub none-read : (bytes : List ℕ) (found : Symbols) (items : List (Lined ItemText)) → found ≡ no_symbols → items ≡ [] → IsReadTo bytes found items bytes
none-read bytes found items is empty =
    let start : IsReadTo bytes no_symbols [] bytes = record {
      symbols = [];
      lines = [];
      same = refl;
      file = no-items;
      goes_on = begins bytes;
      none_left = refl;
      no_lines = refl;
      whole = refl;
    } in
    subst (λ found. IsReadTo bytes found items bytes) (sym is) (subst (λ items. IsReadTo bytes no_symbols items bytes) (sym empty) start)

pub is-empty : {A : Type 0} (xs : List A) (empty : Bool) → empty ≡ (length xs == 0) → empty ≡ true → xs ≡ []
is-empty [] empty e h = refl
is-empty (x ∷ xs) empty e h = absurd (omega (arith, eqb-true (length (x ∷ xs)) 0 (sym e ∙ h)))

no-lines : (found : Symbols) → InStep found → found.symbols ≡ [] → found.lines ≡ []
no-lines found same none = of found.lines (same ∙ ap length none)
  where
    of : (lines : List ℕ) → length lines ≡ 0 → lines ≡ []
    of [] e = refl
    of (n ∷ lines) e = absurd (omega arith)

-- no symbol was found up to the end of the text
pub blanks-read : (bytes : List ℕ) (found next : Symbols) (items : List (Lined ItemText)) (left rest : List ℕ)
    → ((whole : Symbols) → EndsWith found left whole → EndsWith next rest whole) → InStep next → next.symbols ≡ [] → next.fault ≡ None
    → IsReadTo bytes found items left → IsReadTo bytes next items rest
blanks-read bytes found next items left rest step same none whole read = record {
  symbols = read.symbols;
  lines = read.lines;
  same = read.same;
  file = read.file;
  goes_on = ahead-goes_on read.symbols read.lines found next left rest (scan bytes) step read.goes_on;
  none_left = none;
  no_lines = no-lines next same none;
  whole = whole;
}

-- what the parser answered for the symbols found
pub item-of : (xs symbols : List Symbol) (ns lines : List ℕ) (found : Option (Lined ItemText)) (item : Lined ItemText)
    → xs ≡ symbols → ns ≡ lines → found ≡ Some item → IsItemOrNone xs ns found → IsItem symbols lines item
item-of xs symbols ns lines found item a b is h =
    subst (λ xs. IsItem xs lines item) a (subst (λ ns. IsItem xs ns item) b (subst (λ found. IsItemOrNone xs ns found) is h))

-- one more item was read, and its symbols given up
pub item-read : (bytes : List ℕ) (found next : Symbols) (items : List (Lined ItemText)) (item : Lined ItemText) (left rest : List ℕ)
    → ((whole : Symbols) → EndsWith found left whole → EndsWith next rest whole) → InStep next → next.fault ≡ None → IsItem next.symbols next.lines item
    → (after : Symbols) (more : List (Lined ItemText)) → after ≡ cleared next → more ≡ items ++ item ∷ [] → IsReadTo bytes found items left → IsReadTo bytes after more rest
item-read bytes found next items item left rest step same whole is after more gone pushed read =
    let on = ahead-goes_on read.symbols read.lines found next left rest (scan bytes) step read.goes_on in
    let one : IsReadTo bytes (cleared next) (items ++ item ∷ []) rest = record {
      symbols = read.symbols ++ next.symbols;
      lines = read.lines ++ next.lines;
      same = omega (arith, read.same, same, length-append read.lines next.lines, length-append read.symbols next.symbols);
      file = one-more-item read.symbols next.symbols read.lines next.lines items item read.same read.file is;
      goes_on = cleared-goes_on read.symbols read.lines next rest (scan bytes) on;
      none_left = refl;
      no_lines = refl;
      whole = whole;
    } in
    subst (λ found. IsReadTo bytes found more rest) (sym gone) (subst (λ items. IsReadTo bytes (cleared next) items rest) (sym pushed) one)

-- a text that is read to its end
pub all-read : (bytes : List ℕ) (found : Symbols) (tree : TextTree) → tree.strings ≡ found.strings → IsReadTo bytes found tree.file.items [] → IsTreeOfText bytes tree
all-read bytes found tree strings read =
    let e : scan bytes ≡ ahead read.symbols read.lines found = ends-here (ahead read.symbols read.lines found) (scan bytes) read.goes_on in
    let symbols : read.symbols ≡ (scan bytes).symbols =
    sym (ap (λ r. r.symbols) e ∙ ap (λ xs. read.symbols ++ xs) read.none_left ∙ append-nil read.symbols) in
    let lines : read.lines ≡ (scan bytes).lines =
    sym (ap (λ r. r.lines) e ∙ ap (λ ns. read.lines ++ ns) read.no_lines ∙ append-nil read.lines) in
    let derives : IsFile (scan bytes).symbols (scan bytes).lines tree.file =
    subst (λ xs. IsFile xs (scan bytes).lines tree.file) symbols (subst (λ ns. IsFile read.symbols ns tree.file) lines read.file) in
    let same : length (scan bytes).lines ≡ length (scan bytes).symbols = sym (ap length lines) ∙ read.same ∙ ap length symbols in
    record {
      found = scan bytes;
      is = scan_cut bytes;
      only = scan_once bytes;
      whole = ap (λ r. r.fault) e ∙ read.whole;
      strings = strings ∙ sym (ap (λ r. r.strings) e);
      derives = derives;
      once = only-file (scan bytes).symbols (scan bytes).lines tree.file same derives;
    }
