-- What is read is what the text names.
use Rattle.std.proofs.Common.{◌≡◌, ℕ, List, [], ◌∷◌, length, None, refl, sym, ap, ap₂, subst, ◌∙◌, append-nil}
use Rattle.std.proofs.lemmas.List.{length-map}
use Rattle.mir_syntax.specs.declared.lines.Lines.{Lines}
use Rattle.mir_syntax.specs.Crate.{Crate}
use Rattle.mir_text.specs.Pieces.{text_of, line_past}
use Rattle.mir_text.specs.Symbols.{lined_symbols, symbol_in, line_in, strings_of}
use Rattle.mir_text.specs.GrammarItems as m
use Rattle.mir_text.specs.GrammarItems.{ItemRule, item_put, FileRule, file_put}
use Rattle.mir_text.specs.PartLines.{LinesFrom, past, LinedItem, item_lined, file_lined}
use Rattle.mir_text.specs.Names.{Names, names_of}
use Rattle.mir_text.specs.Naming.{crate_named}
use Rattle.mir_text.specs.NameFaults.{name_faults}
use Rattle.mir_text.specs.ReadLines.{lines_named}
use Rattle.mir_text.specs.Reads.{symbol_lines, Derivation, ReadsWith}
use Rattle.mir_text.specs.ReadFaults.{IsCut}
use Rattle.mir_tree.specs.declared.item.FileText.{FileText}
use Rattle.mir_tree.specs.Rules.{item_of, file_of, IsTreeOf}
use Rattle.mir_symbols.specs.declared.scan.Symbols.{Symbols}
use Rattle.mir_symbols.specs.Found.{IsFault, IsSymbolsOf}
use Rattle.mir_items.specs.Files.{IsFile}

-- ---- symbols

-- each symbol has a line
pub in-step : (bytes : List ℕ) (found : Symbols) → IsSymbolsOf bytes found → length found.lines ≡ length found.symbols
in-step bytes found is =
    ap length is.lines ∙ length-map (lined_symbols is.pieces) line_in ∙ sym (length-map (lined_symbols is.pieces) symbol_in) ∙ sym (ap length is.symbols)

-- without a fault the text is cut to its end
pub whole-cut : (bytes : List ℕ) (found : Symbols) (is : IsSymbolsOf bytes found) → found.fault ≡ None → IsCut bytes is.pieces []
whole-cut bytes found is none =
    let left : is.left ≡ [] = subst (λ f. IsFault (line_past 1 is.pieces) is.left f) none is.fault in
    subst (λ l. IsCut bytes is.pieces l) left is.cut

-- ---- the tree of a file

item-back : (item : ItemRule) (lines : LinesFrom) → item_of (item_lined item lines) ≡ item
item-back (m.struct path fields) lines = refl
item-back (m.enum path variants) lines = refl
item-back (m.extern path args result) lines = refl
item-back (m.function f) lines = refl

file-back : (rule : FileRule) (lines : LinesFrom) → file_of (file_lined rule lines) ≡ rule
file-back [] lines = refl
file-back (item ∷ items) lines = ap₂ (λ x xs. x ∷ xs) (item-back item lines) (file-back items (past item_put item lines))

-- what is said of names and items is said of those of a derivation
pub names-same : {A : Type 0} (of : Names → List LinedItem → A) (found : Symbols) (rule : FileRule) (strings : List (List ℕ)) (lines : List ℕ)
    → found.strings ≡ strings → found.lines ≡ lines
    → of (names_of found.strings (file_of (file_lined rule found.lines))) (file_lined rule found.lines) ≡ of (names_of strings rule) (file_lined rule lines)
names-same of found rule strings lines a b =
    ap₂ (λ n l. of n (file_lined rule l)) (ap₂ names_of a (file-back rule found.lines)) b

-- ---- a program

-- where a whole text has a tree whose names have no fault, it names what the tree does
pub reading : (bytes : List ℕ) (found : Symbols) → IsSymbolsOf bytes found → found.fault ≡ None
    → (file : FileText) → IsFile found.symbols found.lines file
    → (c : Crate) (lines : Lines)
    → ((items : List LinedItem) → IsTreeOf file items → c ≡ crate_named found.strings (file_of items))
    → ((items : List LinedItem) → IsTreeOf file items → lines ≡ lines_named (names_of found.strings (file_of items)) items)
    → ((items : List LinedItem) → IsTreeOf file items → name_faults (names_of found.strings (file_of items)) items ≡ [])
    → ReadsWith bytes c lines
reading bytes found is none file tree c lines named lined faultless =
    let cut = whole-cut bytes found is none in
    let items = file_lined tree.rule found.lines in
    let faults : name_faults (names_of (strings_of is.pieces) tree.rule) (file_lined tree.rule (symbol_lines is.pieces)) ≡ [] =
    sym (names-same name_faults found tree.rule (strings_of is.pieces) (symbol_lines is.pieces) is.strings is.lines) ∙ faultless items tree.tree_of in
    let d : Derivation bytes = record {
      pieces = is.pieces;
      whole = cut.whole ∙ append-nil (text_of is.pieces);
      stand = cut.stand;
      file = tree.rule;
      derives = sym is.symbols ∙ tree.derives;
      good = tree.good;
      faultless = faults;
    } in
    record {
      derivation = d;
      named = sym (named items tree.tree_of ∙ ap₂ crate_named is.strings (file-back tree.rule found.lines));
      lined = sym (lined items tree.tree_of ∙ names-same lines_named found tree.rule (strings_of is.pieces) (symbol_lines is.pieces) is.strings is.lines);
    }
