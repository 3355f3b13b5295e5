-- What the names of a text's tree tell of the text.
use Rattle.std.proofs.Common.{◌≡◌, ℕ, List, [], Some, subst}
use Rattle.mir_syntax.specs.declared.lines.Lines.{Lines}
use Rattle.mir_syntax.specs.Crate.{Crate}
use Rattle.mir_text.specs.PartLines.{LinedItem}
use Rattle.mir_text.specs.Names.{names_of}
use Rattle.mir_text.specs.Naming.{crate_named}
use Rattle.mir_text.specs.NameFaults.{Fault, name_faults, first_fault}
use Rattle.mir_text.specs.ReadLines.{lines_named}
use Rattle.mir_text.specs.Reads.{Reads, ReadsWith}
use Rattle.mir_text.specs.ReadFaults.{NameFault}
use Rattle.mir_tree.specs.Rules.{file_of, IsTreeOf}
use Rattle.mir_reader.specs.declared.text.TextTree.{TextTree}
use Rattle.mir_reader.specs.Text.{IsTreeOfText}
use Rattle.mir_reader.proofs.Whole.{reading}
use Rattle.mir_reader.proofs.Refusing.{names-refuse, names-first}

-- what is said of each list of items that the tree may have
abbrev OfItems : TextTree → (List LinedItem → Type 0) → Type 0
OfItems tree P = (items : List LinedItem) → IsTreeOf tree.file items → P items

pub tree-reads : (bytes : List ℕ) (tree : TextTree) → IsTreeOfText bytes tree → (c : Crate) (lines : Lines)
    → ((items : List LinedItem) → IsTreeOf tree.file items → c ≡ crate_named tree.strings (file_of items))
    → ((items : List LinedItem) → IsTreeOf tree.file items → lines ≡ lines_named (names_of tree.strings (file_of items)) items)
    → ((items : List LinedItem) → IsTreeOf tree.file items → name_faults (names_of tree.strings (file_of items)) items ≡ [])
    → ReadsWith bytes c lines
tree-reads bytes tree is c lines named lined faultless =
    reading bytes is.found is.is is.whole tree.file is.derives c lines
    (subst (λ strings. OfItems tree (λ items. c ≡ crate_named strings (file_of items))) is.strings named)
    (subst (λ strings. OfItems tree (λ items. lines ≡ lines_named (names_of strings (file_of items)) items)) is.strings lined)
    (subst (λ strings. OfItems tree (λ items. name_faults (names_of strings (file_of items)) items ≡ [])) is.strings faultless)

pub tree-refuses : (bytes : List ℕ) (tree : TextTree) → IsTreeOfText bytes tree → (fault : Fault)
    → ((items : List LinedItem) → IsTreeOf tree.file items → first_fault (name_faults (names_of tree.strings (file_of items)) items) ≡ Some fault)
    → (c : Crate) → Reads bytes c → ⊥
tree-refuses bytes tree is fault refused =
    names-refuse bytes is.found is.only tree.file is.once fault
    (subst (λ strings. OfItems tree (λ items. first_fault (name_faults (names_of strings (file_of items)) items) ≡ Some fault)) is.strings refused)

pub tree-first : (bytes : List ℕ) (tree : TextTree) → IsTreeOfText bytes tree → (code line : ℕ)
    → ((items : List LinedItem) → IsTreeOf tree.file items → first_fault (name_faults (names_of tree.strings (file_of items)) items) ≡ Some (line, code))
    → NameFault bytes code line
tree-first bytes tree is code line refused =
    names-first bytes is.found is.is is.whole tree.file is.derives code line
    (subst (λ strings. OfItems tree (λ items. first_fault (name_faults (names_of strings (file_of items)) items) ≡ Some (line, code))) is.strings refused)
