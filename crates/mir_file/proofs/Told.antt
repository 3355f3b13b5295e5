-- What is said of the items of a tree is said of each derivation that it is one of.
use Rattle.std.proofs.Common.{◌≡◌, List, map, sym, ap, ◌∙◌}
use Rattle.mir_text.specs.Names.{Strings, Names, names_of}
use Rattle.mir_text.specs.Naming.{crate_named}
use Rattle.mir_text.specs.PartLines.{LinedItem}
use Rattle.mir_tree.specs.declared.Lined.{Lined}
use Rattle.mir_tree.specs.declared.item.ItemText.{ItemText}
use Rattle.mir_tree.specs.Rules.{lined_item, plain_item, file_of}
use Rattle.mir_file.specs.Items.{rules_of}
use Rattle.mir_file.proofs.Scopes.{names_plain, crate_plain}
use Rattle.mir_file.proofs.AllFaults.{rules_same}

pub crate_told : (strings : Strings) (texts : List (Lined ItemText)) (items : List LinedItem) → map lined_item texts ≡ map plain_item items
    → crate_named strings (rules_of texts) ≡ crate_named strings (file_of items)
crate_told strings texts items is =
    ap (crate_named strings) (sym (rules_same texts)) ∙ ap (λ l. crate_named strings (file_of l)) is ∙ crate_plain strings items

-- what is made of the names and the items, which `debug` lines and scopes don't change
pub parts_told : {A : Type 0} (make : Names → List LinedItem → A) → ((names : Names) (items : List LinedItem) → make names (map plain_item items) ≡ make names items)
    → (strings : Strings) (texts : List (Lined ItemText)) (items : List LinedItem) → map lined_item texts ≡ map plain_item items
    → make (names_of strings (rules_of texts)) (map lined_item texts) ≡ make (names_of strings (file_of items)) items
parts_told make plain strings texts items is =
    ap (λ rules. make (names_of strings rules) (map lined_item texts)) (sym (rules_same texts))
    ∙ ap (λ l. make (names_of strings (file_of l)) l) is
    ∙ ap (λ names. make names (map plain_item items)) (names_plain strings items)
    ∙ plain (names_of strings (file_of items)) items
