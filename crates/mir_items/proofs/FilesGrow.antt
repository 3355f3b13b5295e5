-- An item that is read by its own symbols, and the file of the items before it and this one.
use Rattle.std.proofs.Common.{◌≡◌, ℕ, ◌+◌, ◌<◌, List, [], ◌∷◌, ◌++◌, map, length, Ok, Err, None, refl, sym, ap, ap₂, subst, ◌∙◌, arith}
use Rattle.std.proofs.lemmas.List.{map-append}
use Rattle.mir_text.specs.declared.symbol.Symbol.{Symbol}
use Rattle.mir_text.specs.Grammar.{Put, each_put, AllOf}
use Rattle.mir_text.specs.GrammarItems.{ItemRule, item_put, file_put}
use Rattle.mir_text.specs.Nesting.{ItemGood}
use Rattle.mir_text.specs.PartLines.{LinedItem, item_lined, file_lined}
use Rattle.mir_tree.specs.declared.Lined.{Lined}
use Rattle.mir_tree.specs.declared.item.ItemText.{ItemText}
use Rattle.mir_tree.specs.declared.item.FileText.{FileText}
use Rattle.mir_tree.specs.Rules.{lined_item, plain_item}
use Rattle.mir_parse.specs.declared.fault.SyntaxFault.{SyntaxFault}
use Rattle.mir_parse.specs.declared.fault.ParseRefused.{ParseRefused}
use Rattle.mir_parse.specs.declared.fault.ParseRefused.TheVariants as refused
use Rattle.mir_parse.specs.Parser.{Fails}
use Rattle.mir_parse.proofs.Laws.{ok_same}
use Rattle.mir_items.specs.Files.{item, IsItem, IsItemOrNone, IsFile, IsOnlyFile}
use Rattle.mir_items.proofs.Sizes.{all-lines}
use Rattle.mir_items.proofs.TreesOf.{item_tree, item-lined, file-lined}
use Rattle.mir_items.proofs.FilesRead.{item_here, item-complete, item-sound, whole-complete}
use Rattle.mir_items.proofs.PutsAppend.{file_append}
use Rattle.mir_items.proofs.LinesAppend.{file-append}

-- ---- one item

pub item-whole : (lines : List ℕ) (ts rest : List Symbol) (x : Lined ItemText) → length lines ≡ length ts → item lines ts ≡ Ok (x, rest) → length rest < 1 → IsItem ts lines x
item-whole lines ts (y ∷ rest) x same h none = absurd (omega arith)
item-whole lines ts [] x same h none =
    let q = item-sound lines ts x [] (omega arith) h in
    let here : item_tree q.rule lines ≡ x = sym (ap (item_tree q.rule) (all-lines lines ts same)) ∙ q.reads in
    record { rule = q.rule; derives = q.yields; good = q.good; tree_of = ap lined_item (sym here) ∙ item-lined q.rule lines }

-- what the symbols of a good item are read as
item-read : (lines : List ℕ) (ts : List Symbol) (rule : ItemRule) → length lines ≡ length ts → ItemGood rule → ts ≡ item_put rule [] → item lines ts ≡ Ok (item_here lines rule (item_put rule []), [])
item-read lines ts rule same good stands = ap (item lines) stands ∙ item-complete lines rule [] good (omega (arith, ap length stands))

pub item-over : (lines : List ℕ) (ts rest : List Symbol) (x : Lined ItemText) → length lines ≡ length ts → item lines ts ≡ Ok (x, rest) → 0 < length rest → IsItemOrNone ts lines None
item-over lines ts rest x same h some = λ rule good stands.
    let e = ok_same _ _ (sym h ∙ item-read lines ts rule same good stands) in
    absurd (omega (arith, ap (λ q. length q.1) e))

pub item-fault : (lines : List ℕ) (ts : List Symbol) (cause : ParseRefused) (fault : SyntaxFault) → length lines ≡ length ts → cause ≡ refused.Fault fault → Fails cause (item lines ts) → IsItemOrNone ts lines None
item-fault lines ts cause fault same is h = λ rule good stands.
    let at : item lines ts ≡ Err fault = subst (λ cause. Fails cause (item lines ts)) is h in
    let e = sym at ∙ item-read lines ts rule same good stands in
    absurd cc

-- ---- one more item

each_more : {R : Type 0} (put : Put R) (xs : List R) (x : R) (rest : List Symbol) → each_put put (xs ++ x ∷ []) rest ≡ each_put put xs (put x rest)
each_more put [] x rest = refl
each_more put (y ∷ xs) x rest = ap (put y) (each_more put xs x rest)

all_more : {R : Type 0} (P : R → Type 0) (xs : List R) (x : R) → AllOf P xs → P x → AllOf P (xs ++ x ∷ [])
all_more P [] x all one = (one, tt)
all_more P (y ∷ xs) x all one = (all.0, all_more P xs x all.1 one)

-- the file of no items
pub no-items : IsFile [] [] (record { items = [] })
no-items = record { rule = []; derives = refl; good = tt; tree_of = refl }

-- the symbols of a file and those of one more item behind it are those of a file with this item too
pub one-more-item : (front ts : List Symbol) (front_lines lines : List ℕ) (items : List (Lined ItemText)) (x : Lined ItemText)
    → length front_lines ≡ length front → IsFile front front_lines (record { items = items }) → IsItem ts lines x
    → IsFile (front ++ ts) (front_lines ++ lines) (record { items = items ++ x ∷ [] })
one-more-item front ts front_lines lines items x same before one =
    let rules = before.rule ++ one.rule ∷ [] in
    let join : List Symbol → List Symbol → List Symbol = λ a b. a ++ b in
    let joined : List LinedItem → LinedItem → List LinedItem = λ a b. a ++ b ∷ [] in
    let puts : file_put rules [] ≡ file_put before.rule [] ++ item_put one.rule [] = each_more item_put before.rule one.rule [] ∙ file_append before.rule [] (item_put one.rule []) in
    let lined : map plain_item (file_lined rules (front_lines ++ lines)) ≡ map plain_item (file_lined before.rule front_lines) ++ plain_item (item_lined one.rule lines) ∷ [] =
    ap (map plain_item) (file-append before.rule one.rule front_lines lines (same ∙ ap length before.derives))
    ∙ map-append plain_item (file_lined before.rule front_lines) (item_lined one.rule lines ∷ []) in
    record {
      rule = rules;
      derives = ap₂ join before.derives one.derives ∙ sym puts;
      good = all_more ItemGood before.rule one.rule before.good one.good;
      tree_of = map-append lined_item items (x ∷ []) ∙ ap₂ joined before.tree_of one.tree_of ∙ sym lined;
    }

-- a file's symbols have one tree
pub only-file : (ts : List Symbol) (lines : List ℕ) (tree : FileText) → length lines ≡ length ts → IsFile ts lines tree → IsOnlyFile ts lines tree
only-file ts lines tree same is = λ rules good stands.
    let e = ok_same _ _ (sym (whole-complete lines ts is.rule same is.good is.derives) ∙ whole-complete lines ts rules same good stands) in
    is.tree_of ∙ sym (file-lined is.rule lines) ∙ ap (map lined_item) (ap (λ q. q.0) e) ∙ file-lined rules lines
