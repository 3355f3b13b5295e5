-- The faults of a file, noted kind by kind, are those of the file.
use Rattle.std.proofs.Common.{◌≡◌, ℕ, List, [], ◌∷◌, ◌++◌, map, Option, None, refl, sym, ap, ap₂, ◌∙◌}
use Rattle.mir_text.specs.Grammar.{Items, end, last, more, items_of}
use Rattle.mir_text.specs.GrammarItems as m
use Rattle.mir_text.specs.GrammarItems.{FieldsRule, VariantRule, ItemRule, FileRule}
use Rattle.mir_text.specs.Names.{Names, string_at}
use Rattle.mir_text.specs.Naming.{outside_in, outsides_in}
use Rattle.mir_text.specs.PartLines.{LinedItem}
use Rattle.mir_text.specs.NameFaults.{Fault, on_line, unless, concat, each, none_twice, fields_codes, item_faults, defined_by, path_faults, name_faults, first_fault}
use Rattle.mir_tree.specs.declared.Lined.{Lined}
use Rattle.mir_tree.specs.declared.item.ItemText.{ItemText}
use Rattle.mir_tree.specs.declared.item.ItemText.TheVariants as i
use Rattle.mir_tree.specs.Rules.{lined_item, lined_item_at, item_of, file_of}
use Rattle.mir_resolve.specs.Faults.{noted}
use Rattle.mir_resolve.specs.Definitions.{before_defs}
use Rattle.mir_resolve.proofs.Noting.{noted-append}
use Rattle.mir_resolve.proofs.FaultOrder.{noted_first, noted_swap}
use Rattle.mir_file.specs.Items.{rule_of, rules_of, def_codes, def_faults, outside_codes, outside_faults, fn_faults_in, noted_before_functions}
use Rattle.mir_file.specs.Clashes.{defined_at, defined_as}

-- ---- names before anything is defined

abbrev before : Names → Names
before names = before_defs names.strings names.paths

items-same : {R A : Type 0} (f g : R → A) → ((r : R) → f r ≡ g r) → (xs : Items R) → items_of f xs ≡ items_of g xs
items-same f g same end = refl
items-same f g same (last r) = ap (λ x. x ∷ []) (same r)
items-same f g same (more r rs) = ap₂ (λ x xs. x ∷ xs) (same r) (items-same f g same rs)

fields-same : (names : Names) (fs : FieldsRule) → fields_codes (before names) fs ≡ fields_codes names fs
fields-same names m.plain = refl
fields-same names (m.tupled us) = refl
fields-same names (m.labelled fs) = refl

variants-same : (names : Names) (vs : Items VariantRule) → items_of (λ v. fields_codes (before names) v.1) vs ≡ items_of (λ v. fields_codes names v.1) vs
variants-same names vs = items-same (λ (v : VariantRule). fields_codes (before names) v.1) (λ (v : VariantRule). fields_codes names v.1) (λ v. fields-same names v.1) vs

def-codes-same : (names : Names) (item : ItemRule) → def_codes (before names) item ≡ def_codes names item
def-codes-same names (m.struct path fs) = fields-same names fs
def-codes-same names (m.enum path vs) = ap (λ l. unless (none_twice [] (items_of (λ v. string_at names.strings v.0) vs)) 10 ++ concat l) (variants-same names vs)
def-codes-same names (m.extern path us u) = refl
def-codes-same names (m.function f) = refl

outside-codes-same : (names : Names) (item : ItemRule) → outside_codes (before names) item ≡ outside_codes names item
outside-codes-same names (m.struct path fs) = refl
outside-codes-same names (m.enum path vs) = refl
outside-codes-same names (m.extern path us u) = refl
outside-codes-same names (m.function f) = refl

outside-same : (names : Names) (item : ItemRule) → outside_in (before names) item ≡ outside_in names item
outside-same names (m.struct path fs) = refl
outside-same names (m.enum path vs) = refl
outside-same names (m.extern path us u) = refl
outside-same names (m.function f) = refl

-- the outside functions don't depend on what is defined
pub outsides_same : (names : Names) (items : FileRule) → outsides_in (before names) items ≡ outsides_in names items
outsides_same names [] = refl
outsides_same names (item ∷ items) = ap₂ (λ a b. a ++ b) (outside-same names item) (outsides_same names items)

defined-same : (names : Names) (line : ℕ) (part : ItemText) → defined_at names.strings line part ≡ defined_by names (lined_item_at line part)
defined-same names line (i.Struct path fields) = refl
defined-same names line (i.Enum path variants) = refl
defined-same names line (i.Extern path args result) = refl
defined-same names line (i.Function x) = refl

-- ---- kind by kind

-- an item is of one kind
kinds-noted : (names : Names) (k : Option Fault) (line : ℕ) (part : ItemText)
    → noted k (item_faults names (lined_item_at line part))
    ≡ noted (noted (noted k (on_line line (def_codes (before names) (item_of (lined_item_at line part))))) (on_line line (outside_codes (before names) (item_of (lined_item_at line part))))) (fn_faults_in names (lined_item_at line part))
unfolding noted
kinds-noted names k line (i.Struct path fields) = ap (λ l. noted k (on_line line l)) (sym (def-codes-same names (item_of (lined_item_at line (i.Struct path fields)))))
kinds-noted names k line (i.Enum path variants) = ap (λ l. noted k (on_line line l)) (sym (def-codes-same names (item_of (lined_item_at line (i.Enum path variants)))))
kinds-noted names k line (i.Extern path args result) = refl
kinds-noted names k line (i.Function x) = refl

parts-noted : {X : Type 0} (h d o f : X → List Fault) → ((k : Option Fault) (x : X) → noted k (h x) ≡ noted (noted (noted k (d x)) (o x)) (f x))
    → (k : Option Fault) (xs : List X) → noted k (each h xs) ≡ noted (noted (noted k (each d xs)) (each o xs)) (each f xs)
unfolding noted
parts-noted h d o f same k [] = refl
parts-noted h d o f same k (x ∷ xs) =
    noted-append k (h x) (each h xs)
    ∙ ap (λ j. noted j (each h xs)) (same k x)
    ∙ parts-noted h d o f same (noted (noted (noted k (d x)) (o x)) (f x)) xs
    ∙ ap (λ j. noted (noted j (each o xs)) (each f xs))
    (noted_swap (noted (noted k (d x)) (o x)) (f x) (each d xs)
    ∙ ap (λ j. noted j (f x)) (noted_swap (noted k (d x)) (o x) (each d xs) ∙ ap (λ j. noted j (o x)) (sym (noted-append k (d x) (each d xs)))))
    ∙ ap (λ j. noted j (each f xs)) (noted_swap (noted (noted k (d x ++ each d xs)) (o x)) (f x) (each o xs))
    ∙ ap (λ j. noted (noted j (f x)) (each f xs)) (sym (noted-append (noted k (d x ++ each d xs)) (o x) (each o xs)))
    ∙ sym (noted-append (noted (noted k (d x ++ each d xs)) (o x ++ each o xs)) (f x) (each f xs))

pub each_lined : {B : Type 0} (f : LinedItem → List B) (items : List (Lined ItemText)) → each f (map lined_item items) ≡ each (λ x. f (lined_item x)) items
each_lined f [] = refl
each_lined f (x ∷ items) = ap (λ l. f (lined_item x) ++ l) (each_lined f items)

pub rules_same : (items : List (Lined ItemText)) → file_of (map lined_item items) ≡ rules_of items
rules_same [] = refl
rules_same (x ∷ items) = ap (λ l. rule_of x ∷ l) (rules_same items)

defined-lined : (names : Names) (items : List (Lined ItemText)) → map (defined_as names.strings) items ≡ map (defined_by names) (map lined_item items)
defined-lined names [] = refl
defined-lined names (x ∷ items) = ap₂ (λ a b. a ∷ b) (defined-same names x.line x.part) (defined-lined names items)

-- what is kept after the clashes, the definitions, the outside functions and the functions is the first fault of the file
pub first_noted : (names : Names) (items : List (Lined ItemText))
    → noted (noted_before_functions names items) (each (λ x. fn_faults_in names (lined_item x)) items)
    ≡ first_fault (name_faults names (map lined_item items))
first_noted names items =
    sym (parts-noted (λ x. item_faults names (lined_item x)) (def_faults (before names)) (outside_faults (before names)) (λ x. fn_faults_in names (lined_item x))
    (λ k x. kinds-noted names k x.line x.part) (noted None (path_faults [] (map (defined_as names.strings) items))) items)
    ∙ ap₂ (λ a b. noted (noted None (path_faults [] a)) b) (defined-lined names items) (sym (each_lined (item_faults names) items))
    ∙ sym (noted-append None (path_faults [] (map (defined_by names) (map lined_item items))) (each (item_faults names) (map lined_item items)))
    ∙ noted_first (name_faults names (map lined_item items))
