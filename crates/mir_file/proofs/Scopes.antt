-- `debug` lines and scopes change nothing of what a file names.
use Rattle.std.proofs.Common.{◌≡◌, ℕ, List, [], ◌∷◌, ◌++◌, map, refl, ap, ap₂, ◌∙◌}
use Rattle.mir_syntax.specs.declared.lines.FnLines.{FnLines}
use Rattle.mir_syntax.specs.declared.lines.Lines.{Lines}
use Rattle.mir_syntax.specs.Crate.{TypedDef, TypedOutside, TypedFunction, Crate}
use Rattle.mir_syntax.specs.Shapes.{shapes_from}
use Rattle.mir_text.specs.Grammar.{items_of}
use Rattle.mir_text.specs.GrammarItems.{ArgRule, FnRule}
use Rattle.mir_text.specs.Names.{Strings, path_bytes, Names, DefRule, def_path, def_in, defs_in, def_named, function_path_in, function_paths_in, outside_path_in, outside_paths_in, names_of, ty_of}
use Rattle.mir_text.specs.NamedBodies.{Declared}
use Rattle.mir_text.specs.Naming.{lets_of, declares, declared, inline_named, body_named, function_in, functions_in, outside_in, outsides_in, crate_in, crate_named}
use Rattle.mir_text.specs.PartLines.{LinedFn, LinedItem, other, function}
use Rattle.mir_text.specs.NameFaults.{Fault, on_line, unless, each, type_codes, none_missing, blocks_in_order, labels_of, declaration_faults, args_in_place, declared_once, result_faults, block_faults, item_faults, defined_by, path_faults, name_faults}
use Rattle.mir_text.specs.ReadLines.{def_line_in, outside_line_in, fn_lines_in, wrong_in_block, wrong_in_item, first_of, lines_named}
use Rattle.mir_tree.specs.Rules.{lets_rule, item_of, file_of, without_scopes, plain_item}

-- ---- lists of items

each-plain : {B : Type 0} (f : LinedItem → List B) → ((x : LinedItem) → f (plain_item x) ≡ f x) → (items : List LinedItem) → each f (map plain_item items) ≡ each f items
each-plain f same [] = refl
each-plain f same (x ∷ items) = ap₂ (λ a b. a ++ b) (same x) (each-plain f same items)

map-plain : {B : Type 0} (f : LinedItem → B) → ((x : LinedItem) → f (plain_item x) ≡ f x) → (items : List LinedItem) → map f (map plain_item items) ≡ map f items
map-plain f same [] = refl
map-plain f same (x ∷ items) = ap₂ (λ a b. a ∷ b) (same x) (map-plain f same items)

-- ---- names

def-plain : (x : LinedItem) → def_in (item_of (plain_item x)) ≡ def_in (item_of x)
def-plain (other line item) = refl
def-plain (function x) = refl

defs-plain : (items : List LinedItem) → defs_in (file_of (map plain_item items)) ≡ defs_in (file_of items)
defs-plain [] = refl
defs-plain (x ∷ items) = ap₂ (λ a b. a ++ b) (def-plain x) (defs-plain items)

function-path-plain : (strings : Strings) (x : LinedItem) → function_path_in strings (item_of (plain_item x)) ≡ function_path_in strings (item_of x)
function-path-plain strings (other line item) = refl
function-path-plain strings (function x) = refl

function-paths-plain : (strings : Strings) (items : List LinedItem) → function_paths_in strings (file_of (map plain_item items)) ≡ function_paths_in strings (file_of items)
function-paths-plain strings [] = refl
function-paths-plain strings (x ∷ items) = ap₂ (λ a b. a ++ b) (function-path-plain strings x) (function-paths-plain strings items)

outside-path-plain : (strings : Strings) (x : LinedItem) → outside_path_in strings (item_of (plain_item x)) ≡ outside_path_in strings (item_of x)
outside-path-plain strings (other line item) = refl
outside-path-plain strings (function x) = refl

outside-paths-plain : (strings : Strings) (items : List LinedItem) → outside_paths_in strings (file_of (map plain_item items)) ≡ outside_paths_in strings (file_of items)
outside-paths-plain strings [] = refl
outside-paths-plain strings (x ∷ items) = ap₂ (λ a b. a ++ b) (outside-path-plain strings x) (outside-paths-plain strings items)

abbrev paths_by : Strings → List DefRule → List (List ℕ)
paths_by strings defs = map (λ d. path_bytes strings (def_path d)) defs

abbrev defs_by : Strings → List DefRule → List TypedDef
defs_by strings defs = map (def_named strings (paths_by strings defs)) defs

abbrev names_by : Strings → List DefRule → List (List ℕ) → List (List ℕ) → Names
names_by strings defs functions outsides = record {
  strings = strings;
  paths = paths_by strings defs;
  defs = defs_by strings defs;
  shapes = shapes_from [] 0 (defs_by strings defs);
  functions = functions;
  outsides = outsides;
}

pub names_plain : (strings : Strings) (items : List LinedItem) → names_of strings (file_of (map plain_item items)) ≡ names_of strings (file_of items)
names_plain strings items =
    ap (λ ds. names_by strings ds (function_paths_in strings (file_of (map plain_item items))) (outside_paths_in strings (file_of (map plain_item items)))) (defs-plain items)
    ∙ ap₂ (names_by strings (defs_in (file_of items))) (function-paths-plain strings items) (outside-paths-plain strings items)

-- ---- functions

pub lets-plain : (xs : List ArgRule) → lets_of (lets_rule xs) ≡ xs
lets-plain [] = refl
lets-plain (x ∷ xs) = ap (λ l. x ∷ l) (lets-plain xs)

declared-plain : (names : Names) (f : FnRule) → declared names (without_scopes f) ≡ declared names f
declared-plain names f = ap (λ l. map (declares names) (items_of (λ (a : ArgRule). a) f.args ++ l)) (lets-plain (lets_of f.locals))

function-plain : (names : Names) (x : LinedItem) → function_in names (item_of (plain_item x)) ≡ function_in names (item_of x)
function-plain names (other line item) = refl
function-plain names (function x) =
    let make : Declared → List TypedFunction = λ ds.
    record { path = path_bytes names.strings x.rule.path; inlining = inline_named x.rule.attr; is_drop = x.rule.is_drop; body = body_named names ds x.rule } ∷ [] in
    ap make (declared-plain names x.rule)

functions-plain : (names : Names) (items : List LinedItem) → functions_in names (file_of (map plain_item items)) ≡ functions_in names (file_of items)
functions-plain names [] = refl
functions-plain names (x ∷ items) = ap₂ (λ a b. a ++ b) (function-plain names x) (functions-plain names items)

outside-plain : (names : Names) (x : LinedItem) → outside_in names (item_of (plain_item x)) ≡ outside_in names (item_of x)
outside-plain names (other line item) = refl
outside-plain names (function x) = refl

outsides-plain : (names : Names) (items : List LinedItem) → outsides_in names (file_of (map plain_item items)) ≡ outsides_in names (file_of items)
outsides-plain names [] = refl
outsides-plain names (x ∷ items) = ap₂ (λ a b. a ++ b) (outside-plain names x) (outsides-plain names items)

pub crate_plain : (strings : Strings) (items : List LinedItem) → crate_named strings (file_of (map plain_item items)) ≡ crate_named strings (file_of items)
crate_plain strings items =
    let names = names_of strings (file_of items) in
    let make : List TypedOutside → List TypedFunction → Crate = λ outsides functions. record { defs = names.defs; outsides = outsides; functions = functions } in
    ap (λ n. crate_in n (file_of (map plain_item items))) (names_plain strings items)
    ∙ ap₂ make (outsides-plain names items) (functions-plain names items)

-- ---- lines

def-line-plain : (x : LinedItem) → def_line_in (plain_item x) ≡ def_line_in x
def-line-plain (other line item) = refl
def-line-plain (function x) = refl

outside-line-plain : (x : LinedItem) → outside_line_in (plain_item x) ≡ outside_line_in x
outside-line-plain (other line item) = refl
outside-line-plain (function x) = refl

fn-lines-plain : (x : LinedItem) → fn_lines_in (plain_item x) ≡ fn_lines_in x
fn-lines-plain (other line item) = refl
fn-lines-plain (function x) = refl

wrong-plain : (names : Names) (x : LinedItem) → wrong_in_item names (plain_item x) ≡ wrong_in_item names x
wrong-plain names (other line item) = refl
wrong-plain names (function x) = ap (λ ds. each (wrong_in_block names ds) x.blocks) (declared-plain names x.rule)

pub lines_plain : (names : Names) (items : List LinedItem) → lines_named names (map plain_item items) ≡ lines_named names items
lines_plain names items =
    let make : List ℕ → List ℕ → List FnLines → List ℕ → Lines = λ defs outsides functions wrong. record { defs = defs; outsides = outsides; functions = functions; wrong_field = first_of wrong } in
    ap₂ (λ a b. make a b (each fn_lines_in (map plain_item items)) (each (wrong_in_item names) (map plain_item items)))
    (each-plain def_line_in def-line-plain items) (each-plain outside_line_in outside-line-plain items)
    ∙ ap₂ (make (each def_line_in items) (each outside_line_in items)) (each-plain fn_lines_in fn-lines-plain items) (each-plain (wrong_in_item names) (wrong-plain names) items)

-- ---- faults

defined-plain : (names : Names) (x : LinedItem) → defined_by names (plain_item x) ≡ defined_by names x
defined-plain names (other line item) = refl
defined-plain names (function x) = refl

abbrev faults_by : Names → LinedFn → Declared → List Fault
faults_by names f ds =
    on_line f.head (type_codes names f.rule.result ++ unless (none_missing ds) 14 ++ unless (blocks_in_order (labels_of f)) 15)
    ++ each (declaration_faults names) (f.args ++ f.lets)
    ++ args_in_place 1 f.args
    ++ declared_once [] (f.args ++ f.lets)
    ++ result_faults names (ty_of names f.rule.result) (f.args ++ f.lets)
    ++ each (block_faults names ds (labels_of f)) f.blocks

faults-plain : (names : Names) (x : LinedItem) → item_faults names (plain_item x) ≡ item_faults names x
faults-plain names (other line item) = refl
faults-plain names (function x) = ap (faults_by names x) (declared-plain names x.rule)

pub faults_plain : (names : Names) (items : List LinedItem) → name_faults names (map plain_item items) ≡ name_faults names items
faults_plain names items =
    ap₂ (λ a b. path_faults [] a ++ b) (map-plain (defined_by names) (defined-plain names) items) (each-plain (item_faults names) (faults-plain names) items)
