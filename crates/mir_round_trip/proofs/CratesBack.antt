-- What the rule of a canonical text means: the crate itself, with no fault.
use Rattle.std.proofs.Common.{◌≡◌, ℕ, Bool, true, false, List, [], ◌∷◌, ◌++◌, map, refl, sym, ap, ◌∙◌, append_assoc}
use Rattle.std.proofs.lemmas.List.{append-nil}
use Rattle.std.proofs.lemmas.Simd.{map-map}
use Rattle.mir_syntax.specs.Crate.{TypedVariant, TypedDef, TypedOutside, TypedFunction, Crate}
use Rattle.mir_syntax.specs.Shapes.{shapes_from}
use Rattle.mir_text.specs.Grammar.{Items, AllOf}
use Rattle.mir_text.specs.GrammarItems as m
use Rattle.mir_text.specs.GrammarTypes.{PathRule}
use Rattle.mir_text.specs.GrammarItems.{FieldsRule, VariantRule, ItemRule, item_put, FileRule}
use Rattle.mir_text.specs.Nesting.{ItemGood, FileGood}
use Rattle.mir_text.specs.Names.{Strings, Names, names_of, path_bytes, def_path, def_in, defs_in, def_paths, def_named, function_path_in, function_paths_in, outside_path_in, outside_paths_in}
use Rattle.mir_text.specs.Naming.{outside_in, outsides_in, function_in, functions_in, crate_in, crate_named}
use Rattle.mir_text.specs.PartLines.{LinesFrom, past, item_lined, file_lined}
use Rattle.mir_text.specs.NameFaults.{concat, each, other_codes, item_faults}
use Rattle.mir_text.specs.TermText.{function_paths, outside_paths}
use Rattle.mir_round_trip.specs.Names.{crate_paths}
use Rattle.mir_round_trip.specs.Bodies.{names_at, IsFn}
use Rattle.mir_round_trip.specs.Readable.{IsDefinition, IsOutside, AreWritten}
use Rattle.mir_round_trip.proofs.Spelling.{all-map, all-append}
use Rattle.mir_round_trip.proofs.Paths.{path_names, Back, path_back}
use Rattle.mir_round_trip.proofs.Meaning.{Kept}
use Rattle.mir_round_trip.proofs.Lists.{concat-none, all-of-map}
use Rattle.mir_round_trip.proofs.Rvalues.{two-same}
use Rattle.mir_round_trip.proofs.Blocks.{all-left, line-none}
use Rattle.mir_round_trip.proofs.Functions.{fn_rule, fn_names}
use Rattle.mir_round_trip.proofs.FunctionsBack.{map-append, function_back, function_faultless, function_good}
use Rattle.mir_round_trip.proofs.Definitions.{shape_rule, def_item, outside_item, shape_names, def_names}
use Rattle.mir_round_trip.proofs.DefinitionsBack.{def_rule, def-in, def-path, def_back, outside_back, def_faultless, outside_faultless, def_good, outside_good}
use Rattle.mir_round_trip.proofs.Crates.{fn_item, file_rule, Parts}

-- ---- what is gathered from the items of a file

concat-append : {A : Type 0} (xs ys : List (List A)) → concat (xs ++ ys) ≡ concat xs ++ concat ys
concat-append [] ys = refl
concat-append (x ∷ xs) ys = ap (λ l. x ++ l) (concat-append xs ys) ∙ sym (append_assoc x (concat xs) (concat ys))

-- the three kinds of items one after another
gathered : {A : Type 0} (F : ItemRule → List A) (c : Crate) (strings : Strings)
    → concat (map F (file_rule c strings))
    ≡ concat (map (λ d. F (def_item c strings d)) c.defs) ++ (concat (map (λ o. F (outside_item c strings o)) c.outsides) ++ concat (map (λ f. F (fn_item c strings f)) c.functions))
unfolding file_rule
gathered F c strings =
    let ds = map (def_item c strings) c.defs in
    let os = map (outside_item c strings) c.outsides in
    let fs = map (fn_item c strings) c.functions in
    ap concat (map-append F ds (os ++ fs)) ∙ concat-append (map F ds) (map F (os ++ fs))
    ∙ two-same (λ a b. a ++ b) (ap concat (map-map F (def_item c strings) c.defs))
    (ap concat (map-append F os fs) ∙ concat-append (map F os) (map F fs)
    ∙ two-same (λ a b. a ++ b) (ap concat (map-map F (outside_item c strings) c.outsides)) (ap concat (map-map F (fn_item c strings) c.functions)))

-- each gives one
concat-one : {A B : Type 0} (h : A → List B) (g : A → B) (xs : List A) → AllOf (λ x. h x ≡ g x ∷ []) xs → concat (map h xs) ≡ map g xs
concat-one h g [] k = refl
concat-one h g (x ∷ xs) k = two-same (λ a b. a ++ b) k.0 (concat-one h g xs k.1)

all-of : {A : Type 0} {P : A → Type 0} → ((x : A) → P x) → (xs : List A) → AllOf P xs
all-of p [] = tt
all-of p (x ∷ xs) = (p x, all-of p xs)

defs-gather : (items : FileRule) → defs_in items ≡ concat (map def_in items)
defs-gather [] = refl
defs-gather (x ∷ xs) = ap (λ l. def_in x ++ l) (defs-gather xs)

outsides-gather : (names : Names) (items : FileRule) → outsides_in names items ≡ concat (map (outside_in names) items)
outsides-gather names [] = refl
outsides-gather names (x ∷ xs) = ap (λ l. outside_in names x ++ l) (outsides-gather names xs)

functions-gather : (names : Names) (items : FileRule) → functions_in names items ≡ concat (map (function_in names) items)
functions-gather names [] = refl
functions-gather names (x ∷ xs) = ap (λ l. function_in names x ++ l) (functions-gather names xs)

function-paths-gather : (strings : Strings) (items : FileRule) → function_paths_in strings items ≡ concat (map (function_path_in strings) items)
function-paths-gather strings [] = refl
function-paths-gather strings (x ∷ xs) = ap (λ l. function_path_in strings x ++ l) (function-paths-gather strings xs)

outside-paths-gather : (strings : Strings) (items : FileRule) → outside_paths_in strings items ≡ concat (map (outside_path_in strings) items)
outside-paths-gather strings [] = refl
outside-paths-gather strings (x ∷ xs) = ap (λ l. outside_path_in strings x ++ l) (outside-paths-gather strings xs)

-- ---- what a struct or enum gives to the other kinds: nothing

shape-else : {A : Type 0} (F : ItemRule → List A) → ((p : PathRule) (fs : FieldsRule) → F (m.struct p fs) ≡ []) → ((p : PathRule) (vs : Items VariantRule) → F (m.enum p vs) ≡ [])
    → (c : Crate) (strings : Strings) (path : List ℕ) (b : Bool) (vs : List TypedVariant) → F (shape_rule c strings path b vs) ≡ []
shape-else F h k c strings path true vs = k _ _
shape-else F h k c strings path false vs = h _ _

def-else : {A : Type 0} (F : ItemRule → List A) → ((p : PathRule) (fs : FieldsRule) → F (m.struct p fs) ≡ []) → ((p : PathRule) (vs : Items VariantRule) → F (m.enum p vs) ≡ [])
    → (c : Crate) (strings : Strings) (d : TypedDef) → F (def_item c strings d) ≡ []
unfolding def_item
def-else F h k c strings d = shape-else F h k c strings d.path d.is_enum d.variants

-- ---- names

defs-file : (c : Crate) (strings : Strings) → defs_in (file_rule c strings) ≡ map (def_rule c strings) c.defs
unfolding outside_item
defs-file c strings =
    defs-gather (file_rule c strings) ∙ gathered def_in c strings
    ∙ two-same (λ a b. a ++ b) (concat-one (λ d. def_in (def_item c strings d)) (def_rule c strings) c.defs (all-of (def-in c strings) c.defs))
    (two-same (λ a b. a ++ b) (concat-none (λ o. def_in (outside_item c strings o)) c.outsides (all-of (λ o. refl) c.outsides)) (concat-none (λ f. def_in (fn_item c strings f)) c.functions (all-of (λ f. refl) c.functions)))
    ∙ append-nil (map (def_rule c strings) c.defs)

pub map-same : {A B : Type 0} (f g : A → B) (xs : List A) → AllOf (λ x. f x ≡ g x) xs → map f xs ≡ map g xs
map-same f g [] h = refl
map-same f g (x ∷ xs) h = two-same (λ a b. a ∷ b) h.0 (map-same f g xs h.1)

def-paths : (c : Crate) (strings : Strings) (ds : List TypedDef) → AllOf (IsDefinition c) ds → AllOf (λ d. AllOf (Back strings) (def_names d)) ds
    → AllOf (λ d. path_bytes strings (def_path (def_rule c strings d)) ≡ d.path) ds
def-paths c strings [] h k = tt
def-paths c strings (d ∷ ds) h k =
    (ap (path_bytes strings) (def-path c strings d) ∙ path_back strings d.path h.0.path (all-left (Back strings) (path_names d.path) (shape_names d.is_enum d.variants) k.0), def-paths c strings ds h.1 k.1)

paths-file : (c : Crate) (strings : Strings) → AreWritten c → Parts c strings → def_paths strings (file_rule c strings) ≡ crate_paths c
paths-file c strings h parts =
    ap (map (λ d. path_bytes strings (def_path d))) (defs-file c strings) ∙ map-map (λ d. path_bytes strings (def_path d)) (def_rule c strings) c.defs
    ∙ map-same (λ d. path_bytes strings (def_path (def_rule c strings d))) (λ d. d.path) c.defs (def-paths c strings c.defs h.defs parts.defs)

defs-read : (c : Crate) (strings : Strings) → Kept c strings → (ds : List TypedDef) → AllOf (IsDefinition c) ds → AllOf (λ d. AllOf (Back strings) (def_names d)) ds
    → map (def_named strings (crate_paths c)) (map (def_rule c strings) ds) ≡ ds
defs-read c strings kept [] h k = refl
defs-read c strings kept (d ∷ ds) h k = two-same (λ a b. a ∷ b) (def_back c strings kept d h.0 k.0) (defs-read c strings kept ds h.1 k.1)

defs-named : (c : Crate) (strings : Strings) → AreWritten c → Kept c strings → Parts c strings → map (def_named strings (def_paths strings (file_rule c strings))) (defs_in (file_rule c strings)) ≡ c.defs
defs-named c strings h kept parts =
    two-same (λ p ds. map (def_named strings p) ds) (paths-file c strings h parts) (defs-file c strings) ∙ defs-read c strings kept c.defs h.defs parts.defs

fn-paths : (c : Crate) (strings : Strings) (fs : List TypedFunction) → AllOf (IsFn c) fs → AllOf (λ f. AllOf (Back strings) (fn_names f)) fs
    → concat (map (λ f. function_path_in strings (fn_item c strings f)) fs) ≡ function_paths fs
unfolding fn_rule
fn-paths c strings [] h k = refl
fn-paths c strings (f ∷ fs) h k =
    two-same (λ a b. a ∷ b) (path_back strings f.path h.0.path (all-left (Back strings) (path_names f.path) _ k.0)) (fn-paths c strings fs h.1 k.1)

out-paths : (c : Crate) (strings : Strings) (os : List TypedOutside) → AllOf (IsOutside c) os → AllOf (λ o. AllOf (Back strings) (path_names o.path)) os
    → concat (map (λ o. outside_path_in strings (outside_item c strings o)) os) ≡ outside_paths os
unfolding outside_item
out-paths c strings [] h k = refl
out-paths c strings (o ∷ os) h k = two-same (λ a b. a ∷ b) (path_back strings o.path h.0.path k.0) (out-paths c strings os h.1 k.1)

functions-file : (c : Crate) (strings : Strings) → AreWritten c → Parts c strings → function_paths_in strings (file_rule c strings) ≡ function_paths c.functions
unfolding outside_item
functions-file c strings h parts =
    function-paths-gather strings (file_rule c strings) ∙ gathered (function_path_in strings) c strings
    ∙ two-same (λ a b. a ++ b) (concat-none (λ d. function_path_in strings (def_item c strings d)) c.defs (all-of (def-else (function_path_in strings) (λ p fs. refl) (λ p vs. refl) c strings) c.defs))
    (two-same (λ a b. a ++ b) (concat-none (λ o. function_path_in strings (outside_item c strings o)) c.outsides (all-of (λ o. refl) c.outsides)) (fn-paths c strings c.functions h.functions parts.functions))

outsides-file : (c : Crate) (strings : Strings) → AreWritten c → Parts c strings → outside_paths_in strings (file_rule c strings) ≡ outside_paths c.outsides
outsides-file c strings h parts =
    outside-paths-gather strings (file_rule c strings) ∙ gathered (outside_path_in strings) c strings
    ∙ two-same (λ a b. a ++ b) (concat-none (λ d. outside_path_in strings (def_item c strings d)) c.defs (all-of (def-else (outside_path_in strings) (λ p fs. refl) (λ p vs. refl) c strings) c.defs))
    (two-same (λ a b. a ++ b) (out-paths c strings c.outsides h.outsides parts.outsides) (concat-none (λ f. outside_path_in strings (fn_item c strings f)) c.functions (all-of (λ f. refl) c.functions)))
    ∙ append-nil (outside_paths c.outsides)

pub as-names : (strings : Strings) (a x : List (List ℕ)) (b y : List TypedDef) (d z : List (List ℕ)) (e w : List (List ℕ)) → a ≡ x → b ≡ y → d ≡ z → e ≡ w
    → ◌≡◌ {A = Names} (record { strings = strings; paths = a; defs = b; shapes = shapes_from [] 0 b; functions = d; outsides = e })
    (record { strings = strings; paths = x; defs = y; shapes = shapes_from [] 0 y; functions = z; outsides = w })
as-names strings a x b y d z e w h k l o =
    two-same (λ u v. let r : Names = record { strings = strings; paths = u; defs = v; shapes = shapes_from [] 0 v; functions = d; outsides = e } in r) h k
    ∙ two-same (λ u v. let r : Names = record { strings = strings; paths = x; defs = y; shapes = shapes_from [] 0 y; functions = u; outsides = v } in r) l o

pub names-file : (c : Crate) (strings : Strings) → AreWritten c → Kept c strings → Parts c strings → names_of strings (file_rule c strings) ≡ names_at c strings
names-file c strings h kept parts =
    as-names strings _ _ _ _ _ _ _ _ (paths-file c strings h parts) (defs-named c strings h kept parts) (functions-file c strings h parts) (outsides-file c strings h parts)

-- ---- the crate

outs-read : (c : Crate) (strings : Strings) → Kept c strings → (os : List TypedOutside) → AllOf (IsOutside c) os → AllOf (λ o. AllOf (Back strings) (path_names o.path)) os
    → concat (map (λ o. outside_in (names_at c strings) (outside_item c strings o)) os) ≡ os
outs-read c strings kept [] h k = refl
outs-read c strings kept (o ∷ os) h k = two-same (λ a b. a ++ b) (outside_back c strings kept o h.0 k.0) (outs-read c strings kept os h.1 k.1)

fns-read : (c : Crate) (strings : Strings) → Kept c strings → (fs : List TypedFunction) → AllOf (IsFn c) fs → AllOf (λ f. AllOf (Back strings) (fn_names f)) fs
    → concat (map (λ f. function_in (names_at c strings) (fn_item c strings f)) fs) ≡ fs
fns-read c strings kept [] h k = refl
fns-read c strings kept (f ∷ fs) h k = two-same (λ a b. a ∷ b) (function_back c strings kept f h.0 k.0) (fns-read c strings kept fs h.1 k.1)

outsides-back : (c : Crate) (strings : Strings) → AreWritten c → Kept c strings → Parts c strings → outsides_in (names_at c strings) (file_rule c strings) ≡ c.outsides
outsides-back c strings h kept parts =
    let F = outside_in (names_at c strings) in
    outsides-gather (names_at c strings) (file_rule c strings) ∙ gathered F c strings
    ∙ two-same (λ a b. a ++ b) (concat-none (λ d. F (def_item c strings d)) c.defs (all-of (def-else F (λ p fs. refl) (λ p vs. refl) c strings) c.defs))
    (two-same (λ a b. a ++ b) (outs-read c strings kept c.outsides h.outsides parts.outsides) (concat-none (λ f. F (fn_item c strings f)) c.functions (all-of (λ f. refl) c.functions)))
    ∙ append-nil c.outsides

functions-back : (c : Crate) (strings : Strings) → AreWritten c → Kept c strings → Parts c strings → functions_in (names_at c strings) (file_rule c strings) ≡ c.functions
unfolding outside_item
functions-back c strings h kept parts =
    let F = function_in (names_at c strings) in
    functions-gather (names_at c strings) (file_rule c strings) ∙ gathered F c strings
    ∙ two-same (λ a b. a ++ b) (concat-none (λ d. F (def_item c strings d)) c.defs (all-of (def-else F (λ p fs. refl) (λ p vs. refl) c strings) c.defs))
    (two-same (λ a b. a ++ b) (concat-none (λ o. F (outside_item c strings o)) c.outsides (all-of (λ o. refl) c.outsides)) (fns-read c strings kept c.functions h.functions parts.functions))

as-crate : (d : List TypedDef) (a x : List TypedOutside) (b y : List TypedFunction) → a ≡ x → b ≡ y → ◌≡◌ {A = Crate} (record { defs = d; outsides = a; functions = b }) (record { defs = d; outsides = x; functions = y })
as-crate d a x b y h k = two-same (λ u v. let r : Crate = record { defs = d; outsides = u; functions = v } in r) h k

pub crate-back : (c : Crate) (strings : Strings) → AreWritten c → Kept c strings → Parts c strings → crate_named strings (file_rule c strings) ≡ c
crate-back c strings h kept parts =
    ap (λ names. crate_in names (file_rule c strings)) (names-file c strings h kept parts)
    ∙ as-crate c.defs _ _ _ _ (outsides-back c strings h kept parts) (functions-back c strings h kept parts)

-- ---- good

pub file-good : (c : Crate) (strings : Strings) → AreWritten c → FileGood (file_rule c strings)
unfolding file_rule
file-good c strings h =
    all-append ItemGood (map (def_item c strings) c.defs) (map (outside_item c strings) c.outsides ++ map (fn_item c strings) c.functions)
    (all-of-map ItemGood (def_item c strings) c.defs (all-map (def_good c strings) c.defs h.defs))
    (all-append ItemGood (map (outside_item c strings) c.outsides) (map (fn_item c strings) c.functions)
    (all-of-map ItemGood (outside_item c strings) c.outsides (all-map (outside_good c strings) c.outsides h.outsides))
    (all-of-map ItemGood (fn_item c strings) c.functions (all-map (function_good c strings) c.functions h.functions)))

-- ---- no fault in the items

-- an item has no fault, on whatever lines it stands
abbrev Faultless : Names → ItemRule → Type 0
Faultless names item = (lines : LinesFrom) → item_faults names (item_lined item lines) ≡ []

pub items-faultless : (names : Names) (items : FileRule) → AllOf (Faultless names) items → (lines : LinesFrom) → each (item_faults names) (file_lined items lines) ≡ []
items-faultless names [] h lines = refl
items-faultless names (x ∷ xs) h lines = two-same (λ a b. a ++ b) (h.0 lines) (items-faultless names xs h.1 (past item_put x lines))

shape-item : (names : Names) (c : Crate) (strings : Strings) (path : List ℕ) (b : Bool) (vs : List TypedVariant) → other_codes names (shape_rule c strings path b vs) ≡ [] → Faultless names (shape_rule c strings path b vs)
shape-item names c strings path true vs h lines = line-none _ _ h
shape-item names c strings path false vs h lines = line-none _ _ h

def-faultless : (names : Names) (c : Crate) (strings : Strings) (d : TypedDef) → other_codes names (def_item c strings d) ≡ [] → Faultless names (def_item c strings d)
unfolding def_item
def-faultless names c strings d h = shape-item names c strings d.path d.is_enum d.variants h

out-faultless : (names : Names) (c : Crate) (strings : Strings) (o : TypedOutside) → other_codes names (outside_item c strings o) ≡ [] → Faultless names (outside_item c strings o)
unfolding outside_item
out-faultless names c strings o h lines = line-none _ _ h

defs-faultless : (c : Crate) (strings : Strings) → Kept c strings → (ds : List TypedDef) → AllOf (IsDefinition c) ds → AllOf (λ d. AllOf (Back strings) (def_names d)) ds → AllOf (λ d. Faultless (names_at c strings) (def_item c strings d)) ds
defs-faultless c strings kept [] h k = tt
defs-faultless c strings kept (d ∷ ds) h k =
    (def-faultless (names_at c strings) c strings d (def_faultless c strings kept d h.0 k.0), defs-faultless c strings kept ds h.1 k.1)

pub file-faultless : (c : Crate) (strings : Strings) → AreWritten c → Kept c strings → Parts c strings → AllOf (Faultless (names_at c strings)) (file_rule c strings)
unfolding file_rule
file-faultless c strings h kept parts =
    let names = names_at c strings in
    all-append (Faultless names) (map (def_item c strings) c.defs) (map (outside_item c strings) c.outsides ++ map (fn_item c strings) c.functions)
    (all-of-map (Faultless names) (def_item c strings) c.defs (defs-faultless c strings kept c.defs h.defs parts.defs))
    (all-append (Faultless names) (map (outside_item c strings) c.outsides) (map (fn_item c strings) c.functions)
    (all-of-map (Faultless names) (outside_item c strings) c.outsides (all-map (λ o is. out-faultless names c strings o (outside_faultless c strings kept o is)) c.outsides h.outsides))
    (all-of-map (Faultless names) (fn_item c strings) c.functions (all-map (λ f is lines. function_faultless c strings kept f is lines) c.functions h.functions)))
