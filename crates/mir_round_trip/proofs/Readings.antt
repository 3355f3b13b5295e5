-- A valid crate that a reading gave is such as a canonical text writes, where the text has each field with its type.
use Rattle.mir_round_trip.specs.Names.{IsName, IsPath, crate_paths}
use Rattle.mir_round_trip.specs.Bodies.{names_at, AreFields, IsFn}
use Rattle.mir_round_trip.specs.Readable.{IsField, IsFields, IsShape, IsDefinition, IsOutside, def_defined, outside_defined, fn_defined, crate_defined, AreApart, Readable}
use Rattle.std.proofs.Common.{◌≡◌, ℕ, Bool, true, false, List, [], ◌∷◌, ◌++◌, map, refl, sym, ap, subst, None}
use Rattle.mir_syntax.specs.declared.types.Form.{Form}
use Rattle.mir_syntax.specs.declared.types.Form.TheVariants as form
use Rattle.mir_syntax.specs.Crate.{TypedField, TypedVariant, TypedDef, TypedOutside, TypedFunction, Crate}
use Rattle.mir_text.specs.Symbols.{strings_of}
use Rattle.mir_text.specs.Grammar.{AllOf, items_of}
use Rattle.mir_text.specs.GrammarItems as m
use Rattle.mir_text.specs.GrammarItems.{ItemRule, item_put, FileRule}
use Rattle.mir_text.specs.Nesting.{ItemGood}
use Rattle.mir_text.specs.Names.{Strings, Names, names_of, def_in, defs_in, def_paths, def_named}
use Rattle.mir_text.specs.Naming.{lets_of, outside_in, outsides_in, functions_in, crate_named}
use Rattle.mir_text.specs.PartLines.{LinesFrom, past, item_lined, file_lined}
use Rattle.mir_text.specs.NameFaults.{each, other_codes, item_faults, field_names, path_faults, defined_by, name_faults}
use Rattle.mir_text.specs.ReadLines.{wrong_in_item, first_of}
use Rattle.mir_text.specs.Reads.{wrong_field, Reads, symbol_lines}
use Rattle.mir_text.specs.TermText.{function_paths, outside_paths}
use Rattle.mir_text.specs.Text.{text}
use Rattle.mir_text.specs.TypeText.{no_def, def_at}
use Rattle.mir_text.specs.PlaceText.{no_variant}
use Rattle.mir_text.proofs.Codes.{no_codes}
use Rattle.mir_rules.specs.Valid.{Valid}
use Rattle.mir_rules.proofs.Lists.{append_empty-left, append_empty-right}
use Rattle.mir_round_trip.proofs.Spelling.{all-map, all-append}
use Rattle.mir_round_trip.proofs.Rvalues.{two-same}
use Rattle.mir_round_trip.proofs.TermsBack.{all-at}
use Rattle.mir_round_trip.proofs.FunctionsBack.{map-append}
use Rattle.mir_round_trip.proofs.ReadBack.{read_back}
use Rattle.mir_round_trip.proofs.Nice.{Nice, nice_symbols}
use Rattle.mir_round_trip.proofs.Carried.{ItemNice, file_nice, LocalNice}
use Rattle.mir_round_trip.proofs.TypesWritten.{PathsWritten, path_written}
use Rattle.mir_round_trip.proofs.PlacesWritten.{DefsKnown}
use Rattle.mir_round_trip.proofs.BodiesWritten.{CallsKnown}
use Rattle.mir_round_trip.proofs.FunctionsWritten.{FnValid, function_written, items-all}
use Rattle.mir_round_trip.proofs.DefinitionsWritten.{Sound, def-written, outside-written, names-is}
use Rattle.mir_round_trip.proofs.ValidParts.{functions_valid}
use Rattle.mir_round_trip.proofs.PathsApart.{paths_apart}

-- ---- items

-- an item has no fault and no wrong field, on some lines
record Clean (N : Names) (item : ItemRule) : Type 0 where
  pub lines : LinesFrom
  pub faults : item_faults N (item_lined item lines) ≡ []
  pub wrong : wrong_in_item N (item_lined item lines) ≡ []

items-clean : (N : Names) (items : FileRule) (lines : LinesFrom) → each (item_faults N) (file_lined items lines) ≡ [] → each (wrong_in_item N) (file_lined items lines) ≡ [] → AllOf (Clean N) items
items-clean N [] lines h k = tt
items-clean N (x ∷ xs) lines h k = (
  record { lines = lines; faults = append_empty-left (item_faults N (item_lined x lines)) _ h; wrong = append_empty-left (wrong_in_item N (item_lined x lines)) _ k },
  items-clean N xs (past item_put x lines) (append_empty-right (item_faults N (item_lined x lines)) _ h) (append_empty-right (wrong_in_item N (item_lined x lines)) _ k),
)

-- what is known of the items of a derivation
record Known (c : Crate) (strings : Strings) (item : ItemRule) : Type 0 where
  pub clean : Clean (names_at c strings) item
  pub good : ItemGood item
  pub nice : ItemNice strings item

all-known : (c : Crate) (strings : Strings) (items : FileRule) → AllOf (Clean (names_at c strings)) items → AllOf ItemGood items → AllOf (ItemNice strings) items → AllOf (Known c strings) items
all-known c strings [] h k l = tt
all-known c strings (x ∷ xs) h k l = (record { clean = h.0; good = k.0; nice = l.0 }, all-known c strings xs h.1 k.1 l.1)

no-codes-of : (N : Names) (item : ItemRule) → Clean N item → other_codes N item ≡ []
no-codes-of N (m.struct q fs) h = no_codes _ _ h.faults
no-codes-of N (m.enum q vs) h = no_codes _ _ h.faults
no-codes-of N (m.extern q us u) h = no_codes _ _ h.faults
no-codes-of N (m.function f) h = refl

sound : (c : Crate) (strings : Strings) (item : ItemRule) → Known c strings item → Sound c strings item
sound c strings item h = (no-codes-of (names_at c strings) item h.clean, h.good, h.nice)

-- ---- definitions

paths-of : (c : Crate) (strings : Strings) (paths : List (List ℕ)) (items : FileRule) → AllOf (Known c strings) items → AllOf (λ d. IsPath d.path) (map (def_named strings paths) (defs_in items))
paths-of c strings paths [] h = tt
paths-of c strings paths (m.struct q fs ∷ items) h = (path_written strings q h.0.nice.0, paths-of c strings paths items h.1)
paths-of c strings paths (m.enum q vs ∷ items) h = (path_written strings q h.0.nice.0, paths-of c strings paths items h.1)
paths-of c strings paths (m.extern q us u ∷ items) h = paths-of c strings paths items h.1
paths-of c strings paths (m.function f ∷ items) h = paths-of c strings paths items h.1

defs-of : (c : Crate) (strings : Strings) → PathsWritten c → (items : FileRule) → AllOf (Known c strings) items → AllOf (IsDefinition c) (map (def_named strings (crate_paths c)) (defs_in items))
defs-of c strings paths [] h = tt
defs-of c strings paths (x ∷ items) h =
    subst (AllOf (IsDefinition c)) (sym (map-append (def_named strings (crate_paths c)) (def_in x) (defs_in items)))
    (all-append (IsDefinition c) (map (def_named strings (crate_paths c)) (def_in x)) (map (def_named strings (crate_paths c)) (defs_in items)) (def-written c strings paths x (sound c strings x h.0)) (defs-of c strings paths items h.1))

outsides-of : (c : Crate) (strings : Strings) → PathsWritten c → (items : FileRule) → AllOf (Known c strings) items → AllOf (IsOutside c) (outsides_in (names_at c strings) items)
outsides-of c strings paths [] h = tt
outsides-of c strings paths (x ∷ items) h =
    all-append (IsOutside c) (outside_in (names_at c strings) x) (outsides_in (names_at c strings) items) (outside-written c strings paths x (sound c strings x h.0)) (outsides-of c strings paths items h.1)

fields-names : (c : Crate) (fs : List TypedField) → AllOf (IsField c) fs → AllOf IsName (field_names fs)
fields-names c [] h = tt
fields-names c (f ∷ fs) h = (h.0.name, fields-names c fs h.1)

fields-are : (c : Crate) (kind : Form) (fs : List TypedField) → IsFields c kind fs → AreFields kind fs
fields-are c form.Unit fs h = h
fields-are c form.Tuple fs h = tt
fields-are c form.Named fs h = fields-names c fs h.0

-- of each variant its fields
shape-fields : (c : Crate) (b : Bool) (vs : List TypedVariant) → IsShape c b vs → AllOf (λ v. AreFields v.form v.fields) vs
shape-fields c true vs h = all-map (λ v is. fields-are c v.form v.fields is.fields) vs h.0
shape-fields c false [] h = absurd h
shape-fields c false (v ∷ []) h = (fields-are c v.form v.fields h.1, tt)
shape-fields c false (v ∷ w ∷ vs) h = absurd h

shape-names : (c : Crate) (b : Bool) (vs : List TypedVariant) → b ≡ true → IsShape c b vs → AllOf (λ v. IsName v.name) vs
shape-names c true vs e h = all-map (λ v is. is.name) vs h.0
shape-names c false vs e h = absurd cc

defs-known : (c : Crate) → PathsWritten c → AllOf (IsDefinition c) c.defs → DefsKnown c
defs-known c paths all = record {
  paths = paths;
  variants = λ d k there one enum.
      let is = all-at (IsDefinition c) no_def c.defs d all there in
      all-at (λ v. IsName v.name) no_variant (def_at c d).variants k (shape-names c (def_at c d).is_enum (def_at c d).variants enum is.shape) one;
  fields = λ d k there one.
      let is = all-at (IsDefinition c) no_def c.defs d all there in
      all-at (λ v. AreFields v.form v.fields) no_variant (def_at c d).variants k (shape-fields c (def_at c d).is_enum (def_at c d).variants is.shape) one;
}

-- ---- functions

function-paths : (c : Crate) (strings : Strings) (items : FileRule) → AllOf (Known c strings) items → AllOf IsPath (function_paths (functions_in (names_at c strings) items))
function-paths c strings [] h = tt
function-paths c strings (m.struct q fs ∷ items) h = function-paths c strings items h.1
function-paths c strings (m.enum q vs ∷ items) h = function-paths c strings items h.1
function-paths c strings (m.extern q us u ∷ items) h = function-paths c strings items h.1
function-paths c strings (m.function f ∷ items) h = (path_written strings f.path h.0.nice.0, function-paths c strings items h.1)

outside-paths : (c : Crate) (strings : Strings) (items : FileRule) → AllOf (Known c strings) items → AllOf IsPath (outside_paths (outsides_in (names_at c strings) items))
outside-paths c strings [] h = tt
outside-paths c strings (m.struct q fs ∷ items) h = outside-paths c strings items h.1
outside-paths c strings (m.enum q vs ∷ items) h = outside-paths c strings items h.1
outside-paths c strings (m.extern q us u ∷ items) h = (path_written strings q h.0.nice, outside-paths c strings items h.1)
outside-paths c strings (m.function f ∷ items) h = outside-paths c strings items h.1

functions-of : (c : Crate) (strings : Strings) → DefsKnown c → CallsKnown c → (items : FileRule) → AllOf (Known c strings) items → AllOf (FnValid c) (functions_in (names_at c strings) items) → AllOf (IsFn c) (functions_in (names_at c strings) items)
functions-of c strings defs calls [] h valid = tt
functions-of c strings defs calls (m.struct q fs ∷ items) h valid = functions-of c strings defs calls items h.1 valid
functions-of c strings defs calls (m.enum q vs ∷ items) h valid = functions-of c strings defs calls items h.1 valid
functions-of c strings defs calls (m.extern q us u ∷ items) h valid = functions-of c strings defs calls items h.1 valid
functions-of c strings defs calls (m.function f ∷ items) h valid = (
  function_written c strings defs calls f (record { lines = h.0.clean.lines; faults = h.0.clean.faults; wrong = h.0.clean.wrong; good = h.0.good; path = h.0.nice.0; numbers = all-append LocalNice (items_of (λ a. a) f.args) (lets_of f.locals) (items-all LocalNice f.args h.0.nice.1) h.0.nice.2; nice = h.0.nice.3 }) valid.0,
  functions-of c strings defs calls items h.1 valid.1,
)

-- ---- the crate that a derivation names

none-first : (ns : List ℕ) → first_of ns ≡ None → ns ≡ []
none-first [] h = refl
none-first (n ∷ ns) h = absurd cc

same-defined : (c : Crate) (ds : List TypedDef) (os : List TypedOutside) (fs : List TypedFunction) → c.defs ≡ ds → c.outsides ≡ os → c.functions ≡ fs
    → crate_defined c ≡ map def_defined ds ++ (map outside_defined os ++ map fn_defined fs)
same-defined c ds os fs e h k = two-same (λ a b. a ++ b) (ap (map def_defined) e) (two-same (λ a b. a ++ b) (ap (map outside_defined) h) (ap (map fn_defined) k))

readable-of : (strings : Strings) (file : FileRule) (lines : LinesFrom) → AllOf ItemGood file → AllOf (ItemNice strings) file → name_faults (names_of strings file) (file_lined file lines) ≡ []
    → each (wrong_in_item (names_of strings file)) (file_lined file lines) ≡ [] → Valid (crate_named strings file) → Readable (crate_named strings file)
readable-of strings file lines good nice faults wrong valid =
    let c = crate_named strings file in
    let N = names_at c strings in
    let names = names-is strings file in
    let all-faults : name_faults N (file_lined file lines) ≡ [] = subst (λ n. name_faults n (file_lined file lines) ≡ []) names faults in
    let none-wrong : each (wrong_in_item N) (file_lined file lines) ≡ [] = subst (λ n. each (wrong_in_item n) (file_lined file lines) ≡ []) names wrong in
    let clean = items-clean N file lines (append_empty-right (path_faults [] (map (defined_by N) (file_lined file lines))) _ all-faults) none-wrong in
    let known = all-known c strings file clean good nice in
    let defs : c.defs ≡ map (def_named strings (crate_paths c)) (defs_in file) = ap (λ n. map (def_named strings n.paths) (defs_in file)) names in
    let outsides : c.outsides ≡ outsides_in N file = ap (λ n. outsides_in n file) names in
    let functions : c.functions ≡ functions_in N file = ap (λ n. functions_in n file) names in
    let paths : PathsWritten c = λ d there. all-at (λ x. IsPath x.path) no_def c.defs d (paths-of c strings (def_paths strings file) file known) there in
    let definitions : AllOf (IsDefinition c) c.defs = subst (AllOf (IsDefinition c)) (sym defs) (defs-of c strings paths file known) in
    let defs-are = defs-known c paths definitions in
    let calls : CallsKnown c = record {
      functions = subst (λ l. AllOf IsPath (function_paths l)) (sym functions) (function-paths c strings file known);
      outsides = subst (λ l. AllOf IsPath (outside_paths l)) (sym outsides) (outside-paths c strings file known);
    } in
    let bodies = functions-of c strings defs-are calls file known (subst (AllOf (FnValid c)) functions (functions_valid c valid)) in
    let apart = paths_apart c strings file lines (append_empty-left (path_faults [] (map (defined_by N) (file_lined file lines))) _ all-faults) in
    record {
      written = record {
        defs = definitions;
        outsides = subst (AllOf (IsOutside c)) (sym outsides) (outsides-of c strings paths file known);
        functions = subst (AllOf (IsFn c)) (sym functions) bodies;
      };
      apart = subst (AreApart []) (sym (same-defined c (map (def_named strings (crate_paths c)) (defs_in file)) (outsides_in N file) (functions_in N file) defs outsides functions)) apart;
    }

pub reading_readable : (bytes : List ℕ) (c : Crate) (r : Reads bytes c) → wrong_field r.derivation ≡ None → Valid c → Readable c
reading_readable bytes c r right valid =
    let d = r.derivation in
    let strings = strings_of d.pieces in
    let nice = file_nice strings d.file (subst (AllOf (Nice strings)) d.derives (nice_symbols d.pieces d.stand)) in
    subst Readable r.named (readable-of strings d.file (symbol_lines d.pieces) d.good nice d.faultless (none-first _ right) (subst Valid (sym r.named) valid))

pub reading_back : (bytes : List ℕ) (c : Crate) (r : Reads bytes c) → wrong_field r.derivation ≡ None → Valid c → Reads (text c) c
reading_back bytes c r right valid = read_back c (reading_readable bytes c r right valid)
