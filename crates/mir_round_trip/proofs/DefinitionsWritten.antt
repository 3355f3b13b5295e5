-- The structs, enums and outside functions that a derivation names are such as a canonical text writes; and what its names mean.
use Rattle.mir_round_trip.specs.Names.{IsTy, crate_paths}
use Rattle.mir_round_trip.specs.Bodies.{names_at}
use Rattle.mir_round_trip.specs.Readable.{IsPart, IsField, IsFields, IsOption, IsDefinition, IsOutside}
use Rattle.std.proofs.Common.{◌≡◌, ◌≤◌, ℕ, true, List, [], ◌∷◌, map, refl, sym, ap, ◌∙◌}
use Rattle.std.proofs.lemmas.Simd.{map-map}
use Rattle.mir_syntax.specs.Crate.{Crate}
use Rattle.mir_text.specs.Grammar as G
use Rattle.mir_text.specs.Grammar.{Items, items_of, AllItems, AllOf}
use Rattle.mir_text.specs.GrammarTypes as t
use Rattle.mir_text.specs.GrammarTypes.{TypeRule, TypesRule, types_in}
use Rattle.mir_text.specs.GrammarItems as m
use Rattle.mir_text.specs.GrammarItems.{FieldRule, FieldsRule, VariantRule, ItemRule, FileRule}
use Rattle.mir_text.specs.Names as n
use Rattle.mir_text.specs.Names.{Strings, Names, names_of, string_at, path_bytes, type_named, is_known, are_known, field_named, part_named, form_of, fields_named, variant_named, DefRule, def_path, def_in, defs_in, def_paths, def_named, function_paths_in, outside_paths_in}
use Rattle.mir_text.specs.Naming.{outside_in, outsides_in, functions_in, crate_named}
use Rattle.mir_text.specs.NameFaults.{unless, each_item, type_codes, none_twice, fields_codes, other_codes}
use Rattle.mir_text.specs.Nesting.{type_depth, types_depth, FieldGood, FieldsGood, VariantGood, ItemGood}
use Rattle.mir_text.specs.TermText.{function_paths, outside_paths}
use Rattle.mir_text.proofs.Codes.{unless_met}
use Rattle.mir_rules.proofs.Lists.{append_empty-left, append_empty-right, and_true-left, and_true-right}
use Rattle.mir_round_trip.proofs.CratesBack.{map-same, as-names}
use Rattle.mir_round_trip.proofs.Carried.{FieldNice, FieldsNice, VariantNice, ItemNice}
use Rattle.mir_round_trip.proofs.TypesWritten.{PathsWritten, path_written, ty_written}
use Rattle.mir_round_trip.proofs.FunctionsWritten.{max-left, max-right}

-- ---- types in a tuple

-- such types are written
abbrev Right : Crate → Strings → TypeRule → Type 0
Right c strings u = IsTy c (type_named strings (crate_paths c) u)

types-right : (c : Crate) (strings : Strings) → PathsWritten c → (us : TypesRule) → are_known strings (crate_paths c) us ≡ true → types_depth us ≤ 65 → AllOf (Right c strings) (types_in us)
types-right c strings paths t.end h good = tt
types-right c strings paths (t.last u) h good = (ty_written c strings paths u h good, tt)
types-right c strings paths (t.more u us) h good = (
  ty_written c strings paths u (and_true-left (is_known strings (crate_paths c) u) (are_known strings (crate_paths c) us) h) (max-left (type_depth u) (types_depth us) 65 good),
  types-right c strings paths us (and_true-right (is_known strings (crate_paths c) u) (are_known strings (crate_paths c) us) h) (max-right (type_depth u) (types_depth us) 65 good),
)

-- ---- fields

parts-written : (c : Crate) (strings : Strings) (us : List TypeRule) → AllOf (Right c strings) us → AllOf (IsPart c) (map (part_named strings (crate_paths c)) us)
parts-written c strings [] h = tt
parts-written c strings (u ∷ us) h = (record { unnamed = refl; type = h.0 }, parts-written c strings us h.1)

field-written : (c : Crate) (strings : Strings) → PathsWritten c → (f : FieldRule) → type_codes (names_at c strings) f.1 ≡ [] → FieldGood f → FieldNice strings f → IsField c (field_named strings (crate_paths c) f)
field-written c strings paths f codes good nice = record { name = nice; type = ty_written c strings paths f.1 (unless_met _ 12 codes) good }

items-fields : (c : Crate) (strings : Strings) → PathsWritten c → (fs : Items FieldRule) → each_item (λ f. type_codes (names_at c strings) f.1) fs ≡ [] → AllItems FieldGood fs → AllItems (FieldNice strings) fs
    → AllOf (IsField c) (items_of (field_named strings (crate_paths c)) fs)
items-fields c strings paths G.end codes good nice = tt
items-fields c strings paths (G.last f) codes good nice = (field-written c strings paths f (append_empty-left (type_codes (names_at c strings) f.1) [] codes) good nice, tt)
items-fields c strings paths (G.more f fs) codes good nice = (
  field-written c strings paths f (append_empty-left (type_codes (names_at c strings) f.1) _ codes) good.0 nice.0,
  items-fields c strings paths fs (append_empty-right (type_codes (names_at c strings) f.1) _ codes) good.1 nice.1,
)

pub map-items : {R A B : Type 0} (h : A → B) (f : R → A) (xs : Items R) → map h (items_of f xs) ≡ items_of (λ x. h (f x)) xs
map-items h f G.end = refl
map-items h f (G.last x) = refl
map-items h f (G.more x xs) = ap (λ l. h (f x) ∷ l) (map-items h f xs)

fields-written : (c : Crate) (strings : Strings) → PathsWritten c → (fs : FieldsRule) → fields_codes (names_at c strings) fs ≡ [] → FieldsGood fs → FieldsNice strings fs
    → IsFields c (form_of fs) (fields_named strings (crate_paths c) fs)
fields-written c strings paths m.plain codes good nice = refl
fields-written c strings paths (m.tupled us) codes good nice = parts-written c strings (types_in us) (types-right c strings paths us (unless_met _ 12 codes) good)
fields-written c strings paths (m.labelled fs) codes good nice =
    let N = names_at c strings in (
      items-fields c strings paths fs (append_empty-right (unless (none_twice [] (items_of (λ f. string_at strings f.0) fs)) 10) _ codes) good nice,
      ap (none_twice []) (map-items (λ f. f.name) (field_named strings (crate_paths c)) fs) ∙ unless_met _ 10 (append_empty-left (unless (none_twice [] (items_of (λ f. string_at strings f.0) fs)) 10) _ codes),
    )

-- ---- variants

variants-written : (c : Crate) (strings : Strings) → PathsWritten c → (vs : Items VariantRule) → each_item (λ v. fields_codes (names_at c strings) v.1) vs ≡ [] → AllItems VariantGood vs → AllItems (VariantNice strings) vs
    → AllOf (IsOption c) (items_of (variant_named strings (crate_paths c)) vs)
variants-written c strings paths G.end codes good nice = tt
variants-written c strings paths (G.last v) codes good nice =
    (record { name = nice.0; fields = fields-written c strings paths v.1 (append_empty-left (fields_codes (names_at c strings) v.1) [] codes) good nice.1 }, tt)
variants-written c strings paths (G.more v vs) codes good nice = (
  record { name = nice.0.0; fields = fields-written c strings paths v.1 (append_empty-left (fields_codes (names_at c strings) v.1) _ codes) good.0 nice.0.1 },
  variants-written c strings paths vs (append_empty-right (fields_codes (names_at c strings) v.1) _ codes) good.1 nice.1,
)

-- ---- items of a file

-- what is said of the other items
abbrev pub Sound : Crate → Strings → ItemRule → Type 0
Sound c strings item = (other_codes (names_at c strings) item ≡ []) × ItemGood item × ItemNice strings item

pub def-written : (c : Crate) (strings : Strings) → PathsWritten c → (item : ItemRule) → Sound c strings item → AllOf (IsDefinition c) (map (def_named strings (crate_paths c)) (def_in item))
def-written c strings paths (m.struct q fs) h = (record { path = path_written strings q h.2.0; shape = (refl, fields-written c strings paths fs h.0 h.1 h.2.1) }, tt)
def-written c strings paths (m.enum q vs) h =
    let twice = append_empty-left (unless (none_twice [] (items_of (λ v. string_at strings v.0) vs)) 10) _ h.0 in
    let fields = append_empty-right (unless (none_twice [] (items_of (λ v. string_at strings v.0) vs)) 10) _ h.0 in (
      record {
        path = path_written strings q h.2.0;
        shape = (variants-written c strings paths vs fields h.1 h.2.1, ap (none_twice []) (map-items (λ v. v.name) (variant_named strings (crate_paths c)) vs) ∙ unless_met _ 10 twice);
      },
      tt,
    )
def-written c strings paths (m.extern q us u) h = tt
def-written c strings paths (m.function f) h = tt

all-types : (c : Crate) (strings : Strings) (us : List TypeRule) → AllOf (Right c strings) us → AllOf (IsTy c) (map (n.ty_of (names_at c strings)) us)
all-types c strings [] h = tt
all-types c strings (u ∷ us) h = (h.0, all-types c strings us h.1)

pub outside-written : (c : Crate) (strings : Strings) → PathsWritten c → (item : ItemRule) → Sound c strings item → AllOf (IsOutside c) (outside_in (names_at c strings) item)
outside-written c strings paths (m.struct q fs) h = tt
outside-written c strings paths (m.enum q vs) h = tt
outside-written c strings paths (m.extern q us u) h =
    let N = names_at c strings in
    let known = unless_met _ 12 (append_empty-left (unless (are_known strings (crate_paths c) us) 12) (type_codes N u) h.0) in (
      record {
        path = path_written strings q h.2;
        args = all-types c strings (types_in us) (types-right c strings paths us known h.1.0);
        result = ty_written c strings paths u (unless_met _ 12 (append_empty-right (unless (are_known strings (crate_paths c) us) 12) (type_codes N u) h.0)) h.1.1;
      },
      tt,
    )
outside-written c strings paths (m.function f) h = tt

-- ---- what the names mean

def-bytes : (strings : Strings) (paths : List (List ℕ)) (d : DefRule) → (def_named strings paths d).path ≡ path_bytes strings (def_path d)
def-bytes strings paths (n.struct q fs) = refl
def-bytes strings paths (n.enum q vs) = refl

all-of : {A : Type 0} {P : A → Type 0} → ((x : A) → P x) → (xs : List A) → AllOf P xs
all-of p [] = tt
all-of p (x ∷ xs) = (p x, all-of p xs)

paths-same : (strings : Strings) (paths : List (List ℕ)) (ds : List DefRule) → map (λ d. d.path) (map (def_named strings paths) ds) ≡ map (λ d. path_bytes strings (def_path d)) ds
paths-same strings paths ds =
    map-map (λ d. d.path) (def_named strings paths) ds ∙ map-same (λ d. (def_named strings paths d).path) (λ d. path_bytes strings (def_path d)) ds (all-of (def-bytes strings paths) ds)

functions-same : (N : Names) (items : FileRule) → function_paths (functions_in N items) ≡ function_paths_in N.strings items
functions-same N [] = refl
functions-same N (m.struct q fs ∷ items) = functions-same N items
functions-same N (m.enum q vs ∷ items) = functions-same N items
functions-same N (m.extern q us u ∷ items) = functions-same N items
functions-same N (m.function f ∷ items) = ap (λ l. path_bytes N.strings f.path ∷ l) (functions-same N items)

outsides-same : (N : Names) (items : FileRule) → outside_paths (outsides_in N items) ≡ outside_paths_in N.strings items
outsides-same N [] = refl
outsides-same N (m.struct q fs ∷ items) = outsides-same N items
outsides-same N (m.enum q vs ∷ items) = outsides-same N items
outsides-same N (m.extern q us u ∷ items) = ap (λ l. path_bytes N.strings q ∷ l) (outsides-same N items)
outsides-same N (m.function f ∷ items) = outsides-same N items

-- the names of a derivation are those of the crate that it names
pub names-is : (strings : Strings) (file : FileRule) → names_of strings file ≡ names_at (crate_named strings file) strings
names-is strings file =
    let N = names_of strings file in
    as-names strings _ _ _ _ _ _ _ _ (sym (paths-same strings (def_paths strings file) (defs_in file))) refl (sym (functions-same N file)) (sym (outsides-same N file))
