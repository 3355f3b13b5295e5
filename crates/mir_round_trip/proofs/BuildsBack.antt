-- What the rule of a build means: the build itself, with no fault.
use Rattle.std.proofs.Common.{◌≡◌, ◌<◌, ℕ, zero, suc, Bool, true, false, List, [], ◌∷◌, ◌++◌, map, length, get_or, codes, refl, sym, ap, ◌∙◌, arith, Option, Some, None, slice_get, bytes_eq}
use Rattle.std.proofs.lemmas.Slice.Eq.{bytes_eq-Decides}
use Rattle.mir_syntax.specs.declared.types.Form.{Form}
use Rattle.mir_syntax.specs.declared.types.Form.TheVariants as form
use Rattle.mir_syntax.specs.declared.body.Operand.{Operand}
use Rattle.mir_syntax.specs.Tree.{Tree}
use Rattle.mir_syntax.specs.Crate.{TypedField, TypedVariant, TypedDef, Crate}
use Rattle.mir_syntax.specs.Shapes.{◌>>=◌}
use Rattle.mir_text.specs.Words.{place_in}
use Rattle.mir_text.specs.Symbols.{number_in}
use Rattle.mir_text.specs.Grammar.{AllOf, items_of}
use Rattle.mir_text.specs.Names.{Strings, string_at, path_bytes, last_name, without_last}
use Rattle.mir_text.specs.NamedBodies.{Declared, variant_in, operand_named, struct_at, enum_variant_at, or_else, built_by, parts_named}
use Rattle.mir_text.specs.NameFaults.{operand_codes, named_operand_codes, parts_codes, same_texts, field_names, has_form, variant_fits, variant_number, def_number, built_variant, build_codes}
use Rattle.mir_text.specs.Nesting.{OperandGood, NamedGood, PartsGood}
use Rattle.mir_text.specs.TypeText.{no_def, def_at}
use Rattle.mir_text.specs.PlaceText.{no_variant, variant_at}
use Rattle.mir_round_trip.specs.Names.{crate_paths, IsDef}
use Rattle.mir_round_trip.specs.Bodies.{AreAsMany, names_at, IsOperand, AreFields, IsOne, IsBuild}
use Rattle.mir_round_trip.proofs.Spelling.{all-map}
use Rattle.mir_round_trip.proofs.Paths.{path_rule, Back, path_back, with_last, last-name, without-last, last-bytes}
use Rattle.mir_round_trip.proofs.Meaning.{Kept, met}
use Rattle.mir_round_trip.proofs.PlacesBack.{Setting}
use Rattle.mir_round_trip.proofs.Operands.{operand_rule, operand_back, operand_faultless, operand_good}
use Rattle.mir_round_trip.proofs.Lists.{items_rule, items-map, all-back, items-all, each-item-none}
use Rattle.mir_round_trip.proofs.Builds.{side_by_side, named_rule, parts_rule, built_path}

-- ---- what stands at a number

pub get-there : {A : Type 0} (other : A) (xs : List A) (n : ℕ) → n < length xs → slice_get xs n ≡ Some (get_or xs n other)
get-there other [] n h = absurd (omega arith)
get-there other (x ∷ xs) zero h = refl
get-there other (x ∷ xs) (suc n) h = get-there other xs n (omega arith)

def-there : (xs : List TypedDef) (n : ℕ) → n < length xs → def_number xs n ≡ Some (get_or xs n no_def)
def-there [] n h = absurd (omega arith)
def-there (x ∷ xs) zero h = refl
def-there (x ∷ xs) (suc n) h = def-there xs n (omega arith)

variant-there : (xs : List TypedVariant) (n : ℕ) → n < length xs → variant_number xs n ≡ Some (get_or xs n no_variant)
variant-there [] n h = absurd (omega arith)
variant-there (x ∷ xs) zero h = refl
variant-there (x ∷ xs) (suc n) h = variant-there xs n (omega arith)

-- ---- what the path of a build names

def-found : (c : Crate) (strings : Strings) → Kept c strings → (d : ℕ) → IsDef c d → place_in (crate_paths c) (path_bytes strings (path_rule strings (def_at c d).path)) ≡ Some d
def-found c strings kept d h = ap (place_in (crate_paths c)) (path_back strings (def_at c d).path h.path (kept.paths d h.there)) ∙ h.place

struct-found : (c : Crate) (strings : Strings) (d : ℕ) → IsDef c d → (def_at c d).is_enum ≡ false → struct_at (names_at c strings) d ≡ Some (d, 0)
unfolding ◌>>=◌
struct-found c strings d h e = rw (get-there no_def c.defs d h.there, e) refl

enum-found : (c : Crate) (strings : Strings) (d k : ℕ) (bytes : List ℕ) → IsDef c d → variant_in bytes (def_at c d) ≡ Some k → enum_variant_at (names_at c strings) bytes d ≡ Some (d, k)
unfolding ◌>>=◌
enum-found c strings d k bytes h e = rw (get-there no_def c.defs d h.there, e) refl

first-found : {A : Type 0} (o other : Option A) (a : A) → o ≡ Some a → or_else o other ≡ Some a
first-found o other a h = rw h refl

second-found : {A : Type 0} (o other : Option A) (a : A) → o ≡ None → other ≡ Some a → or_else o other ≡ Some a
second-found o other a h k = rw (h, k) refl

built-by : (c : Crate) (strings : Strings) → Kept c strings → (d k : ℕ) (b : Bool) → IsDef c d → k < length (def_at c d).variants → (def_at c d).is_enum ≡ b → IsOne c d k b
    → built_by (names_at c strings) (built_path strings b (def_at c d).path (variant_at c d k).name) ≡ Some (d, k)
unfolding ◌>>=◌
built-by c strings kept d k false def one e h =
    let found : (place_in (crate_paths c) (path_bytes strings (path_rule strings (def_at c d).path)) >>= struct_at (names_at c strings)) ≡ Some (d, 0) =
    ap (λ o. o >>= struct_at (names_at c strings)) (def-found c strings kept d def) ∙ struct-found c strings d def e in
    first-found _ _ (d, k) (found ∙ ap (λ n. Some (d, n)) (sym h))
built-by c strings kept d k true def one e h =
    let name = (variant_at c d k).name in
    let n = number_in strings name in
    let rule = path_rule strings (def_at c d).path in
    let back : string_at strings n ≡ name = kept.variants d k def.there one e in
    let bytes : path_bytes strings (with_last rule n) ≡ (def_at c d).path ++ (codes "::" ++ name) =
    last-bytes strings rule n ∙ ap (λ l. l ++ (codes "::" ++ string_at strings n)) (path_back strings (def_at c d).path def.path (kept.paths d def.there))
    ∙ ap (λ l. (def_at c d).path ++ (codes "::" ++ l)) back in
    let no-struct : (place_in (crate_paths c) (path_bytes strings (with_last rule n)) >>= struct_at (names_at c strings)) ≡ None =
    ap (λ l. place_in (crate_paths c) l >>= struct_at (names_at c strings)) bytes ∙ h.2 strings in
    let last : string_at strings (last_name (with_last rule n)) ≡ name = ap (string_at strings) (last-name rule n) ∙ back in
    let of-enum : (without_last (with_last rule n) >>= λ front. place_in (crate_paths c) (path_bytes strings front) >>= enum_variant_at (names_at c strings) (string_at strings (last_name (with_last rule n)))) ≡ Some (d, k) =
    ap (λ o. o >>= λ front. place_in (crate_paths c) (path_bytes strings front) >>= enum_variant_at (names_at c strings) (string_at strings (last_name (with_last rule n)))) (without-last rule n)
    ∙ ap (λ o. o >>= enum_variant_at (names_at c strings) (string_at strings (last_name (with_last rule n)))) (def-found c strings kept d def)
    ∙ ap (λ l. enum_variant_at (names_at c strings) l d) last ∙ enum-found c strings d k name def h.1 in
    second-found _ _ (d, k) no-struct of-enum

pub build-named : (c : Crate) (strings : Strings) → Kept c strings → (locals : List Tree) (d k : ℕ) (xs : List Operand) → IsBuild c locals d k xs
    → built_by (names_at c strings) (built_path strings (def_at c d).is_enum (def_at c d).path (variant_at c d k).name) ≡ Some (d, k)
build-named c strings kept locals d k xs h = built-by c strings kept d k (def_at c d).is_enum h.def h.one refl h.named

-- ---- its operands

beside : (c : Crate) (strings : Strings) (L : Declared) (locals : List Tree) → Setting c strings L locals → (fs : List TypedField) (xs : List Operand) → length xs ≡ length fs → AllOf (IsOperand c locals) xs
    → map (λ y. operand_named (names_at c strings) L (operand_rule c strings locals y.1)) (side_by_side fs xs) ≡ xs
beside c strings L locals set [] [] e h = refl
beside c strings L locals set [] (x ∷ xs) e h = absurd (omega arith)
beside c strings L locals set (f ∷ fs) [] e h = refl
beside c strings L locals set (f ∷ fs) (x ∷ xs) e h =
    ap (λ y. y ∷ map (λ y. operand_named (names_at c strings) L (operand_rule c strings locals y.1)) (side_by_side fs xs)) (operand_back c strings L locals set x h.0)
    ∙ ap (λ l. x ∷ l) (beside c strings L locals set fs xs (omega arith) h.1)

pub operands-back : (c : Crate) (strings : Strings) (L : Declared) (locals : List Tree) → Setting c strings L locals → (xs : List Operand) → AllOf (IsOperand c locals) xs
    → items_of (operand_named (names_at c strings) L) (items_rule (operand_rule c strings locals) xs) ≡ xs
operands-back c strings L locals set xs h =
    items-map (operand_named (names_at c strings) L) (operand_rule c strings locals) xs
    ∙ all-back (λ x. operand_named (names_at c strings) L (operand_rule c strings locals x)) xs (all-map (operand_back c strings L locals set) xs h)

no-parts : (xs : List Operand) (n : ℕ) → length xs ≡ n → n ≡ 0 → [] ≡ xs
no-parts [] n h e = refl
no-parts (x ∷ xs) n h e = absurd (omega arith)

parts-back : (c : Crate) (strings : Strings) (L : Declared) (locals : List Tree) → Setting c strings L locals → (form : Form) (fs : List TypedField) (xs : List Operand) → AreFields form fs
    → AreAsMany form (length xs) (length fs) → AllOf (IsOperand c locals) xs → parts_named (names_at c strings) L (parts_rule c strings locals form fs xs) ≡ xs
parts-back c strings L locals set form.Unit fs xs is e h = no-parts xs (length fs) e (ap length is)
parts-back c strings L locals set form.Tuple fs xs is e h = operands-back c strings L locals set xs h
parts-back c strings L locals set form.Named fs xs is e h =
    items-map (λ y. operand_named (names_at c strings) L y.1) (named_rule c strings locals) (side_by_side fs xs) ∙ beside c strings L locals set fs xs e h

pub build-parts : (c : Crate) (strings : Strings) (L : Declared) (locals : List Tree) → Setting c strings L locals → (d k : ℕ) (xs : List Operand) → IsBuild c locals d k xs
    → parts_named (names_at c strings) L (parts_rule c strings locals (variant_at c d k).form (variant_at c d k).fields xs) ≡ xs
build-parts c strings L locals set d k xs h = parts-back c strings L locals set (variant_at c d k).form (variant_at c d k).fields xs h.fields h.count h.operands

-- ---- no fault

same-bytes : (bytes : List ℕ) → bytes_eq bytes bytes ≡ true
same-bytes bytes = (bytes_eq-Decides bytes bytes).1 refl

same-texts : (texts : List (List ℕ)) → same_texts texts texts ≡ true
same-texts [] = refl
same-texts (t ∷ ts) = rw (same-bytes t, same-texts ts) refl

names-beside : (strings : Strings) (fs : List TypedField) (xs : List Operand) → length xs ≡ length fs → AllOf (Back strings) (field_names fs)
    → map (λ y. string_at strings (number_in strings y.0.name)) (side_by_side fs xs) ≡ field_names fs
names-beside strings [] xs e h = refl
names-beside strings (f ∷ fs) [] e h = absurd (omega arith)
names-beside strings (f ∷ fs) (x ∷ xs) e h =
    ap (λ l. l ∷ map (λ y. string_at strings (number_in strings y.0.name)) (side_by_side fs xs)) h.0 ∙ ap (λ l. f.name ∷ l) (names-beside strings fs xs (omega arith) h.1)

form-fits : (c : Crate) (strings : Strings) (locals : List Tree) (form : Form) (fs : List TypedField) (xs : List Operand) → AreAsMany form (length xs) (length fs) → AllOf (Back strings) (field_names fs)
    → has_form (names_at c strings) form fs (parts_rule c strings locals form fs xs) ≡ true
form-fits c strings locals form.Unit fs xs e h = refl
form-fits c strings locals form.Tuple fs xs e h = refl
form-fits c strings locals form.Named fs xs e h =
    ap (λ l. same_texts l (field_names fs)) (items-map (λ y. string_at strings y.0) (named_rule c strings locals) (side_by_side fs xs) ∙ names-beside strings fs xs e h)
    ∙ same-texts (field_names fs)

pub build-faultless : (c : Crate) (strings : Strings) → Kept c strings → (locals : List Tree) (d k : ℕ) (xs : List Operand) → IsBuild c locals d k xs
    → build_codes (names_at c strings) (built_path strings (def_at c d).is_enum (def_at c d).path (variant_at c d k).name) (parts_rule c strings locals (variant_at c d k).form (variant_at c d k).fields xs) ≡ []
unfolding ◌>>=◌
build-faultless c strings kept locals d k xs h =
    let v = variant_at c d k in
    let parts = parts_rule c strings locals v.form v.fields xs in
    let there : built_variant (names_at c strings) (d, k) ≡ Some v =
    ap (λ o. o >>= λ x. variant_number x.variants k) (def-there c.defs d h.def.there) ∙ variant-there (def_at c d).variants k h.one in
    let fits : variant_fits (names_at c strings) parts (built_by (names_at c strings) (built_path strings (def_at c d).is_enum (def_at c d).path v.name) >>= built_variant (names_at c strings)) ≡ true =
    ap (λ o. variant_fits (names_at c strings) parts (o >>= built_variant (names_at c strings))) (build-named c strings kept locals d k xs h)
    ∙ ap (variant_fits (names_at c strings) parts) there ∙ form-fits c strings locals v.form v.fields xs h.count (kept.fields d k h.def.there h.one) in
    met _ 13 fits

beside-all : (P : Operand → Type 0) (fs : List TypedField) (xs : List Operand) → AllOf P xs → AllOf (λ y. P y.1) (side_by_side fs xs)
beside-all P [] xs h = tt
beside-all P (f ∷ fs) [] h = tt
beside-all P (f ∷ fs) (x ∷ xs) h = (h.0, beside-all P fs xs h.1)

pub operands-faultless : (c : Crate) (strings : Strings) (L : Declared) (locals : List Tree) → Setting c strings L locals → (xs : List Operand) → AllOf (IsOperand c locals) xs
    → AllOf (λ x. operand_codes (names_at c strings) L (operand_rule c strings locals x) ≡ []) xs
operands-faultless c strings L locals set xs h = all-map (operand_faultless c strings L locals set) xs h

pub parts-faultless : (c : Crate) (strings : Strings) (L : Declared) (locals : List Tree) → Setting c strings L locals → (form : Form) (fs : List TypedField) (xs : List Operand) → AllOf (IsOperand c locals) xs
    → parts_codes (names_at c strings) L (parts_rule c strings locals form fs xs) ≡ []
parts-faultless c strings L locals set form.Unit fs xs h = refl
parts-faultless c strings L locals set form.Tuple fs xs h = each-item-none (operand_codes (names_at c strings) L) (operand_rule c strings locals) xs (operands-faultless c strings L locals set xs h)
parts-faultless c strings L locals set form.Named fs xs h =
    each-item-none (named_operand_codes (names_at c strings) L) (named_rule c strings locals) (side_by_side fs xs)
    (beside-all (λ x. operand_codes (names_at c strings) L (operand_rule c strings locals x) ≡ []) fs xs (operands-faultless c strings L locals set xs h))

-- ---- good

pub operands-good : (c : Crate) (strings : Strings) (locals : List Tree) (xs : List Operand) → AllOf (IsOperand c locals) xs → AllOf (λ x. OperandGood (operand_rule c strings locals x)) xs
operands-good c strings locals xs h = all-map (operand_good c strings locals) xs h

pub parts-good : (c : Crate) (strings : Strings) (locals : List Tree) (form : Form) (fs : List TypedField) (xs : List Operand) → AllOf (IsOperand c locals) xs → PartsGood (parts_rule c strings locals form fs xs)
parts-good c strings locals form.Unit fs xs h = tt
parts-good c strings locals form.Tuple fs xs h = items-all OperandGood (operand_rule c strings locals) xs (operands-good c strings locals xs h)
parts-good c strings locals form.Named fs xs h =
    items-all NamedGood (named_rule c strings locals) (side_by_side fs xs) (beside-all (λ x. OperandGood (operand_rule c strings locals x)) fs xs (operands-good c strings locals xs h))
