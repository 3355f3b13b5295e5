-- What the rules of structs, enums and outside functions mean: these themselves, with no fault.
use Rattle.std.proofs.Common.{◌≡◌, ◌≤◌, ℕ, Bool, true, false, List, [], ◌∷◌, map, refl, sym, ap, subst, ◌∙◌, arith}
use Rattle.mir_syntax.specs.declared.types.Form.{Form}
use Rattle.mir_syntax.specs.declared.types.Form.TheVariants as form
use Rattle.mir_syntax.specs.Tree.{Tree, tuple_of}
use Rattle.mir_syntax.specs.Crate.{TypedField, TypedVariant, TypedDef, TypedOutside, Crate}
use Rattle.mir_rules.proofs.Lists.{append_empty}
use Rattle.mir_text.specs.Symbols.{number_in}
use Rattle.mir_text.specs.Grammar.{AllOf, items_of}
use Rattle.mir_text.specs.GrammarTypes as t
use Rattle.mir_text.specs.GrammarTypes.{TypeRule, TypesRule, types_in}
use Rattle.mir_text.specs.Names as n
use Rattle.mir_text.specs.Names.{Strings, Names, string_at, path_bytes, type_named, ty_of, field_named, part_named, form_of, fields_named, variant_of, variant_named, DefRule, def_path, def_in, def_named}
use Rattle.mir_text.specs.Naming.{outside_in}
use Rattle.mir_text.specs.NameFaults.{type_codes, field_names, none_twice, fields_codes, other_codes}
use Rattle.mir_text.specs.Nesting.{TypesGood, FieldGood, FieldsGood, VariantGood, ItemGood}
use Rattle.mir_round_trip.specs.Names.{IsPath, crate_paths, AreProper, tree_depth, parts_depth, IsTy}
use Rattle.mir_round_trip.specs.Bodies.{names_at}
use Rattle.mir_round_trip.specs.Readable.{IsPart, IsField, IsFields, IsOption, IsShape, IsDefinition, IsOutside}
use Rattle.mir_round_trip.proofs.Spelling.{all-map}
use Rattle.mir_round_trip.proofs.Paths.{path_rule, path_names, Back, path_back}
use Rattle.mir_round_trip.proofs.Types.{type_rule, types_rule, join_type, type_back, types_known, depths_kept}
use Rattle.mir_round_trip.proofs.Meaning.{Kept, met}
use Rattle.mir_round_trip.proofs.PlacesBack.{type_faultless}
use Rattle.mir_round_trip.proofs.Lists.{items_rule, items-map, items-all, each-item-none, names_onto}
use Rattle.mir_round_trip.proofs.Rvalues.{two-same, ty_good}
use Rattle.mir_round_trip.proofs.Blocks.{all-left, all-right}
use Rattle.mir_round_trip.proofs.FunctionsBack.{max-most}
use Rattle.mir_round_trip.proofs.Definitions.{field_type_of, field_rule, fields_rule, variant_rule, one_rule, shape_rule, def_item, outside_item, fields_names, variant_bytes, shape_names, def_names}

-- ---- tuples of types

join-in : (u : TypeRule) (us : TypesRule) → types_in (join_type u us) ≡ u ∷ types_in us
join-in u t.end = refl
join-in u (t.last v) = refl
join-in u (t.more v us) = refl

types-in : {A : Type 0} (c : Crate) (strings : Strings) (ty : A → Tree) (xs : List A) → types_in (types_rule c strings (tuple_of (map ty xs))) ≡ map (λ x. type_rule c strings (ty x)) xs
unfolding types_rule
types-in c strings ty [] = refl
types-in c strings ty (x ∷ xs) =
    join-in (type_rule c strings (ty x)) (types_rule c strings (tuple_of (map ty xs))) ∙ ap (λ l. type_rule c strings (ty x) ∷ l) (types-in c strings ty xs)

proper-parts : {A : Type 0} (c : Crate) (ty : A → Tree) (xs : List A) → AllOf (λ x. IsTy c (ty x)) xs → AreProper c (tuple_of (map ty xs))
unfolding AreProper
proper-parts c ty [] h = tt
proper-parts c ty (x ∷ xs) h = (h.0.proper, proper-parts c ty xs h.1)

shallow-parts : {A : Type 0} (c : Crate) (ty : A → Tree) (xs : List A) → AllOf (λ x. IsTy c (ty x)) xs → parts_depth (tuple_of (map ty xs)) ≤ 65
shallow-parts c ty [] h = omega arith
shallow-parts c ty (x ∷ xs) h = max-most (tree_depth (ty x)) (parts_depth (tuple_of (map ty xs))) 65 h.0.depth (shallow-parts c ty xs h.1)

types-good : {A : Type 0} (c : Crate) (strings : Strings) (ty : A → Tree) (xs : List A) → AllOf (λ x. IsTy c (ty x)) xs → TypesGood (types_rule c strings (tuple_of (map ty xs)))
types-good c strings ty xs h = subst (λ k. k ≤ 65) (sym (depths_kept c strings (tuple_of (map ty xs)))) (shallow-parts c ty xs h)

-- ---- fields

as-field : (a x : List ℕ) (b y : Tree) → a ≡ x → b ≡ y → ◌≡◌ {A = TypedField} (record { name = a; ty = b }) (record { name = x; ty = y })
as-field a x b y e h = two-same (λ u v. let r : TypedField = record { name = u; ty = v } in r) e h

map-back : {A B : Type 0} (f : B → A) (g : A → B) (xs : List A) → AllOf (λ x. f (g x) ≡ x) xs → map f (map g xs) ≡ xs
map-back f g [] h = refl
map-back f g (x ∷ xs) h = two-same (λ a b. a ∷ b) h.0 (map-back f g xs h.1)

same-map : {A R : Type 0} (of : R → A) (rule : A → R) (xs : List A) → AllOf (λ x. of (rule x) ≡ x) xs → map (λ x. of (rule x)) xs ≡ xs
same-map of rule [] h = refl
same-map of rule (x ∷ xs) h = two-same (λ a b. a ∷ b) h.0 (same-map of rule xs h.1)

items-back : {A R : Type 0} (of : R → A) (rule : A → R) (xs : List A) → AllOf (λ x. of (rule x) ≡ x) xs → items_of of (items_rule rule xs) ≡ xs
items-back of rule xs h = items-map of rule xs ∙ same-map of rule xs h

fields-read : (c : Crate) (strings : Strings) → Kept c strings → (fs : List TypedField) → AllOf (IsField c) fs → AllOf (Back strings) (field_names fs)
    → AllOf (λ f. field_named strings (crate_paths c) (field_rule c strings f) ≡ f) fs
fields-read c strings kept [] h k = tt
fields-read c strings kept (f ∷ fs) h k = (as-field _ _ _ _ k.0 (type_back c strings kept.paths f.ty h.0.type.proper), fields-read c strings kept fs h.1 k.1)

parts-read : (c : Crate) (strings : Strings) → Kept c strings → (fs : List TypedField) → AllOf (IsPart c) fs → AllOf (λ f. part_named strings (crate_paths c) (type_rule c strings (field_type_of f)) ≡ f) fs
parts-read c strings kept [] h = tt
parts-read c strings kept (f ∷ fs) h = (as-field _ _ _ _ (sym h.0.unnamed) (type_back c strings kept.paths f.ty h.0.type.proper), parts-read c strings kept fs h.1)

fields-back : (c : Crate) (strings : Strings) → Kept c strings → (form : Form) (fs : List TypedField) → IsFields c form fs → AllOf (Back strings) (fields_names form fs)
    → fields_named strings (crate_paths c) (fields_rule c strings form fs) ≡ fs
fields-back c strings kept form.Unit fs h k = sym h
fields-back c strings kept form.Tuple fs h k =
    ap (map (part_named strings (crate_paths c))) (types-in c strings field_type_of fs) ∙ map-back (part_named strings (crate_paths c)) (λ f. type_rule c strings (field_type_of f)) fs (parts-read c strings kept fs h)
fields-back c strings kept form.Named fs h k = items-back (field_named strings (crate_paths c)) (field_rule c strings) fs (fields-read c strings kept fs h.0 k)

form-back : (c : Crate) (strings : Strings) (form : Form) (fs : List TypedField) → form_of (fields_rule c strings form fs) ≡ form
form-back c strings form.Unit fs = refl
form-back c strings form.Tuple fs = refl
form-back c strings form.Named fs = refl

-- ---- variants and definitions

as-variant : (a x : List ℕ) (b y : Form) (d z : List TypedField) → a ≡ x → b ≡ y → d ≡ z → ◌≡◌ {A = TypedVariant} (record { name = a; form = b; fields = d }) (record { name = x; form = y; fields = z })
as-variant a x b y d z e h k =
    two-same (λ u v. let r : TypedVariant = record { name = u; form = v; fields = d } in r) e h ∙ ap (λ w. let r : TypedVariant = record { name = x; form = y; fields = w } in r) k

variant-back : (c : Crate) (strings : Strings) → Kept c strings → (v : TypedVariant) → IsOption c v → AllOf (Back strings) (variant_bytes v) → variant_named strings (crate_paths c) (variant_rule c strings v) ≡ v
variant-back c strings kept v h k = as-variant _ _ _ _ _ _ k.0 (form-back c strings v.form v.fields) (fields-back c strings kept v.form v.fields h.fields k.1)

variants-read : (c : Crate) (strings : Strings) → Kept c strings → (vs : List TypedVariant) → AllOf (IsOption c) vs → AllOf (Back strings) (names_onto variant_bytes vs [])
    → AllOf (λ v. variant_named strings (crate_paths c) (variant_rule c strings v) ≡ v) vs
variants-read c strings kept [] h k = tt
variants-read c strings kept (v ∷ vs) h k = (
  variant-back c strings kept v h.0 (all-left (Back strings) (variant_bytes v) (names_onto variant_bytes vs []) k),
  variants-read c strings kept vs h.1 (all-right (Back strings) (variant_bytes v) (names_onto variant_bytes vs []) k),
)

abbrev shape_def : Crate → Strings → List ℕ → Bool → List TypedVariant → DefRule
shape_def c strings path true variants = n.enum (path_rule strings path) (items_rule (variant_rule c strings) variants)
shape_def c strings path false variants = n.struct (path_rule strings path) (one_rule c strings variants)

-- the rule of a struct or enum
unfoldable pub def_rule : Crate → Strings → TypedDef → DefRule
def_rule c strings d = shape_def c strings d.path d.is_enum d.variants

shape-in : (c : Crate) (strings : Strings) (path : List ℕ) (b : Bool) (vs : List TypedVariant) → def_in (shape_rule c strings path b vs) ≡ shape_def c strings path b vs ∷ []
shape-in c strings path true vs = refl
shape-in c strings path false vs = refl

pub def-in : (c : Crate) (strings : Strings) (d : TypedDef) → def_in (def_item c strings d) ≡ def_rule c strings d ∷ []
unfolding def_item def_rule
def-in c strings d = shape-in c strings d.path d.is_enum d.variants

shape-path : (c : Crate) (strings : Strings) (path : List ℕ) (b : Bool) (vs : List TypedVariant) → def_path (shape_def c strings path b vs) ≡ path_rule strings path
shape-path c strings path true vs = refl
shape-path c strings path false vs = refl

pub def-path : (c : Crate) (strings : Strings) (d : TypedDef) → def_path (def_rule c strings d) ≡ path_rule strings d.path
unfolding def_rule
def-path c strings d = shape-path c strings d.path d.is_enum d.variants

as-def : (b : Bool) (a x : List ℕ) (d z : List TypedVariant) → a ≡ x → d ≡ z → ◌≡◌ {A = TypedDef} (record { path = a; is_enum = b; variants = d }) (record { path = x; is_enum = b; variants = z })
as-def b a x d z e h = two-same (λ u v. let r : TypedDef = record { path = u; is_enum = b; variants = v } in r) e h

shape-back : (c : Crate) (strings : Strings) → Kept c strings → (path : List ℕ) (b : Bool) (vs : List TypedVariant) → IsPath path → IsShape c b vs → AllOf (Back strings) (path_names path) → AllOf (Back strings) (shape_names b vs)
    → def_named strings (crate_paths c) (shape_def c strings path b vs) ≡ record { path = path; is_enum = b; variants = vs }
shape-back c strings kept path true vs is h p k =
    as-def true _ _ _ _ (path_back strings path is p) (items-back (variant_named strings (crate_paths c)) (variant_rule c strings) vs (variants-read c strings kept vs h.0 k))
shape-back c strings kept path false [] is h p k = absurd h
shape-back c strings kept path false (v ∷ []) is h p k =
    let one = as-variant _ _ _ _ _ _ (sym h.0) (form-back c strings v.form v.fields) (fields-back c strings kept v.form v.fields h.1 k) in
    as-def false _ _ _ _ (path_back strings path is p) (ap (λ w. w ∷ []) one)
shape-back c strings kept path false (v ∷ w ∷ vs) is h p k = absurd h

pub def_back : (c : Crate) (strings : Strings) → Kept c strings → (d : TypedDef) → IsDefinition c d → AllOf (Back strings) (def_names d) → def_named strings (crate_paths c) (def_rule c strings d) ≡ d
unfolding def_rule
def_back c strings kept d h k =
    shape-back c strings kept d.path d.is_enum d.variants h.path h.shape (all-left (Back strings) (path_names d.path) (shape_names d.is_enum d.variants) k)
    (all-right (Back strings) (path_names d.path) (shape_names d.is_enum d.variants) k)

-- ---- outside functions

as-outside : (a x : List ℕ) (b y : List Tree) (d z : Tree) → a ≡ x → b ≡ y → d ≡ z → ◌≡◌ {A = TypedOutside} (record { path = a; args = b; result = d }) (record { path = x; args = y; result = z })
as-outside a x b y d z e h k =
    two-same (λ u v. let r : TypedOutside = record { path = u; args = v; result = d } in r) e h ∙ ap (λ w. let r : TypedOutside = record { path = x; args = y; result = w } in r) k

types-read : (c : Crate) (strings : Strings) → Kept c strings → (ts : List Tree) → AllOf (IsTy c) ts → AllOf (λ u. ty_of (names_at c strings) (type_rule c strings u) ≡ u) ts
types-read c strings kept ts h = all-map (λ u is. type_back c strings kept.paths u is.proper) ts h

map-same : (ts : List Tree) → map (λ u. u) ts ≡ ts
map-same [] = refl
map-same (u ∷ ts) = ap (λ l. u ∷ l) (map-same ts)

args-in : (c : Crate) (strings : Strings) (ts : List Tree) → types_in (types_rule c strings (tuple_of ts)) ≡ map (type_rule c strings) ts
args-in c strings ts = ap (λ l. types_in (types_rule c strings (tuple_of l))) (sym (map-same ts)) ∙ types-in c strings (λ u. u) ts

pub outside_back : (c : Crate) (strings : Strings) → Kept c strings → (o : TypedOutside) → IsOutside c o → AllOf (Back strings) (path_names o.path) → outside_in (names_at c strings) (outside_item c strings o) ≡ o ∷ []
unfolding outside_item
outside_back c strings kept o h k =
    ap (λ x. x ∷ []) (as-outside _ _ _ _ _ _ (path_back strings o.path h.path k)
    (ap (map (ty_of (names_at c strings))) (args-in c strings o.args) ∙ map-back (ty_of (names_at c strings)) (type_rule c strings) o.args (types-read c strings kept o.args h.args))
    (type_back c strings kept.paths o.result h.result.proper))

-- ---- no fault

same-names : (strings : Strings) (fs : List TypedField) → AllOf (Back strings) (field_names fs) → map (λ f. string_at strings (number_in strings f.name)) fs ≡ field_names fs
same-names strings [] h = refl
same-names strings (f ∷ fs) h = two-same (λ a b. a ∷ b) h.0 (same-names strings fs h.1)

names-read : (c : Crate) (strings : Strings) (fs : List TypedField) → AllOf (Back strings) (field_names fs) → items_of (λ f. string_at strings f.0) (items_rule (field_rule c strings) fs) ≡ field_names fs
names-read c strings fs h = items-map (λ f. string_at strings f.0) (field_rule c strings) fs ∙ same-names strings fs h

field-types : (c : Crate) (strings : Strings) → Kept c strings → (fs : List TypedField) → AllOf (IsField c) fs → AllOf (λ f. type_codes (names_at c strings) (type_rule c strings f.ty) ≡ []) fs
field-types c strings kept fs h = all-map (λ f is. type_faultless c strings kept f.ty is.type.proper) fs h

fields-faultless : (c : Crate) (strings : Strings) → Kept c strings → (form : Form) (fs : List TypedField) → IsFields c form fs → AllOf (Back strings) (fields_names form fs)
    → fields_codes (names_at c strings) (fields_rule c strings form fs) ≡ []
fields-faultless c strings kept form.Unit fs h k = refl
fields-faultless c strings kept form.Tuple fs h k =
    met _ 12 (types_known c strings kept.paths (tuple_of (map field_type_of fs)) (proper-parts c field_type_of fs (all-map (λ f is. is.type) fs h)))
fields-faultless c strings kept form.Named fs h k =
    append_empty _ _ (met _ 10 (ap (none_twice []) (names-read c strings fs k) ∙ h.1))
    (each-item-none (λ f. type_codes (names_at c strings) f.1) (field_rule c strings) fs (field-types c strings kept fs h.0))

pub variant-names : (c : Crate) (strings : Strings) (vs : List TypedVariant) → AllOf (Back strings) (names_onto variant_bytes vs []) → map (λ v. string_at strings (number_in strings v.name)) vs ≡ map (λ v. v.name) vs
variant-names c strings [] k = refl
variant-names c strings (v ∷ vs) k =
    two-same (λ a b. a ∷ b) k.0 (variant-names c strings vs (all-right (Back strings) (variant_bytes v) (names_onto variant_bytes vs []) k))

variants-read-faultless : (c : Crate) (strings : Strings) → Kept c strings → (vs : List TypedVariant) → AllOf (IsOption c) vs → AllOf (Back strings) (names_onto variant_bytes vs [])
    → AllOf (λ v. fields_codes (names_at c strings) (fields_rule c strings v.form v.fields) ≡ []) vs
variants-read-faultless c strings kept [] h k = tt
variants-read-faultless c strings kept (v ∷ vs) h k =
    let here = all-left (Back strings) (variant_bytes v) (names_onto variant_bytes vs []) k in
    (fields-faultless c strings kept v.form v.fields h.0.fields here.1, variants-read-faultless c strings kept vs h.1 (all-right (Back strings) (variant_bytes v) (names_onto variant_bytes vs []) k))

shape-faultless : (c : Crate) (strings : Strings) → Kept c strings → (path : List ℕ) (b : Bool) (vs : List TypedVariant) → IsShape c b vs → AllOf (Back strings) (shape_names b vs)
    → other_codes (names_at c strings) (shape_rule c strings path b vs) ≡ []
shape-faultless c strings kept path true vs h k =
    append_empty _ _ (met _ 10 (ap (none_twice []) (items-map (λ v. string_at strings v.0) (variant_rule c strings) vs ∙ variant-names c strings vs k) ∙ h.1))
    (each-item-none (λ v. fields_codes (names_at c strings) v.1) (variant_rule c strings) vs (variants-read-faultless c strings kept vs h.0 k))
shape-faultless c strings kept path false [] h k = absurd h
shape-faultless c strings kept path false (v ∷ []) h k = fields-faultless c strings kept v.form v.fields h.1 k
shape-faultless c strings kept path false (v ∷ w ∷ vs) h k = absurd h

pub def_faultless : (c : Crate) (strings : Strings) → Kept c strings → (d : TypedDef) → IsDefinition c d → AllOf (Back strings) (def_names d) → other_codes (names_at c strings) (def_item c strings d) ≡ []
unfolding def_item
def_faultless c strings kept d h k =
    shape-faultless c strings kept d.path d.is_enum d.variants h.shape (all-right (Back strings) (path_names d.path) (shape_names d.is_enum d.variants) k)

args-known : (c : Crate) (strings : Strings) → Kept c strings → (ts : List Tree) → AllOf (IsTy c) ts → n.are_known strings (crate_paths c) (types_rule c strings (tuple_of ts)) ≡ true
args-known c strings kept ts h = types_known c strings kept.paths (tuple_of ts) (subst (λ l. AreProper c (tuple_of l)) (map-same ts) (proper-parts c (λ u. u) ts h))

pub outside_faultless : (c : Crate) (strings : Strings) → Kept c strings → (o : TypedOutside) → IsOutside c o → other_codes (names_at c strings) (outside_item c strings o) ≡ []
unfolding outside_item
outside_faultless c strings kept o h = append_empty _ _ (met _ 12 (args-known c strings kept o.args h.args)) (type_faultless c strings kept o.result h.result.proper)

-- ---- good

fields-good : (c : Crate) (strings : Strings) (form : Form) (fs : List TypedField) → IsFields c form fs → FieldsGood (fields_rule c strings form fs)
fields-good c strings form.Unit fs h = tt
fields-good c strings form.Tuple fs h = types-good c strings field_type_of fs (all-map (λ f is. is.type) fs h)
fields-good c strings form.Named fs h = items-all FieldGood (field_rule c strings) fs (all-map (λ f is. ty_good c strings f.ty is.type) fs h.0)

shape-good : (c : Crate) (strings : Strings) (path : List ℕ) (b : Bool) (vs : List TypedVariant) → IsShape c b vs → ItemGood (shape_rule c strings path b vs)
shape-good c strings path true vs h = items-all VariantGood (variant_rule c strings) vs (all-map (λ v is. fields-good c strings v.form v.fields is.fields) vs h.0)
shape-good c strings path false [] h = absurd h
shape-good c strings path false (v ∷ []) h = fields-good c strings v.form v.fields h.1
shape-good c strings path false (v ∷ w ∷ vs) h = absurd h

pub def_good : (c : Crate) (strings : Strings) (d : TypedDef) → IsDefinition c d → ItemGood (def_item c strings d)
unfolding def_item
def_good c strings d h = shape-good c strings d.path d.is_enum d.variants h.shape

pub outside_good : (c : Crate) (strings : Strings) (o : TypedOutside) → IsOutside c o → ItemGood (outside_item c strings o)
unfolding outside_item
outside_good c strings o h =
    (subst (λ l. TypesGood (types_rule c strings (tuple_of l))) (map-same o.args) (types-good c strings (λ u. u) o.args h.args), ty_good c strings o.result h.result)
