-- Structs, enums and outside functions: the rule that writes one, and its text.
use Rattle.mir_round_trip.specs.Names.{Clear, IsPath, IsTy}
use Rattle.mir_round_trip.specs.Readable.{IsPart, IsField, IsFields, IsOption, IsShape, IsDefinition, IsOutside}
use Rattle.std.proofs.Common.{◌≡◌, ℕ, Bool, true, false, List, [], ◌∷◌, ◌++◌, map, codes, refl, sym, ap, subst, ◌∙◌, append_assoc}
use Rattle.mir_syntax.specs.declared.types.Form.{Form}
use Rattle.mir_syntax.specs.declared.types.Form.TheVariants as form
use Rattle.mir_syntax.specs.Tree.{Tree, tuple_of}
use Rattle.mir_syntax.specs.Crate.{TypedField, TypedVariant, TypedDef, TypedOutside, Crate}
use Rattle.mir_text.specs.declared.symbol.Symbol.TheVariants as s
use Rattle.mir_text.specs.Symbols.{number_in}
use Rattle.mir_text.specs.Grammar.{AllOf, items_put}
use Rattle.mir_text.specs.GrammarTypes.{type_put, types_put}
use Rattle.mir_text.specs.GrammarItems as m
use Rattle.mir_text.specs.GrammarItems.{FieldRule, field_decl_put, FieldsRule, fields_put, VariantRule, variant_decl_put, struct_put, ItemRule, item_put}
use Rattle.mir_text.specs.Names.{Strings}
use Rattle.mir_text.specs.NameFaults.{field_names}
use Rattle.mir_text.specs.TypeText.{piece, more_items, comma_list, type_text}
use Rattle.mir_text.specs.Text.{field_ty_text, field_text, braced_text, fields_text, variant_text, variants_text, struct_text, shape_text, def_word, def_text, outside_text}
use Rattle.mir_round_trip.proofs.Spelling.{Puts, Spelt, after, and_then, alone, none, put_as, all-map, Whole, whole_alone, whole_after, whole_then, whole_trim}
use Rattle.mir_round_trip.proofs.Atoms.{name_spelt}
use Rattle.mir_round_trip.proofs.Literals.{open_sign, close_sign, comma_space, colon_space, brace, close_brace_space, braces, arrow_spaces, end_of_line, empty_line, semicolon_sign, enum_word, struct_word, extern_word}
use Rattle.mir_round_trip.proofs.Paths.{path_rule, path_names, path_spelt}
use Rattle.mir_round_trip.proofs.Types.{type_rule, types_rule, type_spelt, following_put, join-parts, join-comma}
use Rattle.mir_round_trip.proofs.Lists.{Front, items_rule, join-put, more-front, names_onto, more_spelt}

-- ---- the rule

abbrev pub field_type_of : TypedField → Tree
field_type_of f = f.ty

abbrev pub field_rule : Crate → Strings → TypedField → FieldRule
field_rule c strings f = (number_in strings f.name, type_rule c strings f.ty)

abbrev pub fields_rule : Crate → Strings → Form → List TypedField → FieldsRule
fields_rule c strings form.Unit fields = m.plain
fields_rule c strings form.Tuple fields = m.tupled (types_rule c strings (tuple_of (map field_type_of fields)))
fields_rule c strings form.Named fields = m.labelled (items_rule (field_rule c strings) fields)

abbrev pub variant_rule : Crate → Strings → TypedVariant → VariantRule
variant_rule c strings v = (number_in strings v.name, fields_rule c strings v.form v.fields)

abbrev pub one_rule : Crate → Strings → List TypedVariant → FieldsRule
one_rule c strings [] = m.plain
one_rule c strings (v ∷ vs) = fields_rule c strings v.form v.fields

abbrev pub shape_rule : Crate → Strings → List ℕ → Bool → List TypedVariant → ItemRule
shape_rule c strings path true variants = m.enum (path_rule strings path) (items_rule (variant_rule c strings) variants)
shape_rule c strings path false variants = m.struct (path_rule strings path) (one_rule c strings variants)

unfoldable pub def_item : Crate → Strings → TypedDef → ItemRule
def_item c strings d = shape_rule c strings d.path d.is_enum d.variants

unfoldable pub outside_item : Crate → Strings → TypedOutside → ItemRule
outside_item c strings o = m.extern (path_rule strings o.path) (types_rule c strings (tuple_of o.args)) (type_rule c strings o.result)

-- ---- byte strings

abbrev pub fields_names : Form → List TypedField → List (List ℕ)
fields_names form.Unit fields = []
fields_names form.Tuple fields = []
fields_names form.Named fields = field_names fields

abbrev pub variant_bytes : TypedVariant → List (List ℕ)
variant_bytes v = v.name ∷ fields_names v.form v.fields

abbrev pub shape_names : Bool → List TypedVariant → List (List ℕ)
shape_names true vs = names_onto variant_bytes vs []
shape_names false [] = []
shape_names false (v ∷ vs) = fields_names v.form v.fields

abbrev pub def_names : TypedDef → List (List ℕ)
def_names d = path_names d.path ++ shape_names d.is_enum d.variants

-- ---- definitions that a text writes

-- ---- types with commas

types-more : {A : Type 0} (c : Crate) (ty : A → Tree) (v : List ℕ) (g : Puts) → Front v → Spelt v (λ strings rest. s.Close ∷ g strings rest) [] → (xs : List A) → AllOf (λ x. IsTy c (ty x)) xs
    → Spelt (more_items (λ x. type_text c (ty x)) xs ++ v) (λ strings rest. following_put (types_rule c strings (tuple_of (map ty xs))) (g strings rest)) []
unfolding more_items types_rule piece
types-more c ty v g front b [] h = b
types-more c ty v g front b (x ∷ xs) h =
    let t = type_text c (ty x) in
    let others = more_items (λ y. type_text c (ty y)) xs in
    let is : codes ", " ++ (t ++ (others ++ v)) ≡ (codes ", " ++ (t ++ others)) ++ v = ap (λ l. codes ", " ++ l) (sym (append_assoc t others v)) in
    subst (λ l. Spelt l (λ strings rest. following_put (types_rule c strings (tuple_of (map ty (x ∷ xs)))) (g strings rest)) []) is
    (put_as (λ strings ground rest. ap (λ l. s.Comma ∷ l) (sym (join-parts (type_rule c strings (ty x)) (types_rule c strings (tuple_of (map ty xs))) (g strings rest)))
    ∙ sym (join-comma (type_rule c strings (ty x)) (types_rule c strings (tuple_of (map ty xs))) (g strings rest)))
    (after comma_space (and_then (type_spelt c (ty x) h.0.proper) (more-front (λ y. type_text c (ty y)) v xs front) (types-more c ty v g front b xs h.1))))

types-spelt : {A : Type 0} (c : Crate) (ty : A → Tree) (v : List ℕ) (g : Puts) → Front v → Spelt v (λ strings rest. s.Close ∷ g strings rest) [] → (xs : List A) → AllOf (λ x. IsTy c (ty x)) xs
    → Spelt (comma_list (λ x. type_text c (ty x)) xs ++ v) (λ strings rest. types_put (types_rule c strings (tuple_of (map ty xs))) (g strings rest)) []
unfolding comma_list types_rule
types-spelt c ty v g front b [] h = b
types-spelt c ty v g front b (x ∷ xs) h =
    subst (λ l. Spelt l (λ strings rest. types_put (types_rule c strings (tuple_of (map ty (x ∷ xs)))) (g strings rest)) []) (sym (append_assoc (type_text c (ty x)) (more_items (λ y. type_text c (ty y)) xs) v))
    (put_as (λ strings ground rest. sym (join-parts (type_rule c strings (ty x)) (types_rule c strings (tuple_of (map ty xs))) (g strings rest)))
    (and_then (type_spelt c (ty x) h.0.proper) (more-front (λ y. type_text c (ty y)) v xs front) (types-more c ty v g front b xs h.1)))

-- ---- fields

field-spelt : (c : Crate) (f : TypedField) → IsField c f → Spelt (field_text c f) (λ strings. field_decl_put (field_rule c strings f)) (f.name ∷ [])
unfolding field_text piece
field-spelt c f h = and_then (name_spelt f.name h.name) (λ left clear. refl) (after colon_space (type_spelt c f.ty h.type.proper))

names-flat : (fs : List TypedField) → names_onto (λ f. f.name ∷ []) fs [] ≡ field_names fs
names-flat [] = refl
names-flat (f ∷ fs) = ap (λ l. f.name ∷ l) (names-flat fs)

braced-spelt : (c : Crate) (fs : List TypedField) → AllOf (IsField c) fs → Spelt (braced_text c fs) (λ strings rest. s.OpenBrace ∷ items_put field_decl_put s.CloseBrace (items_rule (field_rule c strings) fs) rest) (field_names fs)
unfolding braced_text piece
braced-spelt c [] h = alone braces
braced-spelt c (f ∷ fs) h =
    let others = more_spelt (field_text c) field_decl_put (λ strings. field_rule c strings) (λ x. x.name ∷ []) s.CloseBrace (codes " }") (λ strings rest. rest) [] (λ left clear. refl) (alone close_brace_space) fs
    (all-map (field-spelt c) fs h.1) in
    let whole = put_as (λ strings ground rest. ap (λ l. s.OpenBrace ∷ l) (sym (join-put field_decl_put s.CloseBrace (field_rule c strings f) (items_rule (field_rule c strings) fs) rest)))
    (after brace (and_then (field-spelt c f h.0) (more-front (field_text c) (codes " }") fs (λ left clear. refl)) others)) in
    subst (Spelt (braced_text c (f ∷ fs)) (λ strings rest. s.OpenBrace ∷ items_put field_decl_put s.CloseBrace (items_rule (field_rule c strings) (f ∷ fs)) rest)) (ap (λ l. f.name ∷ l) (names-flat fs)) whole

part-types : (c : Crate) (fs : List TypedField) → AllOf (IsPart c) fs → AllOf (λ f. IsTy c (field_type_of f)) fs
part-types c fs h = all-map (λ f is. is.type) fs h

fields-spelt : (c : Crate) (form : Form) (fs : List TypedField) → IsFields c form fs → Spelt (fields_text c form fs []) (λ strings. fields_put (fields_rule c strings form fs)) (fields_names form fs)
unfolding fields_text field_ty_text piece
fields-spelt c form.Unit fs h = none
fields-spelt c form.Tuple fs h = after open_sign (types-spelt c field_type_of (codes ")" ++ []) (λ strings rest. rest) (λ left clear. refl) (after close_sign none) fs (part-types c fs h))
fields-spelt c form.Named fs h = braced-spelt c fs h.0

struct-spelt : (c : Crate) (form : Form) (fs : List TypedField) → IsFields c form fs → Spelt (fields_text c form fs (codes ";")) (λ strings. struct_put (fields_rule c strings form fs)) (fields_names form fs)
unfolding fields_text field_ty_text piece
struct-spelt c form.Unit fs h = alone semicolon_sign
struct-spelt c form.Tuple fs h = after open_sign (types-spelt c field_type_of (codes ")" ++ codes ";") (λ strings rest. s.Semicolon ∷ rest) (λ left clear. refl) (after close_sign (alone semicolon_sign)) fs (part-types c fs h))
struct-spelt c form.Named fs h = braced-spelt c fs h.0

fields-front : (c : Crate) (form : Form) (fs : List TypedField) (end : List ℕ) → Front end → Front (fields_text c form fs end)
unfolding fields_text braced_text piece
fields-front c form.Unit fs end front = front
fields-front c form.Tuple fs end front = λ left clear. refl
fields-front c form.Named [] end front = λ left clear. refl
fields-front c form.Named (f ∷ fs) end front = λ left clear. refl

-- ---- variants

variant-spelt : (c : Crate) (v : TypedVariant) → IsOption c v → Spelt (variant_text c v) (λ strings. variant_decl_put (variant_rule c strings v)) (variant_bytes v)
unfolding variant_text piece
variant-spelt c v h = and_then (name_spelt v.name h.name) (fields-front c v.form v.fields [] (λ left clear. clear)) (fields-spelt c v.form v.fields h.fields)

variants-spelt : (c : Crate) (vs : List TypedVariant) → AllOf (IsOption c) vs
    → Spelt (variants_text c vs) (λ strings rest. s.OpenBrace ∷ items_put variant_decl_put s.CloseBrace (items_rule (variant_rule c strings) vs) rest) (names_onto variant_bytes vs [])
unfolding variants_text piece
variants-spelt c [] h = alone braces
variants-spelt c (v ∷ vs) h =
    let others = more_spelt (variant_text c) variant_decl_put (λ strings. variant_rule c strings) variant_bytes s.CloseBrace (codes " }") (λ strings rest. rest) [] (λ left clear. refl) (alone close_brace_space) vs
    (all-map (variant-spelt c) vs h.1) in
    put_as (λ strings ground rest. ap (λ l. s.OpenBrace ∷ l) (sym (join-put variant_decl_put s.CloseBrace (variant_rule c strings v) (items_rule (variant_rule c strings) vs) rest)))
    (after brace (and_then (variant-spelt c v h.0) (more-front (variant_text c) (codes " }") vs (λ left clear. refl)) others))

-- ---- whole items

map-same : (ts : List Tree) → map (λ t. t) ts ≡ ts
map-same [] = refl
map-same (t ∷ ts) = ap (λ l. t ∷ l) (map-same ts)

variants-clear : (c : Crate) (vs : List TypedVariant) (u left : List ℕ) → Clear ((variants_text c vs ++ u) ++ left)
unfolding variants_text piece
variants-clear c [] u left = refl
variants-clear c (v ∷ vs) u left = refl

fields-clear : (c : Crate) (form : Form) (fs : List TypedField) (u left : List ℕ) → Clear ((fields_text c form fs (codes ";") ++ u) ++ left)
unfolding fields_text braced_text piece
fields-clear c form.Unit fs u left = refl
fields-clear c form.Tuple fs u left = refl
fields-clear c form.Named [] u left = refl
fields-clear c form.Named (f ∷ fs) u left = refl

def-spelt : (c : Crate) (path : List ℕ) (b : Bool) (vs : List TypedVariant) → IsPath path → IsShape c b vs
    → Whole (def_word b ++ (path ++ (shape_text c b vs ++ codes "\n"))) (λ strings. item_put (shape_rule c strings path b vs)) (path_names path ++ shape_names b vs)
unfolding def_word shape_text struct_text piece
def-spelt c path true vs is h = whole_after enum_word (whole_then (path_spelt path is) (λ left. variants-clear c vs (codes "\n") left) (whole_trim (whole_then (variants-spelt c vs h.0) (λ left. refl) (whole_alone empty_line))))
def-spelt c path false [] is h = absurd h
def-spelt c path false (v ∷ []) is h =
    whole_after struct_word (whole_then (path_spelt path is) (λ left. fields-clear c v.form v.fields (codes "\n") left) (whole_trim (whole_then (struct-spelt c v.form v.fields h.1) (λ left. refl) (whole_alone empty_line))))
def-spelt c path false (v ∷ w ∷ vs) is h = absurd h

pub def_spelt : (c : Crate) (d : TypedDef) → IsDefinition c d → Whole (def_text c d) (λ strings. item_put (def_item c strings d)) (def_names d)
unfolding def_text def_item piece
def_spelt c d h = def-spelt c d.path d.is_enum d.variants h.path h.shape

-- types up to the parenthesis that closes them
arg-types : (c : Crate) (ts : List Tree) → AllOf (IsTy c) ts → Spelt (comma_list (type_text c) ts ++ codes ")") (λ strings. types_put (types_rule c strings (tuple_of ts))) []
arg-types c ts h =
    subst (λ l. Spelt (comma_list (type_text c) ts ++ codes ")") (λ strings. types_put (types_rule c strings (tuple_of l))) []) (map-same ts)
    (types-spelt c (λ t. t) (codes ")") (λ strings rest. rest) (λ left clear. refl) (alone close_sign) ts h)

pub outside_spelt : (c : Crate) (o : TypedOutside) → IsOutside c o → Whole (outside_text c o) (λ strings. item_put (outside_item c strings o)) (path_names o.path)
unfolding outside_text outside_item piece
outside_spelt c o h =
    let behind = whole_after arrow_spaces (whole_then (type_spelt c o.result h.result.proper) (λ left. refl) (whole_alone end_of_line)) in
    let args = whole_then (arg-types c o.args h.args) (λ left. refl) behind in
    let list = subst (λ l. Whole l (λ strings rest. types_put (types_rule c strings (tuple_of o.args)) (s.Arrow ∷ type_put (type_rule c strings o.result) (s.Semicolon ∷ rest))) [])
    (append_assoc (comma_list (type_text c) o.args) (codes ")") (codes " -> " ++ (type_text c o.result ++ codes ";\n"))) args in
    whole_after extern_word (whole_trim (whole_then (path_spelt o.path h.path) (λ left. refl) (whole_after open_sign list)))
