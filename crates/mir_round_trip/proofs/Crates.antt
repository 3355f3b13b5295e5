-- Crates: the rule of the file that a canonical text is, and its text.
use Rattle.mir_round_trip.specs.Bodies.{IsFn}
use Rattle.mir_round_trip.specs.Readable.{AreWritten, IsPart, IsFields, IsOption, IsShape, IsDefinition, IsOutside}
use Rattle.std.proofs.Common.{◌≡◌, ◌<◌, ℕ, Bool, true, false, List, [], ◌∷◌, ◌++◌, map, length, get_or, refl, sym, ap, subst, ◌∙◌, Option, Some, None}
use Rattle.std.proofs.lemmas.List.{append-nil}
use Rattle.mir_syntax.specs.declared.types.Form.{Form}
use Rattle.mir_syntax.specs.declared.types.Form.TheVariants as form
use Rattle.mir_syntax.specs.Crate.{TypedField, TypedVariant, TypedDef, TypedOutside, TypedFunction, Crate}
use Rattle.mir_text.specs.declared.symbol.Symbol.{Symbol}
use Rattle.mir_text.specs.Pieces.{Piece, text_of, Stand}
use Rattle.mir_text.specs.Words.{place_in}
use Rattle.mir_text.specs.Symbols.{grammar_names, symbols_of, strings_of, place_or}
use Rattle.mir_text.specs.Grammar.{Put, AllOf, each_put}
use Rattle.mir_text.specs.GrammarItems as m
use Rattle.mir_text.specs.GrammarItems.{ItemRule, item_put, FileRule, file_put}
use Rattle.mir_text.specs.Names.{Strings, string_at}
use Rattle.mir_text.specs.NameFaults.{field_names}
use Rattle.mir_text.specs.TypeText.{piece, no_def, def_at}
use Rattle.mir_text.specs.PlaceText.{no_variant}
use Rattle.mir_text.specs.TermText.{function_paths, outside_paths}
use Rattle.mir_text.specs.Text.{gap_text, functions_text, defs_text, outsides_text, others_stand, text}
use Rattle.mir_round_trip.specs.Known.{known_symbols}
use Rattle.mir_round_trip.proofs.Numbering.{strings-more, numbers_final, number-back, strings_back}
use Rattle.mir_round_trip.proofs.Spelling.{Grounded, Puts, all-map, Whole, whole_none, whole_after, whole_both}
use Rattle.mir_round_trip.proofs.Literals.{empty_line}
use Rattle.mir_round_trip.proofs.Paths.{path_names, Back}
use Rattle.mir_round_trip.proofs.Meaning.{Kept}
use Rattle.mir_round_trip.proofs.Lists.{names_onto}
use Rattle.mir_round_trip.proofs.Blocks.{all-left, all-right, blocks_names}
use Rattle.mir_round_trip.proofs.TermsBack.{all-at}
use Rattle.mir_round_trip.proofs.Functions.{fn_rule, fn_names, function_spelt}
use Rattle.mir_round_trip.proofs.Definitions.{def_item, outside_item, fields_names, variant_bytes, shape_names, def_names, def_spelt, outside_spelt}

-- ---- the rule

abbrev pub fn_item : Crate → Strings → TypedFunction → ItemRule
fn_item c strings f = m.function (fn_rule c strings f)

unfoldable pub file_rule : Crate → Strings → FileRule
file_rule c strings = map (def_item c strings) c.defs ++ (map (outside_item c strings) c.outsides ++ map (fn_item c strings) c.functions)

-- ---- its text

abbrev pub each_names : {A : Type 0} → (A → List (List ℕ)) → List A → List (List ℕ)
each_names names [] = []
each_names names (x ∷ xs) = names x ++ each_names names xs

abbrev outside_names : TypedOutside → List (List ℕ)
outside_names o = path_names o.path

abbrev pub crate_names : Crate → List (List ℕ)
crate_names c = each_names def_names c.defs ++ (each_names outside_names c.outsides ++ each_names fn_names c.functions)

defs-spelt : (c : Crate) (ds : List TypedDef) → AllOf (IsDefinition c) ds → Whole (defs_text c ds) (λ strings. each_put item_put (map (def_item c strings) ds)) (each_names def_names ds)
unfolding defs_text
defs-spelt c [] h = whole_none
defs-spelt c (d ∷ ds) h = whole_both (def_spelt c d h.0) (defs-spelt c ds h.1)

outsides-spelt : (c : Crate) (os : List TypedOutside) → AllOf (IsOutside c) os → Whole (outsides_text c os) (λ strings. each_put item_put (map (outside_item c strings) os)) (each_names outside_names os)
unfolding outsides_text
outsides-spelt c [] h = whole_none
outsides-spelt c (o ∷ os) h = whole_both (outside_spelt c o h.0) (outsides-spelt c os h.1)

gap-spelt : (b : Bool) {u : List ℕ} {f : Puts} {ms : List (List ℕ)} → Whole u f ms → Whole (gap_text b ++ u) f ms
unfolding gap_text piece
gap-spelt true a = whole_after empty_line a
gap-spelt false a = a

functions-spelt : (c : Crate) (before : Bool) (fs : List TypedFunction) → AllOf (IsFn c) fs → Whole (functions_text c before fs) (λ strings. each_put item_put (map (fn_item c strings) fs)) (each_names fn_names fs)
unfolding functions_text
functions-spelt c before [] h = whole_none
functions-spelt c before (f ∷ fs) h = gap-spelt before (whole_both (function_spelt c f h.0) (functions-spelt c true fs h.1))

each-append : {R : Type 0} (put : Put R) (rs qs : List R) (rest : List Symbol) → each_put put (rs ++ qs) rest ≡ each_put put rs (each_put put qs rest)
each-append put [] qs rest = refl
each-append put (r ∷ rs) qs rest = ap (put r) (each-append put rs qs rest)

abbrev file-puts : Crate → Puts
file-puts c strings rest = each_put item_put (map (def_item c strings) c.defs) (each_put item_put (map (outside_item c strings) c.outsides) (each_put item_put (map (fn_item c strings) c.functions) rest))

crate-spelt : (c : Crate) → AreWritten c → Whole (text c) (file-puts c) (crate_names c)
unfolding text
crate-spelt c h = whole_both (defs-spelt c c.defs h.defs) (whole_both (outsides-spelt c c.outsides h.outsides) (functions-spelt c (others_stand c.defs c.outsides) c.functions h.functions))

file-puts-same : (c : Crate) (strings : Strings) (rest : List Symbol) → file-puts c strings rest ≡ file_put (file_rule c strings) rest
unfolding file_rule
file-puts-same c strings rest =
    sym (each-append item_put (map (def_item c strings) c.defs) (map (outside_item c strings) c.outsides ++ map (fn_item c strings) c.functions) rest
    ∙ ap (each_put item_put (map (def_item c strings) c.defs)) (each-append item_put (map (outside_item c strings) c.outsides) (map (fn_item c strings) c.functions) rest))

-- ---- its byte strings

grounded : (more : Strings) → Grounded (grammar_names ++ more)
grounded more = record { inline = refl; always = refl; never = refl; success = refl; cast = refl }

-- the pieces of a canonical text: what they derive, and what their byte strings keep
pub record Cut (c : Crate) : Type 0 where
  pub pieces : List Piece
  pub whole : text_of pieces ≡ text c
  pub stand : Stand pieces []
  pub derives : symbols_of pieces ≡ file_put (file_rule c (strings_of pieces)) []
  pub back : AllOf (Back (strings_of pieces)) (crate_names c)

pub crate_cut : (c : Crate) → AreWritten c → Cut c
crate_cut c h =
    let w = crate-spelt c h in
    let strings = strings_of w.pieces in
    let more = strings-more grammar_names w.pieces in
    let ground : Grounded strings = subst Grounded (sym more.1) (grounded more.0) in
    record {
      pieces = w.pieces;
      whole = w.whole;
      stand = w.stands [];
      derives = numbers_final w.pieces ∙ ap (known_symbols strings) (sym (append-nil w.pieces)) ∙ w.known strings ground [] ∙ file-puts-same c strings [];
      back = all-map (λ bytes is. strings_back grammar_names w.pieces bytes is) (crate_names c) w.holds;
    }

-- ---- what is kept of definitions

get-past : (strings : Strings) → get_or strings (length strings) [] ≡ []
get-past [] = refl
get-past (x ∷ xs) = get-past xs

nil-by : (strings : Strings) (o : Option ℕ) → place_in strings [] ≡ o → Back strings []
nil-by strings None e = ap (λ x. string_at strings (place_or (length strings) x)) e ∙ get-past strings
nil-by strings (Some n) e = number-back strings [] n e

nil-back : (strings : Strings) → Back strings []
nil-back strings = nil-by strings (place_in strings []) refl

all-each : {A : Type 0} (P : List ℕ → Type 0) (names : A → List (List ℕ)) (xs : List A) → AllOf P (each_names names xs) → AllOf (λ x. AllOf P (names x)) xs
all-each P names [] h = tt
all-each P names (x ∷ xs) h = (all-left P (names x) (each_names names xs) h, all-each P names xs (all-right P (names x) (each_names names xs) h))

no-names : (strings : Strings) (c : Crate) (fs : List TypedField) → AllOf (IsPart c) fs → AllOf (Back strings) (field_names fs)
no-names strings c [] h = tt
no-names strings c (f ∷ fs) h = (subst (Back strings) (sym h.0.unnamed) (nil-back strings), no-names strings c fs h.1)

fields-kept : (c : Crate) (strings : Strings) (form : Form) (fs : List TypedField) → IsFields c form fs → AllOf (Back strings) (fields_names form fs) → AllOf (Back strings) (field_names fs)
fields-kept c strings form.Unit fs h k = subst (λ l. AllOf (Back strings) (field_names l)) (sym h) tt
fields-kept c strings form.Tuple fs h k = no-names strings c fs h
fields-kept c strings form.Named fs h k = k

-- the name of a variant and those of its fields are kept
abbrev VariantKept : Strings → TypedVariant → Type 0
VariantKept strings v = Back strings v.name × AllOf (Back strings) (field_names v.fields)

variants-kept : (c : Crate) (strings : Strings) (vs : List TypedVariant) → AllOf (IsOption c) vs → AllOf (Back strings) (names_onto variant_bytes vs []) → AllOf (VariantKept strings) vs
variants-kept c strings [] h k = tt
variants-kept c strings (v ∷ vs) h k =
    let here = all-left (Back strings) (variant_bytes v) (names_onto variant_bytes vs []) k in
    ((here.0, fields-kept c strings v.form v.fields h.0.fields here.1), variants-kept c strings vs h.1 (all-right (Back strings) (variant_bytes v) (names_onto variant_bytes vs []) k))

shape-kept : (c : Crate) (strings : Strings) (b : Bool) (vs : List TypedVariant) → IsShape c b vs → AllOf (Back strings) (shape_names b vs) → AllOf (VariantKept strings) vs
shape-kept c strings true vs h k = variants-kept c strings vs h.0 k
shape-kept c strings false [] h k = absurd h
shape-kept c strings false (v ∷ []) h k = ((subst (Back strings) (sym h.0) (nil-back strings), fields-kept c strings v.form v.fields h.1 k), tt)
shape-kept c strings false (v ∷ w ∷ vs) h k = absurd h

-- of a definition its path and its variants
abbrev DefKept : Strings → TypedDef → Type 0
DefKept strings d = AllOf (Back strings) (path_names d.path) × AllOf (VariantKept strings) d.variants

defs-kept : (c : Crate) (strings : Strings) (ds : List TypedDef) → AllOf (IsDefinition c) ds → AllOf (λ d. AllOf (Back strings) (def_names d)) ds → AllOf (DefKept strings) ds
defs-kept c strings [] h k = tt
defs-kept c strings (d ∷ ds) h k = (
  (
    all-left (Back strings) (path_names d.path) (shape_names d.is_enum d.variants) k.0,
    shape-kept c strings d.is_enum d.variants h.0.shape (all-right (Back strings) (path_names d.path) (shape_names d.is_enum d.variants) k.0),
  ),
  defs-kept c strings ds h.1 k.1,
)

functions-kept : (strings : Strings) (fs : List TypedFunction) → AllOf (λ f. AllOf (Back strings) (fn_names f)) fs → AllOf (λ path. AllOf (Back strings) (path_names path)) (function_paths fs)
functions-kept strings [] h = tt
functions-kept strings (f ∷ fs) h = (all-left (Back strings) (path_names f.path) (blocks_names f.body.blocks) h.0, functions-kept strings fs h.1)

outsides-kept : (strings : Strings) (os : List TypedOutside) → AllOf (λ o. AllOf (Back strings) (outside_names o)) os → AllOf (λ path. AllOf (Back strings) (path_names path)) (outside_paths os)
outsides-kept strings [] h = tt
outsides-kept strings (o ∷ os) h = (h.0, outsides-kept strings os h.1)

-- each definition, outside function and function has its byte strings kept
pub record Parts (c : Crate) (strings : Strings) : Type 0 where
  pub defs : AllOf (λ d. AllOf (Back strings) (def_names d)) c.defs
  pub outsides : AllOf (λ o. AllOf (Back strings) (path_names o.path)) c.outsides
  pub functions : AllOf (λ f. AllOf (Back strings) (fn_names f)) c.functions

pub parts_kept : (c : Crate) (strings : Strings) → AllOf (Back strings) (crate_names c) → Parts c strings
parts_kept c strings h =
    let others = all-right (Back strings) (each_names def_names c.defs) (each_names outside_names c.outsides ++ each_names fn_names c.functions) h in
    record {
      defs = all-each (Back strings) def_names c.defs (all-left (Back strings) (each_names def_names c.defs) (each_names outside_names c.outsides ++ each_names fn_names c.functions) h);
      outsides = all-each (Back strings) outside_names c.outsides (all-left (Back strings) (each_names outside_names c.outsides) (each_names fn_names c.functions) others);
      functions = all-each (Back strings) fn_names c.functions (all-right (Back strings) (each_names outside_names c.outsides) (each_names fn_names c.functions) others);
    }

pub crate_kept : (c : Crate) (strings : Strings) → AreWritten c → Parts c strings → Kept c strings
crate_kept c strings h parts =
    let defs = defs-kept c strings c.defs h.defs parts.defs in
    let at : (d : ℕ) → d < length c.defs → DefKept strings (def_at c d) = λ d there. all-at (DefKept strings) no_def c.defs d defs there in
    record {
      paths = λ d there. (at d there).0;
      variants = λ d k there one enum. (all-at (VariantKept strings) no_variant (def_at c d).variants k (at d there).1 one).0;
      fields = λ d k there one. (all-at (VariantKept strings) no_variant (def_at c d).variants k (at d there).1 one).1;
      functions = functions-kept strings c.functions parts.functions;
      outsides = outsides-kept strings c.outsides parts.outsides;
    }
