-- A crate that a text writes, no two of whose paths clash, is read back from its canonical text.
use Rattle.mir_round_trip.specs.Names.{IsPath}
use Rattle.mir_round_trip.specs.Bodies.{names_at, IsFn}
use Rattle.mir_round_trip.specs.Readable.{unlined, option_paths, def_defined, outside_defined, fn_defined, crate_defined, AreApart, Readable, IsDefinition, IsOutside, AreWritten}
use Rattle.std.proofs.Common.{◌≡◌, ℕ, Bool, true, false, not, ◌||◌, List, [], ◌∷◌, ◌++◌, map, codes, refl, sym, ap, subst, ◌∙◌}
use Rattle.mir_syntax.specs.Crate.{TypedVariant, TypedDef, TypedOutside, TypedFunction, Crate}
use Rattle.mir_rules.proofs.Lists.{append_empty}
use Rattle.mir_text.specs.Symbols.{number_in, strings_of}
use Rattle.mir_text.specs.Grammar.{AllOf}
use Rattle.mir_text.specs.GrammarItems.{ItemRule, item_put, FileRule}
use Rattle.mir_text.specs.Names.{Strings, Names, string_at, path_bytes}
use Rattle.mir_text.specs.PartLines.{LinesFrom, past, item_lined, file_lined}
use Rattle.mir_text.specs.NameFaults.{Defined, defined_by, clashes, any_clashes, path_faults, name_faults}
use Rattle.mir_text.specs.Reads.{Derivation, Reads, items_in}
use Rattle.mir_text.specs.Text.{text}
use Rattle.mir_round_trip.proofs.Paths.{path_rule, path_names, Back, path_back}
use Rattle.mir_round_trip.proofs.Meaning.{Kept, met}
use Rattle.mir_round_trip.proofs.Lists.{items-map, names_onto}
use Rattle.mir_round_trip.proofs.Rvalues.{two-same}
use Rattle.mir_round_trip.proofs.Blocks.{all-left, all-right, line-none}
use Rattle.mir_round_trip.proofs.Functions.{fn_rule, fn_names}
use Rattle.mir_round_trip.proofs.Definitions.{variant_rule, shape_rule, def_item, outside_item, variant_bytes, shape_names, def_names}
use Rattle.mir_round_trip.proofs.Crates.{fn_item, file_rule, crate_cut, Parts, parts_kept, crate_kept}
use Rattle.mir_round_trip.proofs.CratesBack.{names-file, crate-back, file-good, items-faultless, file-faultless}

-- ---- what a crate defines

-- ---- no path is defined twice

pub any-same : (a : Defined) (before : List Defined) → any_clashes a before ≡ any_clashes (unlined a) (map unlined before)
any-same a [] = refl
any-same a (b ∷ bs) = ap (λ x. clashes a b || x) (any-same a bs)

paths-apart : (before xs : List Defined) → AreApart (map unlined before) (map unlined xs) → path_faults before xs ≡ []
paths-apart before [] h = refl
paths-apart before (a ∷ others) h =
    two-same (λ x y. x ++ y) (line-none a.line _ (met _ 10 (ap not (any-same a before ∙ h.0)))) (paths-apart (a ∷ before) others h.1)

-- ---- what the items define

-- an item defines this, on whatever lines it stands
abbrev Defines : Names → ItemRule → Defined → Type 0
Defines names item d = (lines : LinesFrom) → unlined (defined_by names (item_lined item lines)) ≡ d

-- items, each of which defines its own
abbrev AllDefine : Names → FileRule → List Defined → Type 0
AllDefine names [] [] = Unit {0}
AllDefine names (x ∷ xs) (d ∷ ds) = Defines names x d × AllDefine names xs ds
AllDefine names xs ds = ⊥

define-append : (names : Names) (xs ys : FileRule) (ds es : List Defined) → AllDefine names xs ds → AllDefine names ys es → AllDefine names (xs ++ ys) (ds ++ es)
define-append names [] ys [] es h k = k
define-append names [] ys (d ∷ ds) es h k = absurd h
define-append names (x ∷ xs) ys [] es h k = absurd h
define-append names (x ∷ xs) ys (d ∷ ds) es h k = (h.0, define-append names xs ys ds es h.1 k)

all-defined : (names : Names) (xs : FileRule) (ds : List Defined) → AllDefine names xs ds → (lines : LinesFrom) → map unlined (map (defined_by names) (file_lined xs lines)) ≡ ds
all-defined names [] [] h lines = refl
all-defined names [] (d ∷ ds) h lines = absurd h
all-defined names (x ∷ xs) [] h lines = absurd h
all-defined names (x ∷ xs) (d ∷ ds) h lines = two-same (λ a b. a ∷ b) (h.0 lines) (all-defined names xs ds h.1 (past item_put x lines))

pub as-defined : (t b : Bool) (p q : List ℕ) (vs ws : List (List ℕ)) → p ≡ q → vs ≡ ws
    → ◌≡◌ {A = Defined} (record { line = 0; is_type = t; is_struct = b; path = p; variants = vs }) (record { line = 0; is_type = t; is_struct = b; path = q; variants = ws })
as-defined t b p q vs ws h k = two-same (λ u v. let r : Defined = record { line = 0; is_type = t; is_struct = b; path = u; variants = v } in r) h k

-- the names of variants are read back behind the path
behind : (strings : Strings) (path : List ℕ) (vs : List TypedVariant) → AllOf (Back strings) (names_onto variant_bytes vs []) → map (λ v. path ++ codes "::" ++ string_at strings (number_in strings v.name)) vs ≡ map (λ v. path ++ codes "::" ++ v.name) vs
behind strings path [] h = refl
behind strings path (v ∷ vs) h =
    two-same (λ a b. (path ++ codes "::" ++ a) ∷ b) h.0 (behind strings path vs (all-right (Back strings) (variant_bytes v) (names_onto variant_bytes vs []) h))

shape-defines : (c : Crate) (strings : Strings) (path : List ℕ) (b : Bool) (vs : List TypedVariant) → IsPath path → AllOf (Back strings) (path_names path) → AllOf (Back strings) (shape_names b vs)
    → Defines (names_at c strings) (shape_rule c strings path b vs) (record { line = 0; is_type = true; is_struct = not b; path = path; variants = option_paths path b vs })
shape-defines c strings path true vs is p h lines =
    let path-back = path_back strings path is p in
    as-defined true false _ _ _ _ path-back
    (items-map (λ v. path_bytes strings (path_rule strings path) ++ codes "::" ++ string_at strings v.0) (variant_rule c strings) vs
    ∙ ap (λ l. map (λ v. l ++ codes "::" ++ string_at strings (number_in strings v.name)) vs) path-back ∙ behind strings path vs h)
shape-defines c strings path false vs is p h lines = as-defined true true _ _ [] [] (path_back strings path is p) refl

def-defines : (c : Crate) (strings : Strings) (d : TypedDef) → IsDefinition c d → AllOf (Back strings) (def_names d) → Defines (names_at c strings) (def_item c strings d) (def_defined d)
unfolding def_item
def-defines c strings d h k =
    shape-defines c strings d.path d.is_enum d.variants h.path (all-left (Back strings) (path_names d.path) (shape_names d.is_enum d.variants) k)
    (all-right (Back strings) (path_names d.path) (shape_names d.is_enum d.variants) k)

defs-define : (c : Crate) (strings : Strings) (ds : List TypedDef) → AllOf (IsDefinition c) ds → AllOf (λ d. AllOf (Back strings) (def_names d)) ds → AllDefine (names_at c strings) (map (def_item c strings) ds) (map def_defined ds)
defs-define c strings [] h k = tt
defs-define c strings (d ∷ ds) h k = (def-defines c strings d h.0 k.0, defs-define c strings ds h.1 k.1)

outsides-define : (c : Crate) (strings : Strings) (os : List TypedOutside) → AllOf (IsOutside c) os → AllOf (λ o. AllOf (Back strings) (path_names o.path)) os
    → AllDefine (names_at c strings) (map (outside_item c strings) os) (map outside_defined os)
unfolding outside_item
outsides-define c strings [] h k = tt
outsides-define c strings (o ∷ os) h k = (λ lines. as-defined false false _ _ [] [] (path_back strings o.path h.0.path k.0) refl, outsides-define c strings os h.1 k.1)

functions-define : (c : Crate) (strings : Strings) (fs : List TypedFunction) → AllOf (IsFn c) fs → AllOf (λ f. AllOf (Back strings) (fn_names f)) fs
    → AllDefine (names_at c strings) (map (fn_item c strings) fs) (map fn_defined fs)
unfolding fn_rule
functions-define c strings [] h k = tt
functions-define c strings (f ∷ fs) h k =
    (λ lines. as-defined false false _ _ [] [] (path_back strings f.path h.0.path (all-left (Back strings) (path_names f.path) _ k.0)) refl, functions-define c strings fs h.1 k.1)

file-defines : (c : Crate) (strings : Strings) → AreWritten c → Parts c strings → AllDefine (names_at c strings) (file_rule c strings) (crate_defined c)
unfolding file_rule
file-defines c strings h parts =
    define-append (names_at c strings) (map (def_item c strings) c.defs) (map (outside_item c strings) c.outsides ++ map (fn_item c strings) c.functions) (map def_defined c.defs) (map outside_defined c.outsides ++ map fn_defined c.functions)
    (defs-define c strings c.defs h.defs parts.defs)
    (define-append (names_at c strings) (map (outside_item c strings) c.outsides) (map (fn_item c strings) c.functions) (map outside_defined c.outsides) (map fn_defined c.functions)
    (outsides-define c strings c.outsides h.outsides parts.outsides) (functions-define c strings c.functions h.functions parts.functions))

-- ---- the whole

faultless : (c : Crate) (strings : Strings) → Readable c → Kept c strings → Parts c strings → (lines : LinesFrom) → name_faults (names_at c strings) (file_lined (file_rule c strings) lines) ≡ []
faultless c strings h kept parts lines =
    let defined = all-defined (names_at c strings) (file_rule c strings) (crate_defined c) (file-defines c strings h.written parts) lines in
    append_empty _ _ (paths-apart [] _ (subst (AreApart []) (sym defined) h.apart)) (items-faultless (names_at c strings) (file_rule c strings) (file-faultless c strings h.written kept parts) lines)

pub read_back : (c : Crate) → Readable c → Reads (text c) c
read_back c h =
    let cut = crate_cut c h.written in
    let strings = strings_of cut.pieces in
    let parts = parts_kept c strings cut.back in
    let kept = crate_kept c strings h.written parts in
    let file = file_rule c strings in
    let derivation : Derivation (text c) = record {
      pieces = cut.pieces;
      whole = sym cut.whole;
      stand = cut.stand;
      file = file;
      derives = cut.derives;
      good = file-good c strings h.written;
      faultless = ap (λ names. name_faults names (items_in cut.pieces file)) (names-file c strings h.written kept parts) ∙ faultless c strings h kept parts _;
    } in
    record { derivation = derivation; named = crate-back c strings h.written kept parts }
