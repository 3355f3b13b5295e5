-- No two paths of a crate clash where those of the items that name it don't: whatever the order of the items, each kind keeps its own.
use Rattle.mir_round_trip.specs.Readable.{unlined, def_defined, outside_defined, fn_defined, AreApart}
use Rattle.std.proofs.Common.{◌≡◌, ℕ, Bool, true, false, not, ◌&&◌, ◌||◌, List, [], ◌∷◌, ◌++◌, map, codes, refl, sym, ap, subst, ◌∙◌, append_assoc, bytes_eq}
use Rattle.std.proofs.lemmas.Slice.Eq.{bytes_eq-Decides}
use Rattle.mir_syntax.specs.Crate.{Crate}
use Rattle.mir_text.specs.Grammar.{Items}
use Rattle.mir_text.specs.GrammarTypes.{PathRule}
use Rattle.mir_text.specs.GrammarItems as m
use Rattle.mir_text.specs.GrammarItems.{VariantRule, ItemRule, item_put, FileRule}
use Rattle.mir_text.specs.Names as n
use Rattle.mir_text.specs.Names.{Strings, Names, path_bytes, variant_named, defs_in, def_named}
use Rattle.mir_text.specs.Naming.{outsides_in, functions_in}
use Rattle.mir_text.specs.PartLines.{LinesFrom, past, other, item_lined, file_lined}
use Rattle.mir_text.specs.NameFaults.{unless, on_line, Defined, defined_by, same_flag, is_variant_path, clashes, any_clashes, path_faults}
use Rattle.mir_text.proofs.Codes.{unless_met, no_codes}
use Rattle.mir_round_trip.specs.Bodies.{names_at}
use Rattle.mir_round_trip.specs.Names.{crate_paths}
use Rattle.mir_rules.proofs.Lists.{append_empty-left, append_empty-right, or_false-left, or_false-right}
use Rattle.mir_round_trip.proofs.ReadBack.{any-same, as-defined}
use Rattle.mir_round_trip.proofs.Rvalues.{two-same}
use Rattle.mir_round_trip.proofs.DefinitionsWritten.{map-items}

-- ---- to clash goes both ways

flag-both : (a b : Bool) → same_flag a b ≡ same_flag b a
flag-both true true = refl
flag-both true false = refl
flag-both false true = refl
flag-both false false = refl

bytes-both : (a b : List ℕ) (x y : Bool) → bytes_eq a b ≡ x → bytes_eq b a ≡ y → x ≡ y
bytes-both a b true true e f = refl
bytes-both a b false false e f = refl
bytes-both a b true false e f = let same : a ≡ b = (bytes_eq-Decides a b).0 e in sym ((bytes_eq-Decides b a).1 (sym same)) ∙ f
bytes-both a b false true e f = let same : b ≡ a = (bytes_eq-Decides b a).0 f in sym e ∙ (bytes_eq-Decides a b).1 (sym same)

or-both : (a b : Bool) → (a || b) ≡ (b || a)
or-both true true = refl
or-both true false = refl
or-both false true = refl
or-both false false = refl

clash-both : (a b : Defined) → clashes a b ≡ clashes b a
clash-both a b =
    two-same (λ x y. x || y) (two-same (λ x y. x && y) (flag-both a.is_type b.is_type) (bytes-both a.path b.path _ _ refl refl)) (or-both (is_variant_path a b) (is_variant_path b a))

-- ---- pairs

-- no two clash
abbrev Pairs : List Defined → Type 0
Pairs [] = Unit {0}
Pairs (a ∷ others) = (any_clashes a others ≡ false) × Pairs others

none-both : (a b : Bool) → a ≡ false → b ≡ false → (a || b) ≡ false
none-both a b h k = two-same (λ x y. x || y) h k

-- none clashes with those that stood before, and no two clash
abbrev Free : List Defined → List Defined → Type 0
Free before [] = Unit {0}
Free before (a ∷ others) = (any_clashes a before ≡ false) × Free before others

free-less : (b : Defined) (before xs : List Defined) → Free (b ∷ before) xs → Free before xs × (any_clashes b xs ≡ false)
free-less b before [] h = (tt, refl)
free-less b before (a ∷ xs) h =
    let k = free-less b before xs h.1 in
    ((or_false-right (clashes a b) (any_clashes a before) h.0, k.0), none-both (clashes b a) (any_clashes b xs) (clash-both b a ∙ or_false-left (clashes a b) (any_clashes a before) h.0) k.1)

free-more : (b : Defined) (before xs : List Defined) → Free before xs → any_clashes b xs ≡ false → Free (b ∷ before) xs
free-more b before [] h k = tt
free-more b before (a ∷ xs) h k =
    (none-both (clashes a b) (any_clashes a before) (clash-both a b ∙ or_false-left (clashes b a) (any_clashes b xs) k) h.0, free-more b before xs h.1 (or_false-right (clashes b a) (any_clashes b xs) k))

apart-pairs : (before xs : List Defined) → AreApart before xs → Pairs xs × Free before xs
apart-pairs before [] h = (tt, tt)
apart-pairs before (a ∷ xs) h =
    let k = apart-pairs (a ∷ before) xs h.1 in
    let l = free-less a before xs k.1 in
    ((l.1, k.0), (h.0, l.0))

pairs-apart : (before xs : List Defined) → Pairs xs → Free before xs → AreApart before xs
pairs-apart before [] h k = tt
pairs-apart before (a ∷ xs) h k = (k.0, pairs-apart (a ∷ before) xs h.1 (free-more a before xs k.1 h.0))

free-none : (xs : List Defined) → Free [] xs
free-none [] = tt
free-none (a ∷ xs) = (refl, free-none xs)

-- ---- one more in the middle

any-between : (a b : Defined) (xs ys : List Defined) → any_clashes a (xs ++ ys) ≡ false → clashes a b ≡ false → any_clashes a (xs ++ b ∷ ys) ≡ false
any-between a b [] ys h k = none-both (clashes a b) (any_clashes a ys) k h
any-between a b (x ∷ xs) ys h k =
    none-both (clashes a x) (any_clashes a (xs ++ b ∷ ys)) (or_false-left (clashes a x) (any_clashes a (xs ++ ys)) h) (any-between a b xs ys (or_false-right (clashes a x) (any_clashes a (xs ++ ys)) h) k)

pub pairs-between : (b : Defined) (xs ys : List Defined) → Pairs (xs ++ ys) → any_clashes b (xs ++ ys) ≡ false → Pairs (xs ++ b ∷ ys)
pairs-between b [] ys h k = (k, h)
pairs-between b (x ∷ xs) ys h k =
    (any-between x b xs ys h.0 (clash-both x b ∙ or_false-left (clashes b x) (any_clashes b (xs ++ ys)) k), pairs-between b xs ys h.1 (or_false-right (clashes b x) (any_clashes b (xs ++ ys)) k))

-- ---- the items of a file

-- what an item defines, without its line
abbrev item_defined : Names → ItemRule → Defined
item_defined N item = unlined (defined_by N (other 0 item))

line-free : (N : Names) (item : ItemRule) (lines : LinesFrom) → unlined (defined_by N (item_lined item lines)) ≡ item_defined N item
line-free N (m.struct q fs) lines = refl
line-free N (m.enum q vs) lines = refl
line-free N (m.extern q us u) lines = refl
line-free N (m.function f) lines = refl

lines-free : (N : Names) (items : FileRule) (lines : LinesFrom) → map unlined (map (defined_by N) (file_lined items lines)) ≡ map (item_defined N) items
lines-free N [] lines = refl
lines-free N (x ∷ xs) lines = two-same (λ a b. a ∷ b) (line-free N x lines) (lines-free N xs (past item_put x lines))

not-true : (b : Bool) → not b ≡ true → b ≡ false
not-true true h = absurd cc
not-true false h = refl

faults-apart : (before xs : List Defined) → path_faults before xs ≡ [] → AreApart (map unlined before) (map unlined xs)
faults-apart before [] h = tt
faults-apart before (a ∷ xs) h =
    let codes = no_codes a.line _ (append_empty-left (on_line a.line (unless (not (any_clashes a before)) 10)) _ h) in
    (sym (any-same a before) ∙ not-true (any_clashes a before) (unless_met _ 10 codes), faults-apart (a ∷ before) xs (append_empty-right (on_line a.line (unless (not (any_clashes a before)) 10)) _ h))

-- ---- in the order of a crate

-- the three kinds one after another
abbrev sorted : Crate → Strings → FileRule → List Defined
sorted c strings items =
    map def_defined (map (def_named strings (crate_paths c)) (defs_in items)) ++ (map outside_defined (outsides_in (names_at c strings) items) ++ map fn_defined (functions_in (names_at c strings) items))

enum-defined : (c : Crate) (strings : Strings) (q : PathRule) (vs : Items VariantRule) → item_defined (names_at c strings) (m.enum q vs) ≡ def_defined (def_named strings (crate_paths c) (n.enum q vs))
enum-defined c strings q vs =
    as-defined true false _ _ _ _ refl (sym (map-items (λ v. path_bytes strings q ++ codes "::" ++ v.name) (variant_named strings (crate_paths c)) vs))

-- what clashes with no item clashes with none of them sorted
any-sorted : (c : Crate) (strings : Strings) (a : Defined) (items : FileRule) → any_clashes a (map (item_defined (names_at c strings)) items) ≡ false → any_clashes a (sorted c strings items) ≡ false
any-sorted c strings a [] h = refl
any-sorted c strings a (m.struct q fs ∷ items) h = none-both _ _ (or_false-left _ _ h) (any-sorted c strings a items (or_false-right _ _ h))
any-sorted c strings a (m.enum q vs ∷ items) h =
    none-both _ _ (ap (clashes a) (sym (enum-defined c strings q vs)) ∙ or_false-left _ _ h) (any-sorted c strings a items (or_false-right _ _ h))
any-sorted c strings a (m.extern q us u ∷ items) h =
    any-between a (item_defined (names_at c strings) (m.extern q us u)) (map def_defined (map (def_named strings (crate_paths c)) (defs_in items))) (map outside_defined (outsides_in (names_at c strings) items) ++ map fn_defined (functions_in (names_at c strings) items))
    (any-sorted c strings a items (or_false-right _ _ h)) (or_false-left _ _ h)
any-sorted c strings a (m.function f ∷ items) h =
    let D = map def_defined (map (def_named strings (crate_paths c)) (defs_in items)) in
    let O = map outside_defined (outsides_in (names_at c strings) items) in
    let F = map fn_defined (functions_in (names_at c strings) items) in
    let b = item_defined (names_at c strings) (m.function f) in
    let others = ap (any_clashes a) (append_assoc D O F) ∙ any-sorted c strings a items (or_false-right _ _ h) in
    ap (any_clashes a) (sym (append_assoc D O (b ∷ F))) ∙ any-between a b (D ++ O) F others (or_false-left _ _ h)

pairs-sorted : (c : Crate) (strings : Strings) (items : FileRule) → Pairs (map (item_defined (names_at c strings)) items) → Pairs (sorted c strings items)
pairs-sorted c strings [] h = tt
pairs-sorted c strings (m.struct q fs ∷ items) h = (any-sorted c strings (item_defined (names_at c strings) (m.struct q fs)) items h.0, pairs-sorted c strings items h.1)
pairs-sorted c strings (m.enum q vs ∷ items) h =
    (any-sorted c strings (def_defined (def_named strings (crate_paths c) (n.enum q vs))) items (subst (λ a. any_clashes a (map (item_defined (names_at c strings)) items) ≡ false) (enum-defined c strings q vs) h.0), pairs-sorted c strings items h.1)
pairs-sorted c strings (m.extern q us u ∷ items) h =
    pairs-between (item_defined (names_at c strings) (m.extern q us u)) (map def_defined (map (def_named strings (crate_paths c)) (defs_in items)))
    (map outside_defined (outsides_in (names_at c strings) items) ++ map fn_defined (functions_in (names_at c strings) items)) (pairs-sorted c strings items h.1) (any-sorted c strings (item_defined (names_at c strings) (m.extern q us u)) items h.0)
pairs-sorted c strings (m.function f ∷ items) h =
    let D = map def_defined (map (def_named strings (crate_paths c)) (defs_in items)) in
    let O = map outside_defined (outsides_in (names_at c strings) items) in
    let F = map fn_defined (functions_in (names_at c strings) items) in
    let b = item_defined (names_at c strings) (m.function f) in
    let pairs = subst Pairs (sym (append_assoc D O F)) (pairs-sorted c strings items h.1) in
    let none = ap (any_clashes b) (append_assoc D O F) ∙ any-sorted c strings b items h.0 in
    subst Pairs (append_assoc D O (b ∷ F)) (pairs-between b (D ++ O) F pairs none)

pub paths_apart : (c : Crate) (strings : Strings) (items : FileRule) (lines : LinesFrom) → path_faults [] (map (defined_by (names_at c strings)) (file_lined items lines)) ≡ [] → AreApart [] (sorted c strings items)
paths_apart c strings items lines h =
    let apart = subst (AreApart []) (lines-free (names_at c strings) items lines) (faults-apart [] _ h) in
    let pairs = apart-pairs [] (map (item_defined (names_at c strings)) items) apart in
    pairs-apart [] (sorted c strings items) (pairs-sorted c strings items pairs.0) (free-none (sorted c strings items))
