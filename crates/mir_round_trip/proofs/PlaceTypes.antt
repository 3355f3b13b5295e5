-- The type of a place that a derivation names is that of the named place.
use Rattle.mir_round_trip.specs.Bodies.{plain_shapes, names_at}
use Rattle.std.proofs.Common.{◌≡◌, ◌<◌, ℕ, true, List, [], ◌∷◌, ◌++◌, length, refl, sym, ap, ◌∙◌, Option, Some, None, is_some, slice_get}
use Rattle.mir_syntax.specs.declared.body.Proj.{Proj}
use Rattle.mir_syntax.specs.declared.body.Proj.TheVariants.{Field, Downcast, Deref}
use Rattle.mir_syntax.specs.Tree.{Tree, empty}
use Rattle.mir_syntax.specs.Crate.{Crate}
use Rattle.mir_syntax.specs.Shapes.{Shape, ◌>>=◌, pointee, proj_ty, path_ty, place_ty, shapes_of}
use Rattle.mir_syntax.proofs.Binds.{bind_bind, bind_back, bind_some}
use Rattle.mir_text.specs.GrammarPlaces as p
use Rattle.mir_text.specs.GrammarPlaces.{PlaceRule}
use Rattle.mir_text.specs.Names.{Strings, string_at}
use Rattle.mir_text.specs.NamedBodies.{Declared, declared_ty, variant_of_ty, place_ty_of, downcast_ty, variant_at_place, or_zero, local_in, projs_named, place_named}
use Rattle.mir_text.specs.NameFaults.{unless, type_codes, place_codes}
use Rattle.mir_text.specs.PlaceText.{local_ty}
use Rattle.mir_text.proofs.Codes.{unless_met}
use Rattle.mir_rules.proofs.Lists.{append_empty-left, append_empty-right}
use Rattle.mir_round_trip.proofs.Meaning.{proj-same}
use Rattle.mir_round_trip.proofs.PlacesWritten.{at-place}

-- ---- options

bind-same : {A B : Type 0} (o : Option A) (f g : A → Option B) → ((a : A) → f a ≡ g a) → (o >>= f) ≡ (o >>= g)
unfolding ◌>>=◌
bind-same None f g h = refl
bind-same (Some a) f g h = h a

-- ---- paths

path-append : (D : List Shape) (t : Tree) (ps qs : List Proj) → path_ty D t (ps ++ qs) ≡ (path_ty D t ps >>= λ u. path_ty D u qs)
unfolding ◌>>=◌
path-append D t [] qs = refl
path-append D t (p ∷ ps) qs =
    bind-same (proj_ty D t p) (λ u. path_ty D u (ps ++ qs)) (λ u. path_ty D u ps >>= λ w. path_ty D w qs) (λ u. path-append D u ps qs)
    ∙ sym (bind_bind (proj_ty D t p) (λ u. path_ty D u ps) (λ w. path_ty D w qs))

path-same : (c : Crate) (t : Tree) (ps : List Proj) → path_ty (shapes_of c) t ps ≡ path_ty (plain_shapes c) t ps
path-same c t [] = refl
path-same c t (p ∷ ps) =
    ap (λ o. o >>= λ u. path_ty (shapes_of c) u ps) (proj-same c t p)
    ∙ bind-same (proj_ty (plain_shapes c) t p) (λ u. path_ty (shapes_of c) u ps) (λ u. path_ty (plain_shapes c) u ps) (λ u. path-same c u ps)

-- ---- places

-- behind what is known of a place go further projections
further : (D : List Shape) (o P : Option Tree) (ps qs : List Proj) → (o >>= λ t. path_ty D t ps) ≡ P → (o >>= λ t. path_ty D t (ps ++ qs)) ≡ (P >>= λ u. path_ty D u qs)
further D o P ps qs h =
    bind-same o (λ t. path_ty D t (ps ++ qs)) (λ t. path_ty D t ps >>= λ u. path_ty D u qs) (λ t. path-append D t ps qs)
    ∙ sym (bind_bind o (λ t. path_ty D t ps) (λ u. path_ty D u qs)) ∙ ap (λ x. x >>= λ u. path_ty D u qs) h

one-step : (D : List Shape) (u : Tree) (s : Proj) → path_ty D u (s ∷ []) ≡ proj_ty D u s
one-step D u s = bind_back (proj_ty D u s)

two-steps : (D : List Shape) (u : Tree) (k n : ℕ) → path_ty D u (Downcast k ∷ Field n ∷ []) ≡ (proj_ty D u (Downcast k) >>= λ w. proj_ty D w (Field n))
two-steps D u k n = bind-same (proj_ty D u (Downcast k)) (λ w. path_ty D w (Field n ∷ [])) (λ w. proj_ty D w (Field n)) (λ w. one-step D w (Field n))

variant-link : (c : Crate) (strings : Strings) (P : Option Tree) (bytes : List ℕ) (n : ℕ) (o : Option ℕ) → (P >>= variant_of_ty (names_at c strings) bytes) ≡ o → is_some o ≡ true
    → (P >>= λ u. path_ty (plain_shapes c) u (Downcast (or_zero o) ∷ Field n ∷ [])) ≡ (P >>= λ u. downcast_ty (names_at c strings) u n (variant_of_ty (names_at c strings) bytes u))
unfolding ◌>>=◌
variant-link c strings P bytes n None e h = absurd cc
variant-link c strings None bytes n (Some k) e h = absurd cc
variant-link c strings (Some u) bytes n (Some k) e h = two-steps (plain_shapes c) u k n ∙ sym (ap (downcast_ty (names_at c strings) u n) e)

link : (c : Crate) (strings : Strings) (L : Declared) (q : PlaceRule) → place_codes (names_at c strings) L q ≡ []
    → (declared_ty L (local_in q) >>= λ t. path_ty (plain_shapes c) t (projs_named (names_at c strings) L q)) ≡ place_ty_of (names_at c strings) L q
link c strings L (p.local x) codes = bind_back (declared_ty L x)
link c strings L (p.deref q) codes =
    let P = place_ty_of (names_at c strings) L q in
    further (plain_shapes c) _ P (projs_named (names_at c strings) L q) (Deref ∷ []) (link c strings L q codes)
    ∙ bind-same P (λ u. path_ty (plain_shapes c) u (Deref ∷ [])) pointee (λ u. one-step (plain_shapes c) u Deref)
link c strings L (p.field q n u) codes =
    let P = place_ty_of (names_at c strings) L q in
    further (plain_shapes c) _ P (projs_named (names_at c strings) L q) (Field n ∷ []) (link c strings L q (append_empty-left (place_codes (names_at c strings) L q) _ codes))
    ∙ bind-same P (λ t. path_ty (plain_shapes c) t (Field n ∷ [])) (λ t. proj_ty (plain_shapes c) t (Field n)) (λ t. one-step (plain_shapes c) t (Field n))
link c strings L (p.variant_field q v n u) codes =
    let N = names_at c strings in
    let P = place_ty_of N L q in
    let at = variant_at_place N L q v in
    let front = append_empty-left (place_codes N L q ++ unless (is_some at) 13) (type_codes N u) codes in
    further (plain_shapes c) _ P (projs_named N L q) (Downcast (or_zero at) ∷ Field n ∷ []) (link c strings L q (append_empty-left (place_codes N L q) (unless (is_some at) 13) front))
    ∙ variant-link c strings P (string_at strings v) n at refl (unless_met _ 13 (append_empty-right (place_codes N L q) (unless (is_some at) 13) front))

-- the first local of a place without fault is declared
local-declared : (c : Crate) (strings : Strings) (L : Declared) (q : PlaceRule) → place_codes (names_at c strings) L q ≡ [] → is_some (declared_ty L (local_in q)) ≡ true
local-declared c strings L (p.local x) codes = unless_met _ 14 codes
local-declared c strings L (p.deref q) codes = local-declared c strings L q codes
local-declared c strings L (p.field q n u) codes = local-declared c strings L q (append_empty-left (place_codes (names_at c strings) L q) _ codes)
local-declared c strings L (p.variant_field q v n u) codes =
    let N = names_at c strings in
    local-declared c strings L q (append_empty-left (place_codes N L q) _ (append_empty-left (place_codes N L q ++ unless (is_some (variant_at_place N L q v)) 13) (type_codes N u) codes))

declared-by : (L : Declared) (locals : List Tree) (x : ℕ) (o : Option Tree) → ((t : Tree) → declared_ty L x ≡ Some t → x < length locals → local_ty locals x ≡ t) → declared_ty L x ≡ o → is_some o ≡ true
    → (t : Tree) → slice_get locals x ≡ Some t → declared_ty L x ≡ Some t
unfolding local_ty
declared-by L locals x None typed e h t s = absurd cc
declared-by L locals x (Some u) typed e h t s = let at = at-place empty locals x t s in let same = typed u e at.0 in e ∙ ap Some (sym same ∙ at.1)

has-by : (o : Option Tree) (u : Tree) (f : Tree → Option Tree) → o ≡ Some u → (o >>= f) ≡ f u
unfolding ◌>>=◌
has-by o u f e = ap (λ x. x >>= f) e

pub place_has : (c : Crate) (strings : Strings) (L : Declared) (locals : List Tree) → ((x : ℕ) (t : Tree) → declared_ty L x ≡ Some t → x < length locals → local_ty locals x ≡ t) → (q : PlaceRule)
    → place_codes (names_at c strings) L q ≡ [] → (t : Tree) → place_ty (shapes_of c) locals (place_named (names_at c strings) L q) ≡ Some t → place_ty_of (names_at c strings) L q ≡ Some t
unfolding place_ty
place_has c strings L locals typed q codes t h =
    let (u, e1, e2) = bind_some h in
    let declared = declared-by L locals (local_in q) (declared_ty L (local_in q)) (typed (local_in q)) refl (local-declared c strings L q codes) u e1 in
    sym (link c strings L q codes) ∙ has-by (declared_ty L (local_in q)) u (λ s. path_ty (plain_shapes c) s (projs_named (names_at c strings) L q)) declared
    ∙ sym (path-same c u (projs_named (names_at c strings) L q)) ∙ e2
