-- What the rule of a place means: the place itself, with no fault.
use Rattle.std.proofs.Common.{◌≡◌, ◌<◌, ◌≤◌, ℕ, suc, max, List, [], ◌∷◌, ◌++◌, length, refl, sym, ap, subst, ◌∙◌, append_assoc, Option, Some, is_some}
use Rattle.std.proofs.lemmas.List.{append-nil}
use Rattle.mir_syntax.specs.declared.body.Proj.{Proj}
use Rattle.mir_syntax.specs.declared.body.Proj.TheVariants.{Field, Downcast, Deref}
use Rattle.mir_syntax.specs.declared.body.Place.{Place}
use Rattle.mir_syntax.specs.Tree.{Tree}
use Rattle.mir_syntax.specs.Crate.{Crate}
use Rattle.mir_syntax.specs.Shapes.{◌>>=◌, pointee, proj_ty}
use Rattle.mir_rules.proofs.Lists.{append_empty}
use Rattle.mir_text.specs.Symbols.{number_in}
use Rattle.mir_text.specs.GrammarPlaces as p
use Rattle.mir_text.specs.GrammarPlaces.{PlaceRule}
use Rattle.mir_text.specs.Names.{Strings, string_at}
use Rattle.mir_text.specs.NamedBodies.{Declared, declared_ty, variant_of_ty, place_ty_of, downcast_ty, variant_at_place, or_zero, local_in, projs_named, place_named}
use Rattle.mir_text.specs.NameFaults.{unless, type_codes, place_codes}
use Rattle.mir_text.specs.Nesting.{place_depth, Small, PlaceGood}
use Rattle.mir_text.specs.PlaceText.{local_ty, type_after, variant_name, variant_at}
use Rattle.mir_round_trip.specs.Names.{Proper}
use Rattle.mir_round_trip.specs.Bodies.{plain_shapes, names_at, field_type, IsVariant, Path, path_depth, depth_at, IsPlace}
use Rattle.mir_round_trip.proofs.Types.{type_rule, type_known, depth_kept}
use Rattle.mir_round_trip.proofs.Meaning.{Kept, met}
use Rattle.mir_round_trip.proofs.Places.{walk, place_rule, variant-text}

-- what a rule of a place means
pub record IsAt (c : Crate) (strings : Strings) (L : Declared) (q : PlaceRule) (t : Tree) (x : ℕ) (ps : List Proj) : Type 0 where
  pub ty : place_ty_of (names_at c strings) L q ≡ Some t
  pub codes : place_codes (names_at c strings) L q ≡ []
  pub small : Small q
  pub local : local_in q ≡ x
  pub projs : projs_named (names_at c strings) L q ≡ ps

pub type_faultless : (c : Crate) (strings : Strings) → Kept c strings → (u : Tree) → Proper c u → type_codes (names_at c strings) (type_rule c strings u) ≡ []
type_faultless c strings kept u h = met _ 12 (type_known c strings kept.paths u h)

at-deref : (c : Crate) (strings : Strings) (L : Declared) (q : PlaceRule) (t u : Tree) (x : ℕ) (ps : List Proj) → pointee t ≡ Some u → IsAt c strings L q t x ps
    → IsAt c strings L (p.deref q) u x (ps ++ Deref ∷ [])
unfolding ◌>>=◌
at-deref c strings L q t u x ps h a = record {
  ty = ap (λ o. o >>= pointee) a.ty ∙ h;
  codes = a.codes;
  small = a.small;
  local = a.local;
  projs = ap (λ l. l ++ Deref ∷ []) a.projs;
}

at-field : (c : Crate) (strings : Strings) → Kept c strings → (L : Declared) (q : PlaceRule) (t u : Tree) (n x : ℕ) (ps : List Proj) → n ≤ 4294967295
    → proj_ty (plain_shapes c) t (Field n) ≡ Some u → Proper c u → IsAt c strings L q t x ps → IsAt c strings L (p.field q n (type_rule c strings u)) u x (ps ++ Field n ∷ [])
unfolding ◌>>=◌
at-field c strings kept L q t u n x ps small h proper a = record {
  ty = ap (λ o. o >>= λ v. proj_ty (plain_shapes c) v (Field n)) a.ty ∙ h;
  codes = append_empty _ _ a.codes (type_faultless c strings kept u proper);
  small = (small, a.small);
  local = a.local;
  projs = ap (λ l. l ++ Field n ∷ []) a.projs;
}

-- the name of a variant is read back, and names it
variant-found : (c : Crate) (strings : Strings) → Kept c strings → (t : Tree) (k : ℕ) → IsVariant c t k → variant_of_ty (names_at c strings) (string_at strings (number_in strings (variant_name c t k))) t ≡ Some k
variant-found c strings kept t k h =
    let e = variant-text c t k h in
    let back : string_at strings (number_in strings (variant_at c h.def k).name) ≡ (variant_at c h.def k).name = kept.variants h.def k h.there h.one h.enum in
    ap (λ l. variant_of_ty (names_at c strings) (string_at strings (number_in strings l)) t) e
    ∙ ap (λ l. variant_of_ty (names_at c strings) l t) back
    ∙ ap (variant_of_ty (names_at c strings) (variant_at c h.def k).name) h.is
    ∙ h.found strings

at-variant : (c : Crate) (strings : Strings) → Kept c strings → (L : Declared) (q : PlaceRule) (t u w : Tree) (k n x : ℕ) (ps : List Proj) → n ≤ 4294967295 → IsVariant c t k
    → proj_ty (plain_shapes c) t (Downcast k) ≡ Some w → proj_ty (plain_shapes c) w (Field n) ≡ Some u → Proper c u → IsAt c strings L q t x ps
    → IsAt c strings L (p.variant_field q (number_in strings (variant_name c t k)) n (type_rule c strings u)) u x (ps ++ Downcast k ∷ Field n ∷ [])
unfolding ◌>>=◌
at-variant c strings kept L q t u w k n x ps small is down up proper a =
    let v = number_in strings (variant_name c t k) in
    let found = variant-found c strings kept t k is in
    let place : variant_at_place (names_at c strings) L q v ≡ Some k = ap (λ o. o >>= variant_of_ty (names_at c strings) (string_at strings v)) a.ty ∙ found in
    record {
      ty = ap (λ o. o >>= λ s. downcast_ty (names_at c strings) s n (variant_of_ty (names_at c strings) (string_at strings v) s)) a.ty
          ∙ ap (downcast_ty (names_at c strings) t n) found ∙ ap (λ o. o >>= λ s. proj_ty (plain_shapes c) s (Field n)) down ∙ up;
      codes = append_empty _ _ (append_empty _ _ a.codes (met _ 13 (ap is_some place))) (type_faultless c strings kept u proper);
      small = (small, a.small);
      local = a.local;
      projs = ap (λ o. projs_named (names_at c strings) L q ++ Downcast (or_zero o) ∷ Field n ∷ []) place ∙ ap (λ l. l ++ Downcast k ∷ Field n ∷ []) a.projs;
    }

-- what a rule means at the end of its projections
pub record Ends (c : Crate) (strings : Strings) (L : Declared) (q : PlaceRule) (x : ℕ) (ps : List Proj) : Type 0 where
  pub type : Tree
  pub is : IsAt c strings L q type x ps

ends-as : (c : Crate) (strings : Strings) (L : Declared) (q : PlaceRule) (x : ℕ) (ps qs : List Proj) → ps ≡ qs → Ends c strings L q x ps → Ends c strings L q x qs
ends-as c strings L q x ps qs e h = subst (Ends c strings L q x) e h

walk-at : (c : Crate) (strings : Strings) → Kept c strings → (L : Declared) (q : PlaceRule) (t : Tree) (x : ℕ) (before ps : List Proj) → Path c t ps → IsAt c strings L q t x before
    → Ends c strings L (walk c strings q t ps) x (before ++ ps)
walk-at c strings kept L q t x before [] h a = ends-as c strings L q x _ _ (sym (append-nil before)) (record { type = t; is = a })
walk-at c strings kept L q t x before (Deref ∷ ps) h a =
    let u = type_after c t Deref in
    ends-as c strings L _ x _ _ (append_assoc before (Deref ∷ []) ps)
    (walk-at c strings kept L (p.deref q) u x (before ++ Deref ∷ []) ps h.1 (at-deref c strings L q t u x before h.0 a))
walk-at c strings kept L q t x before (Field n ∷ ps) h a =
    let u = type_after c t (Field n) in
    ends-as c strings L _ x _ _ (append_assoc before (Field n ∷ []) ps)
    (walk-at c strings kept L (p.field q n (type_rule c strings u)) u x (before ++ Field n ∷ []) ps h.3 (at-field c strings kept L q t u n x before h.0 h.1 h.2 a))
walk-at c strings kept L q t x before (Downcast k ∷ Field n ∷ ps) h a =
    let u = field_type c t k n in
    ends-as c strings L _ x _ _ (append_assoc before (Downcast k ∷ Field n ∷ []) ps)
    (walk-at c strings kept L (p.variant_field q (number_in strings (variant_name c t k)) n (type_rule c strings u)) u x (before ++ Downcast k ∷ Field n ∷ []) ps h.5
    (at-variant c strings kept L q t u (type_after c t (Downcast k)) k n x before h.0 h.1 h.2 h.3 h.4 a))
walk-at c strings kept L q t x before ps h a = absurd h

-- ---- whole places

-- each local is declared with its type
abbrev pub Declares : Declared → List Tree → Type 0
Declares L locals = (x : ℕ) → x < length locals → declared_ty L x ≡ Some (local_ty locals x)

-- a function whose names and locals are those of a canonical text
pub record Setting (c : Crate) (strings : Strings) (L : Declared) (locals : List Tree) : Type 0 where
  pub kept : Kept c strings
  pub declares : Declares L locals

local-faultless : (o : Option Tree) (t : Tree) → o ≡ Some t → unless (is_some o) 14 ≡ []
local-faultless o t h = met _ 14 (ap is_some h)

place-ends : (c : Crate) (strings : Strings) (L : Declared) (locals : List Tree) → Setting c strings L locals → (q : Place) → IsPlace c locals q
    → Ends c strings L (place_rule c strings locals q) q.local q.proj
unfolding place_rule
place-ends c strings L locals set q h =
    let t = local_ty locals q.local in
    let is = set.declares q.local h.there in
    walk-at c strings set.kept L (p.local q.local) t q.local [] q.proj h.path
    (record { ty = is; codes = local-faultless _ t is; small = tt; local = refl; projs = refl })

as-place : (x y : ℕ) (ps qs : List Proj) → x ≡ y → ps ≡ qs → ◌≡◌ {A = Place} (record { local = x; proj = ps }) (record { local = y; proj = qs })
as-place x y ps qs e h = ap (λ z. let r : Place = record { local = z; proj = ps } in r) e ∙ ap (λ l. let r : Place = record { local = y; proj = l } in r) h

pub place_back : (c : Crate) (strings : Strings) (L : Declared) (locals : List Tree) → Setting c strings L locals → (q : Place) → IsPlace c locals q
    → place_named (names_at c strings) L (place_rule c strings locals q) ≡ q
place_back c strings L locals set q h = let e = place-ends c strings L locals set q h in as-place _ _ _ _ e.is.local e.is.projs

pub place_faultless : (c : Crate) (strings : Strings) (L : Declared) (locals : List Tree) → Setting c strings L locals → (q : Place) → IsPlace c locals q
    → place_codes (names_at c strings) L (place_rule c strings locals q) ≡ []
place_faultless c strings L locals set q h = let e = place-ends c strings L locals set q h in e.is.codes

-- ---- how deep it nests

walk-depth : (c : Crate) (strings : Strings) (q : PlaceRule) (t : Tree) (ps : List Proj) → place_depth (walk c strings q t ps) ≡ path_depth c t (place_depth q) ps
walk-depth c strings q t [] = refl
walk-depth c strings q t (Deref ∷ ps) = walk-depth c strings (p.deref q) (type_after c t Deref) ps
walk-depth c strings q t (Field m ∷ ps) =
    let u = type_after c t (Field m) in
    walk-depth c strings (p.field q m (type_rule c strings u)) u ps ∙ ap (λ n. path_depth c u (suc (max (place_depth q) n)) ps) (depth_kept c strings u)
walk-depth c strings q t (Downcast k ∷ Field m ∷ ps) =
    let u = field_type c t k m in
    walk-depth c strings (p.variant_field q (number_in strings (variant_name c t k)) m (type_rule c strings u)) u ps ∙ ap (λ n. path_depth c u (suc (max (suc (place_depth q)) n)) ps) (depth_kept c strings u)
walk-depth c strings q t (Downcast k ∷ []) = refl
walk-depth c strings q t (Downcast k ∷ Downcast m ∷ ps) = refl
walk-depth c strings q t (Downcast k ∷ Deref ∷ ps) = refl

pub depth_of_place : (c : Crate) (strings : Strings) (locals : List Tree) (q : Place) → place_depth (place_rule c strings locals q) ≡ depth_at c locals q
unfolding place_rule depth_at
depth_of_place c strings locals q = walk-depth c strings (p.local q.local) (local_ty locals q.local) q.proj

walk-small : (c : Crate) (strings : Strings) (q : PlaceRule) (t : Tree) (ps : List Proj) → Path c t ps → Small q → Small (walk c strings q t ps)
walk-small c strings q t [] h k = k
walk-small c strings q t (Deref ∷ ps) h k = walk-small c strings (p.deref q) (type_after c t Deref) ps h.1 k
walk-small c strings q t (Field m ∷ ps) h k = walk-small c strings (p.field q m (type_rule c strings (type_after c t (Field m)))) (type_after c t (Field m)) ps h.3 (h.0, k)
walk-small c strings q t (Downcast n ∷ Field m ∷ ps) h k =
    walk-small c strings (p.variant_field q (number_in strings (variant_name c t n)) m (type_rule c strings (field_type c t n m))) (field_type c t n m) ps h.5 (h.0, k)
walk-small c strings q t ps h k = absurd h

-- the numbers of fields in it are small
pub small_place : (c : Crate) (strings : Strings) (locals : List Tree) (q : Place) → IsPlace c locals q → Small (place_rule c strings locals q)
unfolding place_rule
small_place c strings locals q h = walk-small c strings (p.local q.local) (local_ty locals q.local) q.proj h.path tt

pub place_good : (c : Crate) (strings : Strings) (locals : List Tree) (q : Place) → IsPlace c locals q → PlaceGood 65 (place_rule c strings locals q)
place_good c strings locals q h = (subst (λ n. n ≤ 65) (sym (depth_of_place c strings locals q)) h.depth, small_place c strings locals q h)
