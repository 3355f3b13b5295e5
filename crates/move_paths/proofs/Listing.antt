-- The units of locals, listed one local after another.
use Rattle.std.proofs.Common.{◌≡◌, ◌⊎◌, inl, inr, refl, sym, ap, ◌∙◌, subst, ℕ, zero, suc, ◌+◌, ◌<◌, ◌≤◌, Bool, true, false, nat_le, nat_lt, ◌&&◌, List, [], ◌∷◌, ◌++◌, map, drop, length, Option, Some, None, slice_get, IsTrue, arith}
use Rattle.std.proofs.lemmas.List.{append_assoc, append-nil, length-append, length-map, drop_all}
use Rattle.std.proofs.lemmas.Option.{slice_get_within}
use Rattle.mir_syntax.specs.declared.body.Proj.{Proj}
use Rattle.mir_syntax.specs.declared.body.Place.{Place}
use Rattle.mir_syntax.specs.declared.program.Program.{Program}
use Rattle.mir_syntax.specs.Tree.{Tree, trees_of}
use Rattle.mir_syntax.specs.Crate.{crate_of, def_of}
use Rattle.mir_syntax.specs.Shapes.{Shape, shapes_of}
use Rattle.mir_syntax.proofs.Lists.{map_back}
use Rattle.mir_syntax.proofs.Places.{shapes_from-length}
use Rattle.mir_rules.specs.Weights.{units_from, units_def, units}
use Rattle.move_paths.specs.declared.search.Search.{Search}
use Rattle.move_paths.specs.declared.units.Span.{Span}
use Rattle.move_paths.specs.Effects.{in_local, units_of_locals}
use Rattle.move_paths.specs.Rows.{in_span, IsSpanned}
use Rattle.move_paths.specs.Finding.{place_from, Gathers}

get_front : {A : Type 0} (xs ys : List A) (i : ℕ) (x : A) → slice_get xs i ≡ Some x → slice_get (xs ++ ys) i ≡ Some x
get_front [] ys i x e = absurd (grind arith)
get_front (a ∷ xs) ys zero x e = e
get_front (a ∷ xs) ys (suc i) x e = get_front xs ys i x e

get_split : {A : Type 0} (xs ys : List A) (i : ℕ) (x : A) → slice_get (xs ++ ys) i ≡ Some x → (slice_get xs i ≡ Some x) ⊎ ((j : ℕ) × (i ≡ length xs + j) × (slice_get ys j ≡ Some x))
get_split [] ys i x e = inr (i, omega arith, e)
get_split (a ∷ xs) ys zero x e = inl e
get_split (a ∷ xs) ys (suc i) x e = elim (get_split xs ys i x e) [ inl h ↦ inl h | inr h ↦ inr (h.0, (let q = h.1 in omega arith), h.2) ]

get_last : {A : Type 0} (xs : List A) (x : A) (n : ℕ) → length xs ≡ n → slice_get (xs ++ x ∷ []) n ≡ Some x
get_last [] x zero e = refl
get_last [] x (suc n) e = absurd (omega arith)
get_last (a ∷ xs) x zero e = absurd (omega arith)
get_last (a ∷ xs) x (suc n) e = get_last xs x n (omega arith)

-- the units of the locals before, and those of the locals that are left, are those of all
pub record Listed (D : List Shape) (locals : List Tree) (search : Search) (spans : List Span) (at : ℕ) (left : List Tree) : Type 0 where
  pub no_path : search.path ≡ []
  pub whole : search.places ++ units_of_locals D at left ≡ units_of_locals D 0 locals
  pub counted : length spans ≡ at
  pub spanned : IsSpanned search.places spans

from_start : (s : Search) (x : ℕ) → s.local ≡ x → s.path ≡ [] → (paths : List (List Proj)) → map (place_from s) paths ≡ map (in_local x) paths
from_start s x l p [] = refl
from_start s x l p (w ∷ paths) = (let one : place_from s w ≡ in_local x w = rw l (rw p refl) in rw one (ap (λ (xs : List Place). in_local x w ∷ xs) (from_start s x l p paths)))

spanned_grown : (k y : ℕ) (spans more : List Span) → in_span k (slice_get spans y) ≡ true → in_span k (slice_get (spans ++ more) y) ≡ true
spanned_grown k y spans more e = go (slice_get spans y) refl e
  where
    go : (o : Option Span) → slice_get spans y ≡ o → in_span k o ≡ true → in_span k (slice_get (spans ++ more) y) ≡ true
    go None q h = absurd (grind arith)
    go (Some s) q h = ap (in_span k) (get_front spans more y s q) ∙ h

module _ (D : List Shape) (locals : List Tree) (s e new : Search) (spans spans2 : List Span) (span : Span) (x : ℕ) (t : Tree) (ts : List Tree) (w : Listed D locals s spans x (t ∷ ts)) (ep : e.path ≡ s.path) (en : e.places ≡ s.places) (el : e.local ≡ x) (g : Gathers e new [] (units D t)) (is : spans2 ≡ spans ++ span ∷ []) (from_is : span.from ≡ length s.places) (to_is : span.to ≡ length new.places) where
  here : List Place
  here = map (in_local x) (units D t)

  got : new.places ≡ s.places ++ map (in_local x) (units D t)
  got =
      sym (append-nil new.places) ∙ g.found
      ∙ ap (λ (xs : List Place). xs ++ map (place_from e) (units D t)) en
      ∙ ap (λ (xs : List Place). s.places ++ xs) (from_start e x el (ep ∙ w.no_path) (units D t))

  long : length new.places ≡ length s.places + length (map (in_local x) (units D t))
  long = ap length got ∙ length-append s.places (map (in_local x) (units D t))

  within_here : (y : ℕ) (sp : Span) → slice_get (spans ++ span ∷ []) y ≡ Some sp → sp.to ≤ length new.places
  within_here y sp q = elim (get_split spans (span ∷ []) y sp q) [
    | inl h ↦ (let m = w.spanned.within y sp h in omega (arith, long))
    | inr h ↦ last h.0 h.2
  ]
    where
      last : (j : ℕ) → slice_get (span ∷ []) j ≡ Some sp → sp.to ≤ length new.places
      last zero q = (let same : sp.to ≡ span.to = grind arith in omega (arith, to_is))
      last (suc j) q = absurd (grind arith)

  each_here : (k : ℕ) (u : Place) → slice_get (s.places ++ map (in_local x) (units D t)) k ≡ Some u → in_span k (slice_get (spans ++ span ∷ []) u.local) ≡ true
  each_here k u q = elim (get_split s.places (map (in_local x) (units D t)) k u q) [
    | inl h ↦ spanned_grown k u.local spans (span ∷ []) (w.spanned.each k u h)
    | inr h ↦ fresh h.0 h.1 h.2
  ]
    where
      fresh : (j : ℕ) → k ≡ length s.places + j → slice_get (map (in_local x) (units D t)) j ≡ Some u → in_span k (slice_get (spans ++ span ∷ []) u.local) ≡ true
      fresh j at q =
          let p = map_back (in_local x) (units D t) j u q in
          let local : u.local ≡ x = ap (λ (u : Place). u.local) (sym p.2) in
          let low : j < length (map (in_local x) (units D t)) = slice_get_within (map (in_local x) (units D t)) j u q in
          let above : nat_le span.from k ≡ true = (let m : span.from ≤ k = omega (arith, from_is) in grind arith) in
          let below : nat_lt k span.to ≡ true = (let m : k < span.to = omega (arith, to_is, long) in grind arith) in
          ap (λ y. in_span k (slice_get (spans ++ span ∷ []) y)) local ∙ ap (in_span k) (get_last spans span x w.counted) ∙ rw above below

  pub listed_more : Listed D locals new spans2 (x + 1) ts
  listed_more = record {
    no_path = g.same_path ∙ ep ∙ w.no_path;
    whole =
        ap (λ (xs : List Place). xs ++ units_of_locals D (x + 1) ts) got
        ∙ append_assoc s.places (map (in_local x) (units D t)) (units_of_locals D (x + 1) ts)
        ∙ ap (λ n. s.places ++ (map (in_local x) (units D t) ++ units_of_locals D n ts)) (let z : x + 1 ≡ suc x = omega arith in z)
        ∙ w.whole;
    counted = ap length is ∙ length-append spans (span ∷ []) ∙ ap (λ n. n + 1) w.counted;
    spanned = record {
      within = λ y sp q. within_here y sp (ap (λ xs. slice_get xs y) (sym is) ∙ q);
      each = λ k u q. ap (λ xs. in_span k (slice_get xs u.local)) is ∙ each_here k u (ap (λ xs. slice_get xs k) (sym got) ∙ q);
    };
  }

pub listed_none : (D : List Shape) (locals : List Tree) (s : Search) → s.path ≡ [] → s.places ≡ [] → Listed D locals s [] 0 locals
listed_none D locals s p e = record {
  no_path = p;
  whole = ap (λ (xs : List Place). xs ++ units_of_locals D 0 locals) e;
  counted = refl;
  spanned = record { within = λ y sp q. absurd (grind arith); each = λ k u q. absurd (let none = ap (λ xs. slice_get xs k) (sym e) ∙ q in grind arith) };
}

pub listed_all : (D : List Shape) (locals : List Tree) (s : Search) (spans : List Span) (at : ℕ) (left : List Tree) → left ≡ [] → Listed D locals s spans at left → s.places ≡ units_of_locals D 0 locals
listed_all D locals s spans at left e w = sym (append-nil s.places) ∙ ap (λ ts. s.places ++ units_of_locals D at ts) (sym e) ∙ w.whole

-- there are as many shapes as definitions
pub units_whole : (p : Program) (t : Tree) (n : ℕ) → n ≡ length p.defs → units_from (units_def (shapes_of (crate_of p)) n) 0 t ≡ units (shapes_of (crate_of p)) t
unfolding units shapes_of
units_whole p t n e =
    let same : n ≡ length (shapes_of (crate_of p)) = e ∙ sym (shapes_from-length (crate_of p).functions 0 (crate_of p).defs ∙ length-map p.defs (def_of (trees_of p.types))) in
    ap (λ m. units_from (units_def (shapes_of (crate_of p)) m) 0 t) same
