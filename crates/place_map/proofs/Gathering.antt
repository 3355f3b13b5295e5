-- What a search for scalars has found, part by part.
use Rattle.std.proofs.Common.{◌≡◌, refl, sym, ap, ◌∙◌, subst, ℕ, zero, suc, ◌+◌, ◌≤◌, ◌<◌, Bool, true, false, if◌then◌else◌, List, [], ◌∷◌, ◌++◌, map, length, take, drop, get_or, Option, Some, None, MatchOption, arith}
use Rattle.std.proofs.lemmas.List.{append_assoc, append-nil, map-append, take-append-le, at_drop_more, take_all, length-append, length-map, drop_all}
use Rattle.mir_syntax.specs.declared.body.Proj.{Proj}
use Rattle.mir_syntax.specs.declared.body.Proj.TheVariants.{Field}
use Rattle.mir_syntax.specs.declared.types.TyId.{TyId}
use Rattle.mir_syntax.specs.Tree.{Tree, more, at_id, at_ids, trees_of}
use Rattle.mir_syntax.specs.declared.body.Place.{Place}
use Rattle.mir_syntax.specs.Shapes.{Shape, shapes_of, fields_tree}
use Rattle.mir_syntax.specs.declared.types.Field.{Field as StructField}
use Rattle.mir_syntax.specs.declared.program.Program.{Program}
use Rattle.mir_syntax.specs.declared.body.Body.{Body}
use Rattle.mir_syntax.specs.Crate.{crate_of, def_of, block_of, body_of}
use Rattle.mir_syntax.proofs.Places.{shapes_from-length}
use Rattle.place_map.specs.declared.scalars.Found.{Found}
use Rattle.place_map.specs.Tracked.{deeper, scalars_by, scalars, scalars_def, place_at, untaken_scalars, most_tracked, tracked}
use Rattle.place_map.specs.Finding.{place_from, places_from, Gathers}

pub take_again : {A : Type 0} (n : ℕ) (xs ys : List A) → take n (take n xs ++ ys) ≡ take n (xs ++ ys)
take_again zero xs ys = refl
take_again (suc n) [] ys = refl
take_again (suc n) (x ∷ xs) ys = ap (λ zs. x ∷ zs) (take_again n xs ys)

pub gathers_all : (s : Found) (ways : List (List Proj)) → length s.places ≤ s.most → Gathers s s ways ways
gathers_all s ways few = record { same_most = refl; same_local = refl; same_path = refl; few = few; found = refl }

pub gathers_full : (s : Found) (ways : List (List Proj)) → length s.places ≤ s.most → s.most ≤ length s.places → Gathers s s [] ways
gathers_full s ways few full = record {
  same_most = refl;
  same_local = refl;
  same_path = refl;
  few = few;
  found = take-append-le s.most s.places [] full ∙ sym (take-append-le s.most s.places (places_from s ways) full);
}

-- from behind a field on
pub from_field : (s e : Found) (i : ℕ) → e.local ≡ s.local → e.path ≡ s.path ++ Field i ∷ [] → (ways : List (List Proj)) → places_from e ways ≡ places_from s (map (deeper i) ways)
from_field s e i l p [] = refl
from_field s e i l p (w ∷ ways) = (let one : place_from e w ≡ place_from s (Field i ∷ w) = rw l (rw p (ap (λ ps. record { local = s.local; proj = ps }) (append_assoc s.path (Field i ∷ []) w))) in rw one (ap (λ xs. place_from s (Field i ∷ w) ∷ xs) (from_field s e i l p ways)))

-- a field's scalars were found, and the search went back
pub gathers_field : (old now e found new : Found) (i : ℕ) (ws left ways : List (List Proj)) → Gathers old now (map (deeper i) ws ++ left) ways
    → e.most ≡ now.most → e.local ≡ now.local → e.places ≡ now.places → e.path ≡ now.path ++ Field i ∷ [] → Gathers e found [] ws
    → new.most ≡ found.most → new.local ≡ found.local → new.places ≡ found.places → new.path ≡ now.path
    → Gathers old new left ways
gathers_field old now e found new i ws left ways g em el ep ee w nm nl np nn = record {
  same_most = nm ∙ w.same_most ∙ em ∙ g.same_most;
  same_local = nl ∙ w.same_local ∙ el ∙ g.same_local;
  same_path = nn ∙ g.same_path;
  few = (let small = w.few in let same : e.most ≡ old.most = em ∙ g.same_most in rw np (rw (sym same) small));
  found = step;
}
  where
    most_is : e.most ≡ old.most
    most_is = em ∙ g.same_most

    path_is : e.path ≡ old.path ++ Field i ∷ []
    path_is = ee ∙ ap (λ ps. ps ++ Field i ∷ []) g.same_path

    -- what lies behind the field
    new_places : List Place
    new_places = places_from old (map (deeper i) ws)

    kept : take old.most (found.places ++ []) ≡ take old.most (now.places ++ new_places)
    kept =
        ap (λ n. take n (found.places ++ [])) (sym most_is)
        ∙ w.found
        ∙ ap (λ n. take n (e.places ++ places_from e ws)) most_is
        ∙ ap (λ xs. take old.most (xs ++ places_from e ws)) ep
        ∙ ap (λ xs. take old.most (now.places ++ xs)) (from_field old e i (el ∙ g.same_local) path_is ws)

    whole : found.places ≡ take old.most (now.places ++ new_places)
    whole =
        sym (take_all old.most found.places (let small = w.few in rw (sym most_is) small))
        ∙ ap (take old.most) (sym (append-nil found.places))
        ∙ kept

    step : take old.most (new.places ++ places_from old left) ≡ take old.most (old.places ++ places_from old ways)
    step =
        ap (λ xs. take old.most (xs ++ places_from old left)) (np ∙ whole)
        ∙ take_again old.most (now.places ++ new_places) (places_from old left)
        ∙ ap (take old.most) (append_assoc now.places new_places (places_from old left) ∙ ap (λ xs. now.places ++ xs) (sym (map-append (place_from old) (map (deeper i) ws) left)))
        ∙ g.found

-- ---- over all locals

-- what was found in the locals before, and what lies in those that are left, is what lies in all
pub record IsOnTheWay (D : List Shape) (taken : ℕ → Bool) (locals : List Tree) (most : ℕ) (found : Found) (at : ℕ) (left : List Tree) : Type 0 where
  pub same_most : found.most ≡ most
  pub no_path : found.path ≡ []
  pub few : length found.places ≤ most
  pub whole : take most (found.places ++ untaken_scalars D taken at left) ≡ take most (untaken_scalars D taken 0 locals)

from_start : (s : Found) (x : ℕ) → s.local ≡ x → s.path ≡ [] → (ways : List (List Proj)) → places_from s ways ≡ map (place_at x) ways
from_start s x l p [] = refl
from_start s x l p (w ∷ ways) = (let one : place_from s w ≡ place_at x w = rw l (rw p refl) in rw one (ap (λ xs. place_at x w ∷ xs) (from_start s x l p ways)))

pub way_taken : (D : List Shape) (taken : ℕ → Bool) (locals : List Tree) (most : ℕ) (s e : Found) (x : ℕ) (t : Tree) (ts : List Tree) → IsOnTheWay D taken locals most s x (t ∷ ts)
    → taken x ≡ true → e.most ≡ s.most → e.path ≡ s.path → e.places ≡ s.places → IsOnTheWay D taken locals most e (suc x) ts
way_taken D taken locals most s e x t ts w is em ep en = record {
  same_most = em ∙ w.same_most;
  no_path = ep ∙ w.no_path;
  few = rw en w.few;
  whole = rw en (ap (λ b. take most (s.places ++ ((if b then [] else map (place_at x) (scalars D t)) ++ untaken_scalars D taken (suc x) ts))) (sym is) ∙ w.whole);
}

pub way_found : (D : List Shape) (taken : ℕ → Bool) (locals : List Tree) (most : ℕ) (s e new : Found) (x : ℕ) (t : Tree) (ts : List Tree) → IsOnTheWay D taken locals most s x (t ∷ ts)
    → taken x ≡ false → e.most ≡ s.most → e.path ≡ s.path → e.places ≡ s.places → e.local ≡ x → Gathers e new [] (scalars D t) → IsOnTheWay D taken locals most new (suc x) ts
way_found D taken locals most s e new x t ts w is em ep en el g = record {
  same_most = g.same_most ∙ most_is;
  no_path = g.same_path ∙ ep ∙ w.no_path;
  few = rw (sym most_is) g.few;
  whole = step;
}
  where
    most_is : e.most ≡ most
    most_is = em ∙ w.same_most

    here : List Place
    here = map (place_at x) (scalars D t)

    got : new.places ≡ take most (s.places ++ here)
    got =
        sym (take_all most new.places (rw (sym most_is) g.few))
        ∙ ap (take most) (sym (append-nil new.places))
        ∙ ap (λ n. take n (new.places ++ [])) (sym most_is)
        ∙ g.found
        ∙ ap (λ n. take n (e.places ++ places_from e (scalars D t))) most_is
        ∙ ap (λ xs. take most (xs ++ places_from e (scalars D t))) en
        ∙ ap (λ xs. take most (s.places ++ xs)) (from_start e x el (ep ∙ w.no_path) (scalars D t))

    step : take most (new.places ++ untaken_scalars D taken (suc x) ts) ≡ take most (untaken_scalars D taken 0 locals)
    step =
        ap (λ xs. take most (xs ++ untaken_scalars D taken (suc x) ts)) got
        ∙ take_again most (s.places ++ here) (untaken_scalars D taken (suc x) ts)
        ∙ ap (take most) (append_assoc s.places here (untaken_scalars D taken (suc x) ts))
        ∙ ap (λ b. take most (s.places ++ ((if b then [] else here) ++ untaken_scalars D taken (suc x) ts))) (sym is)
        ∙ w.whole

snoc_front : {A : Type 0} (xs ys : List A) (x y : A) → xs ++ x ∷ [] ≡ ys ++ y ∷ [] → xs ≡ ys
snoc_front [] [] x y e = refl
snoc_front [] (b ∷ ys) x y e = absurd (let long = ap length e in let more = length-append ys (y ∷ []) in omega arith)
snoc_front (a ∷ xs) [] x y e = absurd (let long = ap length e in let more = length-append xs (x ∷ []) in omega arith)
snoc_front (a ∷ xs) (b ∷ ys) x y e = (let one : a ≡ b = cc in let rest : xs ++ x ∷ [] ≡ ys ++ y ∷ [] = cc in rw one (ap (λ zs. b ∷ zs) (snoc_front xs ys x y rest)))

-- ---- steps of the loops over fields

popped : {A : Type 0} (o : Option A) (p q s : List A) (x : A) → MatchOption o ((p ≡ []) × (q ≡ [])) (λ last. p ≡ q ++ last ∷ []) → p ≡ s ++ x ∷ [] → q ≡ s
popped None p q s x h e = absurd (let long = ap length (sym h.0 ∙ e) in let more = length-append s (x ∷ []) in omega arith)
popped (Some last) p q s x h e = snoc_front q s last x (sym h ∙ e)

module _ (f : ℕ → List (List Proj)) (trees : List Tree) (old now e found : Found) (path : List Proj) (i : ℕ) (o : Option Proj) (entered : (e.most ≡ now.most) × ((e.local ≡ now.local) × ((e.places ≡ now.places) × (e.path ≡ now.path ++ Field i ∷ [])))) (went : MatchOption o ((found.path ≡ []) × (path ≡ [])) (λ last. found.path ≡ path ++ last ∷ [])) where
  abbrev pub back : List Proj → Found
  back ps = record { most = found.most; local = found.local; path = ps; places = found.places }

  some_part : (left : Tree) (t ts : Tree) (ways : List (List Proj)) → scalars_by f (Some i) left ≡ scalars_by f (Some i) (more t ts) → Gathers old now (scalars_by f (Some i) left) ways
      → Gathers e found [] (scalars_by f None t) → Gathers old (back path) (scalars_by f (Some (i + 1)) ts) ways
  some_part left t ts ways is g w =
      let whole : Gathers old now (map (deeper i) (scalars_by f None t) ++ scalars_by f (Some (suc i)) ts) ways = subst (λ ws. Gathers old now ws ways) is g in
      let next : suc i ≡ i + 1 = omega arith in
      subst (λ n. Gathers old (back path) (scalars_by f (Some n) ts) ways) next (gathers_field old now e found (back path) i (scalars_by f None t) (scalars_by f (Some (suc i)) ts) ways whole
      entered.0 entered.1.0 entered.1.1.0 entered.1.1.1 w refl refl refl (popped o found.path path now.path (Field i) went (w.same_path ∙ entered.1.1.1)))

  pub some_id : (ids : List TyId) (d : TyId) (ways : List (List Proj)) → i < length ids → Gathers old now (scalars_by f (Some i) (at_ids trees (drop i ids))) ways → Gathers e found [] (scalars_by f None (at_id trees (get_or ids i d)))
      → Gathers old (back path) (scalars_by f (Some (i + 1)) (at_ids trees (drop (i + 1) ids))) ways
  some_id ids d ways l g w = some_part (at_ids trees (drop i ids)) (at_id trees (get_or ids i d)) (at_ids trees (drop (i + 1) ids)) ways (at_drop_more (λ xs. scalars_by f (Some i) (at_ids trees xs)) ids i d l) g w

  pub some_field : (fields : List StructField) (d : StructField) (ways : List (List Proj)) → i < length fields → Gathers old now (scalars_by f (Some i) (fields_tree trees (drop i fields))) ways → Gathers e found [] (scalars_by f None (at_id trees (get_or fields i d).ty))
      → Gathers old (back path) (scalars_by f (Some (i + 1)) (fields_tree trees (drop (i + 1) fields))) ways
  some_field fields d ways l g w = some_part (fields_tree trees (drop i fields)) (at_id trees (get_or fields i d).ty) (fields_tree trees (drop (i + 1) fields)) ways (at_drop_more (λ xs. scalars_by f (Some i) (fields_tree trees xs)) fields i d l) g w

-- a tuple's scalars are those of its fields
pub tuple_scalars : (f : ℕ → List (List Proj)) (trees : List Tree) (ids : List TyId) → scalars_by f (Some 0) (at_ids trees ids) ≡ scalars_by f None (at_ids trees ids)
tuple_scalars f trees [] = refl
tuple_scalars f trees (id ∷ ids) = refl

-- ---- the whole search

-- there are as many shapes as definitions
pub scalars_whole : (p : Program) (t : Tree) (n : ℕ) → n ≡ length p.defs → scalars_by (scalars_def (shapes_of (crate_of p)) n) None t ≡ scalars (shapes_of (crate_of p)) t
unfolding scalars shapes_of
scalars_whole p t n e =
    let same : n ≡ length (shapes_of (crate_of p)) = e ∙ sym (shapes_from-length (crate_of p).functions 0 (crate_of p).defs ∙ length-map p.defs (def_of (trees_of p.types))) in
    ap (λ m. scalars_by (scalars_def (shapes_of (crate_of p)) m) None t) same

pub way_done : (D : List Shape) (taken : ℕ → Bool) (trees : List Tree) (body : Body) (found : Found) (i : ℕ) → IsOnTheWay D taken (map (at_id trees) body.locals) (most_tracked (length body.blocks)) found i (map (at_id trees) (drop i body.locals))
    → length body.locals ≤ i → found.places ≡ tracked D taken (body_of trees body)
unfolding tracked
way_done D taken trees body found i w past =
    let most = most_tracked (length body.blocks) in
    let blocks : length (map (block_of trees) body.blocks) ≡ length body.blocks = length-map body.blocks (block_of trees) in
    let none : untaken_scalars D taken i (map (at_id trees) (drop i body.locals)) ≡ [] = ap (λ xs. untaken_scalars D taken i (map (at_id trees) xs)) (drop_all i body.locals past) in
    sym (take_all most found.places w.few)
    ∙ ap (take most) (sym (append-nil found.places) ∙ ap (λ xs. found.places ++ xs) (sym none))
    ∙ w.whole
    ∙ ap (λ n. take (most_tracked n) (untaken_scalars D taken 0 (map (at_id trees) body.locals))) (sym blocks)
