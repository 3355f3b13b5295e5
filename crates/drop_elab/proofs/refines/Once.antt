-- No unit of a body stands twice.
use Rattle.std.proofs.Common.{◌≡◌, ◌⊎◌, inl, inr, refl, sym, ◌∙◌, subst, ℕ, zero, suc, ◌≤◌, Bool, true, false, if◌then◌else◌, List, [], ◌∷◌, ◌++◌, map, length, Option, Some, None, is_some, slice_get, arith}
use Rattle.mir_syntax.specs.declared.body.Proj.{Proj}
use Rattle.mir_syntax.specs.declared.body.Proj.TheVariants.{Field}
use Rattle.mir_syntax.specs.declared.body.Place.{Place}
use Rattle.mir_syntax.specs.Tree.{Tree, scalar, empty, more, named}
use Rattle.mir_syntax.specs.Tree as tree
use Rattle.mir_syntax.specs.Shapes.{Shape, first_variant, needs_drop}
use Rattle.mir_rules.specs.Weights.{under, units_from, one_unit, units_of_parts, units_of_shape, units_of, units_def, units}
use Rattle.move_paths.specs.Effects.{in_local, units_of_locals, is_under}
use Rattle.drop_elab.proofs.refines.Items.{IsTuple, Proper, ProperShapes}
use Rattle.drop_elab.proofs.refines.Sound.{Has}
use Rattle.drop_elab.proofs.refines.Begins.{kept_units}
use Rattle.drop_elab.proofs.refines.Solid.{has_split, in_units, unit_of_local}
use Rattle.drop_elab.proofs.refines.Stages.{NoDup}
use Rattle.drop_elab.proofs.refines.Flags.{kept_are}

abbrev pub NoTwice : List (List Proj) → Type 0
NoTwice [] = Unit {0}
NoTwice (u ∷ us) = (Has us u → ⊥) × NoTwice us

paths_append : (xs ys : List (List Proj)) → NoTwice xs → NoTwice ys → ((u : List Proj) → Has xs u → Has ys u → ⊥) → NoTwice (xs ++ ys)
paths_append [] ys a b n = b
paths_append (x ∷ xs) ys a b n = (λ h. go (has_split xs ys x h), paths_append xs ys a.1 b (λ u (i, e) g. n u (suc i, e) g))
  where
    go : Has xs x ⊎ Has ys x → ⊥
    go (inl h) = a.0 h
    go (inr h) = n x (0, refl) h

has_under : (n : ℕ) (us : List (List Proj)) (w : List Proj) → Has (map (under n) us) w → (u : List Proj) × (w ≡ Field n ∷ u) × Has us u
has_under n [] w (i, e) = absurd (grind arith)
has_under n (u ∷ us) w (zero, e) = (u, (let z : under n u ≡ w = grind arith in sym z), (0, refl))
has_under n (u ∷ us) w (suc i, e) = let (v, a, (k, f)) = has_under n us w (i, e) in (v, a, (suc k, f))

tail_eq : (p q : Proj) (u v : List Proj) → p ∷ u ≡ q ∷ v → u ≡ v
tail_eq p q u v e = grind arith

head_eq : (m n : ℕ) (u v : List Proj) → Field m ∷ u ≡ Field n ∷ v → m ≡ n
head_eq m n u v e = grind arith

paths_under : (n : ℕ) (us : List (List Proj)) → NoTwice us → NoTwice (map (under n) us)
paths_under n [] h = tt
paths_under n (u ∷ us) h = (λ g. (let (v, a, k) = has_under n us (under n u) g in h.0 (subst (λ w. Has us w) (sym (tail_eq (Field n) (Field n) u v a)) k)), paths_under n us h.1)

module _ (D : List Shape) (proper : ProperShapes D) where
  -- units of a row begin with a field from its number on
  heads : (of_def : ℕ → List (List Proj)) (n : ℕ) (t : Tree) (w : List Proj) → IsTuple t → Proper t → Has (units_from of_def n t) w → (m : ℕ) × (u : List Proj) × (w ≡ Field m ∷ u) × (n ≤ m)
  heads of_def n empty w it pr (i, e) = absurd (grind arith)
  heads of_def n (more t ts) w it pr h = go (has_split (map (under n) (units_from of_def 0 t)) (units_from of_def (suc n) ts) w h) (λ g. heads of_def (suc n) ts w pr.1 pr.2 g)
    where
      go : Has (map (under n) (units_from of_def 0 t)) w ⊎ Has (units_from of_def (suc n) ts) w → (Has (units_from of_def (suc n) ts) w → (m : ℕ) × (u : List Proj) × (w ≡ Field m ∷ u) × (suc n ≤ m)) → (m : ℕ) × (u : List Proj) × (w ≡ Field m ∷ u) × (n ≤ m)
      go (inl g) ih = let (u, a, k) = has_under n (units_from of_def 0 t) w g in (n, u, a, omega arith)
      go (inr g) ih = let (m, u, a, le) = ih g in (m, u, a, omega (arith, le))
  heads of_def n (scalar s) w it pr h = absurd it
  heads of_def n (tree.ref t) w it pr h = absurd it
  heads of_def n (tree.ref_mut t) w it pr h = absurd it
  heads of_def n (named d) w it pr h = absurd it

  from_once : (of_def : ℕ → List (List Proj)) → ((d : ℕ) → NoTwice (of_def d)) → (n : ℕ) (t : Tree) → Proper t → NoTwice (units_from of_def n t)
  from_once of_def h n (more t ts) pr = paths_append (map (under n) (units_from of_def 0 t)) (units_from of_def (suc n) ts) (paths_under n (units_from of_def 0 t) (from_once of_def h 0 t pr.0)) (from_once of_def h (suc n) ts pr.2) (λ w a b. (let (u, p, k) = has_under n (units_from of_def 0 t) w a in let (m, v, q, le) = heads of_def (suc n) ts w pr.1 pr.2 b in let z = head_eq n m u v (sym p ∙ q) in omega (arith, z, le)))
  from_once of_def h n (named d) pr = h d
  from_once of_def h n empty pr = tt
  from_once of_def h n (scalar s) pr = tt
  from_once of_def h n (tree.ref t) pr = tt
  from_once of_def h n (tree.ref_mut t) pr = tt

  one_once : (b : Bool) → NoTwice (one_unit b)
  one_once true = (λ h. (let (i, e) = h in grind arith), tt)
  one_once false = tt

  def_once : (n d : ℕ) → NoTwice (units_def D n d)
  def_once zero d = tt
  def_once (suc n) d = by_shape (slice_get D d) refl (λ k. def_once n k)
    where
      by_shape : (o : Option Shape) → slice_get D d ≡ o → ((k : ℕ) → NoTwice (units_def D n k)) → NoTwice (units_of (units_def D n) (needs_drop D (named d)) o)
      by_shape None e ih = tt
      by_shape (Some s) e ih = pick (is_some s.destructor)
        where
          first : (ts : List Tree) → ((k : ℕ) (t : Tree) → slice_get ts k ≡ Some t → IsTuple t × Proper t) → Proper (first_variant ts)
          first [] h = tt
          first (t ∷ ts) h = (h 0 t refl).1

          parts : (b : Bool) → NoTwice (units_of_parts (units_def D n) (needs_drop D (named d)) b s.variants)
          parts true = one_once (needs_drop D (named d))
          parts false = from_once (units_def D n) ih 0 (first_variant s.variants) (first s.variants (proper d s e))

          pick : (b : Bool) → NoTwice (units_of_shape (units_def D n) (needs_drop D (named d)) b s)
          pick true = one_once true
          pick false = parts s.is_enum

  units_once : (t : Tree) → Proper t → NoTwice (units D t)
  unfolding units
  units_once t pr = from_once (units_def D (length D)) (λ d. def_once (length D) d) 0 t pr

  in_local_once : (x : ℕ) (us : List (List Proj)) → NoTwice us → NoDup (map (in_local x) us)
  in_local_once x [] h = tt
  in_local_once x (u ∷ us) h = (λ g. h.0 (in_units x us (in_local x u) g).1, in_local_once x us h.1)

  places_append : (xs ys : List Place) → NoDup xs → NoDup ys → ((u : Place) → Has xs u → Has ys u → ⊥) → NoDup (xs ++ ys)
  places_append [] ys a b n = b
  places_append (x ∷ xs) ys a b n = (λ h. go (has_split xs ys x h), places_append xs ys a.1 b (λ u (i, e) g. n u (suc i, e) g))
    where
      go : Has xs x ⊎ Has ys x → ⊥
      go (inl h) = a.0 h
      go (inr h) = n x (0, refl) h

  pub locals_once : (x : ℕ) (ts : List Tree) → ((k : ℕ) (t : Tree) → slice_get ts k ≡ Some t → Proper t) → NoDup (units_of_locals D x ts)
  locals_once x [] h = tt
  locals_once x (t ∷ ts) h = places_append (map (in_local x) (units D t)) (units_of_locals D (suc x) ts) (in_local_once x (units D t) (units_once t (h 0 t refl))) (locals_once (suc x) ts (λ k u e. h (suc k) u e)) (λ u a b. (let (p, q) = in_units x (units D t) u a in let (j, lt, l, el, hu) = unit_of_local D (suc x) ts u b in omega (arith, p, l)))

pub kept_once : (p : Place) (ws : List Place) → NoDup ws → NoDup (kept_units p ws)
kept_once p [] h = tt
kept_once p (w ∷ ws) h = go (is_under p w) (kept_once p ws h.1)
  where
    go : (b : Bool) → NoDup (kept_units p ws) → NoDup (if b then w ∷ kept_units p ws else kept_units p ws)
    go true ih = (λ g. h.0 (kept_are p w ws g).0, ih)
    go false ih = ih
