-- The static facts of units and flags: each flag is a local of its own, and stands for one unit.
use Rattle.std.proofs.Common.{◌≡◌, refl, sym, ap, ap₂, ◌∙◌, subst, ℕ, zero, suc, ◌+◌, ◌<◌, ◌≤◌, Bool, true, false, ◌&&◌, ◌||◌, nat_eq, if◌then◌else◌, List, [], ◌∷◌, ◌++◌, length, Option, Some, None, is_some, slice_get, arith}
use Rattle.std.proofs.lemmas.Bool.{eqb-true}
use Rattle.mir_syntax.specs.declared.body.Proj.{Proj}
use Rattle.mir_syntax.specs.declared.body.Place.{Place}
use Rattle.mir_syntax.specs.Tree.{Tree, named}
use Rattle.mir_syntax.specs.Shapes.{Shape, needs_drop}
use Rattle.mir_rules.specs.DefinitionRules.{holds}
use Rattle.mir_rules.specs.Weights.{one_unit, units_of_parts, units_of_shape, units_of, units_def, units}
use Rattle.mir_rules.proofs.FixedWeights.{units_named}
use Rattle.move_paths.specs.Effects.{units_of_body, goes_on, is_under}
use Rattle.drop_elab.specs.Elab.{Inits, want_flags, Flagged, with_flags, flag_locals, elab_by}
use Rattle.mir_relate.specs.Frames.{Change}
use Rattle.drop_elab.proofs.refines.Outer.{holds_unit, unit_in_ty}
use Rattle.drop_elab.proofs.refines.Sound.{Has}
use Rattle.drop_elab.proofs.refines.Begins.{kept_units}
use Rattle.drop_elab.proofs.refines.Bodies.{flags_of, first_new}
use Rattle.drop_elab.proofs.refines.Marks.{same_unit, flag_in}
use Rattle.drop_elab.proofs.refines.Ended.{goes_parts}

both : (a b : Bool) → (a && b) ≡ true → (a ≡ true) × (b ≡ true)
both true b e = (refl, e)
both false b e = absurd (grind arith)

-- ---- units at or under each other are the same

longer : (xs ys : List Proj) → length (xs ++ ys) ≡ length xs + length ys
longer [] ys = omega arith
longer (x ∷ xs) ys = let h = longer xs ys in omega (arith, h)

no_rest : (xs : List Proj) → xs ++ [] ≡ xs
no_rest [] = refl
no_rest (x ∷ xs) = ap (λ ys. x ∷ ys) (no_rest xs)

same_path : (ps qs : List Proj) → goes_on ps qs ≡ true → goes_on qs ps ≡ true → ps ≡ qs
same_path ps qs e f =
    let (r, a) = goes_parts ps qs e in
    let (s, b) = goes_parts qs ps f in
    go r a (let x = ap length a in let y = ap length b in let u = longer ps r in let v = longer qs s in omega (arith, x, y, u, v))
  where
    go : (r : List Proj) → qs ≡ ps ++ r → length r ≡ 0 → ps ≡ qs
    go [] a z = sym (a ∙ no_rest ps)
    go (p ∷ r) a z = absurd (omega (arith, z))

pub same_is : (u v : Place) → same_unit u v ≡ true → u ≡ v
same_is u v e =
    let (a, b) = both (is_under u v) (is_under v u) e in
    let (l, p) = both (nat_eq u.local v.local) (goes_on u.proj v.proj) a in
    let (m, q) = both (nat_eq v.local u.local) (goes_on v.proj u.proj) b in
    ap₂ (λ x ps. record { local = x; proj = ps }) (eqb-true u.local v.local l) (same_path u.proj v.proj p q)

-- ---- flags are numbered in order

pub flags_range : (x : ℕ) (us : List Place) (bs : List Bool) (k : ℕ) (f : Flagged) (y : ℕ) → slice_get (with_flags x us bs) k ≡ Some f → f.flag ≡ Some y → (x ≤ y) × (y < x + length (flag_locals bs))
flags_range x [] bs k f y e q = absurd (grind arith)
flags_range x (u ∷ us) [] k f y e q = absurd (grind arith)
flags_range x (u ∷ us) (true ∷ bs) zero f y e q =
    let z : record { unit = u; flag = Some x } ≡ f = grind arith in
    let w : ◌≡◌ {A = Option ℕ} (Some x) (Some y) = ap (λ (f : Flagged). f.flag) z ∙ q in
    let s : x ≡ y = grind arith in
    (omega (arith, s), omega (arith, s))
flags_range x (u ∷ us) (true ∷ bs) (suc k) f y e q = let (a, b) = flags_range (suc x) us bs k f y e q in (omega (arith, a), omega (arith, b))
flags_range x (u ∷ us) (false ∷ bs) zero f y e q =
    let z : record { unit = u; flag = None } ≡ f = grind arith in
    let w : ◌≡◌ {A = Option ℕ} None (Some y) = ap (λ (f : Flagged). f.flag) z ∙ q in
    absurd (grind arith)
flags_range x (u ∷ us) (false ∷ bs) (suc k) f y e q = flags_range x us bs k f y e q

pub same_flag : (x : ℕ) (us : List Place) (bs : List Bool) (k k' : ℕ) (f f' : Flagged) (y : ℕ) → slice_get (with_flags x us bs) k ≡ Some f → slice_get (with_flags x us bs) k' ≡ Some f' → f.flag ≡ Some y → f'.flag ≡ Some y → f ≡ f'
same_flag x [] bs k k' f f' y e e' q q' = absurd (grind arith)
same_flag x (u ∷ us) [] k k' f f' y e e' q q' = absurd (grind arith)
same_flag x (u ∷ us) (true ∷ bs) zero zero f f' y e e' q q' = grind arith
same_flag x (u ∷ us) (true ∷ bs) zero (suc k') f f' y e e' q q' =
    let z : record { unit = u; flag = Some x } ≡ f = grind arith in
    let w : ◌≡◌ {A = Option ℕ} (Some x) (Some y) = ap (λ (f : Flagged). f.flag) z ∙ q in
    let s : x ≡ y = grind arith in
    let (a, b) = flags_range (suc x) us bs k' f' y e' q' in
    absurd (omega (arith, s, a))
same_flag x (u ∷ us) (true ∷ bs) (suc k) zero f f' y e e' q q' =
    let z : record { unit = u; flag = Some x } ≡ f' = grind arith in
    let w : ◌≡◌ {A = Option ℕ} (Some x) (Some y) = ap (λ (f : Flagged). f.flag) z ∙ q' in
    let s : x ≡ y = grind arith in
    let (a, b) = flags_range (suc x) us bs k f y e q in
    absurd (omega (arith, s, a))
same_flag x (u ∷ us) (true ∷ bs) (suc k) (suc k') f f' y e e' q q' = same_flag (suc x) us bs k k' f f' y e e' q q'
same_flag x (u ∷ us) (false ∷ bs) zero k' f f' y e e' q q' =
    let z : record { unit = u; flag = None } ≡ f = grind arith in
    let w : ◌≡◌ {A = Option ℕ} None (Some y) = ap (λ (f : Flagged). f.flag) z ∙ q in
    absurd (grind arith)
same_flag x (u ∷ us) (false ∷ bs) (suc k) zero f f' y e e' q q' =
    let z : record { unit = u; flag = None } ≡ f' = grind arith in
    let w : ◌≡◌ {A = Option ℕ} None (Some y) = ap (λ (f : Flagged). f.flag) z ∙ q' in
    absurd (grind arith)
same_flag x (u ∷ us) (false ∷ bs) (suc k) (suc k') f f' y e e' q q' = same_flag x us bs k k' f f' y e e' q q'

pub flag_found : (q : Place) (fs : List Flagged) (y : ℕ) → flag_in q fs ≡ Some y → (k : ℕ) × (f : Flagged) × (slice_get fs k ≡ Some f) × (f.flag ≡ Some y) × (same_unit q f.unit ≡ true)
flag_found q [] y e = absurd (grind arith)
flag_found q (f ∷ fs) y e = go (same_unit q f.unit) refl e (λ e. flag_found q fs y e)
  where
    go : (b : Bool) → same_unit q f.unit ≡ b → (if b then f.flag else flag_in q fs) ≡ Some y → (flag_in q fs ≡ Some y → (k : ℕ) × (g : Flagged) × (slice_get fs k ≡ Some g) × (g.flag ≡ Some y) × (same_unit q g.unit ≡ true)) → (k : ℕ) × (g : Flagged) × (slice_get (f ∷ fs) k ≡ Some g) × (g.flag ≡ Some y) × (same_unit q g.unit ≡ true)
    go true s e ih = (0, f, refl, e, s)
    go false s e ih = let (k, g, a, b, c) = ih e in (suc k, g, a, b, c)

-- ---- among the locals

get_front : (ys zs : List Tree) (y : ℕ) → y < length ys → (t : Tree) × (slice_get (ys ++ zs) y ≡ Some t)
get_front [] zs y lt = absurd (omega (arith, lt))
get_front (t ∷ ys) zs zero lt = (t, refl)
get_front (t ∷ ys) zs (suc y) lt = get_front ys zs y (omega (arith, lt))

get_mid : (xs ys zs : List Tree) (y : ℕ) → length xs ≤ y → y < length xs + length ys → (t : Tree) × (slice_get (xs ++ (ys ++ zs)) y ≡ Some t)
get_mid [] ys zs y le lt = get_front ys zs y (omega (arith, lt))
get_mid (x ∷ xs) ys zs zero le lt = absurd (omega (arith, le))
get_mid (x ∷ xs) ys zs (suc y) le lt = get_mid xs ys zs y (omega (arith, le)) (omega (arith, lt))

pub get_none : (xs : List Tree) (y : ℕ) → length xs ≤ y → slice_get xs y ≡ None
get_none [] y le = refl
get_none (x ∷ xs) zero le = absurd (omega (arith, le))
get_none (x ∷ xs) (suc y) le = get_none xs y (omega (arith, le))

module _ (X : Change) (inits : Inits) where
  abbrev D : List Shape
  D = X.source.shapes

  abbrev us : List Place
  us = units_of_body X.source.shapes X.body1

  abbrev fs : List Flagged
  fs = flags_of X.source.shapes X.body1 inits

  abbrev wanted : List Bool
  wanted = want_flags us inits 0 X.body1.blocks

  -- a flag belongs to one unit
  pub one : (u u' : Place) (x : ℕ) → flag_in u fs ≡ Some x → flag_in u' fs ≡ Some x → u ≡ u'
  one u u' x e e' =
      let (k, f, a, b, c) = flag_found u fs x e in
      let (k', f', a', b', c') = flag_found u' fs x e' in
      let same : f ≡ f' = same_flag (length X.body1.locals) us wanted k k' f f' x a a' b b' in
      same_is u f.unit c ∙ ap (λ (f : Flagged). f.unit) same ∙ sym (same_is u' f'.unit c')

  pub flags_there : (q : Place) (y : ℕ) → flag_in q fs ≡ Some y → (t : Tree) × (slice_get (elab_by X.source.shapes X.body1 inits).locals y ≡ Some t) × (slice_get X.body1.locals y ≡ None)
  unfolding elab_by
  flags_there q y e =
      let (k, f, a, b, c) = flag_found q fs y e in
      let (lo, hi) = flags_range (length X.body1.locals) us wanted k f y a b in
      let (t, et) = get_mid X.body1.locals (flag_locals wanted) _ y lo hi in
      (t, et, get_none X.body1.locals y lo)

  -- each flag is a further local
  pub flag_local : (k : ℕ) (f : Flagged) (y : ℕ) → slice_get fs k ≡ Some f → f.flag ≡ Some y → (t : Tree) × (slice_get (elab_by X.source.shapes X.body1 inits).locals y ≡ Some t) × (slice_get X.body1.locals y ≡ None)
  unfolding elab_by
  flag_local k f y a b =
      let (lo, hi) = flags_range (length X.body1.locals) us wanted k f y a b in
      let (t, et) = get_mid X.body1.locals (flag_locals wanted) _ y lo hi in
      (t, et, get_none X.body1.locals y lo)

  pub flags_low : (q : Place) (y : ℕ) → flag_in q fs ≡ Some y → y < first_new X.source.shapes X.body1 inits
  flags_low q y e =
      let (k, f, a, b, c) = flag_found q fs y e in
      (flags_range (length X.body1.locals) us wanted k f y a b).1

  pub past : (x : ℕ) → first_new X.source.shapes X.body1 inits ≤ x → slice_get X.body1.locals x ≡ None
  past x le = get_none X.body1.locals x (omega (arith, le))

pub kept_are : (p u : Place) (ws : List Place) → Has (kept_units p ws) u → Has ws u × (is_under p u ≡ true)
kept_are p u [] (i, e) = absurd (grind arith)
kept_are p u (w ∷ ws) h = go (is_under p w) refl h (λ g. kept_are p u ws g)
  where
    go : (b : Bool) → is_under p w ≡ b → Has (if b then w ∷ kept_units p ws else kept_units p ws) u → (Has (kept_units p ws) u → Has ws u × (is_under p u ≡ true)) → Has (w ∷ ws) u × (is_under p u ≡ true)
    go true q (zero, e) ih = let z : w ≡ u = grind arith in ((0, e), subst (λ w. is_under p w ≡ true) z q)
    go true q (suc i, e) ih = let ((k, f), b) = ih (i, e) in ((suc k, f), b)
    go false q h ih = let ((k, f), b) = ih h in ((suc k, f), b)

-- the units of a unit's type
module _ (D : List Shape) (apart : (d : ℕ) → holds D (length D) d d ≡ false) where
  pub unit_is : (t : Tree) → unit_in_ty D t ≡ true → needs_drop D t ≡ true → units D t ≡ [] ∷ []
  unfolding units
  unit_is (named d) un nd = by_shape (slice_get D d) refl un
    where
      start : units D (named d) ≡ units_of (units_def D (length D)) (needs_drop D (named d)) (slice_get D d)
      start = units_named D apart d

      by_shape : (o : Option Shape) → slice_get D d ≡ o → holds_unit o ≡ true → units D (named d) ≡ [] ∷ []
      by_shape None e h = absurd (grind arith)
      by_shape (Some s) e h = start ∙ ap (units_of (units_def D (length D)) (needs_drop D (named d))) e ∙ by_destructor (is_some s.destructor) refl
        where
          by_destructor : (b : Bool) → is_some s.destructor ≡ b → units_of_shape (units_def D (length D)) (needs_drop D (named d)) b s ≡ [] ∷ []
          by_destructor true q = refl
          by_destructor false q = ap (λ b. units_of_parts (units_def D (length D)) (needs_drop D (named d)) b s.variants) (enum s.is_enum (is_some s.destructor) h q) ∙ ap one_unit nd
            where
              enum : (a b : Bool) → (a || b) ≡ true → b ≡ false → a ≡ true
              enum true b h q = refl
              enum false b h q = absurd (let z : true ≡ false = sym h ∙ q in grind arith)
  unit_is t un nd = absurd (grind arith)
