-- What a run has made of the units is what some path leaves of them, so their statuses at drops are right.
use Rattle.std.proofs.Common.{◌≡◌, refl, sym, ap, ◌∙◌, subst, ℕ, zero, suc, ◌<◌, Bool, true, false, IsTrue, List, [], ◌∷◌, length, get_or, Option, Some, None, slice_get, arith}
use Rattle.std.specs.List.{Contains}
use Rattle.mir_syntax.specs.declared.body.Place.{Place}
use Rattle.mir_syntax.specs.Crate.{TypedStmt, TypedBlock, TypedBody}
use Rattle.mir_syntax.specs.Shapes.{Shape}
use Rattle.mir_syntax.specs.Parts.{targets}
use Rattle.bit_rows.specs.Rows.{row_at, flag}
use Rattle.move_paths.specs.Effects.{units_of_body, effect}
use Rattle.move_paths.specs.Inits.{after_effect, after_stmts, Comes, SurelyAt}
use Rattle.drop_elab.specs.Elab.{Inits, IsInits, Status, dead, static, conditional, status_of, statuses, statuses_at}

-- which units are initialised, now
abbrev pub Held : Type 0
Held = Place → Bool

abbrev pub Has : {A : Type 0} → List A → A → Type 0
Has xs x = (i : ℕ) × (slice_get xs i ≡ Some x)

-- at a block's start: some path leaves each unit so
abbrev pub SoundAt : List Shape → TypedBody → ℕ → Held → Type 0
SoundAt D b i now = (u : Place) → Has (units_of_body D b) u → Comes b u i (now u)

-- before these statements, which are left of a block
abbrev pub SoundBefore : List Shape → TypedBody → ℕ → TypedBlock → List TypedStmt → Held → Type 0
SoundBefore D b i k ss now = (u : Place) → Has (units_of_body D b) u → (was : Bool) × Comes b u i was × (after_stmts u ss (now u) ≡ after_stmts u k.stmts was)

module _ (D : List Shape) (b : TypedBody) where
  pub sound_start : (i : ℕ) (k : TypedBlock) (now : Held) → SoundAt D b i now → SoundBefore D b i k k.stmts now
  sound_start i k now h u hu = (now u, h u hu, refl)

  -- units that are the same are sound too
  pub sound_same : (i : ℕ) (k : TypedBlock) (ss : List TypedStmt) (now now' : Held) → ((u : Place) → Has (units_of_body D b) u → now' u ≡ now u) → SoundBefore D b i k ss now → SoundBefore D b i k ss now'
  sound_same i k ss now now' same h u hu = (let (was, c, e) = h u hu in (was, c, ap (after_stmts u ss) (same u hu) ∙ e))

  pub sound_at_same : (i : ℕ) (now now' : Held) → ((u : Place) → Has (units_of_body D b) u → now' u ≡ now u) → SoundAt D b i now → SoundAt D b i now'
  sound_at_same i now now' same h u hu = subst (Comes b u i) (sym (same u hu)) (h u hu)

  -- after a statement
  pub sound_after : (i : ℕ) (k : TypedBlock) (s : TypedStmt) (ss : List TypedStmt) (now now' : Held) → ((u : Place) → Has (units_of_body D b) u → now' u ≡ after_effect (effect u s) (now u)) → SoundBefore D b i k (s ∷ ss) now → SoundBefore D b i k ss now'
  sound_after i k s ss now now' same h u hu = (let (was, c, e) = h u hu in (was, c, ap (after_stmts u ss) (same u hu) ∙ e))

  has_contains : (ts : List ℕ) (t : ℕ) → Has ts t → Contains ts t
  has_contains [] t (n, e) = absurd (grind arith)
  has_contains (x ∷ ts) t (zero, e) = (0, omega arith, let z : x ≡ t = grind arith in z)
  has_contains (x ∷ ts) t (suc n, e) = (let (m, l, q) = has_contains ts t (n, e) in (suc m, omega (arith, l), q))

  -- what a block's end leaves stands at its targets' starts
  pub sound_along : (i t : ℕ) (k : TypedBlock) (now now' : Held) → slice_get b.blocks i ≡ Some k → Has (targets k.term) t → ((u : Place) → Has (units_of_body D b) u → now' u ≡ after_effect (Rattle.move_paths.specs.Effects.term_effect u k.term) (now u)) → SoundBefore D b i k [] now → SoundAt D b t now'
  sound_along i t k now now' ek ht same h u hu =
      let (was, (n, c), e) = h u hu in
      (suc n, (i, k, was, c, ek, has_contains (targets k.term) t ht, same u hu ∙ ap (after_effect (Rattle.move_paths.specs.Effects.term_effect u k.term)) e))

-- ---- statuses

-- what a unit's status at a drop says
abbrev pub StatusSays : Status → Bool → Type 0
StatusSays dead held = held ≡ false
StatusSays static held = held ≡ true
StatusSays conditional held = Unit {0}

-- statements that don't initialise a unit which was initialised don't one which wasn't
after_less : (u : Place) (ss : List TypedStmt) → after_stmts u ss true ≡ false → after_stmts u ss false ≡ false
after_less u [] e = refl
after_less u (s ∷ ss) e = go (effect u s) (after_less u ss) e
  where
    go : (o : Option Bool) → (after_stmts u ss true ≡ false → after_stmts u ss false ≡ false) → after_stmts u ss (after_effect o true) ≡ false → after_stmts u ss (after_effect o false) ≡ false
    go None ih e = ih e
    go (Some now) ih e = e

says : (u : Place) (ss : List TypedStmt) (maybe sure was : Bool) → (was ≡ true → maybe ≡ true) → (was ≡ false → sure ≡ false) → StatusSays (status_of (after_stmts u ss maybe) (after_stmts u ss sure)) (after_stmts u ss was)
says u ss maybe sure true m s = subst (λ (m : Bool). StatusSays (status_of (after_stmts u ss m) (after_stmts u ss sure)) (after_stmts u ss true)) (sym (m refl)) (go (after_stmts u ss true) (after_stmts u ss sure))
  where
    go : (a b : Bool) → StatusSays (status_of a b) a
    go false b = refl
    go true true = refl
    go true false = tt
says u ss maybe sure false m s = subst (λ (s : Bool). StatusSays (status_of (after_stmts u ss maybe) (after_stmts u ss s)) (after_stmts u ss false)) (sym (s refl)) (by_bit maybe)
  where
    go : (a b : Bool) → (a ≡ false → b ≡ false) → StatusSays (status_of a b) b
    go false b h = h refl
    go true true h = refl
    go true false h = tt

    by_bit : (m : Bool) → StatusSays (status_of (after_stmts u ss m) (after_stmts u ss false)) (after_stmts u ss false)
    by_bit true = go (after_stmts u ss true) (after_stmts u ss false) (after_less u ss)
    by_bit false = go (after_stmts u ss false) (after_stmts u ss false) (λ e. e)

status_at : (ss : List TypedStmt) (us : List Place) (ms ns : List Bool) (k : ℕ) (u : Place) (s : Status) → slice_get us k ≡ Some u → slice_get (statuses ss us ms ns) k ≡ Some s → status_of (after_stmts u ss (get_or ms k false)) (after_stmts u ss (get_or ns k false)) ≡ s
status_at ss [] ms ns k u s q e = absurd (grind arith)
status_at ss (v ∷ us) [] ns k u s q e = absurd (grind arith)
status_at ss (v ∷ us) (m ∷ ms) [] k u s q e = absurd (grind arith)
status_at ss (v ∷ us) (m ∷ ms) (n ∷ ns) zero u s q e = ap (λ w. status_of (after_stmts w ss m) (after_stmts w ss n)) (let z : u ≡ v = grind arith in z) ∙ (let z : status_of (after_stmts v ss m) (after_stmts v ss n) ≡ s = grind arith in z)
status_at ss (v ∷ us) (m ∷ ms) (n ∷ ns) (suc k) u s q e = status_at ss us ms ns k u s q e

pub status_right : (D : List Shape) (b : TypedBody) (inits : Inits) → IsInits D b inits → (i : ℕ) (k : TypedBlock) (now : Held) (n : ℕ) (u : Place) (s : Status) → i < length b.blocks → SoundBefore D b i k [] now → slice_get (units_of_body D b) n ≡ Some u → slice_get (statuses_at (units_of_body D b) inits i k) n ≡ Some s → StatusSays s (now u)
status_right D b inits are i k now n u s l h q e =
    let (was, c, same) = h u (n, q) in
    let m = flag inits.maybe i n in
    let f = flag inits.sure i n in
    subst (λ s. StatusSays s (now u)) (status_at k.stmts (units_of_body D b) (row_at inits.maybe i) (row_at inits.sure i) n u s q e)
    (subst (StatusSays (status_of (after_stmts u k.stmts m) (after_stmts u k.stmts f))) (sym same) (says u k.stmts m f was (λ w. (are.maybe i n u l q).1 (subst (Comes b u i) w c)) (λ w. sure f ((are.sure i n u l q).0) (subst (Comes b u i) w c))))
  where
    sure : (f : Bool) → (IsTrue f → SurelyAt b u i) → Comes b u i false → f ≡ false
    sure true g c = absurd (g refl c)
    sure false g c = refl
