-- The status of a unit at a drop, looked up by its place, is right.
use Rattle.std.proofs.Common.{◌≡◌, refl, sym, ap, ◌∙◌, subst, ℕ, zero, suc, ◌<◌, Bool, true, false, if◌then◌else◌, List, [], ◌∷◌, length, Some, None, slice_get, arith}
use Rattle.mir_syntax.specs.declared.body.Place.{Place}
use Rattle.mir_syntax.specs.Crate.{TypedBlock, TypedBody}
use Rattle.mir_syntax.specs.Shapes.{Shape}
use Rattle.drop_elab.specs.Elab.{Inits, IsInits, Status, statuses_at, Flagged, with_flags}
use Rattle.move_paths.specs.Effects.{units_of_body}
use Rattle.drop_elab.proofs.refines.Sound.{Has, Held, SoundBefore, StatusSays, status_right}
use Rattle.drop_elab.proofs.refines.Marks.{same_unit, flag_in, status_in}
use Rattle.drop_elab.proofs.refines.Flags.{same_is}

-- flags stand in the order of units
pub flags_units : (x : ℕ) (us : List Place) (bs : List Bool) (k : ℕ) (f : Flagged) → slice_get (with_flags x us bs) k ≡ Some f → slice_get us k ≡ Some f.unit
flags_units x [] bs k f e = absurd (grind arith)
flags_units x (u ∷ us) [] k f e = absurd (grind arith)
flags_units x (u ∷ us) (true ∷ bs) zero f e = ap (λ (f : Flagged). Some f.unit) (let z : record { unit = u; flag = Some x } ≡ f = grind arith in z)
flags_units x (u ∷ us) (true ∷ bs) (suc k) f e = flags_units (suc x) us bs k f e
flags_units x (u ∷ us) (false ∷ bs) zero f e = ap (λ (f : Flagged). Some f.unit) (let z : record { unit = u; flag = None } ≡ f = grind arith in z)
flags_units x (u ∷ us) (false ∷ bs) (suc k) f e = flags_units x us bs k f e

pub flags_all : (x : ℕ) (us : List Place) (bs : List Bool) (u : Place) → length bs ≡ length us → Has us u → (k : ℕ) × (f : Flagged) × (slice_get (with_flags x us bs) k ≡ Some f) × (f.unit ≡ u)
flags_all x [] bs u l (i, e) = absurd (grind arith)
flags_all x (w ∷ us) [] u l h = absurd (omega (arith, l))
flags_all x (w ∷ us) (true ∷ bs) u l (zero, e) = (0, record { unit = w; flag = Some x }, refl, let z : w ≡ u = grind arith in z)
flags_all x (w ∷ us) (true ∷ bs) u l (suc i, e) = let (k, f, a, b) = flags_all (suc x) us bs u (omega (arith, l)) (i, e) in (suc k, f, a, b)
flags_all x (w ∷ us) (false ∷ bs) u l (zero, e) = (0, record { unit = w; flag = None }, refl, let z : w ≡ u = grind arith in z)
flags_all x (w ∷ us) (false ∷ bs) u l (suc i, e) = let (k, f, a, b) = flags_all x us bs u (omega (arith, l)) (i, e) in (suc k, f, a, b)

-- the flag and the status are found at one number
pub found_at : (q : Place) (fs : List Flagged) (ss : List Status) (k : ℕ) (f : Flagged) → length ss ≡ length fs → slice_get fs k ≡ Some f → same_unit q f.unit ≡ true → (i : ℕ) × (g : Flagged) × (s : Status) × (slice_get fs i ≡ Some g) × (slice_get ss i ≡ Some s) × (same_unit q g.unit ≡ true) × (flag_in q fs ≡ g.flag) × (status_in q fs ss ≡ s)
found_at q [] ss k f l e h = absurd (grind arith)
found_at q (g ∷ fs) [] k f l e h = absurd (omega (arith, l))
found_at q (g ∷ fs) (s ∷ ss) k f l e h = go (same_unit q g.unit) refl k e (λ k e. found_at q fs ss k f (omega (arith, l)) e h)
  where
    Found : List Flagged → List Status → Type 0
    Found fs ss = (i : ℕ) × (g : Flagged) × (s : Status) × (slice_get fs i ≡ Some g) × (slice_get ss i ≡ Some s) × (same_unit q g.unit ≡ true) × (flag_in q fs ≡ g.flag) × (status_in q fs ss ≡ s)

    go : (b : Bool) → same_unit q g.unit ≡ b → (k : ℕ) → slice_get (g ∷ fs) k ≡ Some f → ((k : ℕ) → slice_get fs k ≡ Some f → (i : ℕ) × (g : Flagged) × (s : Status) × (slice_get fs i ≡ Some g) × (slice_get ss i ≡ Some s) × (same_unit q g.unit ≡ true) × (flag_in q fs ≡ g.flag) × (status_in q fs ss ≡ s)) → (i : ℕ) × (w : Flagged) × (t : Status) × (slice_get (g ∷ fs) i ≡ Some w) × (slice_get (s ∷ ss) i ≡ Some t) × (same_unit q w.unit ≡ true) × (flag_in q (g ∷ fs) ≡ w.flag) × (status_in q (g ∷ fs) (s ∷ ss) ≡ t)
    go true b k e ih = (0, g, s, refl, refl, b, ap (λ b. if b then g.flag else flag_in q fs) b, ap (λ b. if b then s else status_in q fs ss) b)
    go false b zero e ih = absurd (let z : g ≡ f = grind arith in let y : false ≡ true = sym b ∙ ap (λ (f : Flagged). same_unit q f.unit) z ∙ h in grind arith)
    go false b (suc k) e ih = let (i, w, t, a1, a2, a3, a4, a5) = ih k e in (suc i, w, t, a1, a2, a3, ap (λ b. if b then g.flag else flag_in q fs) b ∙ a4, ap (λ b. if b then s else status_in q fs ss) b ∙ a5)

-- what a unit's status says of it is so
pub status_is_right : (D : List Shape) (b : TypedBody) (inits : Inits) → IsInits D b inits → (x : ℕ) (bs : List Bool) (i : ℕ) (k : TypedBlock) (now : Held) (u : Place) → i < length b.blocks → length bs ≡ length (units_of_body D b) → length (statuses_at (units_of_body D b) inits i k) ≡ length (with_flags x (units_of_body D b) bs) → same_unit u u ≡ true → Has (units_of_body D b) u → SoundBefore D b i k [] now → StatusSays (status_in u (with_flags x (units_of_body D b) bs) (statuses_at (units_of_body D b) inits i k)) (now u)
status_is_right D b inits are x bs i k now u l lb ls self h so =
    let us = units_of_body D b in
    let (a, f, e, fe) = flags_all x us bs u lb h in
    let (n, g, s, e1, e2, e3, e4, e5) = found_at u (with_flags x us bs) (statuses_at us inits i k) a f ls e (subst (λ w. same_unit u w ≡ true) (sym fe) self) in
    let z : u ≡ g.unit = same_is u g.unit e3 in
    subst (λ s. StatusSays s (now u)) (sym e5) (status_right D b inits are i k now n u s l so (flags_units x us bs n g e1 ∙ ap (λ w. Some w) (sym z)) e2)
