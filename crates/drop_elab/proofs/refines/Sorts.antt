-- The static facts of units, flags and statuses together, where rows have a bit for each unit.
use Rattle.std.proofs.Common.{◌≡◌, ◌⊎◌, inl, inr, refl, sym, ap, ap₂, ◌∙◌, subst, ℕ, zero, suc, ◌+◌, Bool, true, false, ◌||◌, ◌&&◌, List, [], ◌∷◌, length, Some, slice_get, arith}
use Rattle.std.proofs.lemmas.Option.{slice_get_within}
use Rattle.mir_syntax.specs.declared.body.Place.{Place}
use Rattle.mir_syntax.specs.declared.body.Term.TheVariants.{Drop}
use Rattle.mir_syntax.specs.Tree.{Tree}
use Rattle.mir_syntax.specs.Crate.{TypedBlock}
use Rattle.mir_syntax.specs.Shapes.{Shape, needs_drop}
use Rattle.mir_rules.specs.DefinitionRules.{holds}
use Rattle.mir_rules.specs.Weights.{units}
use Rattle.move_paths.specs.Effects.{units_of_body, is_under}
use Rattle.drop_elab.specs.Elab.{Inits, IsInits, Status, conditional, is_conditional, statuses_at, conditional_under, either_bit, wants_flag, want_flags, Flagged, with_flags}
use Rattle.mir_relate.specs.Frames.{Change}
use Rattle.drop_elab.proofs.refines.Items.{Proper, ProperShapes}
use Rattle.drop_elab.proofs.refines.Outer.{unit_in_ty, no_units}
use Rattle.drop_elab.proofs.refines.Sound.{Has}
use Rattle.drop_elab.proofs.refines.Marks.{same_unit, flag_in, status_in, self_unit}
use Rattle.drop_elab.proofs.refines.Kept.{units_fields}
use Rattle.drop_elab.proofs.refines.Solid.{unit_of_local}
use Rattle.drop_elab.proofs.refines.Stages as stages
use Rattle.drop_elab.proofs.refines.Flags as flags
use Rattle.drop_elab.proofs.refines.Statuses.{flags_all, flags_units, found_at, status_is_right}
use Rattle.drop_elab.proofs.refines.Once.{locals_once, kept_once}
use Rattle.drop_elab.proofs.refines.Plans.{flags_long, term_long, wants_long}

-- a bit of either
left_bit : (as' bs : List Bool) (n : ℕ) → length as' ≡ length bs → slice_get as' n ≡ Some true → slice_get (either_bit as' bs) n ≡ Some true
left_bit [] bs n l e = absurd (grind arith)
left_bit (a ∷ as') [] n l e = absurd (omega (arith, l))
left_bit (a ∷ as') (b ∷ bs) zero l e = ap (λ a. Some (a || b)) (let z : a ≡ true = grind arith in z)
left_bit (a ∷ as') (b ∷ bs) (suc n) l e = left_bit as' bs n (omega (arith, l)) e

or_true : (a : Bool) → (a || true) ≡ true
or_true true = refl
or_true false = refl

right_bit : (as' bs : List Bool) (n : ℕ) → length as' ≡ length bs → slice_get bs n ≡ Some true → slice_get (either_bit as' bs) n ≡ Some true
right_bit as' [] n l e = absurd (grind arith)
right_bit [] (b ∷ bs) n l e = absurd (omega (arith, l))
right_bit (a ∷ as') (b ∷ bs) zero l e = ap (λ b. Some (a || b)) (let z : b ≡ true = grind arith in z) ∙ ap (λ b. Some b) (or_true a)
right_bit (a ∷ as') (b ∷ bs) (suc n) l e = right_bit as' bs n (omega (arith, l)) e

under_bit : (p : Place) (us : List Place) (ss : List Status) (n : ℕ) (u : Place) → slice_get us n ≡ Some u → slice_get ss n ≡ Some conditional → is_under p u ≡ true → slice_get (conditional_under p us ss) n ≡ Some true
under_bit p [] ss n u e q h = absurd (grind arith)
under_bit p (w ∷ us) [] n u e q h = absurd (grind arith)
under_bit p (w ∷ us) (s ∷ ss) zero u e q h = ap₂ (λ a b. Some (a && b)) (ap (is_under p) (let z : w ≡ u = grind arith in z) ∙ h) (ap is_conditional (let z : s ≡ conditional = grind arith in z))
under_bit p (w ∷ us) (s ∷ ss) (suc n) u e q h = under_bit p us ss n u e q h

-- a bit that is set is a flag
flag_of_bit : (x : ℕ) (us : List Place) (bs : List Bool) (n : ℕ) (g : Flagged) → slice_get bs n ≡ Some true → slice_get (with_flags x us bs) n ≡ Some g → (y : ℕ) × (g.flag ≡ Some y)
flag_of_bit x [] bs n g e q = absurd (grind arith)
flag_of_bit x (u ∷ us) [] n g e q = absurd (grind arith)
flag_of_bit x (u ∷ us) (true ∷ bs) zero g e q = (x, ap (λ (g : Flagged). g.flag) (let z : g ≡ record { unit = u; flag = Some x } = grind arith in z))
flag_of_bit x (u ∷ us) (true ∷ bs) (suc n) g e q = flag_of_bit (suc x) us bs n g e q
flag_of_bit x (u ∷ us) (false ∷ bs) zero g e q = absurd (grind arith)
flag_of_bit x (u ∷ us) (false ∷ bs) (suc n) g e q = flag_of_bit x us bs n g e q

wanted_bit : (us : List Place) (inits : Inits) (i : ℕ) (ks : List TypedBlock) → ((j : ℕ) (k : TypedBlock) → slice_get ks j ≡ Some k → length (statuses_at us inits (i + j) k) ≡ length us) → (j : ℕ) (k : TypedBlock) (p : Place) (t n : ℕ) (u : Place) → slice_get ks j ≡ Some k → k.term ≡ Drop p t → slice_get us n ≡ Some u → slice_get (statuses_at us inits (i + j) k) n ≡ Some conditional → is_under p u ≡ true → slice_get (want_flags us inits i ks) n ≡ Some true
wanted_bit us inits i [] h j k p t n u ek term eu es un = absurd (grind arith)
wanted_bit us inits i (k0 ∷ ks) h zero k p t n u ek term eu es un =
    let same : k0 ≡ k = grind arith in
    let z : i + 0 ≡ i = omega arith in
    let long = term_long us (statuses_at us inits i k0) k0.term (subst (λ m. length (statuses_at us inits m k0) ≡ length us) z (h 0 k0 refl)) in
    let rest = wants_long us inits (suc i) ks (λ j k' e. (let y : i + suc j ≡ suc i + j = omega arith in subst (λ m. length (statuses_at us inits m k') ≡ length us) y (h (suc j) k' e))) in
    left_bit (wants_flag us (statuses_at us inits i k0) k0.term) (want_flags us inits (suc i) ks) n (long ∙ sym rest) (ap (λ (k : TypedBlock). slice_get (wants_flag us (statuses_at us inits i k) k.term) n) same ∙ ap (λ t. slice_get (wants_flag us (statuses_at us inits i k) t) n) term ∙ under_bit p us (statuses_at us inits i k) n u eu (subst (λ m. slice_get (statuses_at us inits m k) n ≡ Some conditional) z es) un)
wanted_bit us inits i (k0 ∷ ks) h (suc j) k p t n u ek term eu es un =
    let y : i + suc j ≡ suc i + j = omega arith in
    let z : i + 0 ≡ i = omega arith in
    let later : (j : ℕ) (k : TypedBlock) → slice_get ks j ≡ Some k → length (statuses_at us inits (suc i + j) k) ≡ length us = λ j k' e. (let y : i + suc j ≡ suc i + j = omega arith in subst (λ m. length (statuses_at us inits m k') ≡ length us) y (h (suc j) k' e)) in
    let long = term_long us (statuses_at us inits i k0) k0.term (subst (λ m. length (statuses_at us inits m k0) ≡ length us) z (h 0 k0 refl)) in
    right_bit (wants_flag us (statuses_at us inits i k0) k0.term) (want_flags us inits (suc i) ks) n (long ∙ sym (wants_long us inits (suc i) ks later)) (wanted_bit us inits (suc i) ks later j k p t n u ek term eu (subst (λ m. slice_get (statuses_at us inits m k) n ≡ Some conditional) y es) un)

module _ (X : Change) (inits : Inits) (apart : (d : ℕ) → holds X.source.shapes (length X.source.shapes) d d ≡ false) (proper : ProperShapes X.source.shapes) (proper_locals : (x : ℕ) (t : Tree) → slice_get X.body1.locals x ≡ Some t → Proper t) (are : IsInits X.source.shapes X.body1 inits) (rows_long : (j : ℕ) (k : TypedBlock) → slice_get X.body1.blocks j ≡ Some k → length (statuses_at (units_of_body X.source.shapes X.body1) inits j k) ≡ length (units_of_body X.source.shapes X.body1)) where
  abbrev D : List Shape
  D = X.source.shapes

  abbrev us : List Place
  us = units_of_body X.source.shapes X.body1

  abbrev bits : List Bool
  bits = want_flags us inits 0 X.body1.blocks

  rows : (j : ℕ) (k : TypedBlock) → slice_get X.body1.blocks j ≡ Some k → length (statuses_at us inits (0 + j) k) ≡ length us
  rows j k e = let z : 0 + j ≡ j = omega arith in subst (λ n. length (statuses_at us inits n k) ≡ length us) (sym z) (rows_long j k e)

  bits_long : length bits ≡ length us
  bits_long = wants_long us inits 0 X.body1.blocks rows

  self : (u : Place) → Has us u → same_unit u u ≡ true
  self u h = let (y, t, l, e, hu) = unit_of_local D 0 X.body1.locals u h in self_unit u (units_fields D apart proper u.proj t (proper_locals y t e) hu)

  units_are : (t : Tree) → unit_in_ty D t ≡ true → (b : Bool) → needs_drop D t ≡ b → (units D t ≡ []) ⊎ (units D t ≡ [] ∷ [])
  units_are t un true nd = inr (flags.unit_is D apart t un nd)
  units_are t un false nd = inl (no_units ℕ D (λ q n. n) apart proper t nd)

  pub sorted : stages.Sorted X inits apart proper
  sorted = record {
    one = λ u u' x h h' e e'. flags.one X inits u u' x e e';
    flags_there = flags.flags_there X inits;
    flags_low = flags.flags_low X inits;
    past = flags.past X inits;
    nodup = λ p. kept_once p us (locals_once D proper 0 X.body1.locals proper_locals);
    kept = λ p u h. flags.kept_are p u us h;
    units_are = λ t un. units_are t un (needs_drop D t) refl;
    unit_is = flags.unit_is D apart;
    status = λ i k p t now u ek term so h. (let hu = (flags.kept_are p u us h).0 in status_is_right D X.body1 inits are (length X.body1.locals) bits i k now u (slice_get_within X.body1.blocks i k ek) bits_long (rows_long i k ek ∙ sym (flags_long (length X.body1.locals) us bits bits_long)) (self u hu) hu so);
    wants = λ i k p t u ek term h st. wants i k p t u ek term (flags.kept_are p u us h) st;
  }
    where
      wants : (i : ℕ) (k : TypedBlock) (p : Place) (t : ℕ) (u : Place) → slice_get X.body1.blocks i ≡ Some k → k.term ≡ Drop p t → Has us u × (is_under p u ≡ true) → status_in u (with_flags (length X.body1.locals) us bits) (statuses_at us inits i k) ≡ conditional → (x : ℕ) × (flag_in u (with_flags (length X.body1.locals) us bits) ≡ Some x)
      wants i k p t u ek term (hu, un) st =
          let (a, f, e, fe) = flags_all (length X.body1.locals) us bits u bits_long hu in
          let (n, g, s, e1, e2, e3, e4, e5) = found_at u (with_flags (length X.body1.locals) us bits) (statuses_at us inits i k) a f (rows_long i k ek ∙ sym (flags_long (length X.body1.locals) us bits bits_long)) e (subst (λ w. same_unit u w ≡ true) (sym fe) (self u hu)) in
          let z : 0 + i ≡ i = omega arith in
          let eu = flags_units (length X.body1.locals) us bits n g e1 ∙ ap (λ w. Some w) (sym (flags.same_is u g.unit e3)) in
          let bit = wanted_bit us inits 0 X.body1.blocks rows i k p t n u ek term eu (subst (λ m. slice_get (statuses_at us inits m k) n ≡ Some conditional) (sym z) (e2 ∙ ap (λ s. Some s) (sym e5 ∙ st))) un in
          let (y, gy) = flag_of_bit (length X.body1.locals) us bits n g bit e1 in
          (y, e4 ∙ gy)
