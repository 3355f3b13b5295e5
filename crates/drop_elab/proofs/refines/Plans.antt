-- A drop of the elaborated body is the plan of its place's units: with the flags and statuses of the definition.
use Rattle.std.proofs.Common.{◌≡◌, refl, sym, ap, ◌∙◌, subst, ℕ, zero, suc, ◌+◌, Bool, true, false, List, [], ◌∷◌, map, length, Some, slice_get, arith}
use Rattle.mir_syntax.specs.declared.body.Place.{Place}
use Rattle.mir_syntax.specs.declared.body.Term.{Term}
use Rattle.mir_syntax.specs.declared.body.Term.TheVariants.{Goto, Switch, Return, Unreachable, Drop, Call, Assert}
use Rattle.mir_syntax.specs.Tree.{Tree}
use Rattle.mir_syntax.specs.Crate.{TypedBlock, TypedBody}
use Rattle.mir_syntax.specs.Shapes.{Shape, path_ty, path_through}
use Rattle.mir_rules.specs.DefinitionRules.{holds}
use Rattle.mir_syntax.specs.Parts.{is_direct}
use Rattle.mir_rules.specs.Weights.{units}
use Rattle.move_paths.specs.Effects.{units_of_body}
use Rattle.drop_elab.specs.Elab.{Inits, Status, statuses_at, conditional_under, none_of, either_bit, wants_flag, want_flags, Flagged, with_flags, plan_drop}
use Rattle.drop_elab.specs.Plan.{Plan, done}
use Rattle.drop_elab.proofs.refines.Items.{Proper, ProperShapes}
use Rattle.drop_elab.proofs.refines.Outer.{outer_units, plan_at}
use Rattle.drop_elab.proofs.refines.Sound.{Has}
use Rattle.drop_elab.proofs.refines.Begins.{unit_in, begins_with}
use Rattle.drop_elab.proofs.refines.Bodies.{flags_of}
use Rattle.drop_elab.proofs.refines.Marks.{same_unit, marks_of, Apart, marked_by}
use Rattle.drop_elab.proofs.refines.Kept.{units_fields}
use Rattle.drop_elab.proofs.refines.Solid.{unit_of_local}
use Rattle.drop_elab.proofs.refines.Stages.{NoDup}
use Rattle.drop_elab.proofs.refines.Flags.{same_is}
use Rattle.drop_elab.proofs.refines.Statuses.{flags_units}
use Rattle.drop_elab.proofs.refines.Once.{locals_once}

-- flags are for different units
pub flags_apart : (x : ℕ) (us : List Place) (bs : List Bool) → NoDup us → Apart (with_flags x us bs)
flags_apart x [] bs h = tt
flags_apart x (u ∷ us) [] h = tt
flags_apart x (u ∷ us) (true ∷ bs) h = (λ k g e. other k g e (same_unit g.unit u) refl, flags_apart (suc x) us bs h.1)
  where
    other : (k : ℕ) (g : Flagged) → slice_get (with_flags (suc x) us bs) k ≡ Some g → (b : Bool) → same_unit g.unit u ≡ b → same_unit g.unit u ≡ false
    other k g e true q = absurd (h.0 (k, flags_units (suc x) us bs k g e ∙ ap (λ w. Some w) (same_is g.unit u q)))
    other k g e false q = q
flags_apart x (u ∷ us) (false ∷ bs) h = (λ k g e. other k g e (same_unit g.unit u) refl, flags_apart x us bs h.1)
  where
    other : (k : ℕ) (g : Flagged) → slice_get (with_flags x us bs) k ≡ Some g → (b : Bool) → same_unit g.unit u ≡ b → same_unit g.unit u ≡ false
    other k g e true q = absurd (h.0 (k, flags_units x us bs k g e ∙ ap (λ w. Some w) (same_is g.unit u q)))
    other k g e false q = q

pub units_map : (x : ℕ) (us : List Place) (bs : List Bool) → length bs ≡ length us → map unit_in (with_flags x us bs) ≡ us
units_map x [] bs l = refl
units_map x (u ∷ us) [] l = absurd (omega (arith, l))
units_map x (u ∷ us) (true ∷ bs) l = ap (λ ws. u ∷ ws) (units_map (suc x) us bs (omega (arith, l)))
units_map x (u ∷ us) (false ∷ bs) l = ap (λ ws. u ∷ ws) (units_map x us bs (omega (arith, l)))

pub flags_long : (x : ℕ) (us : List Place) (bs : List Bool) → length bs ≡ length us → length (with_flags x us bs) ≡ length us
flags_long x [] bs l = refl
flags_long x (u ∷ us) [] l = absurd (omega (arith, l))
flags_long x (u ∷ us) (true ∷ bs) l = ap suc (flags_long (suc x) us bs (omega (arith, l)))
flags_long x (u ∷ us) (false ∷ bs) l = ap suc (flags_long x us bs (omega (arith, l)))

-- a bit for each unit
none_long : (us : List Place) → length (map none_of us) ≡ length us
none_long [] = refl
none_long (u ∷ us) = ap suc (none_long us)

under_long : (p : Place) (us : List Place) (ss : List Status) → length ss ≡ length us → length (conditional_under p us ss) ≡ length us
under_long p [] ss l = refl
under_long p (u ∷ us) [] l = absurd (omega (arith, l))
under_long p (u ∷ us) (s ∷ ss) l = ap suc (under_long p us ss (omega (arith, l)))

either_long : (as' bs : List Bool) (n : ℕ) → length as' ≡ n → length bs ≡ n → length (either_bit as' bs) ≡ n
either_long [] bs n a b = a
either_long (x ∷ as') [] n a b = absurd (let z = a in let w = b in omega (arith, z, w))
either_long (x ∷ as') (y ∷ bs) zero a b = absurd (omega (arith, a))
either_long (x ∷ as') (y ∷ bs) (suc n) a b = ap suc (either_long as' bs n (omega (arith, a)) (omega (arith, b)))

pub term_long : (us : List Place) (ss : List Status) (t : Term) → length ss ≡ length us → length (wants_flag us ss t) ≡ length us
term_long us ss (Drop p u) l = under_long p us ss l
term_long us ss (Goto u) l = none_long us
term_long us ss (Switch o arms u) l = none_long us
term_long us ss Return l = none_long us
term_long us ss Unreachable l = none_long us
term_long us ss (Call q g os u) l = none_long us
term_long us ss (Assert o c m os u) l = none_long us

pub wants_long : (us : List Place) (inits : Inits) (i : ℕ) (ks : List TypedBlock) → ((j : ℕ) (k : TypedBlock) → slice_get ks j ≡ Some k → length (statuses_at us inits (i + j) k) ≡ length us) → length (want_flags us inits i ks) ≡ length us
wants_long us inits i [] h = none_long us
wants_long us inits i (k ∷ ks) h =
    let z : i + 0 ≡ i = omega arith in
    either_long (wants_flag us (statuses_at us inits i k) k.term) (want_flags us inits (suc i) ks) (length us) (term_long us (statuses_at us inits i k) k.term (subst (λ n. length (statuses_at us inits n k) ≡ length us) z (h 0 k refl)))
    (wants_long us inits (suc i) ks (λ j k' e. (let y : i + suc j ≡ suc i + j = omega arith in subst (λ n. length (statuses_at us inits n k') ≡ length us) y (h (suc j) k' e))))

-- where rows have a bit for each unit
module _ (D : List Shape) (apart : (d : ℕ) → holds D (length D) d d ≡ false) (proper : ProperShapes D) (body : TypedBody) (inits : Inits) (proper_locals : (x : ℕ) (t : Tree) → slice_get body.locals x ≡ Some t → Proper t) (rows_long : (j : ℕ) (k : TypedBlock) → slice_get body.blocks j ≡ Some k → length (statuses_at (units_of_body D body) inits j k) ≡ length (units_of_body D body)) where
  abbrev us : List Place
  us = units_of_body D body

  wanted_long : length (want_flags us inits 0 body.blocks) ≡ length us
  wanted_long = wants_long us inits 0 body.blocks (λ j k e. (let z : 0 + j ≡ j = omega arith in subst (λ n. length (statuses_at us inits n k) ≡ length us) (sym z) (rows_long j k e)))

  pub plan_is : (i : ℕ) (k : TypedBlock) (p : Place) (lt ty : Tree) → slice_get body.blocks i ≡ Some k → slice_get body.locals p.local ≡ Some lt → path_ty D lt p.proj ≡ Some ty → is_direct p.proj ≡ true → path_through D (Some lt) p.proj ≡ false → plan_drop D body.locals p (flags_of D body inits) (statuses_at us inits i k) ≡ outer_units Plan D (plan_at D body.locals (marks_of (flags_of D body inits) (statuses_at us inits i k))) p (units D ty) done
  plan_is i k p lt ty ek el ep di th =
      begins_with D body.locals (marks_of (flags_of D body inits) (statuses_at us inits i k)) apart proper p lt ty (flags_of D body inits) (statuses_at us inits i k)
      (rows_long i k ek ∙ sym (flags_long (length body.locals) us (want_flags us inits 0 body.blocks) wanted_long))
      (units_map (length body.locals) us (want_flags us inits 0 body.blocks) wanted_long)
      (marked_by (flags_of D body inits) (statuses_at us inits i k) (flags_apart (length body.locals) us (want_flags us inits 0 body.blocks) (locals_once D proper 0 body.locals proper_locals)) (λ n f e. fields f (n, flags_units (length body.locals) us (want_flags us inits 0 body.blocks) n f e)))
      el (proper_locals p.local lt el) ep di th
    where
      fields : (f : Flagged) → Has us f.unit → Rattle.drop_elab.proofs.refines.Puts.Fields f.unit.proj
      fields f h = let (y, t, l, e, hu) = unit_of_local D 0 body.locals f.unit h in units_fields D apart proper f.unit.proj t (proper_locals y t e) hu
