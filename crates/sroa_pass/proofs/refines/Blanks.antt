-- The fields of a blank, and the blank locals of a new frame.
use Rattle.std.proofs.Common.{◌≡◌, refl, sym, ap, ◌∙◌, subst, ℕ, zero, suc, ◌<◌, Bool, true, false, if◌then◌else◌, List, [], ◌∷◌, length, Option, Some, None, slice_get, arith}
use Rattle.mir_syntax.specs.Tree.{Tree, scalar, empty, more, ref, ref_mut, named}
use Rattle.mir_syntax.specs.Shapes.{Shape, ◌>>=◌, struct_fields, fields_of, fields_of_struct, field_ty}
use Rattle.mir_semantics.specs.Values.{Value, hole, cons, part, is_unit, blank_by, blank_of, blank_def, blank}
use Rattle.mir_semantics.specs.Step.{new_slots}
use Rattle.mir_renaming.specs.Renaming.{Renaming, ValueRel}
use Rattle.mir_renaming.proofs.Statements.{blank_rel}
use Rattle.mir_renaming.proofs.Types.{can_hole, holds_by}
use Rattle.trim_locals.proofs.refines.Slots.{rest_blank}
use Rattle.sroa_pass.proofs.refines.Parts.{blank_by_less, blank_less}

module _ (j : Renaming) (D : List Shape) where
  row_part : (f : ℕ → Value) (i : ℕ) (us u : Tree) (v : Value) → field_ty us i ≡ Some u → part i (blank_by f us) ≡ Some v → blank_by f u ≡ v
  row_part f zero (more x xs) u v e p = ap (blank_by f) (let z : u ≡ x = grind arith in z) ∙ (let z : blank_by f x ≡ v = grind arith in z)
  row_part f (suc i) (more x xs) u v e p = row_part f i xs u v e p
  row_part f i empty u v e p = absurd (grind arith)
  row_part f i (scalar s) u v e p = absurd (grind arith)
  row_part f i (ref t) u v e p = absurd (grind arith)
  row_part f i (ref_mut t) u v e p = absurd (grind arith)
  row_part f i (named d) u v e p = absurd (grind arith)

  no_hole : (i : ℕ) (v : Value) → part i hole ≡ Some v → ⊥
  no_hole zero v e = grind arith
  no_hole (suc i) v e = grind arith

  -- of a struct without a destructor
  struct_part : (n d i : ℕ) (us u : Tree) (v : Value) (o : Option Shape) → (o >>= fields_of_struct) ≡ Some us → holds_by o ≡ false → field_ty us i ≡ Some u → part i (blank_of (blank_def D n) o) ≡ Some v → blank_by (blank_def D n) u ≡ v
  unfolding ◌>>=◌
  struct_part n d i us u v None e h f p = absurd (let z : ◌≡◌ {A = Bool} true false = h in grind arith)
  struct_part n d i us u v (Some s) e h f p = go s.is_enum refl
    where
      go : (b : Bool) → s.is_enum ≡ b → blank_by (blank_def D n) u ≡ v
      go true q = absurd (let k : None ≡ Some us = sym (ap (λ b. if b then None else Some (struct_fields s)) q) ∙ e in grind arith)
      go false q =
          let k : Some (struct_fields s) ≡ Some us = sym (ap (λ b. if b then None else Some (struct_fields s)) q) ∙ e in
          let k' : struct_fields s ≡ us = grind arith in
          row_part (blank_def D n) i us u v f (subst (λ us. part i (blank_by (blank_def D n) us) ≡ Some v) k' (sym (ap (λ b. part i (if b then hole else blank_by (blank_def D n) (struct_fields s))) h) ∙ p))

  pub blank_part : (i : ℕ) (t us u : Tree) (v : Value) → fields_of D t ≡ Some us → can_hole D t ≡ false → field_ty us i ≡ Some u → part i (blank D t) ≡ Some v → ValueRel j v (blank D u)
  unfolding blank
  blank_part i (more x xs) us u v e h f p =
      let k : more x xs ≡ us = (let z : ◌≡◌ {A = Option Tree} (Some (more x xs)) (Some us) = e in grind arith) in
      subst (λ w. ValueRel j w (blank_by (blank_def D (length D)) u)) (row_part (blank_def D (length D)) i (more x xs) u v (subst (λ us. field_ty us i ≡ Some u) (sym k) f) p) (blank_rel j D u)
  blank_part i (named d) us u v e h f p = go (length D) p
    where
      go : (n : ℕ) → part i (blank_def D n d) ≡ Some v → ValueRel j v (blank_by (blank_def D n) u)
      go zero p = absurd (no_hole i v p)
      go (suc n) p = subst (λ w. ValueRel j w (blank_by (blank_def D (suc n)) u)) (struct_part n d i us u v (slice_get D d) e h f p) (blank_by_less j D (blank_def D n) (blank_def D (suc n)) (blank_less j D n) u)
  blank_part i empty us u v e h f p = absurd (let k : empty ≡ us = (let z : ◌≡◌ {A = Option Tree} (Some empty) (Some us) = e in grind arith) in let y : field_ty empty i ≡ Some u = subst (λ us. field_ty us i ≡ Some u) (sym k) f in grind arith)
  blank_part i (scalar s) us u v e h f p = absurd (grind arith)
  blank_part i (ref t) us u v e h f p = absurd (grind arith)
  blank_part i (ref_mut t) us u v e h f p = absurd (grind arith)

-- what a blank is related to, one with fewer definitions is related to
module _ (j : Renaming) (D : List Shape) where
  abbrev Less : (ℕ → Value) → (ℕ → Value) → Type 0
  Less a b = (d : ℕ) (w : Value) → ValueRel j (b d) w → ValueRel j (a d) w

  under_by : (a b : ℕ → Value) → Less a b → (t : Tree) (w : Value) → ValueRel j (blank_by b t) w → ValueRel j (blank_by a t) w
  under_by a b h (scalar s) w r = tt
  under_by a b h (ref t) w r = tt
  under_by a b h (ref_mut t) w r = tt
  under_by a b h (named d) w r = h d w r
  under_by a b h empty w r = r
  under_by a b h (more t ts) (cons w ws) r = (under_by a b h t w r.0, under_by a b h ts ws r.1)
  under_by a b h (more t ts) w r = absurd (grind arith)

  under_of : (a b : ℕ → Value) → Less a b → (o : Option Shape) (w : Value) → ValueRel j (blank_of b o) w → ValueRel j (blank_of a o) w
  under_of a b h None w r = tt
  under_of a b h (Some s) w r = go (is_unit s) r
    where
      go : (c : Bool) → ValueRel j (if c then hole else blank_by b (struct_fields s)) w → ValueRel j (if c then hole else blank_by a (struct_fields s)) w
      go true r = tt
      go false r = under_by a b h (struct_fields s) w r

  under_def : (n : ℕ) → Less (blank_def D n) (blank_def D (suc n))
  under_def zero d w r = tt
  under_def (suc n) d w r = under_of (blank_def D n) (blank_def D (suc n)) (under_def n) (slice_get D d) w r

  pub blank_under : (i : ℕ) (t us u : Tree) (v w : Value) → fields_of D t ≡ Some us → can_hole D t ≡ false → field_ty us i ≡ Some u → part i (blank D t) ≡ Some v → ValueRel j (blank D u) w → ValueRel j v w
  unfolding blank
  blank_under i (more x xs) us u v w e h f p r =
      let k : more x xs ≡ us = (let z : ◌≡◌ {A = Option Tree} (Some (more x xs)) (Some us) = e in grind arith) in
      subst (λ v. ValueRel j v w) (row_part j D (blank_def D (length D)) i (more x xs) u v (subst (λ us. field_ty us i ≡ Some u) (sym k) f) p) r
  blank_under i (named d) us u v w e h f p r = go (length D) p r
    where
      go : (n : ℕ) → part i (blank_def D n d) ≡ Some v → ValueRel j (blank_by (blank_def D n) u) w → ValueRel j v w
      go zero p r = absurd (no_hole j D i v p)
      go (suc n) p r = subst (λ v. ValueRel j v w) (struct_part j D n d i us u v (slice_get D d) e h f p) (under_by (blank_def D n) (blank_def D (suc n)) (under_def n) u w r)
  blank_under i empty us u v w e h f p r = absurd (let k : empty ≡ us = (let z : ◌≡◌ {A = Option Tree} (Some empty) (Some us) = e in grind arith) in let y : field_ty empty i ≡ Some u = subst (λ us. field_ty us i ≡ Some u) (sym k) f in grind arith)
  blank_under i (scalar s) us u v w e h f p r = absurd (grind arith)
  blank_under i (ref t) us u v w e h f p r = absurd (grind arith)
  blank_under i (ref_mut t) us u v w e h f p r = absurd (grind arith)

-- a local behind the arguments is blank
module _ (D : List Shape) where
  pub blank_slot : (ts : List Tree) (vs : List Value) (x : ℕ) (t : Tree) → length vs < x → slice_get ts x ≡ Some t → slice_get (new_slots D ts vs) x ≡ Some (blank D t)
  unfolding new_slots
  blank_slot [] vs x t l e = absurd (grind arith)
  blank_slot (u ∷ ts) vs zero t l e = absurd (omega (arith, l))
  blank_slot (u ∷ ts) vs (suc x) t l e = rest_blank D vs ts x t (omega (arith, l)) e
