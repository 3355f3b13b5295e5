-- Along its edges: what a body's rows and the code of its elaborated blocks hand on.
use Rattle.std.proofs.Common.{◌≡◌, refl, sym, ap, ◌∙◌, ℕ, zero, suc, Bool, true, false, List, [], ◌∷◌, length, Some, slice_get, arith}
use Rattle.std.proofs.lemmas.Option.{slice_get_within}
use Rattle.mir_syntax.specs.declared.body.Place.{Place}
use Rattle.mir_syntax.specs.declared.body.Term.TheVariants.{Drop}
use Rattle.mir_syntax.specs.Tree.{Tree}
use Rattle.mir_syntax.specs.Crate.{TypedStmt, TypedBlock, TypedBody}
use Rattle.mir_syntax.specs.Shapes.{Shape, path_through}
use Rattle.mir_rules.specs.DefinitionRules.{holds}
use Rattle.mir_syntax.specs.Parts.{is_direct, targets}
use Rattle.bit_rows.specs.Rows.{row_at}
use Rattle.move_paths.specs.Effects.{units_of_body}
use Rattle.drop_elab.specs.Elab.{Inits, IsInits, statuses, statuses_at}
use Rattle.mir_relate.specs.Frames.{Change}
use Rattle.mir_relate.proofs.Leaves.{some_val}
use Rattle.drop_elab.proofs.refines.Items.{Proper, ProperShapes}
use Rattle.drop_elab.proofs.refines.Sound.{Has, Held, SoundAt}
use Rattle.drop_elab.proofs.refines.Bodies.{flags_of, end_of, block_of, elab_block}
use Rattle.drop_elab.proofs.refines.Stand as stand
use Rattle.drop_elab.proofs.refines.Sorts.{sorted}
use Rattle.drop_elab.proofs.refines.Plans.{plan_is}
use Rattle.drop_elab.proofs.refines.Ended as ended

both_long : (ss : List TypedStmt) (us : List Place) (ms ns : List Bool) → length ms ≡ length us → length ns ≡ length us → length (statuses ss us ms ns) ≡ length us
both_long ss [] ms ns a b = refl
both_long ss (u ∷ us) [] ns a b = absurd (omega (arith, a))
both_long ss (u ∷ us) (m ∷ ms) [] a b = absurd (omega (arith, b))
both_long ss (u ∷ us) (m ∷ ms) (x ∷ ns) a b = ap suc (both_long ss us ms ns (omega (arith, a)) (omega (arith, b)))

-- each block has a status for each unit
pub rows_long : (D : List Shape) (body : TypedBody) (inits : Inits) → IsInits D body inits → (i : ℕ) (k : TypedBlock) → slice_get body.blocks i ≡ Some k → length (statuses_at (units_of_body D body) inits i k) ≡ length (units_of_body D body)
rows_long D body inits are i k e =
    let l = slice_get_within body.blocks i k e in
    both_long k.stmts (units_of_body D body) (row_at inits.maybe i) (row_at inits.sure i) (are.maybe_size.bits_is i l) (are.sure_size.bits_is i l)

module _ (X : Change) (inits : Inits) (apart : (d : ℕ) → holds X.source.shapes (length X.source.shapes) d d ≡ false) (proper : ProperShapes X.source.shapes) (proper_locals : (x : ℕ) (t : Tree) → slice_get X.body1.locals x ≡ Some t → Proper t) (are : IsInits X.source.shapes X.body1 inits) (no_entry : (i : ℕ) (k : TypedBlock) → slice_get X.body1.blocks i ≡ Some k → Has (targets k.term) 0 → ⊥) (place : (i : ℕ) (k : TypedBlock) (p : Place) (t : ℕ) → slice_get X.body1.blocks i ≡ Some k → k.term ≡ Drop p t → is_direct p.proj ≡ true) (through : (i : ℕ) (k : TypedBlock) (p : Place) (t : ℕ) (lt : Tree) → slice_get X.body1.blocks i ≡ Some k → k.term ≡ Drop p t → slice_get X.body1.locals p.local ≡ Some lt → path_through X.source.shapes (Some lt) p.proj ≡ false) where
  abbrev D : List Shape
  D = X.source.shapes

  start : (i t : ℕ) (k : TypedBlock) (now : Held) → slice_get X.body1.blocks i ≡ Some k → Has (targets k.term) t → SoundAt D X.body1 t now → stand.Start X inits apart proper t now
  start i zero k now ek ht so k1 k2 e1 e2 = absurd (no_entry i k ek ht)
  start i (suc t) k now ek ht so k1 k2 e1 e2 =
      let (l, b, le, e3, st) = elab_block D X.body1 inits (suc t) k1 e1 in
      let us = units_of_body D X.body1 in
      let fs = flags_of D X.body1 inits in
      let same : block_of D X.body1 us fs inits (suc t) k1 l b ≡ k2 = some_val (sym e3 ∙ e2) in
      let end = end_of D X.body1 us fs inits (suc t) k1 l b in
      (end, sym (ap (λ (k : TypedBlock). k.stmts) same), ((l, b, le, refl, sym (ap (λ (k : TypedBlock). k.term) same), st), so))

  pub edges : ended.Edges X inits apart proper proper_locals (sorted X inits apart proper proper_locals are (rows_long D X.body1 inits are))
  edges = record {
    direct = λ i k p t lt ek term el. (place i k p t ek term, through i k p t lt ek term el);
    edge = start;
    place = place;
    plan = λ i k p t lt ty ek term el ep. plan_is D apart proper X.body1 inits proper_locals (rows_long D X.body1 inits are) i k p lt ty ek el ep (place i k p t ek term) (through i k p t lt ek term el);
  }
