-- What the rules say of a body that is elaborated; a terminator that reads scalars moves no unit.
use Rattle.std.proofs.Common.{◌≡◌, refl, sym, ap, ◌∙◌, subst, ℕ, ◌<◌, Bool, true, false, nat_eq, ◌||◌, List, [], ◌∷◌, length, Some, slice_get, arith}
use Rattle.std.proofs.lemmas.Bool.{eqb-true}
use Rattle.mir_syntax.specs.declared.types.ScalarTy.{ScalarTy}
use Rattle.mir_syntax.specs.declared.body.Place.{Place}
use Rattle.mir_syntax.specs.declared.body.Operand.{Operand}
use Rattle.mir_syntax.specs.declared.body.Operand.TheVariants as operand
use Rattle.mir_syntax.specs.declared.body.Term.{Term}
use Rattle.mir_syntax.specs.declared.body.Term.TheVariants.{Switch, Assert}
use Rattle.mir_syntax.specs.Tree.{Tree, scalar}
use Rattle.mir_syntax.specs.Parts.{rvalue_operands, term_operands}
use Rattle.mir_syntax.specs.Shapes.{Shape, path_ty, place_ty, needs_drop}
use Rattle.mir_syntax.specs.Crate.{TypedRvalue, TypedStmt, assign, TypedBlock}
use Rattle.mir_rules.specs.DefinitionRules.{holds}
use Rattle.mir_rules.specs.Typing.{operand_ty}
use Rattle.mir_rules.specs.Weights.{units}
use Rattle.mir_rules.proofs.Statements.{MovesKept}
use Rattle.mir_syntax.proofs.Binds.{bind_some}
use Rattle.move_paths.specs.Effects.{goes_on, is_under, moved_by_operand, moved_by}
use Rattle.drop_elab.specs.Elab.{Inits}
use Rattle.mir_relate.specs.Frames.{Change}
use Rattle.mir_relate.specs.Renumbered.{StmtSame, TermSame}
use Rattle.mir_relate.proofs.Leaves.{some_val}
use Rattle.drop_elab.proofs.refines.Items.{Proper, ProperShapes}
use Rattle.drop_elab.proofs.refines.Sound.{Has}
use Rattle.drop_elab.proofs.refines.UnitPaths.{unit_under}
use Rattle.drop_elab.proofs.refines.Kept.{unit_needs}
use Rattle.drop_elab.proofs.refines.Ended.{goes_parts, and_both}
use Rattle.drop_elab.proofs.refines.Delivers.{of_unit}
use Rattle.drop_elab.proofs.refines.Stand as stand
use Rattle.drop_elab.proofs.refines.Texts.{Itself}

-- operands that are scalars
abbrev pub IsScalar : List Shape → List Tree → Operand → Type 0
IsScalar D ts o = (s : ScalarTy) × (operand_ty D ts o ≡ Some (scalar s))

abbrev pub AllScalar : List Shape → List Tree → List Operand → Type 0
AllScalar D ts [] = Unit {0}
AllScalar D ts (o ∷ os) = IsScalar D ts o × AllScalar D ts os

abbrev pub ScalarTerm : List Shape → List Tree → Term → Type 0
ScalarTerm D ts (Switch o arms u) = IsScalar D ts o
ScalarTerm D ts (Assert o c words os u) = IsScalar D ts o × AllScalar D ts os
ScalarTerm D ts _ = Unit {0}

-- the rules of the source's body
pub record Rules (X : Change) : Type 0 where
  pub args_below : X.body1.args < length X.body1.locals
  pub first : (k : TypedBlock) × (slice_get X.body1.blocks 0 ≡ Some k)
  pub stmts : (i n : ℕ) (k : TypedBlock) (s : TypedStmt) → slice_get X.body1.blocks i ≡ Some k → slice_get k.stmts n ≡ Some s → StmtSame (Itself X.body1) s s
  pub terms : (i : ℕ) (k : TypedBlock) → slice_get X.body1.blocks i ≡ Some k → TermSame (Itself X.body1) k.term k.term
  pub assigns : (i n : ℕ) (k : TypedBlock) (p : Place) (r : TypedRvalue) → slice_get X.body1.blocks i ≡ Some k → slice_get k.stmts n ≡ Some (assign p r) → MovesKept X.source.shapes X.body1.locals (rvalue_operands r)
  pub moves : (i : ℕ) (k : TypedBlock) → slice_get X.body1.blocks i ≡ Some k → MovesKept X.source.shapes X.body1.locals (term_operands k.term)
  pub scalars : (i : ℕ) (k : TypedBlock) → slice_get X.body1.blocks i ≡ Some k → ScalarTerm X.source.shapes X.body1.locals k.term

module _ (X : Change) (inits : Inits) (apart : (d : ℕ) → holds X.source.shapes (length X.source.shapes) d d ≡ false) (proper : ProperShapes X.source.shapes) (proper_locals : (x : ℕ) (t : Tree) → slice_get X.body1.locals x ≡ Some t → Proper t) where
  abbrev D : List Shape
  D = X.source.shapes

  abbrev us : List Place
  us = stand.us X inits apart proper

  scalar_needs : (s : ScalarTy) → needs_drop D (scalar s) ≡ false
  unfolding needs_drop
  scalar_needs s = refl

  -- no unit stands under a scalar
  none_under : (p : Place) (s : ScalarTy) (u : Place) → place_ty D X.body1.locals p ≡ Some (scalar s) → Has us u → (b : Bool) → is_under p u ≡ b → b ≡ false
  unfolding place_ty
  none_under p s u e hu false q = refl
  none_under p s u e hu true q =
      absurd (
      let (lt, el, pr, hp) = of_unit X inits apart proper proper_locals u hu in
      let (a, b) = and_both (nat_eq p.local u.local) (goes_on p.proj u.proj) q in
      let (rest, eu) = goes_parts p.proj u.proj b in
      let (l, e1, e2) = bind_some e in
      let same : l ≡ lt = some_val (sym e1 ∙ ap (slice_get X.body1.locals) (eqb-true p.local u.local a) ∙ el) in
      let h = unit_under D apart proper p.proj lt (scalar s) rest pr (subst (λ ps. Has (units D lt) ps) eu hp) (subst (λ l. path_ty D l p.proj ≡ Some (scalar s)) same e2) in
      let z : false ≡ true = sym (scalar_needs s) ∙ unit_needs D apart proper (scalar s) rest h in
      grind arith)

  pub scalar_moves : (o : Operand) (u : Place) → IsScalar D X.body1.locals o → Has us u → moved_by_operand o u ≡ false
  unfolding operand_ty
  scalar_moves (operand.Move p) u (s, e) hu = none_under p s u e hu (is_under p u) refl
  scalar_moves (operand.Copy p) u h hu = refl
  scalar_moves (operand.Const c) u h hu = refl

  pub scalars_move : (os : List Operand) (u : Place) → AllScalar D X.body1.locals os → Has us u → moved_by os u ≡ false
  scalars_move [] u h hu = refl
  scalars_move (o ∷ os) u h hu = ap (λ b. b || moved_by os u) (scalar_moves o u h.0 hu) ∙ scalars_move os u h.1 hu
