-- A valid crate with an elaborated body, where that is valid too, refines the crate.
use Rattle.std.proofs.Common.{◌≡◌, refl, sym, ap, ◌∙◌, subst, ℕ, suc, true, false, List, [], ◌∷◌, Option, Some, None, slice_get}
use Rattle.mir_syntax.specs.declared.body.Place.{Place}
use Rattle.mir_syntax.specs.declared.body.Operand.{Operand}
use Rattle.mir_syntax.specs.declared.body.Term.{Term}
use Rattle.mir_syntax.specs.declared.body.Term.TheVariants.{Goto, Switch, Return, Unreachable, Drop, Call, Assert}
use Rattle.mir_syntax.specs.declared.types.ScalarTy.TheVariants as scalar_ty
use Rattle.mir_syntax.specs.Parts.{is_direct, targets}
use Rattle.mir_syntax.specs.Tree.{Tree, empty, more}
use Rattle.mir_syntax.specs.Shapes.{Shape, shapes_of, path_through}
use Rattle.mir_syntax.specs.Crate.{TypedBlock, TypedBody, TypedFunction, Crate, assign}
use Rattle.mir_rules.specs.Valid.{Valid, with_body, at_function}
use Rattle.mir_rules.proofs.Bodies.{Alike}
use Rattle.mir_rules.proofs.Fixed.{apart_in}
use Rattle.mir_rules.proofs.Terminators.{OwnTyped, TermTyped, not_to_start}
use Rattle.mir_rules.proofs.ValidCrates.{body_formed_at, first_block, args_below, stmt_formed_at, term_formed_at, stmt_at, term_at}
use Rattle.mir_semantics.specs.Step.{Code, Visit, Dropping, Control, State, code_of}
use Rattle.mir_semantics.specs.Refines.{Refines}
use Rattle.mir_renaming.proofs.Typed.{ResultTy, ValidCode, VisitsTy, MaybeDrop, FrameTy, FramesTy, Typed}
use Rattle.mir_renaming.proofs.Types.{TypeMap}
use Rattle.valid_runs.proofs.Blanks.{Tupled, shapes_tupled}
use Rattle.valid_runs.proofs.Codes.{valid_code}
use Rattle.valid_runs.proofs.Shown.{Free, bottom, step_flat, step_known}
use Rattle.drop_elab.specs.Elab.{IsElab}
use Rattle.drop_elab.specs.Tupled.{TypesTupled}
use Rattle.mir_relate.specs.Frames.{Change}
use Rattle.mir_relate.specs.Pass.{Valids}
use Rattle.mir_relate.proofs.Replaced.{change, valids, Runs, replaced}
use Rattle.drop_elab.proofs.refines.Items.{IsTuple, Proper, ProperShapes}
use Rattle.drop_elab.proofs.refines.Sound.{Has}
use Rattle.drop_elab.proofs.refines.Sorts.{sorted}
use Rattle.drop_elab.proofs.refines.Edging as edging
use Rattle.drop_elab.proofs.refines.Texts.{stmt_self, term_self}
use Rattle.drop_elab.proofs.refines.Begin.{begun_state}
use Rattle.drop_elab.proofs.refines.Rules.{IsScalar, AllScalar, ScalarTerm, Rules}
use Rattle.drop_elab.proofs.refines.Stand as stand
use Rattle.drop_elab.proofs.refines.Law as law

-- the fields of definitions are tuples, and so is each tail of a tuple in them
pub proper_shapes : (C : Crate) (b : TypedBody) → TypesTupled (shapes_of C) b → ProperShapes (shapes_of C)
proper_shapes C b tu d s e k t q = (tuple t (shapes_tupled C d s e k t q), tu.fields d s e k t q)
  where
    tuple : (t : Tree) → Tupled t → IsTuple t
    tuple empty h = tt
    tuple (more u us) h = tt
    tuple t h = absurd h

-- operands of messages are scalar
all_scalar : (D : List Shape) (ts : List Tree) (os : List Operand) → ((i : ℕ) (o : Operand) → slice_get os i ≡ Some o → IsScalar D ts o) → AllScalar D ts os
all_scalar D ts [] h = tt
all_scalar D ts (o ∷ os) h = (h 0 o refl, all_scalar D ts os (λ i p e. h (suc i) p e))

scalar_term : (C : Crate) (D : List Shape) (ts : List Tree) (t : Term) → OwnTyped C D ts t → ScalarTerm D ts t
scalar_term C D ts (Switch o arms u) h = (h.ty, h.operand)
scalar_term C D ts (Assert o c words os u) h = ((scalar_ty.Bool, h.condition), all_scalar D ts os h.message)
scalar_term C D ts (Goto u) h = tt
scalar_term C D ts Return h = tt
scalar_term C D ts Unreachable h = tt
scalar_term C D ts (Drop p u) h = tt
scalar_term C D ts (Call p g os u) h = tt

-- the start of a block is no target
no_entry : (C : Crate) (D : List Shape) (ts : List Tree) (t : Term) → TermTyped C D ts t → Has (targets t) 0 → ⊥
no_entry C D ts t h (i, e) = not_to_start t i 0 h.targets e refl

bottom_same : (c c' : Control) (cs : List Control) → c'.function ≡ c.function → (bottom c' cs).function ≡ (bottom c cs).function
bottom_same c c' [] e = e
bottom_same c c' (d ∷ ds) e = refl

-- the types of a state don't depend on why the crate is valid
module _ (K : Code) (v w : ValidCode K) (G : TypeMap) where
  visits_over : (is : List Visit) → VisitsTy K v G is → VisitsTy K w G is
  visits_over [] h = tt
  visits_over (i ∷ is) h = (h.0, visits_over is h.1)

  maybe_over : (o : Option Dropping) → MaybeDrop K v G o → MaybeDrop K w G o
  maybe_over None h = tt
  maybe_over (Some d) h = (h.0, visits_over d.items h.1)

  frame_over : (c : Control) → FrameTy K v G c → FrameTy K w G c
  frame_over c h = record { locals = h.locals; dest = h.dest; dropping = maybe_over c.dropping h.dropping }

  frames_over : (cs : List Control) → FramesTy K v G cs → FramesTy K w G cs
  frames_over [] h = tt
  frames_over (c ∷ cs) h = (frame_over c h.0, frames_over cs h.1)

typed_over : (K : Code) (v w : ValidCode K) (s : State) → Typed K v s → Typed K w s
typed_over K v w s t = record { types = t.types; mem = t.mem; top = frame_over K v w t.types s.top t.top; callers = frames_over K v w t.types s.callers t.callers; fresh = t.fresh }

module _ (C : Crate) (valid : Valid C) (f : ℕ) (g : TypedFunction) (there : slice_get C.functions f ≡ Some g) (tu : TypesTupled (shapes_of C) g.body) (e : TypedBody) (is : IsElab (shapes_of C) g.body e) (alike : Alike (with_body g e) g) (valid2 : Valid (at_function C f g e)) where
  abbrev X : Change
  X = change C valid f g there e alike valid2

  abbrev V : Valids X
  V = valids C valid f g there e alike valid2

  abbrev Inv : State → Type 0
  Inv = Runs C valid f g there e alike valid2

  rules : Rules X
  rules = record {
    args_below = args_below C g.body (body_formed_at C valid f g there);
    first = first_block C g.body (body_formed_at C valid f g there);
    stmts = λ i n k s ek es. stmt_self C g.body s (stmt_formed_at C g.body (body_formed_at C valid f g there) i n k s ek es);
    terms = λ i k ek. term_self C g.body k.term (term_formed_at C g.body (body_formed_at C valid f g there) i k ek);
    assigns = λ i n k p r ek es. (stmt_at C valid f i n g k (assign p r) there ek es).moves;
    moves = λ i k ek. (term_at C valid f i g k there ek).moves;
    scalars = λ i k ek. scalar_term C (shapes_of C) g.body.locals k.term (term_at C valid f i g k there ek).own;
  }

  proper : ProperShapes X.source.shapes
  proper = proper_shapes C g.body tu

  proper_locals : (x : ℕ) (t : Tree) → slice_get X.body1.locals x ≡ Some t → Proper t
  proper_locals x t q = tu.locals x t q

  place : (i : ℕ) (k : TypedBlock) (p : Place) (t : ℕ) → slice_get X.body1.blocks i ≡ Some k → k.term ≡ Drop p t → is_direct p.proj ≡ true
  place i k p t ek term = (subst (OwnTyped C (shapes_of C) g.body.locals) term (term_at C valid f i g k there ek).own).direct

  through : (i : ℕ) (k : TypedBlock) (p : Place) (t : ℕ) (lt : Tree) → slice_get X.body1.blocks i ≡ Some k → k.term ≡ Drop p t → slice_get X.body1.locals p.local ≡ Some lt → path_through X.source.shapes (Some lt) p.proj ≡ false
  through i k p t lt ek term el = ap (λ o. path_through (shapes_of C) o p.proj) (sym el) ∙ (subst (OwnTyped C (shapes_of C) g.body.locals) term (term_at C valid f i g k there ek).own).outside

  inv_begun : (s : State) (d : Dropping) → Inv s → Typed X.source V.valid1 (begun_state s d) → Inv (begun_state s d)
  inv_begun s d h t = record { typed = typed_over (code_of C) V.valid1 (valid_code C valid) (begun_state s d) t; quiet = subst Ends (sym (bottom_same s.top (record s.top { dropping = Some d }) s.callers refl)) h.quiet }
    where
      Ends : ℕ → Type 0
      Ends n = (b : TypedBody) → slice_get (code_of C).bodies n ≡ Some b → (t : Tree) → ResultTy b.locals t → Free (shapes_of C) (apart_in C valid) t

  pub refines : Refines (at_function C f g e) C
  refines =
      let apart = apart_in C valid in
      let long = edging.rows_long (shapes_of C) g.body is.inits is.are_inits in
      replaced C valid f g there e alike valid2 (stand.pass X is.inits apart proper)
      (law.laws X is.inits apart proper proper_locals (sorted X is.inits apart proper proper_locals is.are_inits long)
      (edging.edges X is.inits apart proper proper_locals is.are_inits (λ i k ek h. no_entry C (shapes_of C) g.body.locals k.term (term_at C valid f i g k there ek) h) place through)
      is.is V Inv inv_begun rules (step_known (code_of C) apart (valid_code C valid), λ s x i q. step_flat (code_of C) apart (valid_code C valid) s x i q))
