-- What the target does first comes first: it comes to where it can follow, and then a step of a drop of the source has its answer.
use Rattle.std.proofs.Common.{◌≡◌, ◌⊎◌, inl, inr, refl, sym, ap, ◌∙◌, subst, ℕ, zero, suc, false, List, [], length, Option, Some, None, slice_get, arith}
use Rattle.mir_renaming.specs.Renaming.{Renaming}
use Rattle.mir_syntax.specs.declared.body.Place.{Place}
use Rattle.mir_syntax.specs.declared.body.Term.{Term}
use Rattle.mir_syntax.specs.declared.body.Term.TheVariants.{Goto, Switch, Return, Unreachable, Drop, Call, Assert}
use Rattle.mir_syntax.specs.Tree.{Tree}
use Rattle.mir_syntax.specs.Crate.{TypedStmt, TypedBlock}
use Rattle.mir_syntax.specs.Shapes.{Shape}
use Rattle.mir_rules.specs.DefinitionRules.{holds}
use Rattle.mir_semantics.specs.Memory.{Memory}
use Rattle.mir_semantics.specs.Step.{Code, Dropping, Control, State, Next, on, stop, fail, step}
use Rattle.mir_renaming.proofs.Typed.{Typed, step_typed}
use Rattle.mir_relate.specs.Simulation.{moves, keep_on}
use Rattle.drop_elab.specs.Elab.{Inits}
use Rattle.mir_relate.specs.Frames.{Change, target, Pass, Below, Base}
use Rattle.mir_relate.specs.Pass.{Valids, FrameLaws, Answers, Related}
use Rattle.mir_relate.proofs.Mild.{gentle_none}
use Rattle.mir_relate.proofs.Leaves.{some_val}
use Rattle.mir_relate.proofs.Own as own
use Rattle.drop_elab.proofs.refines.Items.{Proper, ProperShapes}
use Rattle.drop_elab.proofs.refines.Stand as stand
use Rattle.drop_elab.proofs.refines.Stages as stages
use Rattle.drop_elab.proofs.refines.Running.{answers_after}
use Rattle.drop_elab.proofs.refines.Ended as ended
use Rattle.drop_elab.proofs.refines.Ends as ends
use Rattle.drop_elab.proofs.refines.Steps as steps
use Rattle.drop_elab.proofs.refines.Begin.{begun_state}
use Rattle.drop_elab.proofs.refines.Begun as begins

typed_moves : (X : Change) (V : Valids X) (k : ℕ) (s s' : State) → Typed (target X) V.valid2 s → moves (target X) k s ≡ Some s' → Typed (target X) V.valid2 s'
typed_moves X V zero s s' t e = subst (Typed (target X) V.valid2) (some_val e) t
typed_moves X V (suc k) s s' t e = go (λ t' h m. typed_moves X V k t' s' h m) (step (target X) s) refl e
  where
    go : ((t' : State) → Typed (target X) V.valid2 t' → moves (target X) k t' ≡ Some s' → Typed (target X) V.valid2 s') → (o : Option Next) → step (target X) s ≡ o → keep_on (moves (target X) k) o ≡ Some s' → Typed (target X) V.valid2 s'
    go ih None q e = absurd (grind arith)
    go ih (Some (on t')) q e = ih t' (step_typed (target X) V.valid2 s (on t') t q) e
    go ih (Some (stop o)) q e = absurd (grind arith)
    go ih (Some (fail t)) q e = absurd (grind arith)

module _ (X : Change) (inits : Inits) (apart : (d : ℕ) → holds X.source.shapes (length X.source.shapes) d d ≡ false) (proper : ProperShapes X.source.shapes) (proper_locals : (x : ℕ) (t : Tree) → slice_get X.body1.locals x ≡ Some t → Proper t) (S : stages.Sorted X inits apart proper) (edges : ended.Edges X inits apart proper proper_locals S) (at2 : slice_get X.bodies X.f ≡ Some (stand.E X inits apart proper)) (V : Valids X) (Inv : State → Type 0) (inv_begun : (s : State) (d : Dropping) → Inv s → Typed X.source V.valid1 (begun_state s d) → Inv (begun_state s d)) (frames : FrameLaws X (stand.pass X inits apart proper) V Inv) where
  abbrev D : List Shape
  D = X.source.shapes

  abbrev P : Pass
  P = stand.pass X inits apart proper

  abbrev T : Code
  T = target X

  -- what is related in a state where the target can follow
  pub record Follows (n : ℕ) (s2 s1 : State) : Type 0 where
    pub related : Related X (stand.pass X inits apart proper) V Inv n s2 s1
    pub below : Below X (stand.pass X inits apart proper) related.core.lent s2.top.dest s1.top.dest s2.top.frame s1.top.frame s2.callers s1.callers s2.memory s1.memory
    pub frame : stand.Frame X inits apart proper related.core.lent s2.top s1.top s2.memory s1.memory

  -- where the target comes
  abbrev pub come_to : (s : State) (n : ℕ) (j : Renaming) (c1 : Control) (m1 : Memory) → stand.Comes X inits apart proper s n j s.top c1 s.memory m1 → State
  come_to s n j c1 m1 O = record s { memory = O.memory; top = O.control }

  pub comes_there : (n : ℕ) (s2 s1 : State) (r : Related X (stand.pass X inits apart proper) V Inv n s2 s1) → Below X (stand.pass X inits apart proper) r.core.lent s2.top.dest s1.top.dest s2.top.frame s1.top.frame s2.callers s1.callers s2.memory s1.memory → (O : stand.Comes X inits apart proper s2 n r.core.lent s2.top s1.top s2.memory s1.memory) → Follows n (come_to s2 n r.core.lent s1.top s1.memory O) s1
  comes_there n s2 s1 r be O =
      let s : State = record s2 { memory = O.memory; top = O.control } in
      let lf = left O.memory O.control O.past O.frame O.same.0 in
      let bl = own.below_left X P V Inv frames n s2 s1 r [] s1.callers refl (omega arith) be O.memory s1.memory lf (gentle_none X.source.shapes r.typed1.types s1.top.frame s1.memory) in
      record {
        related = record { core = record { lent = r.core.lent; base = c_base O.control O.same.0 O.memory; linked = lf.0; runs = inr ([], s1.callers, refl, omega arith, (refl, λ G mt lk t. record { control = O.control; memory = O.memory; count = 0; comes = refl; same = (refl, refl); past = steps.past_refl X inits apart proper proper_locals S at2 O.control.frame O.memory; frame = O.frame; ready = O.ready }), at_control O.control O.memory O.same.0 O.same.1 bl) }; typed1 = r.typed1; typed2 = typed_moves X V O.count s2 s r.typed2 O.comes; drops = r.drops; dests = r.dests; inv = r.inv };
        below = at_control O.control O.memory O.same.0 O.same.1 bl;
        frame = O.frame;
      }
    where
      at_control : (c : Control) (m : Memory) → c.frame ≡ s2.top.frame → c.dest ≡ s2.top.dest → Below X (stand.pass X inits apart proper) r.core.lent s2.top.dest s1.top.dest s2.top.frame s1.top.frame s2.callers s1.callers m s1.memory → Below X (stand.pass X inits apart proper) r.core.lent c.dest s1.top.dest c.frame s1.top.frame s2.callers s1.callers m s1.memory
      at_control c m f d b = subst (λ f. Below X (stand.pass X inits apart proper) r.core.lent c.dest s1.top.dest f s1.top.frame s2.callers s1.callers m s1.memory) (sym f) (subst (λ d. Below X (stand.pass X inits apart proper) r.core.lent d s1.top.dest s2.top.frame s1.top.frame s2.callers s1.callers m s1.memory) (sym d) b)

      c_base : (c : Control) → c.frame ≡ s2.top.frame → (m : Memory) → Base r.core.lent (record s2 { memory = m; top = c }) s1
      c_base c f m = record { fresh1 = r.core.base.fresh1; fresh2 = r.core.base.fresh2; top1 = r.core.base.top1; top2 = (let t = r.core.base.top2 in omega (arith, f, t)); answers = r.core.base.answers; trace = r.core.base.trace }

      left : (m : Memory) (c : Control) → stand.Past X inits apart proper s2.top.frame s2.memory m → stand.Frame X inits apart proper r.core.lent c s1.top m s1.memory → c.frame ≡ s2.top.frame → own.Left X (stand.pass X inits apart proper) V Inv frames n s2 s1 r [] s1.callers refl (omega arith) be m s1.memory
      left m c p fr q = (
        record { mem = record { at = λ h x g y e v ev. (let (w, ew, rel) = r.core.linked.mem.at h x g y e v ev in (w, p.others g y (mapped h x g y e) ∙ ew, rel)) }; apart = r.core.linked.apart },
        record {
          up = λ h x z e. e;
          same1 = λ h x l. refl;
          same2 = λ h x g y l e. e;
          source = λ h x l e. refl;
          target = λ g y l ne. p.others g y (λ a z. absurd (omega (arith, l, a)));
          steady = λ h x g y t v' w' l e ty a b. record { old1 = v'; old2 = w'; was1 = a; was2 = sym (p.others g y (mapped h x g y e)) ∙ b; agree = λ z. z };
        },
      )
        where
          mapped : (h x g y : ℕ) → r.core.lent h x ≡ Some (g, y) → g ≡ s2.top.frame → slice_get X.body1.locals y ≡ None → ⊥
          mapped h x g y e a none = let (b, d, (t, z)) = fr.only h x y (e ∙ ap (λ g. Some (g, y)) (a ∙ sym q)) in let u : ◌≡◌ {A = Option Tree} None (Some t) = sym none ∙ z in grind arith

  -- what is left: a statement, any end of a block but a drop, and a call behind its settings
  abbrev pub AtStatement : Type 0
  AtStatement = (n : ℕ) (s2 s1 : State) (f : Follows n s2 s1) → stand.Stated X inits apart proper s2.top s1.top s2.memory s1.memory → ((k : TypedBlock) (p : Place) (t : ℕ) → slice_get X.body1.blocks s1.top.block ≡ Some k → slice_get k.stmts s1.top.at ≡ None → k.term ≡ Drop p t → ⊥) → (x : Next) → step X.source s1 ≡ Some x → Answers X P n s2 x

  abbrev pub AtCall : Type 0
  AtCall = (n : ℕ) (s2 s1 : State) (f : Follows n s2 s1) → stand.Handing X inits apart proper s2.top s1.top s2.memory s1.memory → (x : Next) → step X.source s1 ≡ Some x → Answers X P n s2 x

  at_end : (s1 : State) → ((k : TypedBlock) × (p : Place) × (t : ℕ) × (slice_get X.body1.blocks s1.top.block ≡ Some k) × (slice_get k.stmts s1.top.at ≡ None) × (k.term ≡ Drop p t)) ⊎ ((k : TypedBlock) (p : Place) (t : ℕ) → slice_get X.body1.blocks s1.top.block ≡ Some k → slice_get k.stmts s1.top.at ≡ None → k.term ≡ Drop p t → ⊥)
  at_end s1 = by_block (slice_get X.body1.blocks s1.top.block) refl
    where
      Ends : Type 0
      Ends = ((k : TypedBlock) × (p : Place) × (t : ℕ) × (slice_get X.body1.blocks s1.top.block ≡ Some k) × (slice_get k.stmts s1.top.at ≡ None) × (k.term ≡ Drop p t)) ⊎ ((k : TypedBlock) (p : Place) (t : ℕ) → slice_get X.body1.blocks s1.top.block ≡ Some k → slice_get k.stmts s1.top.at ≡ None → k.term ≡ Drop p t → ⊥)

      drops : (t : Term) → ((p : Place) × (u : ℕ) × (t ≡ Drop p u)) ⊎ ((p : Place) (u : ℕ) → t ≡ Drop p u → ⊥)
      drops (Drop p u) = inl (p, u, refl)
      drops (Goto u) = inr (λ p v e. grind arith)
      drops (Switch o arms u) = inr (λ p v e. grind arith)
      drops Return = inr (λ p v e. grind arith)
      drops Unreachable = inr (λ p v e. grind arith)
      drops (Call q g os u) = inr (λ p v e. grind arith)
      drops (Assert o c m os u) = inr (λ p v e. grind arith)

      by_term : (k : TypedBlock) → slice_get X.body1.blocks s1.top.block ≡ Some k → slice_get k.stmts s1.top.at ≡ None → ((p : Place) × (u : ℕ) × (k.term ≡ Drop p u)) ⊎ ((p : Place) (u : ℕ) → k.term ≡ Drop p u → ⊥) → Ends
      by_term k e q (inl (p, u, z)) = inl (k, p, u, e, q, z)
      by_term k e q (inr n) = inr (λ k' p u e' q' z. n p u (ap (λ (k : TypedBlock). k.term) (some_val (sym e ∙ e')) ∙ z))

      by_stmt : (k : TypedBlock) → slice_get X.body1.blocks s1.top.block ≡ Some k → (o : Option TypedStmt) → slice_get k.stmts s1.top.at ≡ o → Ends
      by_stmt k e None q = by_term k e q (drops k.term)
      by_stmt k e (Some s) q = inr (λ k' p u e' q' z. (let same : k ≡ k' = some_val (sym e ∙ e') in let w : ◌≡◌ {A = Option TypedStmt} (Some s) None = sym q ∙ ap (λ (k : TypedBlock). slice_get k.stmts s1.top.at) same ∙ q' in grind arith))

      by_block : (o : Option TypedBlock) → slice_get X.body1.blocks s1.top.block ≡ o → Ends
      by_block None e = inr (λ k p u e' q z. (let w : None ≡ Some k = sym e ∙ e' in grind arith))
      by_block (Some k) e = by_stmt k e (slice_get k.stmts s1.top.at) refl

  -- the layer's law for a step of the elaborated function, given these
  pub step_answers : AtStatement → AtCall → (n : ℕ) (s2 s1 : State) (r : Related X (stand.pass X inits apart proper) V Inv n s2 s1) → Below X (stand.pass X inits apart proper) r.core.lent s2.top.dest s1.top.dest s2.top.frame s1.top.frame s2.callers s1.callers s2.memory s1.memory → stand.Own X inits apart proper n r.core.lent s2.top s1.top s2.memory s1.memory → (x : Next) → step X.source s1 ≡ Some x → Answers X P n s2 x
  step_answers others calls n s2 s1 r be o x e =
      let O = o s2 in
      let s = come_to s2 n r.core.lent s1.top s1.memory O in
      answers_after X P n O.count s2 s x O.comes refl (there s (comes_there n s2 s1 r be O) O.ready)
    where
      there : (s : State) (f : Follows n s s1) → stand.Ready X inits apart proper n s.top s1.top s.memory s1.memory → Answers X P n s x
      there s f (inr (inr h)) = calls n s s1 f h x e
      there s f (inr (inl (k, p, d, cur, inner, os, st, wn, calm, w))) =
          steps.drop_answers X inits apart proper proper_locals S at2 V Inv frames n s s1 f.related f.below f.frame k p calm
          (ends.ends X inits apart proper proper_locals S edges at2 V Inv frames n s s1 f.related f.below f.frame k p calm) d cur inner os x st w wn e
      there s f (inl (wn, st)) = pick (at_end s1)
        where
          pick : ((k : TypedBlock) × (p : Place) × (t : ℕ) × (slice_get X.body1.blocks s1.top.block ≡ Some k) × (slice_get k.stmts s1.top.at ≡ None) × (k.term ≡ Drop p t)) ⊎ ((k : TypedBlock) (p : Place) (t : ℕ) → slice_get X.body1.blocks s1.top.block ≡ Some k → slice_get k.stmts s1.top.at ≡ None → k.term ≡ Drop p t → ⊥) → Answers X P n s x
          pick (inl (k, p, t, ek, none, term)) = begins.first_answers X inits apart proper proper_locals S edges at2 V Inv inv_begun frames n s s1 f.related f.below f.frame st wn k p t ek none term x e
          pick (inr no_drop) = others n s s1 f st no_drop x e
