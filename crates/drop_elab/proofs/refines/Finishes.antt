-- The end of a block of the elaborated function that is no drop and no call: both do the same.
use Rattle.std.proofs.Common.{◌≡◌, inl, refl, sym, ap, ap₂, ◌∙◌, subst, ℕ, suc, ◌<◌, Bool, true, false, ◌||◌, nat_eq, if◌then◌else◌, List, [], ◌∷◌, ◌++◌, map, length, Some, None, slice_get, arith}
use Rattle.mir_syntax.specs.declared.body.Arm.{Arm}
use Rattle.mir_syntax.specs.declared.body.Place.{Place}
use Rattle.mir_syntax.specs.declared.body.Operand.{Operand}
use Rattle.mir_syntax.specs.declared.body.Term.{Term}
use Rattle.mir_syntax.specs.declared.body.Term.TheVariants.{Goto, Switch, Return, Unreachable, Drop, Call, Assert}
use Rattle.mir_syntax.specs.Parts.{arm_block, term_operands, targets}
use Rattle.mir_syntax.specs.Tree.{Tree}
use Rattle.mir_syntax.specs.Shapes.{Shape}
use Rattle.mir_syntax.specs.Crate.{TypedBlock, TypedBody}
use Rattle.mir_num.specs.Numbers.{flag}
use Rattle.mir_rules.specs.DefinitionRules.{holds}
use Rattle.mir_semantics.specs.Memory.{Memory, local_at}
use Rattle.mir_semantics.specs.Values.{Value, number}
use Rattle.mir_semantics.specs.Step.{Here, State, Next, take_arm, to_block, finish, perform, step, read_number}
use Rattle.mir_renaming.specs.Renaming.{Renaming}
use Rattle.mir_renaming.proofs.Ghosts.{Flat}
use Rattle.mir_relate.specs.Alike.{Between, Sides, Reads, AllRead}
use Rattle.mir_relate.specs.Renumbered.{OperandSame, OperandsSame, TermSame}
use Rattle.mir_relate.specs.Frames.{Change, target, Pass, Below}
use Rattle.mir_relate.specs.Pass.{MoveOk, AllMoves, TermMoves, ArgsTerm, Valids, FrameLaws, Answers, Goes, Related}
use Rattle.mir_relate.proofs.BodyLaw.{goes_answer}
use Rattle.mir_relate.proofs.Gentle.{step_gentle}
use Rattle.mir_relate.proofs.Kept as kept
use Rattle.mir_relate.proofs.Leaves.{some_val}
use Rattle.mir_relate.proofs.Numbered as numbered
use Rattle.mir_relate.proofs.Own as own
use Rattle.mir_relate.proofs.Rest.{drop_none}
use Rattle.mir_relate.proofs.Running as running
use Rattle.move_paths.specs.Effects.{term_effect, moved_by, ended_if}
use Rattle.move_paths.specs.Inits.{after_effect}
use Rattle.drop_elab.specs.Elab.{Inits, Flagged}
use Rattle.drop_elab.proofs.refines.Items.{Proper, ProperShapes}
use Rattle.drop_elab.proofs.refines.Bodies.{block_of, elab_block}
use Rattle.drop_elab.proofs.refines.Sound.{Has, SoundAt, SoundBefore, sound_start, sound_along}
use Rattle.drop_elab.proofs.refines.Stand as stand
use Rattle.drop_elab.proofs.refines.Stand.{held}
use Rattle.drop_elab.proofs.refines.Stages as stages
use Rattle.drop_elab.proofs.refines.Ended as ended
use Rattle.drop_elab.proofs.refines.Texts.{Itself}
use Rattle.drop_elab.proofs.refines.Changes as changes
use Rattle.drop_elab.proofs.refines.Statements as statements
use Rattle.drop_elab.proofs.refines.Rules.{IsScalar, AllScalar, ScalarTerm, Rules, scalar_moves, scalars_move}

-- the taken block is one of the targets
take_has : (i : ℕ) (arms : List Arm) (u : ℕ) → Has (map arm_block arms ++ u ∷ []) (take_arm i arms u)
take_has i [] u = (0, refl)
take_has i (a ∷ arms) u = go (nat_eq a.value i) (take_has i arms u)
  where
    go : (c : Bool) → Has (map arm_block arms ++ u ∷ []) (take_arm i arms u) → Has (a.block ∷ (map arm_block arms ++ u ∷ [])) (if c then a.block else take_arm i arms u)
    go true h = (0, refl)
    go false (n, e) = (suc n, e)

module _ (X : Change) (inits : Inits) (apart : (d : ℕ) → holds X.source.shapes (length X.source.shapes) d d ≡ false) (proper : ProperShapes X.source.shapes) (proper_locals : (x : ℕ) (t : Tree) → slice_get X.body1.locals x ≡ Some t → Proper t) (S : stages.Sorted X inits apart proper) (edges : ended.Edges X inits apart proper proper_locals S) (is2 : X.body2 ≡ stand.E X inits apart proper) (V : Valids X) (Inv : State → Type 0) (frames : FrameLaws X (stand.pass X inits apart proper) V Inv) (rules : Rules X) (n : ℕ) (s2 s1 : State) (r : Related X (stand.pass X inits apart proper) V Inv n s2 s1) (be : Below X (stand.pass X inits apart proper) r.core.lent s2.top.dest s1.top.dest s2.top.frame s1.top.frame s2.callers s1.callers s2.memory s1.memory) (fr : stand.Frame X inits apart proper r.core.lent s2.top s1.top s2.memory s1.memory) where
  abbrev D : List Shape
  D = X.source.shapes

  abbrev P : Pass
  P = stand.pass X inits apart proper

  abbrev E : TypedBody
  E = stand.E X inits apart proper

  abbrev us : List Place
  us = stand.us X inits apart proper

  abbrev fs : List Flagged
  fs = stand.fs X inits apart proper

  abbrev j : Renaming
  j = r.core.lent

  abbrev f1 : ℕ
  f1 = s1.top.frame

  abbrev f2 : ℕ
  f2 = s2.top.frame

  abbrev H1 : Here
  H1 = record { shapes = X.source.shapes; locals = X.body1.locals; frame = s1.top.frame }

  abbrev pub eb : slice_get X.source.bodies s1.top.function ≡ Some X.body1
  eb = statements.eb X inits apart proper proper_locals is2 V Inv frames n s2 s1 r be fr

  abbrev pub lok : (x : ℕ) (t : Tree) → slice_get X.body1.locals x ≡ Some t → r.typed1.types s1.top.frame x ≡ Some t
  lok = statements.lok X inits apart proper proper_locals is2 V Inv frames n s2 s1 r be fr

  abbrev pub Q : Between
  Q = statements.Q X inits apart proper proper_locals is2 V Inv frames n s2 s1 r be fr

  abbrev pub keeps : kept.Kept X.source.shapes X.body1.locals X.body2.locals s1.top.frame s2.top.frame r.core.lent r.core.lent (numbered.sub_self r.core.lent) r.typed1.types (V.valid1.blank_ok r.typed1.types) lok Q
  keeps = statements.keeps X inits apart proper proper_locals is2 V Inv frames n s2 s1 r be fr

  abbrev pub start : Q s2.memory s1.memory
  start = statements.start X inits apart proper proper_locals is2 V Inv frames n s2 s1 r be fr

  abbrev pub Locals : Memory → Type 0
  Locals = changes.Locals X inits apart proper proper_locals V.needs r.typed1.types (V.valid1.blank_ok r.typed1.types) s1.top.frame lok

  abbrev pub now : Locals s1.memory
  now = statements.locals_now X inits apart proper proper_locals is2 V Inv frames n s2 s1 r be fr

  abbrev pub sides : Sides
  sides = kept.sides X.source.shapes X.body1.locals X.body2.locals s1.top.frame s2.top.frame r.core.lent r.core.lent (numbered.sub_self r.core.lent) r.typed1.types (V.valid1.blank_ok r.typed1.types) lok

  -- ---- operands

  pub reads : (o : Operand) → OperandSame (Itself X.body1) o o → MoveOk H1 o → Reads sides Q o o
  reads o h mo = kept.reads_as D X.body1.locals X.body2.locals f1 f2 j j (numbered.sub_self j) r.typed1.types (V.valid1.blank_ok r.typed1.types) lok Q keeps o o (numbered.operand_as D X.body1.locals X.body2.locals f1 f2 j r.typed1.types (V.valid1.blank_ok r.typed1.types) lok (Itself X.body1) roots types o o h) mo
    where
      roots : (x y : ℕ) → Itself X.body1 x y → j f1 x ≡ Some (f2, y)
      roots = statements.roots X inits apart proper proper_locals is2 V Inv frames n s2 s1 r be fr

      types : (x y : ℕ) → Itself X.body1 x y → slice_get X.body1.locals x ≡ slice_get X.body2.locals y
      types = statements.types X inits apart proper proper_locals is2 V Inv frames n s2 s1 r be fr

  pub all_read : (os : List Operand) → OperandsSame (Itself X.body1) os os → AllMoves H1 os → AllRead sides Q os os
  all_read [] h mo = tt
  all_read (o ∷ os) h mo = (reads o h.0 mo.0, all_read os h.1 mo.1)

  left : (m2 m1 : Memory) → Q m2 m1 → own.Left X P V Inv frames n s2 s1 r [] s1.callers refl (omega arith) be m2 m1
  left m2 m1 q = (q.linked, q.leaves)

  -- ---- the ends of blocks

  module _ (st : stand.Stated X inits apart proper s2.top s1.top s2.memory s1.memory) (k : TypedBlock) (ek : slice_get X.body1.blocks s1.top.block ≡ Some k) (none : slice_get k.stmts s1.top.at ≡ None) where
    sound_here : SoundBefore D X.body1 s1.top.block k [] (held s1.memory f1)
    sound_here =
        let (l0, b0, le0, e2, s0) = elab_block D X.body1 inits s1.top.block k ek in
        let (end, es, (en, so)) = st.here k (block_of D X.body1 us fs inits s1.top.block k l0 b0) ek e2 in
        subst (λ ss. SoundBefore D X.body1 s1.top.block k ss (held s1.memory f1)) (drop_none k.stmts s1.top.at none) so

    abbrev pub To : Memory → Memory → ℕ → ℕ → Type 0
    To m2 m1 u2 u1 = (n' : ℕ) × P.own n' j (to_block u2 s2.top) (to_block u1 s1.top) [] m2 m1

    -- along an edge on which no unit changes
    edge_to : (m2 m1 : Memory) → Q m2 m1 → Locals m1 → ((u : Place) → Has us u → held m1 f1 u ≡ held s1.memory f1 u) → ((u : Place) (h : Bool) → Has us u → after_effect (term_effect u k.term) h ≡ h) → (t : ℕ) → Has (targets k.term) t → To m2 m1 t t
    edge_to m2 m1 q l same calm t ht = (
      stand.number_of X inits apart proper t,
      (
        refl,
        λ G mt lk s. record {
          control = to_block t s2.top;
          memory = m2;
          count = 0;
          comes = refl;
          same = (refl, refl);
          past = record { others = λ g x n. refl; there = λ x v e. (v, e) };
          frame = statements.frame_near X inits apart proper proper_locals is2 V Inv frames n s2 s1 r be fr (to_block t s2.top) (to_block t s1.top) m2 m1 refl refl refl refl q l;
          ready = inl (
            refl,
            record {
              calm = refl;
              calm2 = refl;
              says = λ u x hu ex. statements.flag_still X inits apart proper proper_locals is2 V Inv frames n s2 s1 r be fr m2 m1 q u x ex ∙ st.says u x hu ex ∙ ap (λ b. Some (number (flag b))) (sym (same u hu));
              block = refl;
              here = λ k1 k2 e1 e2. (let (end, es, (en, so)) = edges.edge s1.top.block t k (held m1 f1) ek ht sound k1 k2 e1 e2 in (end, es, (en, sound_start D X.body1 t k1 (held m1 f1) so)));
            },
          );
        },
      ),
    )
      where
        sound : SoundAt D X.body1 t (held m1 f1)
        sound = sound_along D X.body1 s1.top.block t k (held s1.memory f1) (held m1 f1) ek ht (λ u hu. same u hu ∙ sym (calm u (held s1.memory f1 u) hu)) sound_here

    -- where the memory is as it was
    abbrev Still : Between
    Still m2 m1 = Q m2 m1 × (m1 ≡ s1.memory)

    edge_still : ((u : Place) (h : Bool) → Has us u → after_effect (term_effect u k.term) h ≡ h) → (t : ℕ) → Has (targets k.term) t → (m2 m1 : Memory) → Still m2 m1 → To m2 m1 t t
    edge_still calm t ht m2 m1 (q, e) = edge_to m2 m1 q (subst Locals (sym e) now) (λ u hu. ap (λ m. held m f1 u) e) calm t ht

    -- a scalar was read
    edge_read : (o : Operand) → IsScalar D X.body1.locals o → changes.Reading X o → ((u : Place) (h : Bool) → Has us u → after_effect (term_effect u k.term) h ≡ h) → (t : ℕ) → Has (targets k.term) t → (i : ℕ) (m2 m1 : Memory) → Q m2 m1 → read_number H1 s1.memory o ≡ Some (i, m1) → To m2 m1 t t
    edge_read o sc (th, ne) calm t ht i m2 m1 q e =
        let (l, tu) = changes.number_turns X inits apart proper proper_locals V.needs r.typed1.types (V.valid1.blank_ok r.typed1.types) f1 lok s1.memory o (i, m1) th ne e now in
        edge_to m2 m1 q l (λ u hu. tu u hu ∙ ap (λ b. after_effect (ended_if (b || false)) (held s1.memory f1 u)) (scalar_moves X inits apart proper proper_locals o u sc hu)) calm t ht

    calm_scalars : (os : List Operand) (u : Place) (h : Bool) → AllScalar D X.body1.locals os → Has us u → after_effect (ended_if (moved_by os u)) h ≡ h
    calm_scalars os u h sc hu = ap (λ b. after_effect (ended_if b) h) (scalars_move X inits apart proper proper_locals os u sc hu)

    abbrev SameQ : Term → Term → Type 0
    SameQ = own.SameStepIf X P V Inv frames n s2 s1 r [] s1.callers refl (omega arith) be sides Q left refl start

    abbrev SameStill : Term → Term → Type 0
    SameStill = own.SameStepIf X P V Inv frames n s2 s1 r [] s1.callers refl (omega arith) be sides Still (λ m2 m1 q. left m2 m1 q.0) refl (start, refl)

    only : (h x y : ℕ) (v : Value) → j h x ≡ Some (f2, y) → local_at s1.memory h x ≡ Some v → h ≡ f1
    only h x y v e q = (fr.only h x y e).0

    never : (h x y : ℕ) → h < f1 → j h x ≡ Some (f2, y) → ⊥
    never h x y lt e = (let z = (fr.only h x y e).0 in omega (arith, z, lt))

    by_q : (x : Next) (t : Term) → SameQ t t → ArgsTerm X.source t → finish X.source H1 s1 t ≡ Some x → Flat x → step X.source s1 ≡ Some x → Goes X P (finish (target X) sides.target s2 t) x
    by_q x t h few e fl st = own.step_if_goes X P V Inv frames n s2 s1 r [] s1.callers refl (omega arith) be sides Q left refl start refl refl X.body1 eb only never t t x few h e fl (step_gentle X V s1 r.typed1 r.drops r.dests x st)

    by_still : (x : Next) (t : Term) → SameStill t t → ArgsTerm X.source t → finish X.source H1 s1 t ≡ Some x → Flat x → step X.source s1 ≡ Some x → Goes X P (finish (target X) sides.target s2 t) x
    by_still x t h few e fl st = own.step_if_goes X P V Inv frames n s2 s1 r [] s1.callers refl (omega arith) be sides Still (λ m2 m1 q. left m2 m1 q.0) refl (start, refl) refl refl X.body1 eb only never t t x few h e fl (step_gentle X V s1 r.typed1 r.drops r.dests x st)

    -- both take it
    goes : (x : Next) (t : Term) → k.term ≡ t → ((p : Place) (u : ℕ) → t ≡ Drop p u → ⊥) → TermSame (Itself X.body1) t t → TermMoves H1 t → ScalarTerm D X.body1.locals t → changes.AllReading X (term_operands t) → ArgsTerm X.source t → finish X.source H1 s1 t ≡ Some x → Flat x → step X.source s1 ≡ Some x → ((p : Place) (g : _) (os : List Operand) (u : ℕ) → t ≡ Call p g os u → ⊥) → Goes X P (finish (target X) sides.target s2 t) x
    goes x (Goto u) et nd tx mo sc rd few e fl se nc = by_still x (Goto u) (edge_still (λ w h hw. ap (λ t. after_effect (term_effect w t) h) et) u (subst (λ t. Has (targets t) u) (sym et) (0, refl))) few e fl se
    goes x (Switch o arms u) et nd tx mo sc rd few e fl se nc = by_q x (Switch o arms u) (reads o tx.0 mo, λ i. edge_read o sc rd (λ w h hw. ap (λ t. after_effect (term_effect w t) h) et ∙ calm_scalars (o ∷ []) w h (sc, tt) hw) (take_arm i arms u) (subst (λ t. Has (targets t) (take_arm i arms u)) (sym et) (take_has i arms u)) i) few e fl se
    goes x Return et nd tx mo sc rd few e fl se nc =
        let (t, rt) = V.valid1.result s1.top.function X.body1 eb in
        by_still x Return (refl, λ v q. running.result r fr.function1 fr.function2 j (numbered.sub_self j) r.core.linked.mem (fr.roots 0 t rt) v q) few e fl se
    goes x Unreachable et nd tx mo sc rd few e fl se nc = by_still x Unreachable tt few e fl se
    goes x (Assert o c words os u) et nd tx mo sc rd few e fl se nc =
        by_q x (Assert o c words os u) (
          reads o tx.0 mo.0,
          refl,
          refl,
          all_read os tx.3 mo.1,
          λ i z. edge_read o sc.0 (changes.first_reading X o os rd) (λ w h hw. ap (λ t. after_effect (term_effect w t) h) et ∙ calm_scalars (o ∷ os) w h sc hw) u (subst (λ t. Has (targets t) u) (sym et) (0, refl)) i,
        ) few e fl se
    goes x (Drop p u) et nd tx mo sc rd few e fl se nc = absurd (nd p u refl)
    goes x (Call p g os u) et nd tx mo sc rd few e fl se nc = absurd (nc p g os u refl)

    pub end_answers : (k2 : TypedBlock) → slice_get E.blocks s1.top.block ≡ Some k2 → k2.term ≡ k.term → slice_get k2.stmts s2.top.at ≡ None → ((p : Place) (u : ℕ) → k.term ≡ Drop p u → ⊥) → ((p : Place) (g : _) (os : List Operand) (u : ℕ) → k.term ≡ Call p g os u → ⊥) → (x : Next) → step X.source s1 ≡ Some x → Flat x → Answers X P n s2 x
    unfolding perform
    end_answers k2 ek2 et none2 nd nc x e fl =
        let (k0, ek0, q) = running.stepped r fr.function1 fr.function2 x e in
        let z : k0 ≡ k = some_val (sym ek0 ∙ ek) in
        let q' : finish X.source H1 s1 k.term ≡ Some x = ap (perform X.source H1 s1 k.term) (sym none) ∙ subst (λ (k : TypedBlock). perform X.source H1 s1 k.term (slice_get k.stmts s1.top.at) ≡ Some x) z q in
        let at2 : slice_get X.body2.blocks s2.top.block ≡ Some k2 = ap₂ (λ (b : TypedBody) i. slice_get b.blocks i) is2 st.block ∙ ek2 in
        goes_answer X P n s2 x (subst (λ o. Goes X P o x) (sym (running.target_is r fr.function1 fr.function2 k2 at2 ∙ ap (perform (target X) sides.target s2 k2.term) none2 ∙ ap (finish (target X) sides.target s2) et))
        (goes x k.term refl nd (rules.terms s1.top.block k ek) (V.terms f1 s1.top.function X.body1 s1.top.block k eb ek) (rules.scalars s1.top.block k ek) (rules_moves) (V.calls s1.top.function X.body1 s1.top.block k eb ek) q' fl e nc))
      where
        rules_moves : changes.AllReading X (term_operands k.term)
        rules_moves = let m = rules.moves s1.top.block k ek in (m.through, m.indirect)
