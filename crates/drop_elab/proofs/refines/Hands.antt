-- A call of the elaborated function: the target clears the flags of what it moves, and then both call.
use Rattle.std.proofs.Common.{◌≡◌, inr, refl, sym, ap, ap₂, ◌∙◌, subst, ℕ, ◌<◌, Bool, true, false, ◌&&◌, ◌||◌, if◌then◌else◌, List, [], length, Some, None, slice_get, arith}
use Rattle.mir_syntax.specs.declared.body.Place.{Place}
use Rattle.mir_syntax.specs.declared.body.Term.{Term}
use Rattle.mir_syntax.specs.declared.body.Term.TheVariants.{Call}
use Rattle.mir_syntax.specs.Parts.{has_deref, term_operands, targets}
use Rattle.mir_syntax.specs.Tree.{Tree}
use Rattle.mir_syntax.specs.Shapes.{Shape, path_ty, needs_drop}
use Rattle.mir_syntax.specs.Crate.{TypedBlock, TypedBody}
use Rattle.mir_num.specs.Numbers.{flag}
use Rattle.mir_rules.specs.DefinitionRules.{holds}
use Rattle.mir_semantics.specs.Memory.{Memory, local_at}
use Rattle.mir_semantics.specs.Values.{Value, number, whole, blank}
use Rattle.mir_semantics.specs.Step.{Here, Dest, Control, State, Next, type_of, guard_of, dest_of, store, read_all, to_block, finish, perform, step}
use Rattle.mir_syntax.proofs.Binds.{bind_some}
use Rattle.mir_renaming.specs.Renaming.{Renaming}
use Rattle.mir_renaming.proofs.Ghosts.{Flat}
use Rattle.mir_renaming.proofs.Statements.{DestRel}
use Rattle.mir_renaming.proofs.Types.{TypeMap, HasTy, AddrTy, some_eq, dest_ty}
use Rattle.mir_relate.specs.Alike.{Same, Between}
use Rattle.mir_relate.specs.Renumbered.{TermSame}
use Rattle.mir_relate.specs.Frames.{Change, target, Pass, Below}
use Rattle.mir_relate.specs.Pass.{TermMoves, ArgsTerm, Valids, FrameLaws, Answers, Goes, Related}
use Rattle.mir_relate.proofs.BodyLaw.{goes_answer}
use Rattle.mir_relate.proofs.Gentle.{step_gentle}
use Rattle.mir_relate.proofs.Kept as kept
use Rattle.mir_relate.proofs.Leaves.{some_val}
use Rattle.mir_relate.proofs.Near as near
use Rattle.mir_relate.proofs.Numbered as numbered
use Rattle.mir_relate.proofs.Own as own
use Rattle.mir_relate.proofs.Running as running
use Rattle.mir_relate.proofs.Single.{dest_plain}
use Rattle.move_paths.specs.Effects.{moved, begun, begun_or_ended, ended_if, moved_by}
use Rattle.move_paths.specs.Inits.{after_effect}
use Rattle.drop_elab.specs.Elab.{Inits, only_if}
use Rattle.drop_elab.proofs.refines.Items.{Proper, ProperShapes}
use Rattle.drop_elab.proofs.refines.Sound.{Has, SoundAt, sound_along}
use Rattle.drop_elab.proofs.refines.Stand as stand
use Rattle.drop_elab.proofs.refines.Stand.{held}
use Rattle.drop_elab.proofs.refines.Stages as stages
use Rattle.drop_elab.proofs.refines.Ended as ended
use Rattle.drop_elab.proofs.refines.Texts.{Itself}
use Rattle.drop_elab.proofs.refines.Changes as changes
use Rattle.drop_elab.proofs.refines.Statements as statements
use Rattle.drop_elab.proofs.refines.Frames as frame_laws
use Rattle.drop_elab.proofs.refines.Resumed as resumed
use Rattle.drop_elab.proofs.refines.Rules.{Rules}
use Rattle.drop_elab.proofs.refines.Finishes as finishes

-- what a destination is
dest_parts : (h : Here) (m : Memory) (p : Place) (d : Dest) → dest_of h m p ≡ Some d → (t : Tree) × (type_of h p ≡ Some t) × (guard_of h.shapes p.proj t ≡ d.guard)
unfolding dest_of
dest_parts h m p d e =
    let (a, e1, k1) = bind_some e in
    let (t, e2, k2) = bind_some k1 in
    (t, e2, ap (λ (d : Dest). d.guard) (some_val k2))

guarded : (D : List Shape) (p : Place) (t : Tree) → has_deref p.proj ≡ true → needs_drop D t ≡ true → guard_of D p.proj t ≡ Some t
unfolding guard_of
guarded D p t h n = ap₂ (λ a b. if a && b then Some t else None) h n

module _ (X : Change) (inits : Inits) (apart : (d : ℕ) → holds X.source.shapes (length X.source.shapes) d d ≡ false) (proper : ProperShapes X.source.shapes) (proper_locals : (x : ℕ) (t : Tree) → slice_get X.body1.locals x ≡ Some t → Proper t) (S : stages.Sorted X inits apart proper) (edges : ended.Edges X inits apart proper proper_locals S) (is2 : X.body2 ≡ stand.E X inits apart proper) (V : Valids X) (Inv : State → Type 0) (frames : FrameLaws X (stand.pass X inits apart proper) V Inv) (rules : Rules X) (n : ℕ) (s2 s1 : State) (r : Related X (stand.pass X inits apart proper) V Inv n s2 s1) (be : Below X (stand.pass X inits apart proper) r.core.lent s2.top.dest s1.top.dest s2.top.frame s1.top.frame s2.callers s1.callers s2.memory s1.memory) (fr : stand.Frame X inits apart proper r.core.lent s2.top s1.top s2.memory s1.memory) (h : stand.Handing X inits apart proper s2.top s1.top s2.memory s1.memory) where
  abbrev D : List Shape
  D = X.source.shapes

  abbrev P : Pass
  P = stand.pass X inits apart proper

  abbrev us : List Place
  us = stand.us X inits apart proper

  abbrev j : Renaming
  j = r.core.lent

  abbrev G : TypeMap
  G = r.typed1.types

  abbrev f1 : ℕ
  f1 = s1.top.frame

  abbrev f2 : ℕ
  f2 = s2.top.frame

  abbrev H1 : Here
  H1 = record { shapes = X.source.shapes; locals = X.body1.locals; frame = s1.top.frame }

  abbrev bok : (t : Tree) → HasTy X.source.shapes r.typed1.types t (blank X.source.shapes t)
  bok = V.valid1.blank_ok r.typed1.types

  abbrev lok : (x : ℕ) (t : Tree) → slice_get X.body1.locals x ≡ Some t → r.typed1.types s1.top.frame x ≡ Some t
  lok = finishes.lok X inits apart proper proper_locals S edges is2 V Inv frames rules n s2 s1 r be fr

  abbrev Q : Between
  Q = finishes.Q X inits apart proper proper_locals S edges is2 V Inv frames rules n s2 s1 r be fr

  abbrev Locals : Memory → Type 0
  Locals = finishes.Locals X inits apart proper proper_locals S edges is2 V Inv frames rules n s2 s1 r be fr

  abbrev to2 : Control
  to2 = to_block h.next2 s2.top

  abbrev to1 : Control
  to1 = to_block h.next s1.top

  abbrev Spent : Memory → Type 0
  Spent m1 = (vs : List Value) × (read_all H1 s1.memory h.args ≡ Some (vs, m1))

  -- the arguments are moved
  spent : (m1 : Memory) → Spent m1 → Locals m1 × ((u : Place) → Has us u → held m1 f1 u ≡ after_effect (ended_if (moved_by h.args u)) (held s1.memory f1 u))
  spent m1 (vs, e) =
      let m = rules.moves s1.top.block h.block1 h.is1 in
      changes.all_turns X inits apart proper proper_locals V.needs G bok f1 lok s1.memory h.args (vs, m1) (subst (λ t. changes.breaks21 X (term_operands t) ≡ false) h.term1 m.through) (subst (λ t. changes.breaks22 X (term_operands t) ≡ false) h.term1 m.indirect) e (finishes.now X inits apart proper proper_locals S edges is2 V Inv frames rules n s2 s1 r be fr)

  frame_at : (m2 m1 : Memory) → Q m2 m1 → Spent m1 → stand.Frame X inits apart proper j to2 to1 m2 m1
  frame_at m2 m1 q sp = statements.frame_near X inits apart proper proper_locals is2 V Inv frames n s2 s1 r be fr to2 to1 m2 m1 refl refl refl refl q (spent m1 sp).0

  moved_is : (u : Place) (b : Bool) → after_effect (only_if (moved u h.block1.term) false) b ≡ after_effect (ended_if (moved_by h.args u)) b
  moved_is u b = ap (λ t. after_effect (only_if (moved u t) false) b) h.term1 ∙ go (moved_by h.args u)
    where
      go : (c : Bool) → after_effect (only_if c false) b ≡ after_effect (ended_if c) b
      go true = refl
      go false = refl

  -- the frames wait
  module _ (d1 d2 : Dest) (e : dest_of H1 s1.memory h.place ≡ Some d1) (dr : DestRel r.core.lent d1 d2) where
    called : (m2 m1 : Memory) → Q m2 m1 → Spent m1 → stand.Called X inits apart proper j (Some d2) (Some d1) to2 to1 m2 m1
    unfolding type_of
    called m2 m1 q sp = record {
      from = s1.top.block;
      block = h.block1;
      is = h.is1;
      place = h.place;
      callee = h.callee;
      args = h.args;
      next = h.next;
      term = h.term1;
      dests = dr;
      goal = λ d is nd. ap (λ (d : Dest). d.addr) (sym (some_val is) ∙ dest_plain H1 s1.memory h.place d1 nd e);
      aims = λ d lt is hd fe el. subst (λ (d : Dest). d.addr.frame ≡ f1 → slice_get X.body1.locals d.addr.local ≡ Some lt → (t : Tree) × (path_ty D lt d.addr.path ≡ Some t) × (needs_drop D t ≡ true → d.guard ≡ Some t)) (some_val is) (aims lt hd) fe el;
      stands1 = (refl, refl, refl);
      stands2 = (refl, refl);
      sets = h.sets;
      says = λ u x hu nb ef. statements.flag_still X inits apart proper proper_locals is2 V Inv frames n s2 s1 r be fr m2 m1 q u x ef ∙ h.says u x hu ef ∙ ap (λ b. Some (number (flag b))) (moved_is u (held s1.memory f1 u) ∙ sym ((spent m1 sp).1 u hu));
      sound = sound;
    }
      where
        aims : (lt : Tree) → has_deref h.place.proj ≡ true → d1.addr.frame ≡ f1 → slice_get X.body1.locals d1.addr.local ≡ Some lt → (t : Tree) × (path_ty D lt d1.addr.path ≡ Some t) × (needs_drop D t ≡ true → d1.guard ≡ Some t)
        aims lt hd fe el =
            let (t, pt, g) = dest_parts H1 s1.memory h.place d1 e in
            let at : AddrTy D G d1.addr t = dest_ty D G bok X.body1.locals f1 lok s1.memory h.place t d1 r.typed1.mem pt e in
            let z : at.local ≡ lt = some_eq D G at.local lt (G d1.addr.frame d1.addr.local) at.is (ap (λ f. G f d1.addr.local) fe ∙ lok d1.addr.local lt el) in
            (t, subst (λ l. path_ty D l d1.addr.path ≡ Some t) z at.path, λ nd. sym g ∙ guarded D h.place t hd nd)

        or_is : (b m c : Bool) → (b || after_effect (ended_if m) c) ≡ after_effect (begun_or_ended b m) c
        or_is true m c = refl
        or_is false m c = refl

        sound : SoundAt D X.body1 h.next (λ u. begun u h.block1.term || held m1 f1 u)
        sound = sound_along D X.body1 s1.top.block h.next h.block1 (held s1.memory f1) (λ u. begun u h.block1.term || held m1 f1 u) h.is1 (subst (λ t. Has (targets t) h.next) (sym h.term1) (0, refl)) (λ u hu. ap (λ b. begun u h.block1.term || b) ((spent m1 sp).1 u hu) ∙ or_is (begun u h.block1.term) (moved_by h.args u) (held s1.memory f1 u) ∙ ap (λ m. after_effect (begun_or_ended (begun u h.block1.term) m) (held s1.memory f1 u)) (sym (ap (moved u) h.term1))) h.sound

    abbrev To : Memory → Memory → Type 0
    To m2 m1 = (n' : ℕ) × P.own n' j to2 to1 [] m2 m1

    -- a result that comes at once
    gets : (m2 m1 m1' : Memory) (v : Value) → Q m2 m1 → Spent m1 → Same j v v → whole v ≡ true → store D m1 d1 v ≡ Some m1' → (m2' : Memory) × (store D m2 d2 v ≡ Some m2') × own.Left X P V Inv frames n s2 s1 r [] s1.callers refl (omega arith) be m2' m1' × To m2' m1'
    unfolding type_of called
    gets m2 m1 m1' v q sp hv wh st =
        let (t, pt, g) = dest_parts H1 s1.memory h.place d1 e in
        let at : AddrTy D G d1.addr t = dest_ty D G bok X.body1.locals f1 lok s1.memory h.place t d1 r.typed1.mem pt e in
        let (m2', g2, l, lv) = near.store_near D X.body1.locals X.body2.locals f1 f2 j j (numbered.sub_self j) G bok lok V.needs f2 f1 s2.memory s1.memory (statements.nears X inits apart proper proper_locals is2 V Inv frames n s2 s1 r be fr) (statements.onces X inits apart proper proper_locals is2 V Inv frames n s2 s1 r be fr) m2 m1 m1' d1 d2 t v v q dr at hv st in
        let fa = frame_at m2 m1 q sp in (
          m2',
          g2,
          (l, lv),
          (stand.number_of X inits apart proper h.next, (refl, resumed.own X inits apart proper proper_locals S edges is2 j (Some d2) (Some d1) to2 to1 m2 m1 m2' m1' (called m2 m1 q sp) fa t pt d1 refl v wh st (frame_laws.further_still X inits apart proper proper_locals S edges is2 V Inv j to2 to1 m2 m1 m2' d1 d2 v fa dr g2) G (spent m1 sp).0.typed lok)),
        )

  abbrev SameQ : Term → Term → Type 0
  SameQ = own.SameStepIf X P V Inv frames n s2 s1 r [] s1.callers refl (omega arith) be (finishes.sides X inits apart proper proper_locals S edges is2 V Inv frames rules n s2 s1 r be fr) Q (λ m2 m1 q. (q.linked, q.leaves)) refl (finishes.start X inits apart proper proper_locals S edges is2 V Inv frames rules n s2 s1 r be fr)

  same_call : TermSame (Itself X.body1) (Call h.place h.callee h.args h.next) (Call h.place h.callee h.args h.next) → TermMoves H1 (Call h.place h.callee h.args h.next) → SameQ (Call h.place h.callee h.args h.next) (Call h.place h.callee h.args h.next2)
  same_call tx mo = (
    refl,
    finishes.all_read X inits apart proper proper_locals S edges is2 V Inv frames rules n s2 s1 r be fr h.args tx.2 mo,
    λ d1 e. (
        let (d2, g, dr) = kept.dest_as D X.body1.locals X.body2.locals f1 f2 j j (numbered.sub_self j) G bok lok Q (finishes.keeps X inits apart proper proper_locals S edges is2 V Inv frames rules n s2 s1 r be fr) s2.memory s1.memory h.place h.place d1 (numbered.place_as D X.body1.locals X.body2.locals f1 f2 j G bok lok (Itself X.body1) (statements.roots X inits apart proper proper_locals is2 V Inv frames n s2 s1 r be fr) (statements.types X inits apart proper proper_locals is2 V Inv frames n s2 s1 r be fr) h.place h.place tx.0) (finishes.start X inits apart proper proper_locals S edges is2 V Inv frames rules n s2 s1 r be fr) e in
        (d2, g, record { waits = λ m2 m1 q sp. (refl, frame_at m2 m1 q sp, inr (called d1 d2 e dr m2 m1 q sp)); gets = gets d1 d2 e dr })
        ),
  )

  only : (i x y : ℕ) (v : Value) → j i x ≡ Some (f2, y) → local_at s1.memory i x ≡ Some v → i ≡ f1
  only i x y v e q = (fr.only i x y e).0

  never : (i x y : ℕ) → i < f1 → j i x ≡ Some (f2, y) → ⊥
  never i x y lt e = (let z = (fr.only i x y e).0 in omega (arith, z, lt))

  -- both call
  pub hand_answers : (x : Next) → step X.source s1 ≡ Some x → Flat x → Answers X P n s2 x
  unfolding perform
  hand_answers x e fl =
      let (k0, ek0, q) = running.stepped r fr.function1 fr.function2 x e in
      let z : k0 ≡ h.block1 = some_val (sym ek0 ∙ h.is1) in
      let eb = finishes.eb X inits apart proper proper_locals S edges is2 V Inv frames rules n s2 s1 r be fr in
      let T : Term = Call h.place h.callee h.args h.next in
      let T2 : Term = Call h.place h.callee h.args h.next2 in
      let q' : finish X.source H1 s1 T ≡ Some x = ap (finish X.source H1 s1) (sym h.term1) ∙ ap (perform X.source H1 s1 h.block1.term) (sym h.ends1) ∙ subst (λ (k : TypedBlock). perform X.source H1 s1 k.term (slice_get k.stmts s1.top.at) ≡ Some x) z q in
      let at2 : slice_get X.body2.blocks s2.top.block ≡ Some h.block2 = ap (λ (b : TypedBody). slice_get b.blocks s2.top.block) is2 ∙ h.is2 in
      let H2 : Here = record { shapes = X.source.shapes; locals = X.body2.locals; frame = s2.top.frame } in
      goes_answer X P n s2 x (subst (λ o. Goes X P o x) (sym (running.target_is r fr.function1 fr.function2 h.block2 at2 ∙ ap (perform (target X) H2 s2 h.block2.term) h.ends2 ∙ ap (finish (target X) H2 s2) h.term2))
      (own.step_if_goes X P V Inv frames n s2 s1 r [] s1.callers refl (omega arith) be (finishes.sides X inits apart proper proper_locals S edges is2 V Inv frames rules n s2 s1 r be fr) Q (λ m2 m1 q. (q.linked, q.leaves)) refl (finishes.start X inits apart proper proper_locals S edges is2 V Inv frames rules n s2 s1 r be fr) refl refl X.body1 eb only never T T2 x
      (subst (ArgsTerm X.source) h.term1 (V.calls s1.top.function X.body1 s1.top.block h.block1 eb h.is1))
      (same_call (subst (λ t. TermSame (Itself X.body1) t t) h.term1 (rules.terms s1.top.block h.block1 h.is1)) (subst (TermMoves H1) h.term1 (V.terms f1 s1.top.function X.body1 s1.top.block h.block1 eb h.is1)))
      q' fl (step_gentle X V s1 r.typed1 r.drops r.dests x e)))
