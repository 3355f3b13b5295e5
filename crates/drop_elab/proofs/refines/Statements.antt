-- A statement of the elaborated function: the target does the same, and then sets the flags of the units that it changes.
use Rattle.std.proofs.Common.{◌≡◌, inl, refl, sym, ap, ap₂, ◌∙◌, subst, ℕ, suc, false, List, [], ◌∷◌, ◌++◌, length, drop, Option, Some, None, slice_get, append_assoc, arith}
use Rattle.drop_elab.proofs.refines.Bodies.{front_stays}
use Rattle.mir_syntax.specs.declared.body.Place.{Place}
use Rattle.mir_syntax.specs.declared.body.Term.{Term}
use Rattle.mir_syntax.specs.Tree.{Tree}
use Rattle.mir_syntax.specs.Crate.{TypedRvalue, TypedStmt, assign, set_discriminant, TypedBlock, TypedBody}
use Rattle.mir_syntax.specs.Shapes.{Shape, needs_drop}
use Rattle.mir_syntax.specs.Parts.{rvalue_operands}
use Rattle.mir_rules.specs.BodyRules.{breaks_v21, breaks_v22}
use Rattle.mir_rules.specs.DefinitionRules.{holds}
use Rattle.mir_rules.proofs.Terminators.{slice_get_there}
use Rattle.mir_semantics.specs.Values.{Value, blank}
use Rattle.mir_semantics.specs.Memory.{Memory, local_at}
use Rattle.mir_semantics.specs.Step.{Control, State, Next, on, type_of, exec, next_stmt, perform, step}
use Rattle.mir_syntax.proofs.Binds.{bind_some, some_bind}
use Rattle.mir_renaming.specs.Renaming.{Renaming, Sub}
use Rattle.mir_renaming.proofs.Types.{TypeMap, HasTy}
use Rattle.mir_relate.specs.Simulation.{moves, keep_on}
use Rattle.mir_relate.specs.Alike.{Between}
use Rattle.mir_relate.specs.Renumbered.{StmtSame}
use Rattle.mir_relate.specs.Frames.{Change, target, Pass, Below}
use Rattle.mir_relate.specs.Pass.{StmtMoves, Valids, FrameLaws, Answers, Related}
use Rattle.mir_relate.proofs.Gentle.{step_gentle}
use Rattle.mir_relate.proofs.Kept as kept
use Rattle.mir_relate.proofs.Leaves.{some_val}
use Rattle.mir_relate.proofs.Mild.{gentle_on}
use Rattle.mir_relate.proofs.Near as near
use Rattle.mir_relate.proofs.Near.{Nears}
use Rattle.mir_relate.proofs.Numbered as numbered
use Rattle.mir_relate.proofs.Numbered.{sub_self}
use Rattle.mir_relate.proofs.Own as own
use Rattle.mir_relate.proofs.Rest.{drop_some}
use Rattle.mir_relate.proofs.Running as running
use Rattle.move_paths.specs.Effects.{effect}
use Rattle.drop_elab.specs.Plan.{Laid}
use Rattle.drop_elab.specs.Elab.{Inits, Flagged, settings, with_settings, want_flags}
use Rattle.drop_elab.proofs.NoDrop.{more_locals}
use Rattle.drop_elab.proofs.refines.Items.{Proper, ProperShapes}
use Rattle.drop_elab.proofs.refines.Sound.{Has, SoundBefore, sound_after}
use Rattle.drop_elab.proofs.refines.Deep.{Loose}
use Rattle.drop_elab.proofs.refines.Flags.{flag_found, flag_local}
use Rattle.drop_elab.proofs.refines.Machine.{on_at, place_in}
use Rattle.drop_elab.proofs.refines.Places.{first_left}
use Rattle.drop_elab.proofs.refines.Settings.{flags_distinct, run_settings}
use Rattle.drop_elab.proofs.refines.Stand as stand
use Rattle.drop_elab.proofs.refines.Stand.{held}
use Rattle.drop_elab.proofs.refines.Starts.{says_after, past_sets}
use Rattle.drop_elab.proofs.refines.Texts.{Itself}
use Rattle.drop_elab.proofs.refines.Changes as changes

performs : (X : Change) (s1 : State) (t : Term) (s : TypedStmt) (b : TypedBody) (x : Next) → perform X.source (record { shapes = X.source.shapes; locals = b.locals; frame = s1.top.frame }) s1 t (Some s) ≡ Some x → (m1' : Memory) × (exec (record { shapes = X.source.shapes; locals = b.locals; frame = s1.top.frame }) s1.memory s ≡ Some m1') × (Some (on (record s1 { memory = m1'; top = next_stmt s1.top })) ≡ Some x)
unfolding perform
performs X s1 t s b x e = bind_some e

perform_on : (X : Change) (s2 : State) (t : Term) (s : TypedStmt) (m : Memory) → exec (record { shapes = X.source.shapes; locals = X.body2.locals; frame = s2.top.frame }) s2.memory s ≡ Some m → perform (target X) (record { shapes = X.source.shapes; locals = X.body2.locals; frame = s2.top.frame }) s2 t (Some s) ≡ Some (on (record s2 { memory = m; top = next_stmt s2.top }))
unfolding perform
perform_on X s2 t s m e = some_bind _ e refl

module _ (X : Change) (inits : Inits) (apart : (d : ℕ) → holds X.source.shapes (length X.source.shapes) d d ≡ false) (proper : ProperShapes X.source.shapes) (proper_locals : (x : ℕ) (t : Tree) → slice_get X.body1.locals x ≡ Some t → Proper t) (is2 : X.body2 ≡ stand.E X inits apart proper) (V : Valids X) (Inv : State → Type 0) (frames : FrameLaws X (stand.pass X inits apart proper) V Inv) (n : ℕ) (s2 s1 : State) (r : Related X (stand.pass X inits apart proper) V Inv n s2 s1) (be : Below X (stand.pass X inits apart proper) r.core.lent s2.top.dest s1.top.dest s2.top.frame s1.top.frame s2.callers s1.callers s2.memory s1.memory) (fr : stand.Frame X inits apart proper r.core.lent s2.top s1.top s2.memory s1.memory) where
  abbrev D : List Shape
  D = X.source.shapes

  abbrev P : Pass
  P = stand.pass X inits apart proper

  abbrev E : TypedBody
  E = stand.E X inits apart proper

  abbrev us : List Place
  us = stand.us X inits apart proper

  abbrev fs : List Flagged
  fs = stand.fs X inits apart proper

  abbrev pub j : Renaming
  j = r.core.lent

  abbrev pub G : TypeMap
  G = r.typed1.types

  abbrev pub f1 : ℕ
  f1 = s1.top.frame

  abbrev pub f2 : ℕ
  f2 = s2.top.frame

  abbrev pub ts1 : List Tree
  ts1 = X.body1.locals

  abbrev pub ts2 : List Tree
  ts2 = X.body2.locals

  pub eb : slice_get X.source.bodies s1.top.function ≡ Some X.body1
  eb = ap (slice_get X.source.bodies) fr.function1 ∙ X.at1

  pub lok : (x : ℕ) (t : Tree) → slice_get X.body1.locals x ≡ Some t → r.typed1.types s1.top.frame x ≡ Some t
  lok = r.typed1.top.locals X.body1 eb

  abbrev pub bok : (t : Tree) → HasTy X.source.shapes r.typed1.types t (blank X.source.shapes t)
  bok = V.valid1.blank_ok r.typed1.types

  abbrev pub low : Sub r.core.lent r.core.lent
  low = sub_self r.core.lent

  -- locals of the source stand for those of the same number
  pub roots : (x y : ℕ) → Itself X.body1 x y → r.core.lent s1.top.frame x ≡ Some (s2.top.frame, y)
  roots x y (l, z) = (let (t, e) = slice_get_there X.body1.locals x l in fr.roots x t e ∙ ap (λ y. Some (s2.top.frame, y)) z)

  pub types : (x y : ℕ) → Itself X.body1 x y → slice_get X.body1.locals x ≡ slice_get X.body2.locals y
  types x y (l, z) =
      let (t, e) = slice_get_there X.body1.locals x l in
      let (others, q) = more_locals D X.body1 inits in
      e ∙ sym (ap (λ (b : TypedBody). slice_get b.locals y) is2 ∙ ap (λ ts. slice_get ts y) q ∙ ap (slice_get (X.body1.locals ++ others)) (sym z) ∙ front_stays X.body1.locals others x t e)

  pub nears : Nears r.core.lent r.core.lent s2.top.frame s1.top.frame
  nears h x g y e = inl e

  pub onces : (x y h x' : ℕ) (v : Value) → r.core.lent s1.top.frame x ≡ Some (s2.top.frame, y) → r.core.lent h x' ≡ Some (s2.top.frame, y) → local_at s1.memory h x' ≡ Some v → (h ≡ s1.top.frame) × (x' ≡ x)
  onces x y h x' v e e' q = (let (a, b, c) = fr.only s1.top.frame x y e in let (a', b', c') = fr.only h x' y e' in (a', b' ∙ sym b))

  abbrev pub Q : Between
  Q = near.Q X.source.shapes X.body1.locals X.body2.locals s1.top.frame s2.top.frame r.core.lent r.core.lent low r.typed1.types bok lok V.needs s2.top.frame s1.top.frame s2.memory s1.memory nears onces

  pub keeps : kept.Kept D ts1 ts2 f1 f2 j j low G bok lok Q
  keeps = near.near_kept D ts1 ts2 f1 f2 j j low G bok lok V.needs f2 f1 s2.memory s1.memory nears onces

  pub start : Q s2.memory s1.memory
  start = near.near_start D ts1 ts2 f1 f2 j j low G bok lok V.needs f2 f1 s2.memory s1.memory nears onces r.core.linked r.typed1.mem

  pub locals_now : changes.Locals X inits apart proper proper_locals V.needs G bok f1 lok s1.memory
  locals_now = record { typed = r.typed1.mem; there = fr.there }

  -- no further local is lent
  unlent : (y : ℕ) → slice_get X.body1.locals y ≡ None → (h x : ℕ) → j h x ≡ Some (f2, y) → ⊥
  unlent y e h x q = (let (a, b, (t, c)) = fr.only h x y q in let z : ◌≡◌ {A = Option Tree} None (Some t) = sym e ∙ c in grind arith)

  -- the frames, where both have done the same
  pub frame_near : (c2 c1 : Control) (m2 m1 : Memory) → c2.frame ≡ f2 → c2.function ≡ s2.top.function → c1.frame ≡ f1 → c1.function ≡ s1.top.function → Q m2 m1 → changes.Locals X inits apart proper proper_locals V.needs G bok f1 lok m1 → stand.Frame X inits apart proper j c2 c1 m2 m1
  frame_near c2 c1 m2 m1 a2 g2 a1 g1 q l = record {
    function1 = g1 ∙ fr.function1;
    function2 = g2 ∙ fr.function2;
    roots = λ x t e. ap (λ f. j f x) a1 ∙ fr.roots x t e ∙ ap (λ f. Some (f, x)) (sym a2);
    none = λ x e. ap (λ f. j f x) a1 ∙ fr.none x e;
    only = λ i x y e. (let (a, b, c) = fr.only i x y (e ∙ ap (λ f. Some (f, y)) a2) in (a ∙ sym a1, b, c));
    there = λ x t e. subst (λ f. (v : Value) × (local_at m1 f x ≡ Some v) × Loose D t v) (sym a1) (l.there x t e);
    absent = λ x e. ap (λ f. local_at m1 f x) a1 ∙ gone x e (local_at m1 f1 x) refl;
    slots = λ x t e none. (let (v, ev) = fr.slots x t e none in (v, ap (λ f. local_at m2 f x) a2 ∙ q.still f2 x (unlent x none) ∙ ev));
  }
    where
      gone : (x : ℕ) → slice_get X.body1.locals x ≡ None → (o : Option Value) → local_at m1 f1 x ≡ o → local_at m1 f1 x ≡ None
      gone x e None z = z
      gone x e (Some v) z = absurd (let (u, k) = q.back f1 x v z in let w : ◌≡◌ {A = Option Value} None (Some u) = sym (fr.absent x e) ∙ k in grind arith)

  pub flag_still : (m2 m1 : Memory) → Q m2 m1 → (u : Place) (x : ℕ) → stand.flag_of X inits apart proper u ≡ Some x → local_at m2 f2 x ≡ local_at s2.memory f2 x
  flag_still m2 m1 q u x e = (let (k, g, a, b, c) = flag_found u fs x e in q.still f2 x (unlent x (flag_local X inits k g x a b).2))

  module _ (st : stand.Stated X inits apart proper s2.top s1.top s2.memory s1.memory) (k : TypedBlock) (ek : slice_get X.body1.blocks s1.top.block ≡ Some k) (k2 : TypedBlock) (ek2 : slice_get E.blocks s1.top.block ≡ Some k2) (s : TypedStmt) (es : slice_get k.stmts s1.top.at ≡ Some s) (same_text : StmtSame (Itself X.body1) s s) (rules : (p : Place) (x : TypedRvalue) → s ≡ assign p x → (breaks_v21 X.source.shapes X.body1.locals (rvalue_operands x) ≡ false) × (breaks_v22 X.source.shapes X.body1.locals (rvalue_operands x) ≡ false)) where
    moves_ok : StmtMoves (record { shapes = X.source.shapes; locals = X.body1.locals; frame = s1.top.frame }) s
    moves_ok = V.stmts s1.top.frame s1.top.function X.body1 s1.top.block k s1.top.at s eb ek es

    calm_sets : (s : TypedStmt) → StmtMoves (record { shapes = X.source.shapes; locals = X.body1.locals; frame = s1.top.frame }) s → (p : Place) (i : ℕ) (t : Tree) → s ≡ set_discriminant p i → type_of (record { shapes = X.source.shapes; locals = X.body1.locals; frame = s1.top.frame }) p ≡ Some t → needs_drop X.source.shapes t ≡ false
    calm_sets s mo p i t q e = subst (StmtMoves (record { shapes = X.source.shapes; locals = X.body1.locals; frame = s1.top.frame })) q mo t e

    done : (m1' : Memory) → exec (record { shapes = X.source.shapes; locals = X.body1.locals; frame = s1.top.frame }) s1.memory s ≡ Some m1' → (m2' : Memory) × (exec (record { shapes = X.source.shapes; locals = X.body2.locals; frame = s2.top.frame }) s2.memory s ≡ Some m2') × Q m2' m1'
    done m1' e =
        kept.exec_as D ts1 ts2 f1 f2 j j low G bok lok Q keeps s s
        (numbered.stmt_as D ts1 ts2 f1 f2 j G bok lok (Itself X.body1) roots types Q keeps s s same_text moves_ok (V.valid1.stmts G f1 s1.top.function X.body1 s1.top.block k s1.top.at s eb ek es lok))
        s2.memory s1.memory m1' (λ u. running.payloads r fr.function1 fr.function2 j low) start e

    -- both go on behind the statement
    pub stmt_answers : (x : Next) → step X.source s1 ≡ Some x → Answers X P n s2 x
    stmt_answers x e =
        let (k0, ek0, q) = running.stepped r fr.function1 fr.function2 x e in
        let z : k0 ≡ k = some_val (sym ek0 ∙ ek) in
        let q' : perform X.source (record { shapes = X.source.shapes; locals = X.body1.locals; frame = s1.top.frame }) s1 k.term (Some s) ≡ Some x = ap (perform X.source (record { shapes = X.source.shapes; locals = X.body1.locals; frame = s1.top.frame }) s1 k.term) (sym es) ∙ subst (λ (k : TypedBlock). perform X.source (record { shapes = X.source.shapes; locals = X.body1.locals; frame = s1.top.frame }) s1 k.term (slice_get k.stmts s1.top.at) ≡ Some x) z q in
        let (m1', ex, go) = performs X s1 k.term s X.body1 x q' in
        answer m1' ex x go e
      where
        answer : (m1' : Memory) → exec (record { shapes = X.source.shapes; locals = X.body1.locals; frame = s1.top.frame }) s1.memory s ≡ Some m1' → (x : Next) → Some (on (record s1 { memory = m1'; top = next_stmt s1.top })) ≡ Some x → step X.source s1 ≡ Some x → Answers X P n s2 x
        answer m1' ex x go e =
            let (m2', g2, q) = done m1' ex in
            let (l, tu) = changes.exec_turns X inits apart proper proper_locals V.needs G bok f1 lok s1.memory m1' s (V.valid1.stmts G f1 s1.top.function X.body1 s1.top.block k s1.top.at s eb ek es lok) rules (calm_sets s moves_ok) ex locals_now in
            let (end, dr, (en, so)) = st.here k k2 ek ek2 in
            let rest = drop (suc s1.top.at) k.stmts in
            let left : drop s2.top.at k2.stmts ≡ s ∷ (settings (λ u. effect u s) fs ++ (with_settings fs rest ++ end.stmts)) = dr ∙ ap (λ ss. with_settings fs ss ++ end.stmts) (drop_some k.stmts s1.top.at s es) ∙ ap (λ ss. s ∷ ss) (append_assoc (settings (λ u. effect u s) fs) (with_settings fs rest) end.stmts) in
            let (get2, left2) = first_left s2.top.at k2.stmts s (settings (λ u. effect u s) fs ++ (with_settings fs rest ++ end.stmts)) left in
            let at2 : slice_get X.body2.blocks s2.top.block ≡ Some k2 = ap₂ (λ (b : TypedBody) i. slice_get b.blocks i) is2 st.block ∙ ek2 in
            let first : step (target X) s2 ≡ Some (on (record s2 { memory = m2'; top = next_stmt s2.top })) = running.target_is r fr.function1 fr.function2 k2 at2 ∙ ap (perform (target X) (record { shapes = X.source.shapes; locals = X.body2.locals; frame = s2.top.frame }) s2 k2.term) get2 ∙ perform_on X s2 k2.term s m2' g2 in
            subst (Answers X P n s2) (some_val go) (1, stand.number_of X inits apart proper s1.top.block, record s2 { memory = m2'; top = next_stmt s2.top }, ap (keep_on (λ s. Some s)) first, own.own_core X P V Inv frames n s2 s1 r [] s1.callers refl (omega arith) be (stand.number_of X inits apart proper s1.top.block) m2' m1' (next_stmt s2.top) (next_stmt s1.top) refl refl refl refl (q.linked, q.leaves) (gentle_on X G f1 s1.memory (record s1 { memory = m1'; top = next_stmt s1.top }) x (step_gentle X V s1 r.typed1 r.drops r.dests x e) go (omega arith)) (refl, λ G' mt lk t. comes m2' m1' q l tu end dr en so rest left2 at2 t), inl (omega arith))
          where
            comes : (m2' m1' : Memory) → Q m2' m1' → changes.Locals X inits apart proper proper_locals V.needs G bok f1 lok m1' → changes.Turned X inits apart proper proper_locals V.needs G bok f1 lok (λ u. effect u s) s1.memory m1' → (end : Laid) → drop s2.top.at k2.stmts ≡ with_settings fs (drop s1.top.at k.stmts) ++ end.stmts → stand.Ending X inits apart proper s1.top.block k k2 end → SoundBefore D X.body1 s1.top.block k (drop s1.top.at k.stmts) (held s1.memory f1) → (rest : List TypedStmt) → drop (suc s2.top.at) k2.stmts ≡ settings (λ u. effect u s) fs ++ (with_settings fs (drop (suc s1.top.at) k.stmts) ++ end.stmts) → slice_get X.body2.blocks s2.top.block ≡ Some k2 → (t : State) → stand.Comes X inits apart proper t (stand.number_of X inits apart proper s1.top.block) j (next_stmt s2.top) (next_stmt s1.top) m2' m1'
            comes m2' m1' q l tu end dr en so rest left2 at2 t =
                let c2 = next_stmt s2.top in
                let (cn, a', m', mv, dr', se) = run_settings (target X) X.body2 t c2 (ap (slice_get X.bodies) fr.function2 ∙ X.at2) (λ u. effect u s) s2.top.block k2 at2 fs (with_settings fs (drop (suc s1.top.at) k.stmts) ++ end.stmts) m2' (suc s2.top.at) (flags_distinct (length X.body1.locals) us (want_flags us inits 0 X.body1.blocks)) there left2 in
                let here : on_at t c2 m2' s2.top.block (suc s2.top.at) ≡ record t { memory = m2'; top = c2 } = ap (λ o. record t { memory = m2'; top = record c2 { dropping = o } }) (sym st.calm2) in
                let fr' = frame_near (place_in c2 s2.top.block a') (next_stmt s1.top) m2' m1' refl refl refl refl q l in
                let past = past_sets X inits apart proper (λ u. effect u s) f2 m2' m' se in
                record {
                  control = place_in c2 s2.top.block a';
                  memory = m';
                  count = cn;
                  comes = subst (λ z. moves (target X) cn z ≡ Some (on_at t c2 m' s2.top.block a')) here mv;
                  same = (refl, refl);
                  past = past;
                  frame = record { function1 = fr'.function1; function2 = fr'.function2; roots = fr'.roots; none = fr'.none; only = fr'.only; there = fr'.there; absent = fr'.absent; slots = λ x t e none. (let (v, ev) = fr'.slots x t e none in se.there x v ev) };
                  ready = inl (
                    refl,
                    record {
                      calm = st.calm;
                      calm2 = refl;
                      says = says_after X inits apart proper (λ u. effect u s) f2 m2' m' (held s1.memory f1) (held m1' f1) se tu (λ u x hu none ef. flag_still m2' m1' q u x ef ∙ st.says u x hu ef);
                      block = st.block;
                      here = λ q1 q2 e1 e2. (
                        end,
                        ap (λ (b : TypedBlock). drop a' b.stmts) (some_val (sym e2 ∙ ek2)) ∙ dr' ∙ ap (λ (k : TypedBlock). with_settings fs (drop (suc s1.top.at) k.stmts) ++ end.stmts) (some_val (sym ek ∙ e1)),
                        (
                          subst (λ q1. stand.Ending X inits apart proper s1.top.block q1 q2 end) (some_val (sym ek ∙ e1)) (subst (λ q2. stand.Ending X inits apart proper s1.top.block k q2 end) (some_val (sym ek2 ∙ e2)) en),
                          subst (λ q1. SoundBefore D X.body1 s1.top.block q1 (drop (suc s1.top.at) q1.stmts) (held m1' f1)) (some_val (sym ek ∙ e1)) (sound_after D X.body1 s1.top.block k s (drop (suc s1.top.at) k.stmts) (held s1.memory f1) (held m1' f1) tu (subst (λ ss. SoundBefore D X.body1 s1.top.block k ss (held s1.memory f1)) (drop_some k.stmts s1.top.at s es) so)),
                        ),
                      );
                    },
                  );
                }
              where
                there : (k : Flagged) (x : ℕ) → Has fs k → k.flag ≡ Some x → (t : Tree) × (old : Value) × (slice_get X.body2.locals x ≡ Some t) × (local_at m2' f2 x ≡ Some old)
                there k x h z =
                    let (t, et, gone) = flag_local X inits h.0 k x h.1 z in
                    let (v, ev) = fr.slots x t et gone in
                    (t, v, ap (λ (b : TypedBody). slice_get b.locals x) is2 ∙ et, q.still f2 x (unlent x gone) ∙ ev)
