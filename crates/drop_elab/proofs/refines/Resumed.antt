-- A call's result has come to a frame of the elaborated function: the target sets the flags of what it initialises, and follows again.
use Rattle.std.proofs.Common.{◌≡◌, ◌⊎◌, inl, inr, refl, sym, ap, ap₂, ◌∙◌, subst, ℕ, ◌+◌, Bool, true, false, ◌||◌, if◌then◌else◌, List, [], ◌++◌, length, drop, Option, Some, None, slice_get, arith}
use Rattle.std.proofs.lemmas.List.{append-nil}
use Rattle.mir_syntax.specs.declared.body.Place.{Place}
use Rattle.mir_syntax.specs.declared.body.Term.{Term}
use Rattle.mir_syntax.specs.declared.body.Term.TheVariants.{Goto}
use Rattle.mir_syntax.specs.Tree.{Tree}
use Rattle.mir_syntax.specs.Parts.{targets}
use Rattle.mir_syntax.specs.Crate.{TypedBlock, TypedBody}
use Rattle.mir_syntax.specs.Shapes.{Shape, place_ty}
use Rattle.mir_rules.specs.DefinitionRules.{holds}
use Rattle.mir_semantics.specs.Values.{Value, whole}
use Rattle.mir_semantics.specs.Memory.{Memory, local_at}
use Rattle.mir_semantics.specs.Step.{Dest, Control, State, on, store, finish, step}
use Rattle.mir_renaming.specs.Renaming.{Renaming}
use Rattle.mir_renaming.proofs.Memory.{write_back}
use Rattle.mir_renaming.proofs.Stores.{store_split}
use Rattle.mir_renaming.proofs.Types.{TypeMap, MemTy}
use Rattle.mir_relate.specs.Simulation.{moves}
use Rattle.move_paths.specs.Effects.{begun}
use Rattle.move_paths.specs.Inits.{after_effect}
use Rattle.drop_elab.specs.Plan.{Laid}
use Rattle.drop_elab.specs.Elab.{Inits, Flagged, settings, with_settings, only_if, want_flags}
use Rattle.mir_relate.specs.Frames.{Change, target}
use Rattle.drop_elab.proofs.refines.Items.{Proper, ProperShapes}
use Rattle.drop_elab.proofs.refines.Sound.{Has, SoundAt, sound_start, sound_at_same, SoundBefore}
use Rattle.drop_elab.proofs.refines.Flags.{flag_found, flag_local}
use Rattle.drop_elab.proofs.refines.Machine.{on_at, place_in, term_step}
use Rattle.drop_elab.proofs.refines.Runs.{one_move, moves_then}
use Rattle.drop_elab.proofs.refines.Settings.{flags_distinct, Sets, no_sets, run_settings}
use Rattle.drop_elab.proofs.refines.Stand as stand
use Rattle.drop_elab.proofs.refines.Stand.{held_in, held}
use Rattle.drop_elab.proofs.refines.Stages as stages
use Rattle.drop_elab.proofs.refines.Ended as ended
use Rattle.drop_elab.proofs.refines.Starts.{says_after, past_sets}
use Rattle.drop_elab.proofs.refines.Delivers as delivers

module _ (X : Change) (inits : Inits) (apart : (d : ℕ) → holds X.source.shapes (length X.source.shapes) d d ≡ false) (proper : ProperShapes X.source.shapes) (proper_locals : (x : ℕ) (t : Tree) → slice_get X.body1.locals x ≡ Some t → Proper t) (S : stages.Sorted X inits apart proper) (edges : ended.Edges X inits apart proper proper_locals S) (is2 : X.body2 ≡ stand.E X inits apart proper) where
  abbrev D : List Shape
  D = X.source.shapes

  abbrev E : TypedBody
  E = stand.E X inits apart proper

  abbrev us : List Place
  us = stand.us X inits apart proper

  abbrev fs : List Flagged
  fs = stand.fs X inits apart proper

  module _ (j : Renaming) (d2 d1 : Option Dest) (c2 c1 : Control) (m2 m1 m2' m1' : Memory) (W : stand.Called X inits apart proper j d2 d1 c2 c1 m2 m1) (fr : stand.Frame X inits apart proper j c2 c1 m2 m1) (t : Tree) (pt : place_ty X.source.shapes X.body1.locals W.place ≡ Some t) (d : Dest) (is1 : d1 ≡ Some d) (v : Value) (wh : whole v ≡ true) (e : store X.source.shapes m1 d v ≡ Some m1') (still : (y : ℕ) → slice_get X.body1.locals y ≡ None → local_at m2' c2.frame y ≡ local_at m2 c2.frame y) where
    aimed : delivers.Aimed X inits apart proper proper_locals c1.frame W.place d
    aimed = record { direct = W.goal d is1; through = λ lt h f el. W.aims d lt is1 h f el }

    gone : (x : ℕ) → slice_get X.body1.locals x ≡ None → (o : Option Value) → local_at m1' c1.frame x ≡ o → o ≡ None
    gone x q None z = refl
    gone x q (Some u) z = absurd (let (old, e1, same) = store_split D m1 m1' d v e in let (o, k) = write_back m1 d.addr v c1.frame x u (ap (λ m. local_at m c1.frame x) same ∙ z) in let w : ◌≡◌ {A = Option Value} None (Some o) = sym (fr.absent x q) ∙ k in grind arith)

    pub frame : stand.Frame X inits apart proper j c2 c1 m2' m1'
    frame = record {
      function1 = fr.function1;
      function2 = fr.function2;
      roots = fr.roots;
      none = fr.none;
      only = fr.only;
      there = delivers.loose_after X inits apart proper proper_locals c1.frame m1 m1' W.place t pt d v wh aimed e fr.there;
      absent = λ x q. gone x q (local_at m1' c1.frame x) refl;
      slots = λ x u el none. (let (o, eo) = fr.slots x u el none in (o, still x none ∙ eo));
    }

    abbrev change : Place → Option Bool
    change u = only_if (begun u W.block.term) true

    module _ (G0 : TypeMap) (mt0 : MemTy X.source.shapes G0 m1) (lok0 : (x : ℕ) (t : Tree) → slice_get X.body1.locals x ≡ Some t → G0 c1.frame x ≡ Some t) where
      change_is : (u : Place) (h : Bool) → after_effect (if begun u W.block.term then Some true else None) h ≡ after_effect (only_if (begun u W.block.term) true) h
      change_is u h = go (begun u W.block.term)
        where
          go : (b : Bool) → after_effect (if b then Some true else None) h ≡ after_effect (only_if b true) h
          go true = refl
          go false = refl

      turned : (G : TypeMap) → MemTy X.source.shapes G m1' → ((x : ℕ) (t : Tree) → slice_get X.body1.locals x ≡ Some t → G c1.frame x ≡ Some t) → (u : Place) → Has us u → held m1' c1.frame u ≡ after_effect (change u) (held m1 c1.frame u)
      turned G mt lk u hu =
          delivers.held_after X inits apart proper proper_locals c1.frame m1 m1' W.place t pt d v wh aimed e G0 G mt0 lok0 mt lk u hu
          ∙ ap (λ (t : Term). after_effect (if begun u t then Some true else None) (held m1 c1.frame u)) (sym W.term)
          ∙ change_is u (held m1 c1.frame u)

      there : (k : Flagged) (x : ℕ) → Has fs k → k.flag ≡ Some x → (t : Tree) × (old : Value) × (slice_get E.locals x ≡ Some t) × (local_at m2' c2.frame x ≡ Some old)
      there k x h q =
          let (t, et, none) = flag_local X inits h.0 k x h.1 q in
          let (o, eo) = frame.slots x t et none in
          (t, o, et, eo)

      -- the target has set the flags, and stands at the start of the next block
      at_next : (s : State) (G : TypeMap) → MemTy X.source.shapes G m1' → ((x : ℕ) (t : Tree) → slice_get X.body1.locals x ≡ Some t → G c1.frame x ≡ Some t) → (n : ℕ) (m' : Memory) → moves (target X) n (record s { memory = m2'; top = c2 }) ≡ Some (on_at s c2 m' W.next 0) → Sets c2.frame change fs m2' m' → stand.Comes X inits apart proper s (stand.number_of X inits apart proper c1.block) j c2 c1 m2' m1'
      at_next s G mt lk n m' mv se = record {
        control = place_in c2 W.next 0;
        memory = m';
        count = n;
        comes = mv;
        same = (refl, refl);
        past = past_sets X inits apart proper change c2.frame m2' m' se;
        frame = record { function1 = frame.function1; function2 = frame.function2; roots = frame.roots; none = frame.none; only = frame.only; there = frame.there; absent = frame.absent; slots = λ x t el none. (let (o, eo) = frame.slots x t el none in se.there x o eo) };
        ready = inl (
          refl,
          record {
            calm = W.stands1.2;
            calm2 = refl;
            says = says_after X inits apart proper change c2.frame m2' m' (held m1 c1.frame) (held m1' c1.frame) se (λ u hu. turned G mt lk u hu) (λ u x hu q ef. kept_flag u x ef ∙ W.says u x hu (unbegun u q) ef);
            block = sym W.stands1.0;
            here = λ k1 k2 e1 e2. (
                let (end, es, (en, so)) = edges.edge W.from W.next W.block (held m1' c1.frame) W.is (subst (λ t. Has (targets t) W.next) (sym W.term) (0, refl)) sound k1 k2 (ap (slice_get X.body1.blocks) (sym W.stands1.0) ∙ e1) (ap (slice_get E.blocks) (sym W.stands1.0) ∙ e2) in (
                  end,
                  es ∙ ap (λ a. with_settings fs (drop a k1.stmts) ++ end.stmts) (sym W.stands1.1),
                  (
                    subst (λ i. stand.Ending X inits apart proper i k1 k2 end) (sym W.stands1.0) en,
                    subst (λ ss. SoundBefore D X.body1 c1.block k1 ss (held m1' c1.frame)) (ap (λ a. drop a k1.stmts) (sym W.stands1.1)) (sound_start D X.body1 c1.block k1 (held m1' c1.frame) (subst (λ i. SoundAt D X.body1 i (held m1' c1.frame)) (sym W.stands1.0) so)),
                  ),
                )
                );
          },
        );
      }
        where
          unbegun : (u : Place) → change u ≡ None → begun u W.block.term ≡ false
          unbegun u q = go (begun u W.block.term) q
            where
              go : (b : Bool) → only_if b true ≡ None → b ≡ false
              go true q = absurd (grind arith)
              go false q = refl

          kept_flag : (u : Place) (x : ℕ) → stand.flag_of X inits apart proper u ≡ Some x → local_at m2' c2.frame x ≡ local_at m2 c2.frame x
          kept_flag u x ef = let (k, g, a, b, c) = flag_found u fs x ef in still x (flag_local X inits k g x a b).2

          or_is : (b h : Bool) → after_effect (only_if b true) h ≡ (b || h)
          or_is true h = refl
          or_is false h = refl

          sound : SoundAt D X.body1 W.next (held m1' c1.frame)
          sound = sound_at_same D X.body1 W.next (λ u. begun u W.block.term || held m1 c1.frame u) (held m1' c1.frame) (λ u hu. turned G mt lk u hu ∙ or_is (begun u W.block.term) (held m1 c1.frame u)) W.sound

      goto_step : (s : State) (m' : Memory) (b a : ℕ) (block : TypedBlock) → slice_get E.blocks b ≡ Some block → drop a block.stmts ≡ [] → block.term ≡ Goto W.next → step (target X) (on_at s c2 m' b a) ≡ Some (on (on_at s c2 m' W.next 0))
      unfolding finish
      goto_step s m' b a block eb es et =
          let code : Laid = record { stmts = []; term = Goto W.next; locals = []; blocks = []; heads = [] } in
          term_step 0 (target X) E s c2 (ap (slice_get X.bodies) fr.function2 ∙ X.at2 ∙ ap (λ b. Some b) is2) m' b a code (block, eb, es, et) refl

      pub own : stand.IfTyped X inits apart proper c1 m1' (stand.Own X inits apart proper (stand.number_of X inits apart proper c1.block) j c2 c1 m2' m1')
      own G mt known s = pick W.sets
        where
          lk : (x : ℕ) (t : Tree) → slice_get X.body1.locals x ≡ Some t → G c1.frame x ≡ Some t
          lk = known X.body1 (ap (slice_get X.source.bodies) fr.function1 ∙ X.at1)

          pick : ((settings (λ u. only_if (begun u W.block.term) true) fs ≡ []) × (c2.block ≡ W.next)) ⊎ (slice_get E.blocks c2.block ≡ Some (record { stmts = settings (λ u. only_if (begun u W.block.term) true) fs; term = Goto W.next })) → stand.Comes X inits apart proper s (stand.number_of X inits apart proper c1.block) j c2 c1 m2' m1'
          pick (inl (none, q)) = at_next s G mt lk 0 m2' here (no_sets c2.frame change fs m2' (flags_distinct (length X.body1.locals) us (want_flags us inits 0 X.body1.blocks)) none)
            where
              here : Some (record s { memory = m2'; top = c2 }) ≡ Some (on_at s c2 m2' W.next 0)
              here = ap (λ (b : ℕ). Some (record s { memory = m2'; top = record c2 { block = b } })) q ∙ ap₂ (λ a o. Some (record s { memory = m2'; top = record c2 { block = W.next; at = a; dropping = o } })) W.stands2.0 W.stands2.1
          pick (inr eb) =
              let block : TypedBlock = record { stmts = settings (λ u. only_if (begun u W.block.term) true) fs; term = Goto W.next } in
              let (n, a', m', mv, dr, se) = run_settings (target X) E s c2 (ap (slice_get X.bodies) fr.function2 ∙ X.at2 ∙ ap (λ b. Some b) is2) change c2.block block eb fs [] m2' 0 (flags_distinct (length X.body1.locals) us (want_flags us inits 0 X.body1.blocks)) there (sym (append-nil (settings change fs))) in
              at_next s G mt lk (n + 1) m' (moves_then (target X) n 1 (record s { memory = m2'; top = c2 }) (on_at s c2 m' c2.block a') (Some (on_at s c2 m' W.next 0)) (subst (λ z. moves (target X) n z ≡ Some (on_at s c2 m' c2.block a')) here mv) (one_move (target X) (on_at s c2 m' c2.block a') (on_at s c2 m' W.next 0) (goto_step s m' c2.block a' block eb dr refl))) se
            where
              here : on_at s c2 m2' c2.block 0 ≡ record s { memory = m2'; top = c2 }
              here = ap₂ (λ a o. record s { memory = m2'; top = record c2 { at = a; dropping = o } }) (sym W.stands2.0) (sym W.stands2.1)
