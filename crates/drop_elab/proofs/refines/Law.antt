-- The laws of the elaborated function, from the rules of the source's body.
use Rattle.std.proofs.Common.{◌≡◌, ◌⊎◌, inl, inr, refl, sym, ap, ◌∙◌, subst, ℕ, Bool, true, false, List, [], ◌∷◌, ◌++◌, length, drop, Option, Some, None, slice_get, arith}
use Rattle.std.proofs.lemmas.List.{append-nil}
use Rattle.mir_syntax.specs.declared.body.Place.{Place}
use Rattle.mir_syntax.specs.declared.body.Operand.{Operand}
use Rattle.mir_syntax.specs.declared.body.Callee.{Callee}
use Rattle.mir_syntax.specs.declared.body.Term.{Term}
use Rattle.mir_syntax.specs.declared.body.Term.TheVariants.{Goto, Switch, Return, Unreachable, Drop, Call, Assert}
use Rattle.mir_syntax.specs.Tree.{Tree}
use Rattle.mir_syntax.specs.Shapes.{Shape}
use Rattle.mir_syntax.specs.Crate.{TypedStmt, TypedBlock, TypedBody}
use Rattle.mir_rules.specs.DefinitionRules.{holds}
use Rattle.mir_semantics.specs.Memory.{local_at}
use Rattle.mir_semantics.specs.Values.{Value}
use Rattle.mir_semantics.specs.Step.{Dropping, State, Next, step}
use Rattle.mir_renaming.proofs.Typed.{Typed}
use Rattle.mir_relate.specs.Simulation.{moves}
use Rattle.mir_relate.specs.Frames.{Change, target, Pass}
use Rattle.mir_relate.specs.Pass.{Valids, FrameLaws, Laws, Answers}
use Rattle.mir_relate.proofs.OneForOne.{own_laws, KeepsRuns}
use Rattle.mir_relate.proofs.Rest.{drop_none}
use Rattle.mir_relate.proofs.Running as running
use Rattle.move_paths.specs.Effects.{moved, begun}
use Rattle.move_paths.specs.Inits.{after_effect}
use Rattle.drop_elab.specs.Plan.{Laid}
use Rattle.drop_elab.specs.Elab.{Inits, Status, Flagged, settings, with_settings, only_if, call_end, lay_end, statuses_at, want_flags}
use Rattle.drop_elab.proofs.refines.Items.{Proper, ProperShapes}
use Rattle.drop_elab.proofs.refines.Bodies.{block_of, elab_block}
use Rattle.drop_elab.proofs.refines.Places.{Stands, head_stands, none_left}
use Rattle.drop_elab.proofs.refines.Sound.{Has, SoundBefore}
use Rattle.drop_elab.proofs.refines.Flags.{flag_local}
use Rattle.drop_elab.proofs.refines.Machine.{on_at, place_in}
use Rattle.drop_elab.proofs.refines.Settings.{flags_distinct, run_settings}
use Rattle.drop_elab.proofs.refines.Stand as stand
use Rattle.drop_elab.proofs.refines.Stand.{held}
use Rattle.drop_elab.proofs.refines.Stages as stages
use Rattle.drop_elab.proofs.refines.Ended as ended
use Rattle.drop_elab.proofs.refines.Starts.{says_after, past_sets}
use Rattle.drop_elab.proofs.refines.Running.{answers_after}
use Rattle.drop_elab.proofs.refines.Begin.{begun_state}
use Rattle.drop_elab.proofs.refines.Statements as statements
use Rattle.drop_elab.proofs.refines.Frames as frame_laws
use Rattle.drop_elab.proofs.refines.Rules.{Rules}
use Rattle.drop_elab.proofs.refines.Finishes as finishes
use Rattle.drop_elab.proofs.refines.Hands as hands
use Rattle.drop_elab.proofs.refines.Follows as follows

-- an end that is no drop and no call stays
plain_end : (D : List Shape) (ts : List Tree) (fs : List Flagged) (ss : List Status) (t : Term) (l b : ℕ) → ((p : Place) (u : ℕ) → t ≡ Drop p u → ⊥) → ((p : Place) (g : Callee) (os : List Operand) (u : ℕ) → t ≡ Call p g os u → ⊥) → ((lay_end D ts fs ss t l b).stmts ≡ []) × ((lay_end D ts fs ss t l b).term ≡ t)
plain_end D ts fs ss (Goto u) l b nd nc = (refl, refl)
plain_end D ts fs ss (Switch o arms u) l b nd nc = (refl, refl)
plain_end D ts fs ss Return l b nd nc = (refl, refl)
plain_end D ts fs ss Unreachable l b nd nc = (refl, refl)
plain_end D ts fs ss (Assert o c words os u) l b nd nc = (refl, refl)
plain_end D ts fs ss (Drop p u) l b nd nc = absurd (nd p u refl)
plain_end D ts fs ss (Call p g os u) l b nd nc = absurd (nc p g os u refl)

is_call : (t : Term) → ((p : Place) × (g : Callee) × (os : List Operand) × (u : ℕ) × (t ≡ Call p g os u)) ⊎ ((p : Place) (g : Callee) (os : List Operand) (u : ℕ) → t ≡ Call p g os u → ⊥)
is_call (Call p g os u) = inl (p, g, os, u, refl)
is_call (Goto u) = inr (λ p g os v e. grind arith)
is_call (Switch o arms u) = inr (λ p g os v e. grind arith)
is_call Return = inr (λ p g os v e. grind arith)
is_call Unreachable = inr (λ p g os v e. grind arith)
is_call (Drop q u) = inr (λ p g os v e. grind arith)
is_call (Assert o c words ps u) = inr (λ p g os v e. grind arith)

-- where a call returns to
call_parts : (body : TypedBody) (clears sets : List TypedStmt) (p : Place) (g : Callee) (os : List Operand) (next l b : ℕ) → Stands body l b (call_end clears (Call p g os next) (Call p g os b) next sets) → (next2 : ℕ) × ((call_end clears (Call p g os next) (Call p g os b) next sets).stmts ≡ clears) × ((call_end clears (Call p g os next) (Call p g os b) next sets).term ≡ Call p g os next2) × (((sets ≡ []) × (next2 ≡ next)) ⊎ (slice_get body.blocks next2 ≡ Some (record { stmts = sets; term = Goto next })))
call_parts body clears [] p g os next l b st = (next, refl, refl, inl (refl, refl))
call_parts body clears (x ∷ xs) p g os next l b st = (b, refl, refl, inr (head_stands body.blocks b (record { stmts = x ∷ xs; term = Goto next }) [] st.blocks))

module _ (X : Change) (inits : Inits) (apart : (d : ℕ) → holds X.source.shapes (length X.source.shapes) d d ≡ false) (proper : ProperShapes X.source.shapes) (proper_locals : (x : ℕ) (t : Tree) → slice_get X.body1.locals x ≡ Some t → Proper t) (S : stages.Sorted X inits apart proper) (edges : ended.Edges X inits apart proper proper_locals S) (is2 : X.body2 ≡ stand.E X inits apart proper) (V : Valids X) (Inv : State → Type 0) (inv_begun : (s : State) (d : Dropping) → Inv s → Typed X.source V.valid1 (begun_state s d) → Inv (begun_state s d)) (rules : Rules X) (runs : KeepsRuns X Inv) where
  abbrev D : List Shape
  D = X.source.shapes

  abbrev P : Pass
  P = stand.pass X inits apart proper

  abbrev E : TypedBody
  E = stand.E X inits apart proper

  abbrev us : List Place
  us = stand.us X inits apart proper

  abbrev fs : List Flagged
  fs = stand.fs X inits apart proper

  abbrev at2 : slice_get X.bodies X.f ≡ Some (stand.E X inits apart proper)
  at2 = frame_laws.at2 X inits apart proper proper_locals S edges is2 V Inv

  abbrev frames : FrameLaws X (stand.pass X inits apart proper) V Inv
  frames = frame_laws.frames X inits apart proper proper_locals S edges is2 V Inv rules.args_below rules.first

  abbrev Follows : ℕ → State → State → Type 0
  Follows = follows.Follows X inits apart proper proper_locals S edges at2 V Inv inv_begun frames

  at_call : follows.AtCall X inits apart proper proper_locals S edges at2 V Inv inv_begun frames
  at_call n s2 s1 f h x e = hands.hand_answers X inits apart proper proper_locals S edges is2 V Inv frames rules n s2 s1 f.related f.below f.frame h x e (runs.1 s1 x f.related.inv e)

  module _ (n : ℕ) (s2 s1 : State) (f : Follows n s2 s1) (st : stand.Stated X inits apart proper s2.top s1.top s2.memory s1.memory) (k : TypedBlock) (ek : slice_get X.body1.blocks s1.top.block ≡ Some k) where
    abbrev f1 : ℕ
    f1 = s1.top.frame

    abbrev f2 : ℕ
    f2 = s2.top.frame

    -- the target clears flags, and stands at the call
    clears : (none : slice_get k.stmts s1.top.at ≡ None) (p : Place) (g : Callee) (os : List Operand) (u : ℕ) → k.term ≡ Call p g os u → (O : stand.Comes X inits apart proper s2 n f.related.core.lent s2.top s1.top s2.memory s1.memory) × stand.Handing X inits apart proper O.control s1.top O.memory s1.memory
    clears none p g os u term =
        let (l0, b0, le0, e2, s0) = elab_block D X.body1 inits s1.top.block k ek in
        let k2 : TypedBlock = block_of D X.body1 us fs inits s1.top.block k l0 b0 in
        let (end, dr, ((l, b, le, ee, te, sn), so)) = st.here k k2 ek e2 in
        let T : Term = Call p g os u in
        let sets : List TypedStmt = settings (λ w. only_if (begun w T) true) fs in
        let outs : List TypedStmt = settings (λ w. only_if (moved w T) false) fs in
        let is_end : end ≡ call_end outs T (Call p g os b) u sets = ee ∙ ap (λ t. lay_end D X.body1.locals fs (statuses_at us inits s1.top.block k) t l b) term in
        let (next2, es, et, back) = call_parts E outs sets p g os u l b (subst (λ (e : Laid). Stands E l b e) is_end sn) in
        let change : Place → Option Bool = λ w. only_if (moved w k.term) false in
        let outs_is : outs ≡ settings change fs = ap (λ t. settings (λ w. only_if (moved w t) false) fs) (sym term) in
        let dr' : drop s2.top.at k2.stmts ≡ settings change fs ++ [] = dr ∙ ap (λ ss. with_settings fs ss ++ end.stmts) (drop_none k.stmts s1.top.at none) ∙ ap (λ (e : Laid). e.stmts) is_end ∙ es ∙ outs_is ∙ sym (append-nil (settings change fs)) in
        let e2' : slice_get E.blocks s2.top.block ≡ Some k2 = ap (slice_get E.blocks) st.block ∙ e2 in
        let (cn, a', m', mv, dn, se) = run_settings (target X) E s2 s2.top (ap (slice_get X.bodies) f.frame.function2 ∙ at2) change s2.top.block k2 e2' fs [] s2.memory s2.top.at (flags_distinct (length X.body1.locals) us (want_flags us inits 0 X.body1.blocks)) there dr' in
        let here : on_at s2 s2.top s2.memory s2.top.block s2.top.at ≡ s2 = ap (λ o. record s2 { top = record s2.top { dropping = o } }) (sym st.calm2) in
        let H : stand.Handing X inits apart proper (place_in s2.top s2.top.block a') s1.top m' s1.memory = record {
          calm = st.calm;
          calm2 = refl;
          block1 = k;
          is1 = ek;
          ends1 = none;
          place = p;
          callee = g;
          args = os;
          next = u;
          term1 = term;
          block2 = k2;
          is2 = e2';
          ends2 = none_left a' k2.stmts dn;
          next2 = next2;
          term2 = te ∙ ap (λ (e : Laid). e.term) is_end ∙ et;
          sets = subst (λ t. ((settings (λ w. only_if (begun w t) true) fs ≡ []) × (next2 ≡ u)) ⊎ (slice_get E.blocks next2 ≡ Some (record { stmts = settings (λ w. only_if (begun w t) true) fs; term = Goto u }))) (sym term) back;
          says = says_after X inits apart proper change f2 s2.memory m' (held s1.memory f1) (λ w. after_effect (change w) (held s1.memory f1 w)) se (λ w hw. refl) (λ w x hw q ef. st.says w x hw ef);
          sound = subst (λ ss. SoundBefore D X.body1 s1.top.block k ss (held s1.memory f1)) (drop_none k.stmts s1.top.at none) so;
        } in (
          record {
            control = place_in s2.top s2.top.block a';
            memory = m';
            count = cn;
            comes = subst (λ z. moves (target X) cn z ≡ Some (on_at s2 s2.top m' s2.top.block a')) here mv;
            same = (refl, refl);
            past = past_sets X inits apart proper change f2 s2.memory m' se;
            frame = record { function1 = f.frame.function1; function2 = f.frame.function2; roots = f.frame.roots; none = f.frame.none; only = f.frame.only; there = f.frame.there; absent = f.frame.absent; slots = λ x t el none. (let (o, eo) = f.frame.slots x t el none in se.there x o eo) };
            ready = inr (inr H);
          },
          H,
        )
      where
        there : (g : Flagged) (x : ℕ) → Has fs g → g.flag ≡ Some x → (t : Tree) × (old : Value) × (slice_get E.locals x ≡ Some t) × (local_at s2.memory f2 x ≡ Some old)
        there g x h z =
            let (t, et, none) = flag_local X inits h.0 g x h.1 z in
            let (v, ev) = f.frame.slots x t et none in
            (t, v, et, ev)

    call_here : (none : slice_get k.stmts s1.top.at ≡ None) (p : Place) (g : Callee) (os : List Operand) (u : ℕ) → k.term ≡ Call p g os u → (x : Next) → step X.source s1 ≡ Some x → Answers X P n s2 x
    call_here none p g os u term x e =
        let (O, h) = clears none p g os u term in
        let s = follows.come_to X inits apart proper proper_locals S edges at2 V Inv inv_begun frames s2 n f.related.core.lent s1.top s1.memory O in
        answers_after X P n O.count s2 s x O.comes refl (at_call n s s1 (follows.comes_there X inits apart proper proper_locals S edges at2 V Inv inv_begun frames n s2 s1 f.related f.below O) h x e)

    -- any other end of a block
    end_here : (none : slice_get k.stmts s1.top.at ≡ None) → ((p : Place) (u : ℕ) → k.term ≡ Drop p u → ⊥) → ((p : Place) (g : Callee) (os : List Operand) (u : ℕ) → k.term ≡ Call p g os u → ⊥) → (x : Next) → step X.source s1 ≡ Some x → Answers X P n s2 x
    end_here none nd nc x e =
        let (l0, b0, le0, e2, s0) = elab_block D X.body1 inits s1.top.block k ek in
        let k2 : TypedBlock = block_of D X.body1 us fs inits s1.top.block k l0 b0 in
        let (end, dr, ((l, b, le, ee, te, sn), so)) = st.here k k2 ek e2 in
        let (ps, pt) = plain_end D X.body1.locals fs (statuses_at us inits s1.top.block k) k.term l b nd nc in
        let nil2 : drop s2.top.at k2.stmts ≡ [] = dr ∙ ap (λ ss. with_settings fs ss ++ end.stmts) (drop_none k.stmts s1.top.at none) ∙ ap (λ (e : Laid). e.stmts) ee ∙ ps in
        finishes.end_answers X inits apart proper proper_locals S edges is2 V Inv frames rules n s2 s1 f.related f.below f.frame st k ek none k2 e2 (te ∙ ap (λ (e : Laid). e.term) ee ∙ pt) (none_left s2.top.at k2.stmts nil2) nd nc x e (runs.1 s1 x f.related.inv e)

    -- a statement
    stmt_here : (s : TypedStmt) → slice_get k.stmts s1.top.at ≡ Some s → (x : Next) → step X.source s1 ≡ Some x → Answers X P n s2 x
    stmt_here s es x e =
        let (l0, b0, le0, e2, s0) = elab_block D X.body1 inits s1.top.block k ek in
        let k2 : TypedBlock = block_of D X.body1 us fs inits s1.top.block k l0 b0 in
        statements.stmt_answers X inits apart proper proper_locals is2 V Inv frames n s2 s1 f.related f.below f.frame st k ek k2 e2 s es (rules.stmts s1.top.block s1.top.at k s ek es)
        (λ p r q. (let m = rules.assigns s1.top.block s1.top.at k p r ek (es ∙ ap (λ s. Some s) q) in (m.through, m.indirect))) x e

    here_answers : ((p : Place) (u : ℕ) → slice_get k.stmts s1.top.at ≡ None → k.term ≡ Drop p u → ⊥) → (x : Next) → step X.source s1 ≡ Some x → Answers X P n s2 x
    here_answers nd x e = go (slice_get k.stmts s1.top.at) refl
      where
        by : (none : slice_get k.stmts s1.top.at ≡ None) → ((p : Place) × (g : Callee) × (os : List Operand) × (u : ℕ) × (k.term ≡ Call p g os u)) ⊎ ((p : Place) (g : Callee) (os : List Operand) (u : ℕ) → k.term ≡ Call p g os u → ⊥) → Answers X P n s2 x
        by none (inl (p, g, os, u, t)) = call_here none p g os u t x e
        by none (inr nc) = end_here none (λ p u. nd p u none) nc x e

        go : (o : Option TypedStmt) → slice_get k.stmts s1.top.at ≡ o → Answers X P n s2 x
        go None q = by q (is_call k.term)
        go (Some s) q = stmt_here s q x e

  at_statement : follows.AtStatement X inits apart proper proper_locals S edges at2 V Inv inv_begun frames
  at_statement n s2 s1 f st nd x e =
      let (k, ek, q) = running.stepped f.related f.frame.function1 f.frame.function2 x e in
      here_answers n s2 s1 f st k ek (λ p u none t. nd k p u ek none t) x e

  pub laws : Laws X (stand.pass X inits apart proper) V Inv
  laws = own_laws X P V Inv frames (λ n j c2 c1 gs m2 m1 o. o.0) (λ n s2 s1 r o be x e fl ge. follows.step_answers X inits apart proper proper_locals S edges at2 V Inv inv_begun frames at_statement at_call n s2 s1 r be (o.1 r.typed1.types r.typed1.mem r.typed1.top.locals) x e) runs
