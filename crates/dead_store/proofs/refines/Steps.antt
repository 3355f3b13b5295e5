-- A step of the pruned body, and the laws of the pass.
use Rattle.std.proofs.Common.{◌≡◌, inl, inr, refl, sym, ap, ap₂, ◌∙◌, subst, ℕ, suc, ◌+◌, ◌<◌, Bool, true, false, List, [], ◌∷◌, length, drop, Option, Some, None, slice_get, arith}
use Rattle.std.proofs.lemmas.Option.{slice_get_within}
use Rattle.mir_syntax.specs.Shapes.{Shape}
use Rattle.mir_syntax.specs.Crate.{TypedStmt, TypedBlock, TypedBody}
use Rattle.mir_rules.specs.Drops.{NoDrops}
use Rattle.mir_semantics.specs.Step.{Control, State, Next, next_stmt, perform}
use Rattle.mir_syntax.proofs.Binds.{bind_some, some_bind}
use Rattle.mir_renaming.proofs.Typed.{TermTy}
use Rattle.mir_renaming.proofs.Ghosts.{Flat}
use Rattle.mir_relate.specs.Simulation.{keep_on}
use Rattle.mir_relate.specs.Frames.{Change, target, Pass}
use Rattle.mir_relate.specs.Pass.{GentleTo, Valids, StmtMoves, TermMoves, ArgsTerm, Laws, Goes, Answers}
use Rattle.mir_relate.proofs.BodyLaw.{goes_answer}
use Rattle.mir_relate.proofs.Leaves.{some_val}
use Rattle.mir_relate.proofs.Mild.{gentle_on}
use Rattle.mir_relate.proofs.OneForOne.{StepsAnswered, KeepsRuns, own_laws}
use Rattle.mir_relate.proofs.Own as own
use Rattle.mir_relate.proofs.Rest.{drop_some, drop_none, drop_next, get_drop}
use Rattle.mir_relate.proofs.Running as running
use Rattle.dead_store.specs.Pruned.{is_useless, without, pruned_once}
use Rattle.dead_store.proofs.Without.{without_get, without_goes, without_stays}
use Rattle.dead_store.proofs.Decided.{useless_of, useful_of}
use Rattle.dead_store.proofs.refines.Frames as frames
use Rattle.dead_store.proofs.refines.Frames.{InBlock}
use Rattle.dead_store.proofs.refines.Moment as moment
use Rattle.dead_store.proofs.refines.Moment.{Moment}
use Rattle.dead_store.proofs.refines.Terms as terms
use Rattle.dead_store.proofs.refines.Statements as statements

module _ {X : Change} {once : X.body2 ≡ pruned_once X.source.shapes X.body1} {V : Valids X} {Inv : State → Type 0} (now : Moment X once V Inv) (no_drops : NoDrops X.body1) where
  open now use {n, s2, s1, r, st, r.{core.{lent as j}, typed1.{types as G}}, s1.{top.{frame as f1}}}
  open moment.seen now use {Q, S, H1}

  abbrev D : List Shape
  D = X.source.shapes

  abbrev P : Pass
  P = frames.pass X once

  abbrev gone : ℕ → ℕ → TypedStmt → Bool
  gone = is_useless X.source.shapes X.body1

  eb : slice_get X.source.bodies s1.top.function ≡ Some X.body1
  eb = running.body1_at r st.function1 st.function2

  module _ (k : TypedBlock) (ek : slice_get X.body1.blocks s1.top.block ≡ Some k) where
    abbrev i0 : ℕ
    i0 = s1.top.block

    abbrev left2 : List TypedStmt
    left2 = without (gone s1.top.block) 0 k.stmts

    abbrev k2 : TypedBlock
    k2 = record { stmts = without (gone s1.top.block) 0 k.stmts; term = k.term }

    at_k : slice_get X.body2.blocks s2.top.block ≡ Some k2
    at_k = ap₂ (λ ks i. slice_get ks i) (ap (λ (b : TypedBody). b.blocks) once) st.block ∙ without_get gone 0 i0 X.body1.blocks k ek ∙ (let z : 0 + i0 ≡ i0 = omega arith in ap (λ i. Some (record { stmts = without (gone i) 0 k.stmts; term = k.term })) z)

    only_k : (k' : TypedBlock) → slice_get X.body1.blocks s1.top.block ≡ Some k' → k ≡ k'
    only_k k' e = some_val (sym ek ∙ e)

    end_step : (x : Next) → slice_get k.stmts s1.top.at ≡ None → TermMoves H1 k.term → TermTy X.source H1 k.term → ArgsTerm X.source k.term → perform X.source H1 s1 k.term None ≡ Some x → Flat x → GentleTo X G f1 s1.memory x → Answers X P n s2 x
    unfolding perform
    end_step x none mo ty few e fl ge =
        let nil2 : drop s2.top.at left2 ≡ [] = (st.here k ek).0 ∙ ap (without (gone i0) s1.top.at) (drop_none k.stmts s1.top.at none) in
        let none2 : slice_get left2 s2.top.at ≡ None = get_drop left2 s2.top.at ∙ ap (λ ss. slice_get ss 0) nil2 in
        goes_answer X P n s2 x (subst (λ o. Goes X P o x) (sym (running.target_is r st.function1 st.function2 k2 at_k ∙ ap (perform (target X) S.target s2 k.term) none2))
        (own.same_step_goes X P V Inv (frames.frames X once V Inv) n s2 s1 r [] s1.callers refl (omega arith) now.below S Q (moment.left now) refl (moment.first now) refl refl X.body1 eb (λ h x y v e q. ((moment.pl now).only h x y e).0) (λ h x y lt e. (let z = ((moment.pl now).only h x y e).0 in omega (arith, z, lt))) k.term k.term x few (terms.same_step now k ek none k.term refl (no_drops.none i0 k ek) mo ty) e fl ge))

    module _ (s : TypedStmt) (es : slice_get k.stmts s1.top.at ≡ Some s) where
      rest : List TypedStmt
      rest = drop (suc s1.top.at) k.stmts

      split_at : drop s1.top.at k.stmts ≡ s ∷ drop (suc s1.top.at) k.stmts
      split_at = drop_some k.stmts s1.top.at s es

      less_left : length (drop (suc s1.top.at) k.stmts) < n
      less_left = (let z : n ≡ suc (length (drop (suc s1.top.at) k.stmts)) = (st.here k ek).1 ∙ ap length split_at in omega arith)

      in_block : (c2 : Control) → drop c2.at left2 ≡ without (gone i0) (suc s1.top.at) (drop (suc s1.top.at) k.stmts) → InBlock X once (length (drop (suc s1.top.at) k.stmts)) c2 (next_stmt s1.top)
      in_block c2 h k' e' = subst (λ (k' : TypedBlock). (drop c2.at (without (gone i0) 0 k'.stmts) ≡ without (gone i0) (suc s1.top.at) (drop (suc s1.top.at) k'.stmts)) × (length (drop (suc s1.top.at) k.stmts) ≡ length (drop (suc s1.top.at) k'.stmts))) (only_k k' e') (h, refl)

      stay_step : (x : Next) → gone i0 s1.top.at s ≡ false → StmtMoves H1 s → moment.Fits now s → perform X.source H1 s1 k.term (Some s) ≡ Some x → GentleTo X G f1 s1.memory x → Answers X P n s2 x
      unfolding perform
      stay_step x alive mo ty e ge =
          let (m1', e1, q) = bind_some e in
          let left_now : drop s2.top.at left2 ≡ s ∷ without (gone i0) (suc s1.top.at) (drop (suc s1.top.at) k.stmts) = (st.here k ek).0 ∙ ap (without (gone i0) s1.top.at) split_at ∙ without_stays (gone i0) s1.top.at (drop (suc s1.top.at) k.stmts) s alive in
          let (at2, next2) = drop_next left2 s2.top.at s (without (gone i0) (suc s1.top.at) (drop (suc s1.top.at) k.stmts)) left_now in
          let m = length (drop (suc s1.top.at) k.stmts) in
          let (m2', g1, l, lv) = statements.stays now k ek s es s refl (useful_of D X.body1 i0 s1.top.at k ek (slice_get_within k.stmts s1.top.at s es) s alive) mo ty m1' e1 in
          let st' = moment.moved now m (next_stmt s2.top) (next_stmt s1.top) refl refl refl refl st.block st.calm (in_block (next_stmt s2.top) (sym next2)) in
          subst (Answers X P n s2) (some_val q) (1, m, record s2 { memory = m2'; top = next_stmt s2.top }, ap (keep_on (λ s. Some s)) (running.target_is r st.function1 st.function2 k2 at_k ∙ ap (perform (target X) S.target s2 k.term) at2 ∙ some_bind _ g1 refl), own.own_core X P V Inv (frames.frames X once V Inv) n s2 s1 r [] s1.callers refl (omega arith) now.below m m2' m1' (next_stmt s2.top) (next_stmt s1.top) refl refl refl refl l (gentle_on X G f1 s1.memory (record s1 { memory = m1'; top = next_stmt s1.top }) x ge q (omega arith)) (refl, st', lv), inl (omega arith))

      gone_step : (x : Next) → gone i0 s1.top.at s ≡ true → StmtMoves H1 s → perform X.source H1 s1 k.term (Some s) ≡ Some x → GentleTo X G f1 s1.memory x → Answers X P n s2 x
      unfolding perform
      gone_step x dead mo e ge =
          let (m1', e1, q) = bind_some e in
          let left_now : drop s2.top.at left2 ≡ without (gone i0) (suc s1.top.at) (drop (suc s1.top.at) k.stmts) = (st.here k ek).0 ∙ ap (without (gone i0) s1.top.at) split_at ∙ without_goes (gone i0) s1.top.at (drop (suc s1.top.at) k.stmts) s dead in
          let m = length (drop (suc s1.top.at) k.stmts) in
          let (l, lv) = statements.goes now k ek s es s refl (useless_of D X.body1 i0 s1.top.at k ek (slice_get_within k.stmts s1.top.at s es) s dead) mo m1' e1 in
          let st' = moment.moved now m s2.top (next_stmt s1.top) refl refl refl refl st.block st.calm (in_block s2.top left_now) in
          subst (Answers X P n s2) (some_val q) (0, m, s2, refl, own.own_core X P V Inv (frames.frames X once V Inv) n s2 s1 r [] s1.callers refl (omega arith) now.below m s2.memory m1' s2.top (next_stmt s1.top) refl refl refl refl l (gentle_on X G f1 s1.memory (record s1 { memory = m1'; top = next_stmt s1.top }) x ge q (omega arith)) (refl, st', lv), inr less_left)

  pub one_step : StepsAnswered X P n s2 s1 G
  one_step x e fl ge =
      let (k, ek, q) = running.stepped r st.function1 st.function2 x e in
      go k ek (slice_get k.stmts s1.top.at) refl q
    where
      by : (k : TypedBlock) (ek : slice_get X.body1.blocks s1.top.block ≡ Some k) (s : TypedStmt) (es : slice_get k.stmts s1.top.at ≡ Some s) (g : Bool) → gone s1.top.block s1.top.at s ≡ g → perform X.source H1 s1 k.term (Some s) ≡ Some x → Answers X P n s2 x
      by k ek s es true dead q = gone_step k ek s es x dead (V.stmts f1 s1.top.function X.body1 s1.top.block k s1.top.at s eb ek es) q ge
      by k ek s es false alive q = stay_step k ek s es x alive (V.stmts f1 s1.top.function X.body1 s1.top.block k s1.top.at s eb ek es) (V.valid1.stmts G f1 s1.top.function X.body1 s1.top.block k s1.top.at s eb ek es (moment.lok now)) q ge

      go : (k : TypedBlock) (ek : slice_get X.body1.blocks s1.top.block ≡ Some k) (o : Option TypedStmt) → slice_get k.stmts s1.top.at ≡ o → perform X.source H1 s1 k.term o ≡ Some x → Answers X P n s2 x
      go k ek None es q = end_step k ek x es (V.terms f1 s1.top.function X.body1 s1.top.block k eb ek) (V.valid1.terms f1 s1.top.function X.body1 s1.top.block k eb ek) (V.calls s1.top.function X.body1 s1.top.block k eb ek) q fl ge
      go k ek (Some s) es q = by k ek s es (gone s1.top.block s1.top.at s) refl q

module _ (X : Change) (once : X.body2 ≡ pruned_once X.source.shapes X.body1) (no_drops : NoDrops X.body1) (V : Valids X) (Inv : State → Type 0) where
  abbrev pass : Pass
  pass = frames.pass X once

  pub laws : KeepsRuns X Inv → Laws X pass V Inv
  laws = own_laws X pass V Inv (frames.frames X once V Inv) (λ n j c2 c1 gs m2 m1 o. o.0) (λ n s2 s1 r o be. one_step {X = X} {once = once} {V = V} {Inv = Inv} (record { n = n; s2 = s2; s1 = s1; r = r; st = o.1; lives = o.2; below = be }) no_drops)
