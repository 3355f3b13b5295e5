-- A step of the merged body.
use Rattle.std.proofs.Common.{◌≡◌, inl, inr, refl, sym, ap, ap₂, ◌∙◌, subst, ℕ, suc, ◌<◌, Bool, true, false, cond, List, [], ◌∷◌, map, length, drop, Option, Some, None, slice_get, arith}
use Rattle.std.specs.List.{filter}
use Rattle.mir_syntax.specs.Shapes.{Shape}
use Rattle.mir_syntax.specs.Crate.{TypedStmt, TypedBlock, TypedBody}
use Rattle.mir_syntax.proofs.Binds.{bind_some, some_bind}
use Rattle.mir_syntax.proofs.Lists.{map_there}
use Rattle.mir_semantics.specs.Step.{Here, Control, State, Next, next_stmt, perform}
use Rattle.mir_renaming.proofs.Ghosts.{Flat}
use Rattle.mir_renaming.proofs.Typed.{TermTy}
use Rattle.mir_renaming.proofs.Types.{StmtTy}
use Rattle.mir_rules.specs.Drops.{NoDrops}
use Rattle.mir_relate.specs.Frames.{Change, target, Pass}
use Rattle.mir_relate.specs.Pass.{Valids, StmtMoves, TermMoves, ArgsTerm, GentleTo, Laws, Goes, Answers}
use Rattle.mir_relate.specs.Simulation.{keep_on}
use Rattle.mir_relate.proofs.BodyLaw.{goes_answer}
use Rattle.mir_relate.proofs.Leaves.{some_val}
use Rattle.mir_relate.proofs.Mild.{gentle_on}
use Rattle.mir_relate.proofs.OneForOne.{StepsAnswered, KeepsRuns, own_laws}
use Rattle.mir_relate.proofs.Own as own
use Rattle.mir_relate.proofs.Rest.{drop_some, drop_none, drop_next, get_drop}
use Rattle.mir_relate.proofs.Running as running
use Rattle.dest_prop.specs.Merged.{home_of, is_shared, stmt_home, stays, block_home, merged_by}
use Rattle.dest_prop.proofs.refines.Frames as frames
use Rattle.dest_prop.proofs.refines.Frames.{Filled, InBlock}
use Rattle.dest_prop.proofs.refines.Starts.{frame_laws}
use Rattle.dest_prop.proofs.refines.Moment as moment
use Rattle.dest_prop.proofs.refines.Moment.{Moment}
use Rattle.dest_prop.proofs.refines.Terms as terms
use Rattle.dest_prop.proofs.refines.Statements as statements
use Rattle.dest_prop.proofs.refines.Gone as gone

module _ {X : Change} {once : X.body2 ≡ merged_by (is_shared X.body1 (home_of X.source.shapes X.body1)) (home_of X.source.shapes X.body1) X.body1} {V : Valids X} {Inv : State → Type 0} (now : Moment X once V Inv) (no_drops : NoDrops X.body1) where
  open now use {n, s2, s1, r, st, r.{core.{lent as j}, typed1.{types as G}}, s1.{top.{frame as f1}}}

  abbrev D : List Shape
  D = X.source.shapes

  abbrev P : Pass
  P = frames.pass X once

  abbrev H1 : Here
  H1 = moment.H1 now

  abbrev H2 : Here
  H2 = moment.H2 now

  abbrev home : ℕ → ℕ
  home = home_of X.source.shapes X.body1

  abbrev shared : ℕ → Bool
  shared = is_shared X.body1 (home_of X.source.shapes X.body1)

  abbrev left_of : List TypedStmt → List TypedStmt
  left_of ss = map (stmt_home shared home) (filter (stays shared home) ss)

  abbrev Fits : TypedStmt → Type 0
  Fits = StmtTy D G (V.valid1.blank_ok G) X.body1.locals f1 (moment.lok now)

  eb : slice_get X.source.bodies s1.top.function ≡ Some X.body1
  eb = running.body1_at r st.function1 st.function2

  module _ (k : TypedBlock) (ek : slice_get X.body1.blocks s1.top.block ≡ Some k) where
    abbrev k2 : TypedBlock
    k2 = block_home shared home k

    at_k : slice_get X.body2.blocks s2.top.block ≡ Some k2
    at_k = ap₂ (λ ks i. slice_get ks i) (ap (λ (b : TypedBody). b.blocks) once) st.block ∙ map_there (block_home shared home) X.body1.blocks s1.top.block k ek

    only_k : (k' : TypedBlock) → slice_get X.body1.blocks s1.top.block ≡ Some k' → k ≡ k'
    only_k k' e = some_val (sym ek ∙ e)

    end_step : (x : Next) → slice_get k.stmts s1.top.at ≡ None → TermMoves H1 k.term → TermTy X.source H1 k.term → ArgsTerm X.source k.term → perform X.source H1 s1 k.term None ≡ Some x → Flat x → GentleTo X G f1 s1.memory x → Answers X P n s2 x
    unfolding perform
    end_step x none mo ty few e fl ge =
        let nil2 : drop s2.top.at (left_of k.stmts) ≡ [] = (st.here k ek).0 ∙ ap left_of (drop_none k.stmts s1.top.at none) in
        let none2 : slice_get (left_of k.stmts) s2.top.at ≡ None = get_drop (left_of k.stmts) s2.top.at ∙ ap (λ ss. slice_get ss 0) nil2 in
        goes_answer X P n s2 x (subst (λ o. Goes X P o x) (sym (running.target_is r st.function1 st.function2 k2 at_k ∙ ap (perform (target X) H2 s2 k2.term) none2))
        (own.same_step_goes X P V Inv (frame_laws X once V Inv) n s2 s1 r [] s1.callers refl (omega arith) now.below (moment.S now) (moment.Q now) (moment.left now) refl (moment.first now) refl refl X.body1 eb (λ h x y v e q. ((moment.pl now).only h x y e).0) (λ h x y lt e. (let z = ((moment.pl now).only h x y e).0 in omega (arith, z, lt))) k.term k2.term x few (terms.same_step now k ek none k.term refl (no_drops.none s1.top.block k ek) mo ty) e fl ge))

    module _ (s : TypedStmt) (es : slice_get k.stmts s1.top.at ≡ Some s) where
      split_at : drop s1.top.at k.stmts ≡ s ∷ drop (suc s1.top.at) k.stmts
      split_at = drop_some k.stmts s1.top.at s es

      less_left : length (drop (suc s1.top.at) k.stmts) < n
      less_left = (let z : n ≡ suc (length (drop (suc s1.top.at) k.stmts)) = (st.here k ek).1 ∙ ap length split_at in omega arith)

      filtered : (b : Bool) → stays shared home s ≡ b → left_of (s ∷ drop (suc s1.top.at) k.stmts) ≡ map (stmt_home shared home) (cond b (s ∷ filter (stays shared home) (drop (suc s1.top.at) k.stmts)) (filter (stays shared home) (drop (suc s1.top.at) k.stmts)))
      filtered b e = ap (λ b. map (stmt_home shared home) (cond b (s ∷ filter (stays shared home) (drop (suc s1.top.at) k.stmts)) (filter (stays shared home) (drop (suc s1.top.at) k.stmts)))) e

      in_block : (c2 : Control) → drop c2.at (left_of k.stmts) ≡ left_of (drop (suc s1.top.at) k.stmts) → InBlock X once (length (drop (suc s1.top.at) k.stmts)) c2 (next_stmt s1.top)
      in_block c2 h k' e' = subst (λ (k' : TypedBlock). (drop c2.at (left_of k'.stmts) ≡ left_of (drop (suc s1.top.at) k'.stmts)) × (length (drop (suc s1.top.at) k.stmts) ≡ length (drop (suc s1.top.at) k'.stmts))) (only_k k' e') (h, refl)

      stay_step : (x : Next) → stays shared home s ≡ true → StmtMoves H1 s → Fits s → perform X.source H1 s1 k.term (Some s) ≡ Some x → GentleTo X G f1 s1.memory x → Answers X P n s2 x
      unfolding perform
      stay_step x keep mo ty e ge =
          let (m1', e1, q) = bind_some e in
          let left_now : drop s2.top.at (left_of k.stmts) ≡ stmt_home shared home s ∷ left_of (drop (suc s1.top.at) k.stmts) = (st.here k ek).0 ∙ ap left_of split_at ∙ filtered true keep in
          let (at2, next2) = drop_next (left_of k.stmts) s2.top.at (stmt_home shared home s) (left_of (drop (suc s1.top.at) k.stmts)) left_now in
          let m = length (drop (suc s1.top.at) k.stmts) in
          let (m2', g1, l, lv) = statements.done now k ek s es keep mo ty m1' e1 in
          let st' = moment.moved now m (next_stmt s2.top) (next_stmt s1.top) refl refl refl refl st.block st.calm (in_block (next_stmt s2.top) (sym next2)) in
          subst (Answers X P n s2) (some_val q) (1, m, record s2 { memory = m2'; top = next_stmt s2.top }, ap (keep_on (λ s. Some s)) (running.target_is r st.function1 st.function2 k2 at_k ∙ ap (perform (target X) H2 s2 k2.term) at2 ∙ some_bind _ g1 refl), own.own_core X P V Inv (frame_laws X once V Inv) n s2 s1 r [] s1.callers refl (omega arith) now.below m m2' m1' (next_stmt s2.top) (next_stmt s1.top) refl refl refl refl l (gentle_on X G f1 s1.memory (record s1 { memory = m1'; top = next_stmt s1.top }) x ge q (omega arith)) (refl, st', frames.later X once j (next_stmt s2.top) (next_stmt s1.top) m2' m1' lv), inl (omega arith))

      gone_step : (x : Next) → stays shared home s ≡ false → StmtMoves H1 s → perform X.source H1 s1 k.term (Some s) ≡ Some x → GentleTo X G f1 s1.memory x → Answers X P n s2 x
      unfolding perform
      gone_step x dead mo e ge =
          let (m1', e1, q) = bind_some e in
          let left_now : drop s2.top.at (left_of k.stmts) ≡ left_of (drop (suc s1.top.at) k.stmts) = (st.here k ek).0 ∙ ap left_of split_at ∙ filtered false dead in
          let m = length (drop (suc s1.top.at) k.stmts) in
          let (l, lv) = gone.gone now k ek s es dead mo m1' e1 in
          let st' = moment.moved now m s2.top (next_stmt s1.top) refl refl refl refl st.block st.calm (in_block s2.top left_now) in
          subst (Answers X P n s2) (some_val q) (0, m, s2, refl, own.own_core X P V Inv (frame_laws X once V Inv) n s2 s1 r [] s1.callers refl (omega arith) now.below m s2.memory m1' s2.top (next_stmt s1.top) refl refl refl refl l (gentle_on X G f1 s1.memory (record s1 { memory = m1'; top = next_stmt s1.top }) x ge q (omega arith)) (refl, st', frames.later X once j s2.top (next_stmt s1.top) s2.memory m1' lv), inr less_left)

  pub one_step : StepsAnswered X P n s2 s1 G
  one_step x e fl ge =
      let (k, ek, q) = running.stepped r st.function1 st.function2 x e in
      go k ek (slice_get k.stmts s1.top.at) refl q
    where
      by : (k : TypedBlock) (ek : slice_get X.body1.blocks s1.top.block ≡ Some k) (s : TypedStmt) (es : slice_get k.stmts s1.top.at ≡ Some s) (g : Bool) → stays shared home s ≡ g → perform X.source H1 s1 k.term (Some s) ≡ Some x → Answers X P n s2 x
      by k ek s es false dead q = gone_step k ek s es x dead (V.stmts f1 s1.top.function X.body1 s1.top.block k s1.top.at s eb ek es) q ge
      by k ek s es true keep q = stay_step k ek s es x keep (V.stmts f1 s1.top.function X.body1 s1.top.block k s1.top.at s eb ek es) (V.valid1.stmts G f1 s1.top.function X.body1 s1.top.block k s1.top.at s eb ek es (moment.lok now)) q ge

      go : (k : TypedBlock) (ek : slice_get X.body1.blocks s1.top.block ≡ Some k) (o : Option TypedStmt) → slice_get k.stmts s1.top.at ≡ o → perform X.source H1 s1 k.term o ≡ Some x → Answers X P n s2 x
      go k ek None es q = end_step k ek x es (V.terms f1 s1.top.function X.body1 s1.top.block k eb ek) (V.valid1.terms f1 s1.top.function X.body1 s1.top.block k eb ek) (V.calls s1.top.function X.body1 s1.top.block k eb ek) q fl ge
      go k ek (Some s) es q = by k ek s es (stays shared home s) refl q

module _ (X : Change) (once : X.body2 ≡ merged_by (is_shared X.body1 (home_of X.source.shapes X.body1)) (home_of X.source.shapes X.body1) X.body1) (no_drops : NoDrops X.body1) (V : Valids X) (Inv : State → Type 0) where
  abbrev pass : Pass
  pass = frames.pass X once

  pub laws : KeepsRuns X Inv → Laws X pass V Inv
  laws = own_laws X pass V Inv (frame_laws X once V Inv) (λ n j c2 c1 gs m2 m1 o. o.0) (λ n s2 s1 r o be. one_step {X = X} {once = once} {V = V} {Inv = Inv} (record { n = n; s2 = s2; s1 = s1; r = r; st = o.1; lives = o.2; below = be }) no_drops)
