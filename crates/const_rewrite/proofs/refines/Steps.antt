-- A step of a body and of its folded one.
use Rattle.std.proofs.Common.{◌≡◌, inl, refl, sym, ap, ap₂, ◌∙◌, subst, ℕ, suc, true, List, [], ◌∷◌, ◌++◌, take, Option, Some, None, slice_get, arith}
use Rattle.mir_syntax.specs.declared.body.Place.{Place}
use Rattle.mir_syntax.specs.Tree.{Tree}
use Rattle.mir_syntax.specs.Shapes.{Shape}
use Rattle.mir_syntax.specs.Crate.{TypedRvalue, TypedStmt, assign, storage_live, storage_dead, set_discriminant, TypedBlock, TypedBody}
use Rattle.mir_semantics.specs.Values.{Addr, Value, blank}
use Rattle.mir_semantics.specs.Memory.{Memory}
use Rattle.mir_semantics.specs.Step.{Here, Dest, Control, State, Next, on, resolve, type_of, guard_of, dest_of, allows, next_stmt, exec, perform, step}
use Rattle.mir_syntax.proofs.Binds.{bind_some, some_bind}
use Rattle.mir_rules.specs.Drops.{NoDrops}
use Rattle.mir_renaming.specs.Renaming.{Renaming}
use Rattle.mir_renaming.proofs.Ghosts.{Flat}
use Rattle.mir_renaming.proofs.Items.{step_parts}
use Rattle.mir_renaming.proofs.Types.{TypeMap, AddrTy, HasTy, StmtTy, resolve_ty, eval_ty}
use Rattle.mir_relate.specs.Alike.{GotMemory, Sides, Evals}
use Rattle.mir_relate.specs.Frames.{Change, target, Pass, lowest, Below}
use Rattle.mir_relate.specs.Pass.{GentleTo, Valids, RvalueMoves, StmtMoves, Laws, Answers, Related}
use Rattle.mir_relate.specs.Simulation.{keep_on}
use Rattle.mir_relate.proofs.BodyLaw.{goes_answer}
use Rattle.mir_relate.proofs.Enter.{goes_by}
use Rattle.mir_relate.proofs.Kept as kept
use Rattle.mir_relate.proofs.Leaves.{some_val}
use Rattle.mir_relate.proofs.Mild.{gentle_on}
use Rattle.mir_relate.proofs.OneForOne.{StepsAnswered, KeepsRuns, own_laws}
use Rattle.mir_relate.proofs.Own as own
use Rattle.mir_relate.proofs.Single.{step_is}
use Rattle.const_flow.specs.Facts.{Facts, after_all}
use Rattle.const_flow.specs.ConstAt.{Reached, text}
use Rattle.const_flow.proofs.sound.Points.{take_more}
use Rattle.const_flow.proofs.sound.Related.{RefsOk, StmtRefsOk, exec_holds}
use Rattle.const_flow.proofs.sound.Lent.{refs_ok}
use Rattle.const_rewrite.specs.Folded.{folded_rvalue, folded_stmt, folded_stmts, folded_term}
use Rattle.const_rewrite.proofs.Blocks.{stmt_there, stmt_gone, block_is}
use Rattle.mir_relate.proofs.EachLocal as frames
use Rattle.mir_relate.proofs.EachLocal.{Runs, holds_linked}
use Rattle.mir_relate.proofs.Moment as moment
use Rattle.mir_relate.proofs.Moment.{Moment}
use Rattle.const_rewrite.proofs.refines.Where.{Folds, Known, words, lasting}
use Rattle.const_rewrite.proofs.refines.Values.{Knows, folded_evals}
use Rattle.const_rewrite.proofs.refines.Terms.{term_goes}

module _ {X : Change} {xs : List Reached} {V : Valids X} {Inv : State → Type 0} (now : Moment X (words X xs) V Inv) (folds : Folds X xs) (no_drops : NoDrops X.body1) where
  open now use {lasts, n, s2, s1, r, runs}

  abbrev D : List Shape
  D = X.source.shapes

  abbrev P : Pass
  P = frames.pass X (words X xs)

  abbrev j : Renaming
  j = now.r.core.lent

  abbrev G : TypeMap
  G = now.r.typed1.types

  abbrev f1 : ℕ
  f1 = now.s1.top.frame

  abbrev f2 : ℕ
  f2 = now.s2.top.frame

  abbrev ts : List Tree
  ts = X.body1.locals

  abbrev K : Renaming
  K = moment.K now

  abbrev bok : (t : Tree) → HasTy X.source.shapes now.r.typed1.types t (blank X.source.shapes t)
  bok = moment.bok now

  abbrev S : Sides
  S = moment.S now

  abbrev T : Here
  T = text X.source.shapes X.body1

  -- ---- a folded statement does what the statement does

  module _ (fs : Facts) (first : Knows now fs s2.memory s1.memory) (m1' : Memory) where
    abbrev Fits : TypedStmt → Type 0
    Fits = StmtTy D G bok ts f1 (moment.lok now)

    abbrev As : TypedStmt → TypedStmt → Type 0
    As = kept.StmtAs D ts ts f1 f2 j K (moment.low now) G bok (moment.lok now) (moment.Q now) (moment.keeps now)

    same_exec : (s : TypedStmt) → As s s → exec S.source s1.memory s ≡ Some m1' → GotMemory (moment.Q now) m1' (exec S.target s2.memory s)
    same_exec s as' e = kept.exec_as D ts ts f1 f2 j K (moment.low now) G bok (moment.lok now) (moment.Q now) (moment.keeps now) s s as' s2.memory s1.memory m1' (λ u. moment.payloads now) first.near e

    assign_execs : (p : Place) (x : TypedRvalue) → RvalueMoves S.source x → RefsOk D X.body1 x → Fits (assign p x) → exec S.source s1.memory (assign p x) ≡ Some m1' → GotMemory (moment.Q now) m1' (exec S.target s2.memory (assign p (folded_rvalue T fs x)))
    assign_execs p x mo ok (t, pt, xt) e =
        let E = folded_evals now fs x mo ok (t, xt) in
        let near : Evals S (Knows now fs) (moment.Q now) x (folded_rvalue T fs x) = record { evals = λ m2 m1 r q ev. (let (w, g, h, k) = E.evals m2 m1 r q ev in (w, g, h, k.near)) } in
        kept.assign_as D ts ts f1 f2 j K (moment.low now) G bok (moment.lok now) (moment.Q now) (moment.keeps now) p p x (folded_rvalue T fs x) (Knows now fs) (moment.place_self now p) near (t, pt, xt) s2.memory s1.memory m1' first.near.typed first e

    stmt_execs : (s : TypedStmt) → StmtMoves S.source s → StmtRefsOk D X.body1 s → Fits s → exec S.source s1.memory s ≡ Some m1' → GotMemory (moment.Q now) m1' (exec S.target s2.memory (folded_stmt T fs s))
    stmt_execs (assign p x) mo ok ty e = assign_execs p x mo ok ty e
    stmt_execs (storage_live x) mo ok ty e = same_exec (storage_live x) (record { root = moment.itself now x; ty = refl }) e
    stmt_execs (storage_dead x) mo ok ty e = same_exec (storage_dead x) (record { root = moment.itself now x; ty = refl }) e
    stmt_execs (set_discriminant p k) mo ok ty e = same_exec (set_discriminant p k) (moment.place_self now p, refl, mo) e

  -- ---- steps

  module _ (k : TypedBlock) (ek : slice_get X.body1.blocks s1.top.block ≡ Some k) where
    abbrev fs0 : Facts
    fs0 = now.runs.says.point.facts

    -- what is known where the frame stands
    abbrev fs : Facts
    fs = after_all T (take now.s1.top.at k.stmts) now.runs.says.point.facts

    abbrev k2 : TypedBlock
    k2 = record { stmts = folded_stmts T now.runs.says.point.facts k.stmts; term = folded_term T (after_all T k.stmts now.runs.says.point.facts) k.term }

    at_k : slice_get X.body2.blocks s2.top.block ≡ Some k2
    at_k = ap (slice_get X.body2.blocks) runs.says.block ∙ folds.blocks s1.top.block k (Some fs0) ek runs.says.point.reached ∙ ap Some (block_is T k fs0)

    target_is : step (target X) s2 ≡ perform (target X) S.target s2 k2.term (slice_get k2.stmts s1.top.at)
    target_is = step_is (target X) s2 X.body2 k2 (moment.eb2 now) at_k ∙ ap₂ (λ (ls : List Tree) (a : ℕ). perform (target X) (record { shapes = D; locals = ls; frame = f2 }) s2 k2.term (slice_get k2.stmts a)) folds.same_locals runs.says.at

    first : Knows now fs s2.memory s1.memory
    first = record { near = moment.start now; known = runs.says.point.known k ek }

    stmt_step : (s : TypedStmt) (x : Next) → slice_get k.stmts s1.top.at ≡ Some s → StmtMoves S.source s → StmtTy D G bok ts f1 (moment.lok now) s → perform X.source S.source s1 k.term (Some s) ≡ Some x → GentleTo X G f1 s1.memory x → Answers X P n s2 x
    unfolding perform
    stmt_step s x at mo ty e ge =
        let (m1', e1, q) = bind_some e in
        let ok = refs_ok D X.body1 s1.top.block s1.top.at k s ek at in
        let (m2', g1, q2) = stmt_execs fs first m1' s mo ok ty e1 in
        let after = exec_holds D X.body1 f1 f2 j (moment.K now) (moment.low now) (moment.itself now) (moment.unlent_at now) (moment.lent_at now) s2.memory s1.memory first.near.linked.mem fs first.known s m1' ok e1 in
        let known : Known X xs f1 m1' (after_all T (take (suc s1.top.at) k.stmts) fs0) = subst (Known X xs f1 m1') (sym (take_more T k.stmts s1.top.at s fs0 at)) after in
        let run : Runs X (words X xs) j (next_stmt s2.top) (next_stmt s1.top) m2' m1' = record {
          stand = moment.moved now (next_stmt s2.top) (next_stmt s1.top) refl refl refl refl runs.stand.calm;
          locals = holds_linked j f2 f1 (moment.pl now) m2' m1' q2.linked;
          says = record {
            block = runs.says.block;
            at = ap suc runs.says.at;
            point = record { facts = fs0; reached = runs.says.point.reached; known = λ k' e'. subst (λ (k : TypedBlock). Known X xs f1 m1' (after_all T (take (suc s1.top.at) k.stmts) fs0)) (some_val (sym ek ∙ e')) known };
          };
        } in
        let at2 : slice_get k2.stmts s1.top.at ≡ Some (folded_stmt T fs s) = stmt_there T k.stmts s1.top.at fs0 s at in
        subst (Answers X P n s2) (some_val q) (1, 0, record s2 { memory = m2'; top = next_stmt s2.top }, ap (keep_on (λ s. Some s)) (target_is ∙ ap (perform (target X) S.target s2 k2.term) at2 ∙ some_bind _ g1 refl), own.own_core X P V Inv (frames.frames X (words X xs) lasts V Inv) n s2 s1 r [] s1.callers refl (omega arith) now.below 0 m2' m1' (next_stmt s2.top) (next_stmt s1.top) refl refl refl refl (moment.left now m2' m1' q2) (gentle_on X G f1 s1.memory (record s1 { memory = m1'; top = next_stmt s1.top }) x ge q (omega arith)) (refl, run), inl (omega arith))

    end_step : (x : Next) → slice_get k.stmts s1.top.at ≡ None → perform X.source S.source s1 k.term None ≡ Some x → Flat x → GentleTo X G f1 s1.memory x → Answers X P n s2 x
    unfolding perform
    end_step x none e fl ge =
        let none2 : slice_get k2.stmts s1.top.at ≡ None = stmt_gone T k.stmts s1.top.at fs0 none in
        let eb = moment.eb now in
        let g = s1.top.function in
        goes_answer X P n s2 x (goes_by X P _ _ x (target_is ∙ ap (perform (target X) S.target s2 k2.term) none2)
        (term_goes now folds k ek none k.term x refl (no_drops.none s1.top.block k ek) (V.terms f1 g X.body1 s1.top.block k eb ek) (V.valid1.terms f1 g X.body1 s1.top.block k eb ek) (V.calls g X.body1 s1.top.block k eb ek) e fl ge))

  pub one_step : StepsAnswered X P n s2 s1 G
  one_step x e fl ge =
      let (bo, k, ebo, ek, q) = step_parts X.source s1 x e in
      let sb : bo ≡ X.body1 = some_val (sym ebo ∙ moment.eb now) in
      go k (ap (λ (b : TypedBody). slice_get b.blocks s1.top.block) (sym sb) ∙ ek) (slice_get k.stmts s1.top.at) refl (subst (λ (b : TypedBody). perform X.source (record { shapes = D; locals = b.locals; frame = f1 }) s1 k.term (slice_get k.stmts s1.top.at) ≡ Some x) sb q)
    where
      go : (k : TypedBlock) (ek : slice_get X.body1.blocks s1.top.block ≡ Some k) (o : Option TypedStmt) → slice_get k.stmts s1.top.at ≡ o → perform X.source S.source s1 k.term o ≡ Some x → Answers X P n s2 x
      go k ek None at q = end_step k ek x at q fl ge
      go k ek (Some s) at q = stmt_step k ek s x at (V.stmts f1 s1.top.function X.body1 s1.top.block k s1.top.at s (moment.eb now) ek at) (V.valid1.stmts G f1 s1.top.function X.body1 s1.top.block k s1.top.at s (moment.eb now) ek at (moment.lok now)) q ge

module _ (X : Change) (xs : List Reached) (folds : Folds X xs) (no_drops : NoDrops X.body1) (V : Valids X) (Inv : State → Type 0) where
  abbrev pass : Pass
  pass = frames.pass X (words X xs)

  pub laws : KeepsRuns X Inv → Laws X pass V Inv
  laws = own_laws X pass V Inv (frames.frames X (words X xs) (lasting X xs folds) V Inv) (λ n j c2 c1 gs m2 m1 o. o.0) (λ n s2 s1 r o be. one_step {X = X} {xs = xs} {V = V} {Inv = Inv} (record { lasts = lasting X xs folds; n = n; s2 = s2; s1 = s1; r = r; runs = o.1; below = be }) folds no_drops)
