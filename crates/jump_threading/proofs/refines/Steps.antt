-- A step of a body and of the threaded one.
use Rattle.std.proofs.Common.{◌≡◌, ◌⊎◌, inl, inr, refl, sym, ap, ap₂, ◌∙◌, subst, ℕ, suc, Bool, true, false, List, [], ◌∷◌, ◌++◌, take, Option, Some, None, slice_get, arith}
use Rattle.mir_syntax.specs.declared.body.Place.{Place}
use Rattle.mir_syntax.specs.declared.body.Term.{Term}
use Rattle.mir_syntax.specs.declared.body.Term.TheVariants.{Goto}
use Rattle.mir_syntax.specs.Tree.{Tree}
use Rattle.mir_syntax.specs.Shapes.{Shape}
use Rattle.mir_syntax.specs.Parts.{has_deref}
use Rattle.mir_syntax.specs.Crate.{TypedRvalue, «use», binary, overflow, unary, cast, discriminant, tuple, build, TypedStmt, assign, storage_live, storage_dead, set_discriminant, TypedBlock, TypedBody}
use Rattle.mir_syntax.specs.Crate as rvalue
use Rattle.mir_semantics.specs.Memory.{Memory}
use Rattle.mir_semantics.specs.Step.{Here, Control, State, Next, on, next_stmt, exec, perform, finish, step}
use Rattle.mir_syntax.proofs.Binds.{bind_some, some_bind}
use Rattle.mir_rules.specs.Drops.{NoDrops}
use Rattle.mir_renaming.specs.Renaming.{Renaming}
use Rattle.mir_renaming.proofs.Among.{all_rvalue}
use Rattle.mir_renaming.proofs.Ghosts.{Flat}
use Rattle.mir_renaming.proofs.Items.{step_parts}
use Rattle.mir_renaming.proofs.Types.{TypeMap, StmtTy}
use Rattle.mir_relate.specs.Alike.{GotMemory, Sides}
use Rattle.mir_relate.specs.Frames.{Change, target, Pass, lowest, Below}
use Rattle.mir_relate.specs.Pass.{GentleTo, Valids, StmtMoves, Laws, Answers, Goes, Related}
use Rattle.mir_relate.specs.Simulation.{keep_on}
use Rattle.mir_relate.proofs.BodyLaw.{goes_answer}
use Rattle.mir_relate.proofs.Enter.{goes_by}
use Rattle.mir_relate.proofs.Itself as itself
use Rattle.mir_relate.proofs.Kept as kept
use Rattle.mir_relate.proofs.Leaves.{some_val}
use Rattle.mir_relate.proofs.Mild.{gentle_on}
use Rattle.mir_relate.proofs.OneForOne.{StepsAnswered, KeepsRuns, own_laws}
use Rattle.mir_relate.proofs.Own as own
use Rattle.mir_relate.proofs.Single.{step_is}
use Rattle.const_flow.specs.Facts.{Facts, after_all}
use Rattle.const_flow.specs.ConstAt.{Reached, text}
use Rattle.const_flow.proofs.sound.Points.{take_more, take_end}
use Rattle.const_flow.proofs.sound.Related.{RefsOk, StmtRefsOk, exec_holds}
use Rattle.const_flow.proofs.sound.Lent.{refs_ok}
use Rattle.jump_threading.specs.Threaded.{taken}
use Rattle.jump_threading.proofs.Blocks.{Redirected}
use Rattle.mir_relate.proofs.EachLocal as frames
use Rattle.mir_relate.proofs.EachLocal.{Runs, holds_linked}
use Rattle.mir_relate.proofs.Moment as moment
use Rattle.mir_relate.proofs.Moment.{Moment}
use Rattle.jump_threading.proofs.refines.Where.{Threads, InCopy, At, Known, KnownAt, words, lasting}
use Rattle.jump_threading.proofs.refines.Ends.{same_end, redirects, copy_goes}

module _ {X : Change} {xs : List Reached} {V : Valids X} {Inv : State → Type 0} (now : Moment X (words X xs) V Inv) (threads : Threads X xs) (no_drops : NoDrops X.body1) where
  open now use {lasts, n, s2, s1, r, runs}

  abbrev D : List Shape
  D = X.source.shapes

  abbrev P : Pass
  P = frames.pass X (words X xs)

  abbrev j : Renaming
  j = now.r.core.lent

  abbrev G : TypeMap
  G = now.r.typed1.types

  abbrev f1 : ℕ
  f1 = now.s1.top.frame

  abbrev f2 : ℕ
  f2 = now.s2.top.frame

  abbrev ts : List Tree
  ts = X.body1.locals

  abbrev K : Renaming
  K = moment.K now

  abbrev S : Sides
  S = moment.S now

  abbrev T : Here
  T = text X.source.shapes X.body1

  -- ---- a statement does the same on both sides

  abbrev Text : TypedStmt → Type 0
  Text = itself.StmtOk D ts ts f1 f2 j K (moment.low now) G (moment.bok now) (moment.lok now) (λ x. refl)

  abbrev Own : ℕ → Type 0
  Own = itself.A D ts ts f1 f2 j K (moment.low now) G (moment.bok now) (moment.lok now) (λ x. refl)

  abbrev Lends : TypedRvalue → Type 0
  Lends = itself.Lends D ts ts f1 f2 j K (moment.low now) G (moment.bok now) (moment.lok now) (λ x. refl)

  lends_place : (p : Place) → (has_deref p.proj ≡ false → (words X xs).lent p.local ≡ true) → (has_deref p.proj ≡ true) ⊎ (j f1 p.local ≡ Some (f2, p.local))
  lends_place p h = go (has_deref p.proj) refl
    where
      go : (b : Bool) → has_deref p.proj ≡ b → (has_deref p.proj ≡ true) ⊎ (j f1 p.local ≡ Some (f2, p.local))
      go true e = inl e
      go false e = inr (moment.lent_at now p.local (h e))

  lends : (x : TypedRvalue) → RefsOk D X.body1 x → Lends x
  lends (rvalue.ref p) h = lends_place p h
  lends (rvalue.ref_mut p) h = lends_place p h
  lends («use» o) h = tt
  lends (binary op a c) h = tt
  lends (overflow op a c) h = tt
  lends (unary op a) h = tt
  lends (cast a t) h = tt
  lends (discriminant v) h = tt
  lends (tuple os) h = tt
  lends (build d i os) h = tt

  text_ok : (s : TypedStmt) → StmtRefsOk D X.body1 s → Text s
  text_ok (assign p x) h = (moment.itself now p.local, all_rvalue Own (moment.itself now) x, lends x h)
  text_ok (storage_live x) h = moment.itself now x
  text_ok (storage_dead x) h = moment.itself now x
  text_ok (set_discriminant p i) h = moment.itself now p.local

  stmt_execs : (s : TypedStmt) (m1' : Memory) → StmtMoves S.source s → StmtRefsOk D X.body1 s → StmtTy D G (moment.bok now) ts f1 (moment.lok now) s → exec S.source s1.memory s ≡ Some m1' → GotMemory (moment.Q now) m1' (exec S.target s2.memory s)
  stmt_execs s m1' mo ok ty e = kept.exec_as D ts ts f1 f2 j K (moment.low now) G (moment.bok now) (moment.lok now) (moment.Q now) (moment.keeps now) s s (itself.stmt_self D ts ts f1 f2 j K (moment.low now) G (moment.bok now) (moment.lok now) (λ x. refl) (moment.Q now) (moment.keeps now) s (text_ok s ok) mo ty) s2.memory s1.memory m1' (λ u. moment.payloads now) (moment.start now) e

  -- ---- steps

  module _ (k : TypedBlock) (ek : slice_get X.body1.blocks s1.top.block ≡ Some k) where
    -- what the target does at the end of the block: the same, or it goes to a copy, or it is in one and goes on
    record Jumps (t : Term) : Type 0 where
      pub to : ℕ
      pub facts : Facts
      pub goes : Goto to ≡ t
      pub is_taken : taken (after_all T k.stmts facts) k.term ≡ Some to
      pub known : KnownAt X xs s1.top s1.memory k facts

    abbrev Ends : Term → Type 0
    Ends t = (k.term ≡ t) ⊎ (((edge : Redirected D xs X.body1 X.body2 s1.top.block k) × (Goto edge.copy ≡ t)) ⊎ Jumps t)

    -- the block in which the target stands has the same statements
    record Other : Type 0 where
      pub term : Term
      pub is_other : slice_get X.body2.blocks s2.top.block ≡ Some (record { stmts = k.stmts; term = term })
      pub ends : Ends term

    other : Other
    other = go runs.says.place
      where
        here : s2.top.block ≡ s1.top.block → (slice_get X.body2.blocks s1.top.block ≡ Some k) ⊎ Redirected D xs X.body1 X.body2 s1.top.block k → Other
        here same (inl e) = record { term = k.term; is_other = ap (slice_get X.body2.blocks) same ∙ e; ends = inl refl }
        here same (inr edge) = record { term = Goto edge.copy; is_other = ap (slice_get X.body2.blocks) same ∙ edge.redirected; ends = inr (inl (edge, refl)) }

        go : (s2.top.block ≡ s1.top.block) ⊎ InCopy X xs s2.top s1.top s1.memory → Other
        go (inl same) = here same (threads.blocks s1.top.block k ek)
        go (inr c) =
            let same : c.through ≡ k = some_val (sym c.is_through ∙ ek) in
            record {
              term = Goto c.to;
              is_other = c.is_copy ∙ ap (λ (k : TypedBlock). Some (let b : TypedBlock = record { stmts = k.stmts; term = Goto c.to } in b)) same;
              ends = inr (inr (record { to = c.to; facts = c.facts; goes = refl; is_taken = subst (λ (k : TypedBlock). taken (after_all T k.stmts c.facts) k.term ≡ Some c.to) same c.is_taken; known = subst (λ (k : TypedBlock). KnownAt X xs s1.top s1.memory k c.facts) same c.known }));
            }

    target_is : step (target X) s2 ≡ perform (target X) S.target s2 other.term (slice_get k.stmts s1.top.at)
    target_is = step_is (target X) s2 X.body2 (record { stmts = k.stmts; term = other.term }) (moment.eb2 now) other.is_other ∙ ap₂ (λ (ls : List Tree) (a : ℕ). perform (target X) (record { shapes = D; locals = ls; frame = f2 }) s2 other.term (slice_get k.stmts a)) lasts.same_locals runs.says.at

    -- what is known after a statement
    known_after : (s : TypedStmt) (m1' : Memory) (fs : Facts) → slice_get k.stmts s1.top.at ≡ Some s → exec S.source s1.memory s ≡ Some m1' → KnownAt X xs s1.top s1.memory k fs → KnownAt X xs (next_stmt s1.top) m1' k fs
    known_after s m1' fs at e h =
        let ok = refs_ok D X.body1 s1.top.block s1.top.at k s ek at in
        subst (Known X xs f1 m1') (sym (take_more T k.stmts s1.top.at s fs at)) (exec_holds D X.body1 f1 f2 j K (moment.low now) (moment.itself now) (moment.unlent_at now) (moment.lent_at now) s2.memory s1.memory (moment.start now).linked.mem (after_all T (take s1.top.at k.stmts) fs) h s m1' ok e)

    says_after : (s : TypedStmt) (m1' : Memory) → slice_get k.stmts s1.top.at ≡ Some s → exec S.source s1.memory s ≡ Some m1' → At X xs (next_stmt s2.top) (next_stmt s1.top) m1'
    says_after s m1' at e = record {
      at = ap suc runs.says.at;
      point = record {
        facts = runs.says.point.facts;
        reached = runs.says.point.reached;
        known = λ k' e'. subst (λ k. KnownAt X xs (next_stmt s1.top) m1' k runs.says.point.facts) (some_val (sym ek ∙ e')) (known_after s m1' runs.says.point.facts at e (runs.says.point.known k ek));
      };
      place = go runs.says.place;
    }
      where
        go : (s2.top.block ≡ s1.top.block) ⊎ InCopy X xs s2.top s1.top s1.memory → (s2.top.block ≡ s1.top.block) ⊎ InCopy X xs (next_stmt s2.top) (next_stmt s1.top) m1'
        go (inl same) = inl same
        go (inr c) =
            let same : k ≡ c.through = some_val (sym ek ∙ c.is_through) in
            inr (record {
              through = c.through;
              is_through = c.is_through;
              to = c.to;
              is_copy = c.is_copy;
              facts = c.facts;
              is_taken = c.is_taken;
              known = subst (λ k. KnownAt X xs (next_stmt s1.top) m1' k c.facts) same (known_after s m1' c.facts at e (subst (λ k. KnownAt X xs s1.top s1.memory k c.facts) (sym same) c.known));
            })

    stmt_step : (s : TypedStmt) (x : Next) → slice_get k.stmts s1.top.at ≡ Some s → StmtMoves S.source s → StmtTy D G (moment.bok now) ts f1 (moment.lok now) s → perform X.source S.source s1 k.term (Some s) ≡ Some x → GentleTo X G f1 s1.memory x → Answers X P n s2 x
    unfolding perform
    stmt_step s x at mo ty e ge =
        let (m1', e1, q) = bind_some e in
        let (m2', g1, q2) = stmt_execs s m1' mo (refs_ok D X.body1 s1.top.block s1.top.at k s ek at) ty e1 in
        let run : Runs X (words X xs) j (next_stmt s2.top) (next_stmt s1.top) m2' m1' = record {
          stand = moment.moved now (next_stmt s2.top) (next_stmt s1.top) refl refl refl refl runs.stand.calm;
          locals = holds_linked j f2 f1 (moment.pl now) m2' m1' q2.linked;
          says = says_after s m1' at e1;
        } in
        subst (Answers X P n s2) (some_val q) (1, 0, record s2 { memory = m2'; top = next_stmt s2.top }, ap (keep_on (λ s. Some s)) (target_is ∙ ap (perform (target X) S.target s2 other.term) at ∙ some_bind _ g1 refl), own.own_core X P V Inv (frames.frames X (words X xs) lasts V Inv) n s2 s1 r [] s1.callers refl (omega arith) now.below 0 m2' m1' (next_stmt s2.top) (next_stmt s1.top) refl refl refl refl (moment.left now m2' m1' q2) (gentle_on X G f1 s1.memory (record s1 { memory = m1'; top = next_stmt s1.top }) x ge q (omega arith)) (refl, run), inl (omega arith))

    end_goes : (x : Next) (none : slice_get k.stmts s1.top.at ≡ None) → finish X.source S.source s1 k.term ≡ Some x → Flat x → GentleTo X G f1 s1.memory x → Goes X P (finish (target X) S.target s2 other.term) x
    end_goes x none e fl ge = go other.term other.ends
      where
        eb : slice_get X.source.bodies s1.top.function ≡ Some X.body1
        eb = moment.eb now

        go : (t : Term) → Ends t → Goes X P (finish (target X) S.target s2 t) x
        go t (inl same) =
            let g = s1.top.function in
            subst (λ t. Goes X P (finish (target X) S.target s2 t) x) same (same_end now threads k ek none x (no_drops.none s1.top.block k ek) (V.terms f1 g X.body1 s1.top.block k eb ek) (V.valid1.terms f1 g X.body1 s1.top.block k eb ek) (V.calls g X.body1 s1.top.block k eb ek) e fl ge)
        go t (inr (inl (edge, same))) = subst (λ t. Goes X P (finish (target X) S.target s2 t) x) same (redirects now threads k ek none edge x (ap (finish X.source S.source s1) (sym edge.goes) ∙ e) fl ge)
        go t (inr (inr c)) =
            let all = take_end k.stmts s1.top.at none in
            subst (λ t. Goes X P (finish (target X) S.target s2 t) x) c.goes (copy_goes now threads k ek none (after_all T k.stmts c.facts) c.to x c.is_taken (subst (λ ss. Known X xs f1 s1.memory (after_all T ss c.facts)) all c.known) (V.terms f1 s1.top.function X.body1 s1.top.block k eb ek) e ge)

    end_step : (x : Next) → slice_get k.stmts s1.top.at ≡ None → perform X.source S.source s1 k.term None ≡ Some x → Flat x → GentleTo X G f1 s1.memory x → Answers X P n s2 x
    unfolding perform
    end_step x none e fl ge = goes_answer X P n s2 x (goes_by X P _ _ x (target_is ∙ ap (perform (target X) S.target s2 other.term) none) (end_goes x none e fl ge))

  pub one_step : StepsAnswered X P n s2 s1 G
  one_step x e fl ge =
      let (bo, k, ebo, ek, q) = step_parts X.source s1 x e in
      let sb : bo ≡ X.body1 = some_val (sym ebo ∙ moment.eb now) in
      go k (ap (λ (b : TypedBody). slice_get b.blocks s1.top.block) (sym sb) ∙ ek) (slice_get k.stmts s1.top.at) refl (subst (λ (b : TypedBody). perform X.source (record { shapes = D; locals = b.locals; frame = f1 }) s1 k.term (slice_get k.stmts s1.top.at) ≡ Some x) sb q)
    where
      go : (k : TypedBlock) (ek : slice_get X.body1.blocks s1.top.block ≡ Some k) (o : Option TypedStmt) → slice_get k.stmts s1.top.at ≡ o → perform X.source S.source s1 k.term o ≡ Some x → Answers X P n s2 x
      go k ek None at q = end_step k ek x at q fl ge
      go k ek (Some s) at q = stmt_step k ek s x at (V.stmts f1 s1.top.function X.body1 s1.top.block k s1.top.at s (moment.eb now) ek at) (V.valid1.stmts G f1 s1.top.function X.body1 s1.top.block k s1.top.at s (moment.eb now) ek at (moment.lok now)) q ge

module _ (X : Change) (xs : List Reached) (threads : Threads X xs) (no_drops : NoDrops X.body1) (V : Valids X) (Inv : State → Type 0) where
  abbrev pub pass : Pass
  pass = frames.pass X (words X xs)

  pub laws : KeepsRuns X Inv → Laws X pass V Inv
  laws = own_laws X pass V Inv (frames.frames X (words X xs) (lasting X xs threads) V Inv) (λ n j c2 c1 gs m2 m1 o. o.0) (λ n s2 s1 r o be. one_step {X = X} {xs = xs} {V = V} {Inv = Inv} (record { lasts = lasting X xs threads; n = n; s2 = s2; s1 = s1; r = r; runs = o.1; below = be }) threads no_drops)
