-- Each step of the source is followed by steps of the target.
use Rattle.std.proofs.Common.{◌≡◌, ◌⊎◌, inl, inr, refl, sym, ap, ◌∙◌, subst, ℕ, ◌+◌, List, ◌∷◌, Option, Some, None, slice_get, arith}
use Rattle.mir_syntax.specs.Tree.{Tree}
use Rattle.mir_syntax.specs.Crate.{TypedStmt, TypedBlock, TypedBody}
use Rattle.mir_semantics.specs.Step.{Control, State, Next, perform, step}
use Rattle.mir_syntax.proofs.Binds.{bind_some}
use Rattle.mir_renaming.proofs.Typed.{Typed}
use Rattle.mir_renaming.proofs.Ghosts.{Flat}
use Rattle.mir_relate.proofs.Leaves.{some_val}
use Rattle.inline_pass.proofs.refines.Setting.{Setting, words, Moment, seen, is_h, IsSite, own_block, Answer}
use Rattle.inline_pass.proofs.refines.OwnSteps.{own_stmt, own_term}
use Rattle.inline_pass.proofs.refines.InnerSteps.{inner_stmt, inner_term}

module _ (S : Setting) where
  open S use {C, valid, bodies2, f, fn, hn, fn_at, g, hn_at, apart, i, k, is_k, p, os, next, term_is, is2, others, valid2, calm, few, tp, p_ty}
  open words S use {X, C1, C2, D, b1, h, bt, B, L, Rel, Stack, Own, Inner}

  module _ (now : Moment S) where
    open now use {s2, s1, r, ty, below}
    open seen S now use {F, J, a0, On}

    -- ---- a step

    own_step : (own : Own F s2.memory s1.memory s2.top s1.top) → Stack F s2.memory s1.memory a0 s2.callers s1.callers → (x : Next) → step C1 s1 ≡ Some x → Flat x → Answer S s2 x
    unfolding step perform
    own_step own more x e fl =
        let (bs, e1, k1) = bind_some e in
        let (n, e2, k2) = bind_some k1 in
        let same : own.body ≡ bs = some_val (sym own.is_body ∙ e1) in
        let at_n : slice_get own.body.blocks s1.top.block ≡ Some n = ap (λ (b : TypedBody). slice_get b.blocks s1.top.block) same ∙ e2 in
        let k3 = subst (λ (b : TypedBody). perform C1 (record { shapes = D; locals = b.locals; frame = s1.top.frame }) s1 n.term (slice_get n.stmts s1.top.at) ≡ Some x) (sym same) k2 in
        let (b, n2, is_b, at_n2, types, same_stmts, kind) = own_block S s1.top.function own.body s1.top.block n own.is_body at_n in
        go n n2 b at_n is_b at_n2 types same_stmts kind (slice_get n.stmts s1.top.at) refl k3
      where
        go : (n n2 : TypedBlock) (b : TypedBody) → slice_get own.body.blocks s1.top.block ≡ Some n → slice_get bodies2 s1.top.function ≡ Some b → slice_get b.blocks s1.top.block ≡ Some n2 → ((x : ℕ) (t : Tree) → slice_get own.body.locals x ≡ Some t → slice_get b.locals (0 + x) ≡ Some t) → ((a : ℕ) (st : TypedStmt) → slice_get n.stmts a ≡ Some st → slice_get n2.stmts a ≡ Some st) → IsSite S s1.top.function s1.top.block n ⊎ (n2 ≡ n) → (o : Option TypedStmt) → slice_get n.stmts s1.top.at ≡ o → perform C1 (record { shapes = D; locals = own.body.locals; frame = s1.top.frame }) s1 n.term o ≡ Some x → Answer S s2 x
        go n n2 b at_n is_b at_n2 types same_stmts kind None past e = own_term S now own more n n2 b at_n is_b at_n2 types same_stmts kind x past e fl
        go n n2 b at_n is_b at_n2 types same_stmts kind (Some st) at e = own_stmt S now own more n n2 b at_n is_b at_n2 types same_stmts kind st x at e

    inner_step : (c0 : Control) (ds : List Control) → s1.callers ≡ c0 ∷ ds → (inner : Inner F s2.memory s1.memory s2.top s1.top c0) → Stack F s2.memory s1.memory a0 s2.callers ds → (x : Next) → step C1 s1 ≡ Some x → Answer S s2 x
    unfolding step perform
    inner_step c0 ds q inner more x e =
        let (bs, e1, k1) = bind_some e in
        let (n, e2, k2) = bind_some k1 in
        let same : h ≡ bs = some_val (sym (is_h S) ∙ ap (slice_get C1.bodies) (sym inner.function1) ∙ e1) in
        let at_n : slice_get h.blocks s1.top.block ≡ Some n = ap (λ (b : TypedBody). slice_get b.blocks s1.top.block) same ∙ e2 in
        let k3 = subst (λ (b : TypedBody). perform C1 (record { shapes = D; locals = b.locals; frame = s1.top.frame }) s1 n.term (slice_get n.stmts s1.top.at) ≡ Some x) (sym same) k2 in
        go n at_n (slice_get n.stmts s1.top.at) refl k3
      where
        go : (n : TypedBlock) → slice_get h.blocks s1.top.block ≡ Some n → (o : Option TypedStmt) → slice_get n.stmts s1.top.at ≡ o → perform C1 (record { shapes = D; locals = h.locals; frame = s1.top.frame }) s1 n.term o ≡ Some x → Answer S s2 x
        go n at_n None past e = inner_term S now c0 ds q inner more n at_n x past e
        go n at_n (Some st) at e = inner_stmt S now c0 ds q inner more n at_n st x at e

  parts : (c d : Control) (cs ds : List Control) → c ∷ cs ≡ d ∷ ds → (d ≡ c) × (cs ≡ ds)
  parts c d cs ds e = (grind arith, grind arith)

  pub step_rel : (s2 s1 : State) → Rel s2 s1 → Typed C2 valid2 s2 → (x : Next) → step C1 s1 ≡ Some x → Flat x → Answer S s2 x
  step_rel s2 s1 r ty x e fl = go r.stack
    where
      go : Stack r.stands s2.memory s1.memory s2.next (s2.top ∷ s2.callers) (s1.top ∷ s1.callers) → Answer S s2 x
      go (below, inl (c1, ds, q, own, more)) =
          let (q1, q2) = parts s1.top c1 s1.callers ds q in
          own_step (record { s2 = s2; s1 = s1; r = r; ty = ty; below = below }) (subst (Own r.stands s2.memory s1.memory s2.top) q1 own) (subst (Stack r.stands s2.memory s1.memory s2.top.frame s2.callers) (sym q2) more) x e fl
      go (below, inr (c1, c0, ds, q, inner, more)) =
          let (q1, q2) = parts s1.top c1 s1.callers (c0 ∷ ds) q in
          inner_step (record { s2 = s2; s1 = s1; r = r; ty = ty; below = below }) c0 ds q2 (subst (λ c. Inner r.stands s2.memory s1.memory s2.top c c0) q1 inner) more x e
