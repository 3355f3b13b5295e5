-- Liveness by paths is the least family of locals that keeps its equations.
use Rattle.std.proofs.Common.{◌≡◌, inl, inr, refl, sym, ◌∙◌, subst, ℕ, zero, suc, List, Option, Some, None, slice_get, arith}
use Rattle.std.specs.List.{Contains}
use Rattle.mir_syntax.specs.Crate.{TypedStmt, TypedBlock, TypedBody}
use Rattle.mir_syntax.specs.Shapes.{Shape}
use Rattle.mir_syntax.specs.Parts.{targets}
use Rattle.liveness.specs.Live.{stmt_reads, stmt_fills, term_reads, term_fills, LiveIn, LiveBy, Live}

some_one : {x y : TypedBlock} → Some x ≡ Some y → x ≡ y
some_one e = grind arith

module _ (D : List Shape) (b : TypedBody) where
  -- what is read at a statement is live before it
  pub live_stmt : (i n x : ℕ) (k : TypedBlock) (s : TypedStmt) → slice_get b.blocks i ≡ Some k → slice_get k.stmts n ≡ Some s → Contains (stmt_reads s) x → Live D b i n x
  live_stmt i n x k s e1 e2 h = (1, (k, e1, subst (λ o. LiveIn D b.locals k (λ u. LiveBy D b 0 u 0 x) (LiveBy D b 0 i (suc n) x) x o) (sym e2) (inl h)))

  -- what is live after a statement and not filled by it is live before it
  pub live_next : (i n x : ℕ) (k : TypedBlock) (s : TypedStmt) → slice_get b.blocks i ≡ Some k → slice_get k.stmts n ≡ Some s → Live D b i (suc n) x → (Contains (stmt_fills s) x → ⊥) → Live D b i n x
  live_next i n x k s e1 e2 (m, h) q = (suc m, (k, e1, subst (λ o. LiveIn D b.locals k (λ u. LiveBy D b m u 0 x) (LiveBy D b m i (suc n) x) x o) (sym e2) (inr (q, h))))

  pub live_term : (i n x : ℕ) (k : TypedBlock) → slice_get b.blocks i ≡ Some k → slice_get k.stmts n ≡ None → Contains (term_reads D b.locals k.term) x → Live D b i n x
  live_term i n x k e1 e2 h = (1, (k, e1, subst (λ o. LiveIn D b.locals k (λ u. LiveBy D b 0 u 0 x) (LiveBy D b 0 i (suc n) x) x o) (sym e2) (inl h)))

  pub live_edge : (i n x u : ℕ) (k : TypedBlock) → slice_get b.blocks i ≡ Some k → slice_get k.stmts n ≡ None → Contains (targets k.term) u → Live D b u 0 x → (Contains (term_fills k.term) x → ⊥) → Live D b i n x
  live_edge i n x u k e1 e2 l (m, h) q = (suc m, (k, e1, subst (λ o. LiveIn D b.locals k (λ u. LiveBy D b m u 0 x) (LiveBy D b m i (suc n) x) x o) (sym e2) (inr (u, l, q, h))))

  -- what the equations ask at one point of a family of locals
  abbrev pub At : (ℕ → ℕ → ℕ → Type 0) → ℕ → ℕ → ℕ → TypedBlock → Type 0
  At A i n x k = LiveIn D b.locals k (λ u. A u 0 x) (A i (suc n) x) x (slice_get k.stmts n)

  -- what the equations give is live
  pub live_solves : (i n x : ℕ) (k : TypedBlock) → slice_get b.blocks i ≡ Some k → At (Live D b) i n x k → Live D b i n x
  live_solves i n x k e h = go (slice_get k.stmts n) refl h
    where
      go : (o : Option TypedStmt) → slice_get k.stmts n ≡ o → LiveIn D b.locals k (λ u. Live D b u 0 x) (Live D b i (suc n) x) x o → Live D b i n x
      go None q (inl h) = live_term i n x k e q h
      go None q (inr (u, l, f, h)) = live_edge i n x u k e q l h f
      go (Some s) q (inl h) = live_stmt i n x k s e q h
      go (Some s) q (inr (f, h)) = live_next i n x k s e q h f

  -- live is no more than the equations give
  pub live_splits : (i n x : ℕ) (k : TypedBlock) → slice_get b.blocks i ≡ Some k → Live D b i n x → At (Live D b) i n x k
  live_splits i n x k e (zero, h) = absurd h
  live_splits i n x k e (suc m, (k', e', h)) =
      let q : k' ≡ k = some_one (sym e' ∙ e) in
      let there : LiveIn D b.locals k (λ u. LiveBy D b m u 0 x) (LiveBy D b m i (suc n) x) x (slice_get k.stmts n) = subst (λ k. LiveIn D b.locals k (λ u. LiveBy D b m u 0 x) (LiveBy D b m i (suc n) x) x (slice_get k.stmts n)) q h in
      go (slice_get k.stmts n) there
    where
      go : (o : Option TypedStmt) → LiveIn D b.locals k (λ u. LiveBy D b m u 0 x) (LiveBy D b m i (suc n) x) x o → LiveIn D b.locals k (λ u. Live D b u 0 x) (Live D b i (suc n) x) x o
      go None (inl h) = inl h
      go None (inr (u, l, q, h)) = inr (u, l, q, (m, h))
      go (Some s) (inl h) = inl h
      go (Some s) (inr (q, h)) = inr (q, (m, h))

  least_by : (A : ℕ → ℕ → ℕ → Type 0) → ((i n x : ℕ) (k : TypedBlock) → slice_get b.blocks i ≡ Some k → At A i n x k → A i n x) → (m i n x : ℕ) → LiveBy D b m i n x → A i n x
  least_by A closed zero i n x h = absurd h
  least_by A closed (suc m) i n x (k, e, h) = closed i n x k e (go (λ i n h. least_by A closed m i n x h) (slice_get k.stmts n) h)
    where
      go : ((i n : ℕ) → LiveBy D b m i n x → A i n x) → (o : Option TypedStmt) → LiveIn D b.locals k (λ u. LiveBy D b m u 0 x) (LiveBy D b m i (suc n) x) x o → LiveIn D b.locals k (λ u. A u 0 x) (A i (suc n) x) x o
      go ih None (inl h) = inl h
      go ih None (inr (u, l, q, h)) = inr (u, l, q, ih u 0 h)
      go ih (Some s) (inl h) = inl h
      go ih (Some s) (inr (q, h)) = inr (q, ih i (suc n) h)

  -- a family that is closed under the equations has all that is live
  pub live_least : (A : ℕ → ℕ → ℕ → Type 0) → ((i n x : ℕ) (k : TypedBlock) → slice_get b.blocks i ≡ Some k → At A i n x k → A i n x) → (i n x : ℕ) → Live D b i n x → A i n x
  live_least A closed i n x (m, h) = least_by A closed m i n x h
