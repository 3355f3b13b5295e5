-- A row of live locals that is carried over one statement.
use Rattle.std.proofs.Common.{◌≡◌, ◌⊎◌, inl, inr, ◌∙◌, subst, ℕ, suc, ◌<◌, Bool, true, false, List, length, get_or, Some, slice_get, arith}
use Rattle.std.specs.List.{Contains}
use Rattle.bit_rows.proofs.Marks.{length-marked}
use Rattle.mir_syntax.specs.Crate.{TypedStmt, TypedBlock, TypedBody}
use Rattle.mir_syntax.specs.Shapes.{Shape}
use Rattle.liveness.specs.Live.{stmt_reads, stmt_fills, LiveIn, Live}
use Rattle.liveness.specs.Rows.{cleared, before_stmt, IsLiveRow}
use Rattle.liveness.specs.Bits.{length-cleared}
use Rattle.liveness.proofs.Paths.{live_stmt, live_next, live_splits}
use Rattle.liveness.proofs.Through.{bit_splits, bit_joins}

module _ (D : List Shape) (b : TypedBody) (i n : ℕ) (k : TypedBlock) (s : TypedStmt) (row : List Bool) (at : slice_get b.blocks i ≡ Some k) (there : slice_get k.stmts n ≡ Some s) (h : IsLiveRow D b i (suc n) row) where
  module _ (x : ℕ) (low : x < length b.locals) where
    in_row : x < length row
    in_row = (let z = h.long in omega (arith, low))

    told : get_or (before_stmt s row) x false ≡ true → Live D b i n x
    told e = go (bit_splits row (stmt_fills s) (stmt_reads s) x in_row e)
      where
        go : Contains (stmt_reads s) x ⊎ ((Contains (stmt_fills s) x → ⊥) × (get_or row x false ≡ true)) → Live D b i n x
        go (inl r) = live_stmt D b i n x k s at there r
        go (inr (q, t)) = live_next D b i n x k s at there ((h.each x low).0 t) q

    tells : Live D b i n x → get_or (before_stmt s row) x false ≡ true
    tells l = go (subst (λ o. LiveIn D b.locals k (λ u. Live D b u 0 x) (Live D b i (suc n) x) x o) there (live_splits D b i n x k at l))
      where
        go : Contains (stmt_reads s) x ⊎ ((Contains (stmt_fills s) x → ⊥) × Live D b i (suc n) x) → get_or (before_stmt s row) x false ≡ true
        go (inl r) = bit_joins row (stmt_fills s) (stmt_reads s) x in_row (inl r)
        go (inr (q, t)) = bit_joins row (stmt_fills s) (stmt_reads s) x in_row (inr (q, (h.each x low).1 t))

  pub carried_back : IsLiveRow D b i n (before_stmt s row)
  carried_back = record { long = length-marked (cleared row (stmt_fills s)) (stmt_reads s) ∙ length-cleared row (stmt_fills s) ∙ h.long; each = λ x l. (told x l, tells x l) }
