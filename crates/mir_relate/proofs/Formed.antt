-- A body with other blocks: its statements are formed as before, and so is the body where its blocks are.
use Rattle.std.proofs.Common.{◌≡◌, ap, ℕ, true, Some, slice_get}
use Rattle.mir_syntax.specs.Crate.{TypedStmt, assign, storage_live, storage_dead, set_discriminant, TypedBlock, TypedBody, Crate}
use Rattle.mir_rules.specs.Formed.{stmt_formed, block_formed}

-- a statement is formed by the locals alone
pub same_locals_stmt : (C : Crate) (b b2 : TypedBody) → b2.locals ≡ b.locals → (s : TypedStmt) → stmt_formed C b2 s ≡ stmt_formed C b s
unfolding stmt_formed
same_locals_stmt C b b2 e (assign p x) = ap (λ ts. stmt_formed C (record b { locals = ts }) (assign p x)) e
same_locals_stmt C b b2 e (storage_live x) = ap (λ ts. stmt_formed C (record b { locals = ts }) (storage_live x)) e
same_locals_stmt C b b2 e (storage_dead x) = ap (λ ts. stmt_formed C (record b { locals = ts }) (storage_dead x)) e
same_locals_stmt C b b2 e (set_discriminant p k) = ap (λ ts. stmt_formed C (record b { locals = ts }) (set_discriminant p k)) e

-- each block of a body is formed
abbrev pub BlocksFormed : Crate → TypedBody → Type 0
BlocksFormed C b = (i : ℕ) (k : TypedBlock) → slice_get b.blocks i ≡ Some k → block_formed C b k ≡ true
