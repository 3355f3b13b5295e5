-- The references that the statements of a body make are to borrowed locals.
use Rattle.std.proofs.Common.{◌≡◌, inl, inr, ℕ, List, Some, slice_get}
use Rattle.mir_syntax.specs.Crate.{«use», binary, overflow, unary, cast, discriminant, tuple, build, TypedStmt, assign, storage_live, storage_dead, set_discriminant, TypedBlock, TypedBody}
use Rattle.mir_syntax.specs.Crate as rvalue
use Rattle.mir_syntax.specs.Shapes.{Shape}
use Rattle.escape_info.proofs.Lends.{lends}
use Rattle.const_flow.proofs.sound.Related.{StmtRefsOk}

pub refs_ok : (D : List Shape) (b : TypedBody) (i n : ℕ) (k : TypedBlock) (s : TypedStmt) → slice_get b.blocks i ≡ Some k → slice_get k.stmts n ≡ Some s → StmtRefsOk D b s
refs_ok D b i n k (assign p (rvalue.ref q)) e1 e2 = λ h. lends D b i n k p q e1 (inl e2) h
refs_ok D b i n k (assign p (rvalue.ref_mut q)) e1 e2 = λ h. lends D b i n k p q e1 (inr e2) h
refs_ok D b i n k (assign p («use» o)) e1 e2 = tt
refs_ok D b i n k (assign p (binary op c d)) e1 e2 = tt
refs_ok D b i n k (assign p (overflow op c d)) e1 e2 = tt
refs_ok D b i n k (assign p (unary op c)) e1 e2 = tt
refs_ok D b i n k (assign p (cast c t)) e1 e2 = tt
refs_ok D b i n k (assign p (discriminant q)) e1 e2 = tt
refs_ok D b i n k (assign p (tuple os)) e1 e2 = tt
refs_ok D b i n k (assign p (build d v os)) e1 e2 = tt
refs_ok D b i n k (storage_live x) e1 e2 = tt
refs_ok D b i n k (storage_dead x) e1 e2 = tt
refs_ok D b i n k (set_discriminant p v) e1 e2 = tt
