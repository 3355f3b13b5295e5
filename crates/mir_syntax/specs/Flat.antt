-- A body whose statements stand in one table, with the place where those of each block end.
use Rattle.std.specs.Prelude.{◌≡◌, ℕ, zero, suc, ◌-◌, ◌<◌, ◌≤◌, ◌^◌, List, [], ◌∷◌, length, take, drop, Option, option_map, slice_get, get_or}
use Rattle.mir_syntax.specs.declared.body.Stmt.{Stmt}
use Rattle.mir_syntax.specs.declared.body.Term.{Term}
use Rattle.mir_syntax.specs.declared.body.Block.{Block}

-- the blocks of a table: the first begins at a place of it, each other one where the one before ends
abbrev pub blocks_from : ℕ → List ℕ → List Term → List Stmt → List Block
blocks_from start (end ∷ ends) (t ∷ ts) stmts = record { stmts = take (end - start) (drop start stmts); term = t } ∷ blocks_from end ends ts stmts
blocks_from start _ _ stmts = []

-- the ranges that end there are in order, meet, and go from one place to another
abbrev pub Covers : ℕ → ℕ → List ℕ → Type 0
Covers start last [] = start ≡ last
Covers start last (end ∷ ends) = (start ≤ end) × Covers end last ends

-- the ranges cover the table, and each has a terminator
pub record IsFlat (ends : List ℕ) (terms : List Term) (stmts : List Stmt) : Type 0 where
  pub covers : Covers 0 (length stmts) ends
  pub as_many : length ends ≡ length terms
  pub few : length ends < 2 ^ 32

-- where a block begins
abbrev pub start_of : ℕ → List ℕ → ℕ → ℕ
start_of start ends zero = start
start_of start ends (suc i) = get_or ends i 0

-- the statements of a block, if there is one at the place
abbrev pub stmts_at : List Block → ℕ → Option (List Stmt)
stmts_at blocks i = option_map (λ k. k.stmts) (slice_get blocks i)

-- its terminator
abbrev pub term_at : List Block → ℕ → Option Term
term_at blocks i = option_map (λ k. k.term) (slice_get blocks i)
