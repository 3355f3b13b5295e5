-- What a body costs: 5 for each statement that isn't one of storage, 5 for each terminator, and 25 more for each call.
use Rattle.std.specs.Prelude.{ℕ, ◌+◌, ◌-◌, ◌^◌, min, sum_by}
use Rattle.mir_syntax.specs.declared.body.Term.{Term}
use Rattle.mir_syntax.specs.declared.body.Term.TheVariants as term
use Rattle.mir_syntax.specs.Crate.{TypedStmt, storage_live, storage_dead, TypedBlock, TypedBody}

abbrev pub stmt_cost : TypedStmt → ℕ
stmt_cost (storage_live x) = 0
stmt_cost (storage_dead x) = 0
stmt_cost _ = 5

abbrev pub term_cost : Term → ℕ
term_cost (term.Call p callee args next) = 30
term_cost _ = 5

abbrev pub block_cost : TypedBlock → ℕ
block_cost b = sum_by stmt_cost b.stmts + term_cost b.term

-- at most the greatest number of 64 bits
unfoldable pub cost : TypedBody → ℕ
cost b = min (sum_by block_cost b.blocks) (2 ^ 64 - 1)
