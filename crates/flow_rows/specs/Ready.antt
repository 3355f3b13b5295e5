-- Whether the ids, edges and written locals of a body are there, as a test.
use Rattle.std.specs.Prelude.{ℕ, Bool, ◌&&◌, List, length, nat_lt}
use Rattle.std.specs.List.{list_all}
use Rattle.mir_syntax.specs.declared.types.TyId.{TyId}
use Rattle.mir_syntax.specs.declared.body.Arm.{Arm}
use Rattle.mir_syntax.specs.declared.body.Stmt.{Stmt}
use Rattle.mir_syntax.specs.declared.body.Term.{Term}
use Rattle.mir_syntax.specs.declared.body.Block.{Block}
use Rattle.mir_syntax.specs.declared.body.Body.{Body}
use Rattle.mir_syntax.specs.Ids.{stmt_below}
use Rattle.mir_syntax.specs.Parts.{targets}
use Rattle.dead_store.specs.Rounds.{set_locals}

-- each is below a number
abbrev pub are_below : ℕ → List ℕ → Bool
are_below n xs = list_all (λ x. nat_lt x n) xs

abbrev pub arm_fits : ℕ → Arm → Bool
arm_fits n arm = nat_lt arm.block n

abbrev pub id_fits : ℕ → TyId → Bool
id_fits n id = nat_lt id.0 n

-- the ids of a statement are below a number, and the locals that it writes below another
abbrev pub stmt_fits : ℕ → ℕ → Stmt → Bool
stmt_fits types locals s = stmt_below types s && are_below locals (set_locals s)

abbrev pub block_fits : ℕ → ℕ → ℕ → Block → Bool
block_fits types locals blocks k = list_all (stmt_fits types locals) k.stmts && are_below blocks (targets k.term)

abbrev pub body_fits : ℕ → Body → Bool
body_fits types b = list_all (id_fits types) b.locals && list_all (block_fits types (length b.locals) (length b.blocks)) b.blocks
