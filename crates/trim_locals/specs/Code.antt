-- The same of bodies with ids.
use Rattle.std.specs.Prelude.{ℕ, Bool, true, false, List, [], ◌∷◌, ◌++◌, map, get_or}
use Rattle.std.specs.List.{filter, flat_map}
use Rattle.mir_syntax.specs.declared.body.Rvalue.{Rvalue}
use Rattle.mir_syntax.specs.declared.body.Rvalue.TheVariants as rvalue
use Rattle.mir_syntax.specs.declared.body.Stmt.{Stmt}
use Rattle.mir_syntax.specs.declared.body.Stmt.TheVariants as stmt
use Rattle.mir_syntax.specs.declared.body.Term.{Term}
use Rattle.mir_syntax.specs.declared.body.Term.TheVariants as term
use Rattle.mir_syntax.specs.declared.body.Block.{Block}
use Rattle.liveness.specs.Live.{operand_locals}
use Rattle.liveness.specs.Rows.{bare_rvalue_reads}
use Rattle.trim_locals.specs.Trimmed.{number_in, renamed_place, renamed_operand, renamed_term}

abbrev pub bare_stmt_uses : Stmt → List ℕ
bare_stmt_uses (stmt.Assign p r) = bare_rvalue_reads r ++ p.local ∷ []
bare_stmt_uses (stmt.StorageLive x) = []
bare_stmt_uses (stmt.StorageDead x) = []
bare_stmt_uses (stmt.SetDiscriminant p k) = p.local ∷ []

abbrev pub bare_term_uses : Term → List ℕ
bare_term_uses (term.Goto next) = []
bare_term_uses (term.Switch a arms other) = operand_locals a
bare_term_uses term.Return = []
bare_term_uses term.Unreachable = []
bare_term_uses (term.Drop p next) = p.local ∷ []
bare_term_uses (term.Call p callee args next) = p.local ∷ flat_map operand_locals args
bare_term_uses (term.Assert a expected text args next) = operand_locals a ++ flat_map operand_locals args

abbrev pub bare_block_uses : Block → List ℕ
bare_block_uses k = flat_map bare_stmt_uses k.stmts ++ bare_term_uses k.term

abbrev pub bare_renamed_rvalue : (ℕ → ℕ) → Rvalue → Rvalue
bare_renamed_rvalue f (rvalue.Use a) = rvalue.Use (renamed_operand f a)
bare_renamed_rvalue f (rvalue.Binary op a b) = rvalue.Binary op (renamed_operand f a) (renamed_operand f b)
bare_renamed_rvalue f (rvalue.Overflow op a b) = rvalue.Overflow op (renamed_operand f a) (renamed_operand f b)
bare_renamed_rvalue f (rvalue.Unary op a) = rvalue.Unary op (renamed_operand f a)
bare_renamed_rvalue f (rvalue.Cast a ty) = rvalue.Cast (renamed_operand f a) ty
bare_renamed_rvalue f (rvalue.Ref p) = rvalue.Ref (renamed_place f p)
bare_renamed_rvalue f (rvalue.RefMut p) = rvalue.RefMut (renamed_place f p)
bare_renamed_rvalue f (rvalue.Discriminant p) = rvalue.Discriminant (renamed_place f p)
bare_renamed_rvalue f (rvalue.Tuple parts) = rvalue.Tuple (map (renamed_operand f) parts)
bare_renamed_rvalue f (rvalue.Build d v parts) = rvalue.Build d v (map (renamed_operand f) parts)

abbrev pub bare_renamed_stmt : (ℕ → ℕ) → Stmt → Stmt
bare_renamed_stmt f (stmt.Assign p r) = stmt.Assign (renamed_place f p) (bare_renamed_rvalue f r)
bare_renamed_stmt f (stmt.StorageLive x) = stmt.StorageLive (f x)
bare_renamed_stmt f (stmt.StorageDead x) = stmt.StorageDead (f x)
bare_renamed_stmt f (stmt.SetDiscriminant p k) = stmt.SetDiscriminant (renamed_place f p) k

abbrev pub bare_stays : List Bool → Stmt → Bool
bare_stays marks (stmt.Assign p r) = true
bare_stays marks (stmt.StorageLive x) = get_or marks x false
bare_stays marks (stmt.StorageDead x) = get_or marks x false
bare_stays marks (stmt.SetDiscriminant p k) = true

abbrev pub bare_trimmed_stmts : List Bool → List ℕ → List Stmt → List Stmt
bare_trimmed_stmts marks numbers ss = map (bare_renamed_stmt (number_in numbers)) (filter (bare_stays marks) ss)

abbrev pub bare_trimmed_block : List Bool → List ℕ → Block → Block
bare_trimmed_block marks numbers k = record { stmts = bare_trimmed_stmts marks numbers k.stmts; term = renamed_term (number_in numbers) k.term }
