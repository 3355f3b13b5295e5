-- A typed body with ids in the place of its types: for each type the first id of the table that stands for it.
use Rattle.std.specs.Prelude.{ℕ, suc, List, [], ◌∷◌, map, if◌then◌else◌}
use Rattle.mir_syntax.specs.declared.types.TyId.{TyId}
use Rattle.mir_syntax.specs.declared.body.Rvalue.{Rvalue}
use Rattle.mir_syntax.specs.declared.body.Rvalue.TheVariants as rvalue
use Rattle.mir_syntax.specs.declared.body.Stmt.{Stmt}
use Rattle.mir_syntax.specs.declared.body.Stmt.TheVariants as stmt
use Rattle.mir_syntax.specs.declared.body.Block.{Block}
use Rattle.mir_syntax.specs.declared.body.Body.{Body}
use Rattle.mir_syntax.specs.Tree.{Tree}
use Rattle.mir_syntax.specs.Crate.{TypedRvalue, «use», binary, overflow, unary, cast, ref, ref_mut, discriminant, tuple, build, TypedStmt, assign, storage_live, storage_dead, set_discriminant, TypedBlock, TypedBody}
use Rattle.mir_rules.specs.Same.{same_tree}

-- the number of the first of these trees that is the type, counted from i
abbrev pub id_from : ℕ → List Tree → Tree → ℕ
id_from i [] t = i
id_from i (u ∷ us) t = if same_tree u t then i else id_from (suc i) us t

-- the first id that stands for the type
abbrev pub id_of_type : List Tree → Tree → TyId
id_of_type trees t = record { 0 = id_from 0 trees t }

abbrev pub rvalue_with_ids : List Tree → TypedRvalue → Rvalue
rvalue_with_ids trees («use» a) = rvalue.Use a
rvalue_with_ids trees (binary op a b) = rvalue.Binary op a b
rvalue_with_ids trees (overflow op a b) = rvalue.Overflow op a b
rvalue_with_ids trees (unary op a) = rvalue.Unary op a
rvalue_with_ids trees (cast a t) = rvalue.Cast a (id_of_type trees t)
rvalue_with_ids trees (ref p) = rvalue.Ref p
rvalue_with_ids trees (ref_mut p) = rvalue.RefMut p
rvalue_with_ids trees (discriminant p) = rvalue.Discriminant p
rvalue_with_ids trees (tuple parts) = rvalue.Tuple parts
rvalue_with_ids trees (build d v parts) = rvalue.Build d v parts

abbrev pub stmt_with_ids : List Tree → TypedStmt → Stmt
stmt_with_ids trees (assign p r) = stmt.Assign p (rvalue_with_ids trees r)
stmt_with_ids trees (storage_live x) = stmt.StorageLive x
stmt_with_ids trees (storage_dead x) = stmt.StorageDead x
stmt_with_ids trees (set_discriminant p k) = stmt.SetDiscriminant p k

abbrev pub block_with_ids : List Tree → TypedBlock → Block
block_with_ids trees k = record { stmts = map (stmt_with_ids trees) k.stmts; term = k.term }

-- the body with ids that is seen as this one, where there is one
abbrev pub body_with_ids : List Tree → TypedBody → Body
body_with_ids trees b = record { args = b.args; locals = map (id_of_type trees) b.locals; blocks = map (block_with_ids trees) b.blocks }
