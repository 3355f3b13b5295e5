-- The ids that a body or a program holds lie in a table: each of them stands for a type.
use Rattle.std.specs.Prelude.{ℕ, Bool, true, nat_lt, ◌&&◌, IsTrue, List, length}
use Rattle.std.specs.List.{list_all}
use Rattle.mir_syntax.specs.declared.types.Ty.{Ty}
use Rattle.mir_syntax.specs.declared.types.Field.{Field}
use Rattle.mir_syntax.specs.declared.types.Variant.{Variant}
use Rattle.mir_syntax.specs.declared.types.Def.{Def}
use Rattle.mir_syntax.specs.declared.types.Outside.{Outside}
use Rattle.mir_syntax.specs.declared.body.Rvalue.{Rvalue}
use Rattle.mir_syntax.specs.declared.body.Rvalue.TheVariants as rvalue
use Rattle.mir_syntax.specs.declared.body.Stmt.{Stmt}
use Rattle.mir_syntax.specs.declared.body.Stmt.TheVariants as stmt
use Rattle.mir_syntax.specs.declared.body.Block.{Block}
use Rattle.mir_syntax.specs.declared.body.Body.{Body}
use Rattle.mir_syntax.specs.declared.body.Function.{Function}
use Rattle.mir_syntax.specs.declared.program.Program.{Program}
use Rattle.mir_syntax.specs.Table.{all_below}

abbrev pub rvalue_below : ℕ → Rvalue → Bool
rvalue_below n (rvalue.Cast a ty) = nat_lt ty.0 n
rvalue_below n (rvalue.Use a) = true
rvalue_below n (rvalue.Binary op a b) = true
rvalue_below n (rvalue.Overflow op a b) = true
rvalue_below n (rvalue.Unary op a) = true
rvalue_below n (rvalue.Ref p) = true
rvalue_below n (rvalue.RefMut p) = true
rvalue_below n (rvalue.Discriminant p) = true
rvalue_below n (rvalue.Tuple parts) = true
rvalue_below n (rvalue.Build d v parts) = true

abbrev pub stmt_below : ℕ → Stmt → Bool
stmt_below n (stmt.Assign p r) = rvalue_below n r
stmt_below n (stmt.StorageLive x) = true
stmt_below n (stmt.StorageDead x) = true
stmt_below n (stmt.SetDiscriminant p k) = true

abbrev pub block_below : ℕ → Block → Bool
block_below n b = list_all (stmt_below n) b.stmts

abbrev pub body_below : ℕ → Body → Bool
body_below n b = all_below n b.locals && list_all (block_below n) b.blocks

abbrev pub function_below : ℕ → Function → Bool
function_below n f = body_below n f.body

abbrev pub field_below : ℕ → Field → Bool
field_below n f = nat_lt f.ty.0 n

abbrev pub variant_below : ℕ → Variant → Bool
variant_below n v = list_all (field_below n) v.fields

abbrev pub def_below : ℕ → Def → Bool
def_below n d = list_all (variant_below n) d.variants

abbrev pub outside_below : ℕ → Outside → Bool
outside_below n o = all_below n o.args && nat_lt o.result.0 n

-- the ids of a body lie in the table
abbrev pub BodyInTable : List Ty → Body → Type 0
BodyInTable types b = IsTrue (body_below (length types) b)

-- the ids of a program lie in its table
pub record IdsInTable (p : Program) : Type 0 where
  pub defs : IsTrue (list_all (def_below (length p.types)) p.defs)
  pub outsides : IsTrue (list_all (outside_below (length p.types)) p.outsides)
  pub functions : IsTrue (list_all (function_below (length p.types)) p.functions)
