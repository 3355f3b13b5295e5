-- A program as it is seen: each id replaced by the type that it stands for.
use Rattle.std.specs.Prelude.{ℕ, Bool, List, map}
use Rattle.mir_syntax.specs.declared.types.Form.{Form}
use Rattle.mir_syntax.specs.declared.types.Field.{Field}
use Rattle.mir_syntax.specs.declared.types.Variant.{Variant}
use Rattle.mir_syntax.specs.declared.types.Def.{Def}
use Rattle.mir_syntax.specs.declared.types.Outside.{Outside}
use Rattle.mir_syntax.specs.declared.body.BinOp.{BinOp}
use Rattle.mir_syntax.specs.declared.body.OverOp.{OverOp}
use Rattle.mir_syntax.specs.declared.body.UnOp.{UnOp}
use Rattle.mir_syntax.specs.declared.body.Inline.{Inline}
use Rattle.mir_syntax.specs.declared.body.Place.{Place}
use Rattle.mir_syntax.specs.declared.body.Operand.{Operand}
use Rattle.mir_syntax.specs.declared.body.Rvalue.{Rvalue}
use Rattle.mir_syntax.specs.declared.body.Rvalue.TheVariants as rvalue
use Rattle.mir_syntax.specs.declared.body.Stmt.{Stmt}
use Rattle.mir_syntax.specs.declared.body.Stmt.TheVariants as stmt
use Rattle.mir_syntax.specs.declared.body.Term.{Term}
use Rattle.mir_syntax.specs.declared.body.Block.{Block}
use Rattle.mir_syntax.specs.declared.body.Body.{Body}
use Rattle.mir_syntax.specs.declared.body.Function.{Function}
use Rattle.mir_syntax.specs.declared.program.Program.{Program}
use Rattle.mir_syntax.specs.Tree.{Tree, at_id, trees_of}

pub record TypedField : Type 0 where
  pub name : List ℕ
  pub ty : Tree

pub record TypedVariant : Type 0 where
  pub name : List ℕ
  pub form : Form
  pub fields : List TypedField

pub record TypedDef : Type 0 where
  pub path : List ℕ
  pub is_enum : Bool
  pub variants : List TypedVariant

pub record TypedOutside : Type 0 where
  pub path : List ℕ
  pub args : List Tree
  pub result : Tree

pub data TypedRvalue : Type 0 where
  «use» : Operand → TypedRvalue
  binary : BinOp → Operand → Operand → TypedRvalue
  overflow : OverOp → Operand → Operand → TypedRvalue
  unary : UnOp → Operand → TypedRvalue
  cast : Operand → Tree → TypedRvalue
  ref : Place → TypedRvalue
  ref_mut : Place → TypedRvalue
  discriminant : Place → TypedRvalue
  tuple : List Operand → TypedRvalue
  build : ℕ → ℕ → List Operand → TypedRvalue

pub data TypedStmt : Type 0 where
  assign : Place → TypedRvalue → TypedStmt
  storage_live : ℕ → TypedStmt
  storage_dead : ℕ → TypedStmt
  set_discriminant : Place → ℕ → TypedStmt

pub record TypedBlock : Type 0 where
  pub stmts : List TypedStmt
  pub term : Term

pub record TypedBody : Type 0 where
  pub args : ℕ
  pub locals : List Tree
  pub blocks : List TypedBlock

pub record TypedFunction : Type 0 where
  pub path : List ℕ
  pub inlining : Inline
  pub is_drop : Bool
  pub body : TypedBody

pub record Crate : Type 0 where
  pub defs : List TypedDef
  pub outsides : List TypedOutside
  pub functions : List TypedFunction

abbrev pub field_of : List Tree → Field → TypedField
field_of trees f = record { name = f.name; ty = at_id trees f.ty }

abbrev pub variant_of : List Tree → Variant → TypedVariant
variant_of trees v = record { name = v.name; form = v.form; fields = map (field_of trees) v.fields }

abbrev pub def_of : List Tree → Def → TypedDef
def_of trees d = record { path = d.path; is_enum = d.is_enum; variants = map (variant_of trees) d.variants }

abbrev pub outside_of : List Tree → Outside → TypedOutside
outside_of trees o = record { path = o.path; args = map (at_id trees) o.args; result = at_id trees o.result }

abbrev pub rvalue_of : List Tree → Rvalue → TypedRvalue
rvalue_of trees (rvalue.Use a) = «use» a
rvalue_of trees (rvalue.Binary op a b) = binary op a b
rvalue_of trees (rvalue.Overflow op a b) = overflow op a b
rvalue_of trees (rvalue.Unary op a) = unary op a
rvalue_of trees (rvalue.Cast a ty) = cast a (at_id trees ty)
rvalue_of trees (rvalue.Ref p) = ref p
rvalue_of trees (rvalue.RefMut p) = ref_mut p
rvalue_of trees (rvalue.Discriminant p) = discriminant p
rvalue_of trees (rvalue.Tuple parts) = tuple parts
rvalue_of trees (rvalue.Build d v parts) = build d v parts

abbrev pub stmt_of : List Tree → Stmt → TypedStmt
stmt_of trees (stmt.Assign p r) = assign p (rvalue_of trees r)
stmt_of trees (stmt.StorageLive x) = storage_live x
stmt_of trees (stmt.StorageDead x) = storage_dead x
stmt_of trees (stmt.SetDiscriminant p k) = set_discriminant p k

abbrev pub block_of : List Tree → Block → TypedBlock
block_of trees b = record { stmts = map (stmt_of trees) b.stmts; term = b.term }

abbrev pub body_of : List Tree → Body → TypedBody
body_of trees b = record { args = b.args; locals = map (at_id trees) b.locals; blocks = map (block_of trees) b.blocks }

abbrev pub function_of : List Tree → Function → TypedFunction
function_of trees f = record { path = f.path; inlining = f.inline; is_drop = f.is_drop; body = body_of trees f.body }

-- what contracts see of a program
abbrev pub crate_of : Program → Crate
crate_of p =
    let trees = trees_of p.types in
    record { defs = map (def_of trees) p.defs; outsides = map (outside_of trees) p.outsides; functions = map (function_of trees) p.functions }
