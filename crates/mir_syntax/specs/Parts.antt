-- The operands, places and targets that a statement or terminator writes down, and what holds of each of its places.
use Rattle.std.specs.Prelude.{ℕ, Bool, true, false, ◌&&◌, List, [], ◌∷◌, ◌++◌, map, flat_map}
use Rattle.std.specs.List.{list_all}
use Rattle.mir_syntax.specs.declared.body.Proj.{Proj}
use Rattle.mir_syntax.specs.declared.body.Proj.TheVariants.{Field, Downcast, Deref}
use Rattle.mir_syntax.specs.declared.body.Place.{Place}
use Rattle.mir_syntax.specs.declared.body.Operand.{Operand}
use Rattle.mir_syntax.specs.declared.body.Operand.TheVariants as operand
use Rattle.mir_syntax.specs.declared.body.Rvalue.{Rvalue}
use Rattle.mir_syntax.specs.declared.body.Rvalue.TheVariants as rvalue
use Rattle.mir_syntax.specs.declared.body.Stmt.{Stmt}
use Rattle.mir_syntax.specs.declared.body.Stmt.TheVariants as stmt
use Rattle.mir_syntax.specs.declared.body.Block.{Block}
use Rattle.mir_syntax.specs.declared.body.Arm.{Arm}
use Rattle.mir_syntax.specs.declared.body.Term.{Term}
use Rattle.mir_syntax.specs.declared.body.Term.TheVariants as term
use Rattle.mir_syntax.specs.Crate.{TypedRvalue, «use», binary, overflow, unary, cast, ref, ref_mut, discriminant, tuple, build}

-- ---- paths

-- one of the steps is a dereference
abbrev pub has_deref : List Proj → Bool
has_deref [] = false
has_deref (Deref ∷ ps) = true
has_deref (Field i ∷ ps) = has_deref ps
has_deref (Downcast k ∷ ps) = has_deref ps

-- no dereference and no downcast
abbrev pub is_direct : List Proj → Bool
is_direct [] = true
is_direct (Field i ∷ ps) = is_direct ps
is_direct (_ ∷ ps) = false

abbrev pub begins_with_field : List Proj → Bool
begins_with_field (Field i ∷ ps) = true
begins_with_field _ = false

-- each downcast is followed by a field
abbrev pub path_formed : List Proj → Bool
path_formed [] = true
path_formed (Downcast k ∷ ps) = begins_with_field ps && path_formed ps
path_formed (_ ∷ ps) = path_formed ps

-- ---- operands and places

abbrev pub operand_places : Operand → List Place
operand_places (operand.Copy p) = p ∷ []
operand_places (operand.Move p) = p ∷ []
operand_places (operand.Const c) = []

-- in the order in which they are read
abbrev pub rvalue_operands : TypedRvalue → List Operand
rvalue_operands («use» a) = a ∷ []
rvalue_operands (binary op a b) = a ∷ b ∷ []
rvalue_operands (overflow op a b) = a ∷ b ∷ []
rvalue_operands (unary op a) = a ∷ []
rvalue_operands (cast a ty) = a ∷ []
rvalue_operands (ref p) = []
rvalue_operands (ref_mut p) = []
rvalue_operands (discriminant p) = []
rvalue_operands (tuple parts) = parts
rvalue_operands (build d v parts) = parts

abbrev pub rvalue_places : TypedRvalue → List Place
rvalue_places (ref p) = p ∷ []
rvalue_places (ref_mut p) = p ∷ []
rvalue_places (discriminant p) = p ∷ []
rvalue_places r = flat_map operand_places (rvalue_operands r)

abbrev pub term_operands : Term → List Operand
term_operands (term.Switch a arms other) = a ∷ []
term_operands (term.Call p callee args next) = args
term_operands (term.Assert a expected text args next) = a ∷ args
term_operands _ = []

abbrev pub term_places : Term → List Place
term_places (term.Drop p next) = p ∷ []
term_places (term.Call p callee args next) = p ∷ flat_map operand_places args
term_places t = flat_map operand_places (term_operands t)

-- ---- targets

abbrev pub arm_block : Arm → ℕ
arm_block a = a.block

-- the blocks that a terminator goes to, in its order
abbrev pub targets : Term → List ℕ
targets (term.Goto next) = next ∷ []
targets (term.Switch a arms other) = map arm_block arms ++ other ∷ []
targets term.Return = []
targets term.Unreachable = []
targets (term.Drop p next) = next ∷ []
targets (term.Call p callee args next) = next ∷ []
targets (term.Assert a expected text args next) = next ∷ []

-- an arm that goes elsewhere
abbrev pub retargeted_arm : (ℕ → ℕ) → Arm → Arm
retargeted_arm f a = record { value = a.value; block = f a.block }

-- a terminator that goes elsewhere: to f n in place of n
abbrev pub retargeted : (ℕ → ℕ) → Term → Term
retargeted f (term.Goto next) = term.Goto (f next)
retargeted f (term.Switch a arms other) = term.Switch a (map (retargeted_arm f) arms) (f other)
retargeted f term.Return = term.Return
retargeted f term.Unreachable = term.Unreachable
retargeted f (term.Drop p next) = term.Drop p (f next)
retargeted f (term.Call p callee args next) = term.Call p callee args (f next)
retargeted f (term.Assert a expected text args next) = term.Assert a expected text args (f next)

-- ---- whole parts: in each place that they write down, each downcast is followed by a field

abbrev pub operand_whole : Operand → Bool
operand_whole (operand.Copy p) = path_formed p.proj
operand_whole (operand.Move p) = path_formed p.proj
operand_whole (operand.Const c) = true

abbrev pub rvalue_whole : Rvalue → Bool
rvalue_whole (rvalue.Use a) = operand_whole a
rvalue_whole (rvalue.Binary op a b) = operand_whole a && operand_whole b
rvalue_whole (rvalue.Overflow op a b) = operand_whole a && operand_whole b
rvalue_whole (rvalue.Unary op a) = operand_whole a
rvalue_whole (rvalue.Cast a ty) = operand_whole a
rvalue_whole (rvalue.Ref p) = path_formed p.proj
rvalue_whole (rvalue.RefMut p) = path_formed p.proj
rvalue_whole (rvalue.Discriminant p) = path_formed p.proj
rvalue_whole (rvalue.Tuple parts) = list_all operand_whole parts
rvalue_whole (rvalue.Build d v parts) = list_all operand_whole parts

abbrev pub stmt_whole : Stmt → Bool
stmt_whole (stmt.Assign p r) = path_formed p.proj && rvalue_whole r
stmt_whole (stmt.StorageLive x) = true
stmt_whole (stmt.StorageDead x) = true
stmt_whole (stmt.SetDiscriminant p k) = path_formed p.proj

abbrev pub term_whole : Term → Bool
term_whole (term.Switch a arms other) = operand_whole a
term_whole (term.Drop p next) = path_formed p.proj
term_whole (term.Call p callee args next) = path_formed p.proj && list_all operand_whole args
term_whole (term.Assert a expected text args next) = operand_whole a && list_all operand_whole args
term_whole (term.Goto next) = true
term_whole term.Return = true
term_whole term.Unreachable = true

abbrev pub block_whole : Block → Bool
block_whole b = list_all stmt_whole b.stmts && term_whole b.term
