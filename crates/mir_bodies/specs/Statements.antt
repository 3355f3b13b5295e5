-- What statements mean, by their trees.
use Rattle.std.specs.Prelude.{ℕ, Bool, List, [], ◌∷◌, map, Option, Some, None, if◌then◌else◌}
use Rattle.mir_syntax.specs.declared.body.Arm.{Arm}
use Rattle.mir_syntax.specs.declared.body.Stmt.{Stmt}
use Rattle.mir_syntax.specs.Tree.{Tree}
use Rattle.mir_syntax.specs.Crate.{TypedStmt, stmt_of}
use Rattle.mir_text.specs.NamedBodies.{arm_named, stmt_named}
use Rattle.mir_text.specs.NameFaults.{Fault, arm_codes, stmt_faults}
use Rattle.mir_text.specs.ReadLines.{stmt_line_in, wrong_stmt}
use Rattle.mir_tree.specs.declared.Lined.{Lined}
use Rattle.mir_tree.specs.declared.body.ArmText.{ArmText}
use Rattle.mir_tree.specs.declared.body.StmtText.{StmtText}
use Rattle.mir_tree.specs.Bodies.{lined, arm_rule, stmt_rule}
use Rattle.mir_bodies.specs.Scope.{Sense}

-- the statement, if there is one
abbrev pub listed : {A : Type 0} → Option A → List A
listed None = []
listed (Some x) = x ∷ []

abbrev pub stmts_in : List Tree → Option Stmt → List TypedStmt
stmts_in trees s = map (stmt_of trees) (listed s)

abbrev pub text_arm : ArmText → Arm
text_arm a = arm_named (arm_rule a)

abbrev pub text_arm_codes : Sense → ArmText → List ℕ
text_arm_codes sense a = arm_codes sense.labels (arm_rule a)

-- the first line, or else this one where something is wrong
abbrev pub first_kept : Option ℕ → Bool → ℕ → Option ℕ
first_kept (Some n) wrong line = Some n
first_kept None wrong line = if wrong then Some line else None

-- of a statement with its line: what it means, its line, its faults, and its line where a field's type is wrong
abbrev pub text_stmts : Sense → Lined StmtText → List TypedStmt
text_stmts sense x = stmt_named sense.names sense.locals (stmt_rule x.part)

abbrev pub text_line : Lined StmtText → List ℕ
text_line x = stmt_line_in (lined stmt_rule x)

abbrev pub text_faults : Sense → Lined StmtText → List Fault
text_faults sense x = stmt_faults sense.names sense.locals (lined stmt_rule x)

abbrev pub text_wrong : Sense → Lined StmtText → List ℕ
text_wrong sense x = wrong_stmt sense.names sense.locals (lined stmt_rule x)
