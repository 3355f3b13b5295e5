use Rattle.std.proofs.Common.{List, map, take}
use Rattle.mir_syntax.specs.Tree.{Tree}
use Rattle.mir_syntax.specs.Crate.{stmt_of}
use Rattle.move_paths.specs.Rows.{passed_stmts}
use Rattle.move_paths.proofs.Each.{Does}
use Rattle.move_paths.proofs.passing.Passing.pass_stmts.Given as goal

abbrev pub invariant-loop-stmt : goal.invariant-loop-stmt
invariant-loop-stmt l = (trees : List Tree) → Does (passed_stmts l.self.status (map (stmt_of trees) (take l.stmt-index l.stmts))) l.self.units.now.places l.row l.fn.rows l.rows
