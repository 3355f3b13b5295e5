use Rattle.std.proofs.Common.{List}
use Rattle.mir_syntax.specs.declared.body.Stmt.{Stmt}
use Rattle.const_rewrite.specs.Points.{here, trees_in}
use Rattle.const_rewrite.proofs.equal.Stmts.{Going}
use Rattle.const_rewrite.proofs.fold.folded_stmts.Given as goal

abbrev pub invariant-loop-stmt : goal.invariant-loop-stmt
invariant-loop-stmt l = (front : List Stmt) × Going (trees_in l.text) (here l.text) l.fn.facts l.facts l.fn.stmts l.stmt-items front l.stmt-index
