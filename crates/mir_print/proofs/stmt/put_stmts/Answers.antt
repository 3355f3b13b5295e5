use Rattle.std.proofs.Common.{map, arith}
use Rattle.mir_print.specs.Seen.{crate_in}
use Rattle.mir_syntax.specs.Tree.{at_id, trees_of}
use Rattle.mir_text.specs.StatementText.{stmts_text}
use Rattle.mir_syntax.specs.Crate.{stmt_of}
use Rattle.mir_print.proofs.Texts.{remains_more, remains_none, first_stmt, no_stmts}
use Rattle.mir_print.proofs.stmt.put_stmts.Goals as goal

pub loop-stmt-preserved : goal.loop-stmt-preserved
loop-stmt-preserved g c =
    remains_more ((λ xs. stmts_text (crate_in c.args.program.now) (map (at_id (trees_of c.args.program.now.types)) c.args.locals.now) (map (stmt_of (trees_of c.args.program.now.types)) xs))) ((λ xs. stmts_text (crate_in c.args.program.now) (map (at_id (trees_of c.args.program.now.types)) c.args.locals.now) (map (stmt_of (trees_of c.args.program.now.types)) xs))) c.args.stmts.now c.loop-stmt.stmt-index c.stmt-item.result
    (omega (arith, c.loop-stmt-test.true)) c.stmt-item.is (first_stmt (crate_in c.args.program.now) (map (at_id (trees_of c.args.program.now.types)) c.args.locals.now) _ _) c.loop-stmt.invariant c.put_stmt_line.ensures

pub returns : goal.returns
returns g c =
    remains_none ((λ xs. stmts_text (crate_in c.args.program.now) (map (at_id (trees_of c.args.program.now.types)) c.args.locals.now) (map (stmt_of (trees_of c.args.program.now.types)) xs))) c.args.stmts.now c.loop-stmt.stmt-index (omega (arith, c.loop-stmt-test.false)) (no_stmts (crate_in c.args.program.now) (map (at_id (trees_of c.args.program.now.types)) c.args.locals.now)) c.loop-stmt.invariant
