use Rattle.std.proofs.Common.{map, drop}
use Rattle.mir_print.specs.Seen.{crate_in}
use Rattle.mir_syntax.specs.Tree.{at_id, trees_of}
use Rattle.mir_text.specs.StatementText.{stmts_text}
use Rattle.mir_syntax.specs.Crate.{stmt_of}
use Rattle.mir_print.specs.Prints.{at}
use Rattle.mir_print.proofs.Texts.{Remains}
use Rattle.mir_print.proofs.stmt.put_stmts.Given as goal

abbrev pub invariant-loop-stmt : goal.invariant-loop-stmt
invariant-loop-stmt g l =
    Remains (at (g.K.Sink.written l.fn.sink) (g.K.Sink.faults l.fn.sink) l.fn.output) (at (g.K.Sink.written l.sink) (g.K.Sink.faults l.sink) l.output)
    (stmts_text (crate_in l.program) (map (at_id (trees_of l.program.types)) l.locals) (map (stmt_of (trees_of l.program.types)) l.stmts)) (stmts_text (crate_in l.program) (map (at_id (trees_of l.program.types)) l.locals) (map (stmt_of (trees_of l.program.types)) (drop l.stmt-index l.stmts)))
