use Rattle.std.proofs.Common.{map, drop}
use Rattle.mir_print.specs.Seen.{crate_in}
use Rattle.mir_syntax.specs.Tree.{at_id, trees_of}
use Rattle.mir_syntax.specs.Crate.{field_of}
use Rattle.mir_text.specs.StatementText.{more_named}
use Rattle.mir_print.specs.Prints.{at}
use Rattle.mir_print.proofs.Texts.{Remains}
use Rattle.mir_print.proofs.build.put_more_named.Given as goal

abbrev pub invariant-loop-index : goal.invariant-loop-index
invariant-loop-index g l =
    Remains (at (g.K.Sink.written l.fn.sink) (g.K.Sink.faults l.fn.sink) l.fn.output) (at (g.K.Sink.written l.sink) (g.K.Sink.faults l.sink) l.output)
    (more_named (crate_in l.program) (map (at_id (trees_of l.program.types)) l.locals) (map (field_of (trees_of l.program.types)) l.fields) l.operands)
    (more_named (crate_in l.program) (map (at_id (trees_of l.program.types)) l.locals) (map (field_of (trees_of l.program.types)) (drop l.index l.fields)) (drop l.index l.operands))
