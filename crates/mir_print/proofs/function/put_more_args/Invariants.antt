use Rattle.std.proofs.Common.{map, drop, ◌+◌}
use Rattle.mir_print.specs.Seen.{crate_in}
use Rattle.mir_syntax.specs.Tree.{at_id, trees_of}
use Rattle.mir_text.specs.Text.{more_args}
use Rattle.mir_print.specs.Prints.{at}
use Rattle.mir_print.proofs.Texts.{Remains}
use Rattle.mir_print.proofs.function.put_more_args.Given as goal

abbrev pub invariant-loop-index : goal.invariant-loop-index
invariant-loop-index g l =
    Remains (at (g.K.Sink.written l.fn.sink) (g.K.Sink.faults l.fn.sink) l.fn.output) (at (g.K.Sink.written l.sink) (g.K.Sink.faults l.sink) l.output)
    (more_args (crate_in l.program) 2 (map (at_id (trees_of l.program.types)) l.types)) (more_args (crate_in l.program) (l.index + 2) (map (at_id (trees_of l.program.types)) (drop l.index l.types)))
