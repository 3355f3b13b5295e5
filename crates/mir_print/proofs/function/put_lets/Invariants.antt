use Rattle.std.proofs.Common.{map, drop, ◌+◌}
use Rattle.mir_print.specs.Seen.{crate_in}
use Rattle.mir_syntax.specs.Tree.{at_id, trees_of}
use Rattle.mir_text.specs.Text.{lets_text}
use Rattle.mir_print.specs.Prints.{at}
use Rattle.mir_print.proofs.Texts.{Remains}
use Rattle.mir_print.proofs.function.put_lets.Given as goal

abbrev pub invariant-loop-index : goal.invariant-loop-index
invariant-loop-index g l =
    Remains (at (g.K.Sink.written l.fn.sink) (g.K.Sink.faults l.fn.sink) l.fn.output) (at (g.K.Sink.written l.sink) (g.K.Sink.faults l.sink) l.output)
    (lets_text (crate_in l.program) l.first (map (at_id (trees_of l.program.types)) l.types)) (lets_text (crate_in l.program) (l.first + l.index) (map (at_id (trees_of l.program.types)) (drop l.index l.types)))
