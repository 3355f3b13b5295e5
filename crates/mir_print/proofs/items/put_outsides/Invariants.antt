use Rattle.std.proofs.Common.{map, drop}
use Rattle.mir_print.specs.Seen.{crate_in}
use Rattle.mir_syntax.specs.Tree.{trees_of}
use Rattle.mir_text.specs.Text.{outsides_text}
use Rattle.mir_syntax.specs.Crate.{outside_of}
use Rattle.mir_print.specs.Prints.{at}
use Rattle.mir_print.proofs.Texts.{Remains}
use Rattle.mir_print.proofs.items.put_outsides.Given as goal

abbrev pub invariant-loop-outside : goal.invariant-loop-outside
invariant-loop-outside g l =
    Remains (at (g.K.Sink.written l.fn.sink) (g.K.Sink.faults l.fn.sink) l.fn.output) (at (g.K.Sink.written l.sink) (g.K.Sink.faults l.sink) l.output)
    (outsides_text (crate_in l.program) (map (outside_of (trees_of l.program.types)) l.outsides)) (outsides_text (crate_in l.program) (map (outside_of (trees_of l.program.types)) (drop l.outside-index l.outsides)))
