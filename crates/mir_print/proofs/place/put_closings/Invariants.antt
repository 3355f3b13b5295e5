use Rattle.std.proofs.Common.{drop}
use Rattle.mir_print.specs.Seen.{crate_in}
use Rattle.mir_syntax.specs.Tree.{trees_of}
use Rattle.mir_text.specs.PlaceText.{closings}
use Rattle.mir_print.specs.Parts.{part_tree}
use Rattle.mir_print.specs.Prints.{at}
use Rattle.mir_print.proofs.Texts.{Remains}
use Rattle.mir_print.proofs.place.put_closings.Given as goal

abbrev pub invariant-loop-proj : goal.invariant-loop-proj
invariant-loop-proj g l =
    Remains (at (g.K.Sink.written l.fn.sink) (g.K.Sink.faults l.fn.sink) l.fn.output) (at (g.K.Sink.written l.sink) (g.K.Sink.faults l.sink) l.output)
    (closings (crate_in l.program) (part_tree (trees_of l.program.types) l.start) l.projs) (closings (crate_in l.program) (part_tree (trees_of l.program.types) l.part) (drop l.proj-index l.projs))
