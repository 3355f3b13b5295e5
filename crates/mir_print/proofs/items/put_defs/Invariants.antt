use Rattle.std.proofs.Common.{map, drop}
use Rattle.mir_print.specs.Seen.{crate_in}
use Rattle.mir_syntax.specs.Tree.{trees_of}
use Rattle.mir_text.specs.Text.{defs_text}
use Rattle.mir_syntax.specs.Crate.{def_of}
use Rattle.mir_print.specs.Prints.{at}
use Rattle.mir_print.proofs.Texts.{Remains}
use Rattle.mir_print.proofs.items.put_defs.Given as goal

abbrev pub invariant-loop-def : goal.invariant-loop-def
invariant-loop-def g l =
    Remains (at (g.K.Sink.written l.fn.sink) (g.K.Sink.faults l.fn.sink) l.fn.output) (at (g.K.Sink.written l.sink) (g.K.Sink.faults l.sink) l.output)
    (defs_text (crate_in l.program) (map (def_of (trees_of l.program.types)) l.defs)) (defs_text (crate_in l.program) (map (def_of (trees_of l.program.types)) (drop l.def-index l.defs)))
