use Rattle.std.proofs.Common.{take, ◌≤◌, length}
use Rattle.mir_text.specs.PlaceText.{openings}
use Rattle.mir_print.specs.Prints.{at}
use Rattle.mir_print.proofs.Texts.{Remains}
use Rattle.mir_print.proofs.place.put_openings.Given as goal

abbrev pub invariant-loop-left : goal.invariant-loop-left
invariant-loop-left g l =
    Remains (at (g.K.Sink.written l.fn.sink) (g.K.Sink.faults l.fn.sink) l.fn.output) (at (g.K.Sink.written l.sink) (g.K.Sink.faults l.sink) l.output)
    (openings l.projs) (openings (take l.left l.projs)) × (l.left ≤ length l.projs)

abbrev pub decreases-loop-left : goal.decreases-loop-left
decreases-loop-left g l = l.left
