use Rattle.std.proofs.Common.{◌*◌, ◌+◌, drop}
use Rattle.mir_print.specs.Seen.{crate_in}
use Rattle.mir_syntax.specs.Tree.{at_ids, trees_of}
use Rattle.mir_text.specs.TypeText.{parts_text}
use Rattle.mir_print.specs.Prints.{at}
use Rattle.mir_print.proofs.Texts.{Remains}
use Rattle.mir_print.proofs.types.+types.Given as goal

abbrev pub decreases-put_type : goal.decreases-put_type
decreases-put_type g l = 5 * l.id.0 + 4

abbrev pub decreases-put_known_type : goal.decreases-put_known_type
decreases-put_known_type g l = 5 * l.id.0 + 3

abbrev pub decreases-put_tuple : goal.decreases-put_tuple
decreases-put_tuple g l = 5 * l.bound + 2

abbrev pub decreases-put_rest : goal.decreases-put_rest
decreases-put_rest g l = 5 * l.bound + 1

abbrev pub decreases-put_parts : goal.decreases-put_parts
decreases-put_parts g l = 5 * l.bound

abbrev pub invariant-put_parts-loop-id : goal.invariant-put_parts-loop-id
invariant-put_parts-loop-id g l =
    Remains (at (g.K.Sink.written l.fn.sink) (g.K.Sink.faults l.fn.sink) l.fn.output) (at (g.K.Sink.written l.sink) (g.K.Sink.faults l.sink) l.output)
    (parts_text (crate_in l.program) (at_ids (trees_of l.program.types) l.ids)) (parts_text (crate_in l.program) (at_ids (trees_of l.program.types) (drop l.id-index l.ids)))
