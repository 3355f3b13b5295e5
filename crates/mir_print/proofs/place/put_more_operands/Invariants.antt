use Rattle.std.proofs.Common.{map, drop}
use Rattle.mir_print.specs.Seen.{crate_in}
use Rattle.mir_syntax.specs.Tree.{at_id, trees_of}
use Rattle.mir_text.specs.TypeText.{more_items}
use Rattle.mir_text.specs.PlaceText.{operand_text}
use Rattle.mir_print.specs.Prints.{at}
use Rattle.mir_print.proofs.Texts.{Remains}
use Rattle.mir_print.proofs.place.put_more_operands.Given as goal

abbrev pub invariant-loop-operand : goal.invariant-loop-operand
invariant-loop-operand g l =
    Remains (at (g.K.Sink.written l.fn.sink) (g.K.Sink.faults l.fn.sink) l.fn.output) (at (g.K.Sink.written l.sink) (g.K.Sink.faults l.sink) l.output)
    (more_items (operand_text (crate_in l.program) (map (at_id (trees_of l.program.types)) l.locals)) l.operands) (more_items (operand_text (crate_in l.program) (map (at_id (trees_of l.program.types)) l.locals)) (drop l.operand-index l.operands))
