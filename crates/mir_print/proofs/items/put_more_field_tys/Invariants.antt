use Rattle.std.proofs.Common.{map, drop}
use Rattle.mir_print.specs.Seen.{crate_in}
use Rattle.mir_syntax.specs.Tree.{trees_of}
use Rattle.mir_text.specs.TypeText.{more_items}
use Rattle.mir_text.specs.Text.{field_ty_text}
use Rattle.mir_syntax.specs.Crate.{field_of}
use Rattle.mir_print.specs.Prints.{at}
use Rattle.mir_print.proofs.Texts.{Remains}
use Rattle.mir_print.proofs.items.put_more_field_tys.Given as goal

abbrev pub invariant-loop-field : goal.invariant-loop-field
invariant-loop-field g l =
    Remains (at (g.K.Sink.written l.fn.sink) (g.K.Sink.faults l.fn.sink) l.fn.output) (at (g.K.Sink.written l.sink) (g.K.Sink.faults l.sink) l.output)
    (more_items (field_ty_text (crate_in l.program)) (map (field_of (trees_of l.program.types)) l.fields)) (more_items (field_ty_text (crate_in l.program)) (map (field_of (trees_of l.program.types)) (drop l.field-index l.fields)))
