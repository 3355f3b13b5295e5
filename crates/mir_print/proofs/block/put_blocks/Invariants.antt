use Rattle.std.proofs.Common.{map, drop}
use Rattle.mir_print.specs.Seen.{crate_in}
use Rattle.mir_syntax.specs.Tree.{at_id, trees_of}
use Rattle.mir_text.specs.TermText.{blocks_text}
use Rattle.mir_syntax.specs.Crate.{block_of}
use Rattle.mir_print.specs.Prints.{at}
use Rattle.mir_print.proofs.Texts.{Remains}
use Rattle.mir_print.proofs.block.put_blocks.Given as goal

abbrev pub invariant-loop-number : goal.invariant-loop-number
invariant-loop-number g l =
    Remains (at (g.K.Sink.written l.fn.sink) (g.K.Sink.faults l.fn.sink) l.fn.output) (at (g.K.Sink.written l.sink) (g.K.Sink.faults l.sink) l.output)
    (blocks_text (crate_in l.program) (map (at_id (trees_of l.program.types)) l.locals) 0 (map (block_of (trees_of l.program.types)) l.blocks)) (blocks_text (crate_in l.program) (map (at_id (trees_of l.program.types)) l.locals) l.number (map (block_of (trees_of l.program.types)) (drop l.number l.blocks)))
