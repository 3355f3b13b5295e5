use Rattle.std.proofs.Common.{◌≡◌, ◌++◌, ◌||◌, map, length}
use Rattle.mir_text.specs.NameFaults.{each, on_line}
use Rattle.mir_text.specs.ReadLines.{any_wrong}
use Rattle.mir_resolve.specs.Types.{Grown}
use Rattle.mir_resolve.specs.Faults.{noted}
use Rattle.mir_bodies.specs.Scope.{Tells}
use Rattle.mir_bodies.specs.Operands.{text_operand, text_codes, text_places, behind_name}
use Rattle.mir_bodies.proofs.operand.read_named.Given as goal

abbrev pub ghost-read_operand : goal.ghost-read_operand
ghost-read_operand g a = g.sense

abbrev pub invariant-named : goal.invariant-named
invariant-named g l = record {
  told : l.operands ++ map (text_operand g.sense) (map behind_name l.left) ≡ map (text_operand g.sense) (map behind_name l.texts);
  wrong : l.wrong || any_wrong g.sense.names g.sense.locals (each text_places (map behind_name l.left)) ≡ any_wrong g.sense.names g.sense.locals (each text_places (map behind_name l.texts));
  notes : noted l.draft.notes (on_line l.line (each (text_codes g.sense) (map behind_name l.left))) ≡ noted l.fn.draft.notes (on_line l.line (each (text_codes g.sense) (map behind_name l.texts)));
  grown : Grown l.fn.draft.program l.draft.program;
  tells : Tells l.scope l.draft.program g.sense;
}

abbrev pub decreases-named : goal.decreases-named
decreases-named g l = length l.left
