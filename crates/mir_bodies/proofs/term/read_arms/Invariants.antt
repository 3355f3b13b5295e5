use Rattle.std.proofs.Common.{◌≡◌, ◌++◌, map, length}
use Rattle.mir_text.specs.NameFaults.{each, on_line}
use Rattle.mir_resolve.specs.Types.{Grown}
use Rattle.mir_resolve.specs.Faults.{noted}
use Rattle.mir_bodies.specs.Scope.{Tells}
use Rattle.mir_bodies.specs.Statements.{text_arm, text_arm_codes}
use Rattle.mir_bodies.proofs.term.read_arms.Given as goal

abbrev pub ghost-note_target : goal.ghost-note_target
ghost-note_target g a = g.sense

abbrev pub invariant-arms : goal.invariant-arms
invariant-arms g l = record {
  told : l.arms ++ map text_arm l.left ≡ map text_arm l.texts;
  notes : noted l.draft.notes (on_line l.line (each (text_arm_codes g.sense) l.left)) ≡ noted l.fn.draft.notes (on_line l.line (each (text_arm_codes g.sense) l.texts));
  grown : Grown l.fn.draft.program l.draft.program;
  tells : Tells l.scope l.draft.program g.sense;
}

abbrev pub decreases-arms : goal.decreases-arms
decreases-arms g l = length l.left
