-- The line of an outcome as the machine has it. No public promise rests on this.
use Rattle.std.specs.Prelude.{ℕ, List, map, codes}
use Rattle.mir_syntax.specs.declared.program.Program.{Program}
use Rattle.mir_syntax.specs.Tree.{Tree}
use Rattle.mir_semantics.specs.Step.{returned, aborted, no_answer}
use Rattle.mir_meaning.specs.Views.{value_of}
use Rattle.mir_machine.specs.declared.outcome.Outcome.{Outcome}
use Rattle.mir_machine.specs.declared.outcome.Outcome.TheVariants.{Going, Returned, Aborted, NoAnswer, Undefined}
use Rattle.mir_machine.specs.Ends.{integer_in}
use Rattle.mir_machine.specs.Seen.{code_in}
use Rattle.run_text.specs.RunText.{outcome_text}

abbrev pub outcome_line : Program → Tree → Outcome → List ℕ
outcome_line p t Going = codes "going\n"
outcome_line p t (Returned v) = outcome_text (code_in p) t (returned (value_of v))
outcome_line p t (Aborted text ns) = outcome_text (code_in p) t (aborted text (map integer_in ns))
outcome_line p t NoAnswer = outcome_text (code_in p) t no_answer
outcome_line p t Undefined = codes "undefined\n"
