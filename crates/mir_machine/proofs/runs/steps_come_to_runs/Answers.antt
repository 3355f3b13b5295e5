use Rattle.mir_machine.specs.Runs.{going}
use Rattle.mir_machine.proofs.Stepping.{rest_all}
use Rattle.mir_machine.proofs.runs.steps_come_to_runs.Goals as goal

pub returns : goal.returns
returns c = λ C n s. rest_all C n (going s)
