-- What the program answers where no object fails and memory suffices.
use Rattle.std.specs.Prelude.{ℕ, ◌≡◌, ◌⊎◌, ◌≤◌, ◌<◌, List, [], ◌++◌, length, codes, decimal, None, ⊤}
use Rattle.mir_syntax.specs.declared.lines.Lines.{Lines}
use Rattle.mir_syntax.specs.declared.number.Number.{Number}
use Rattle.mir_syntax.specs.Crate.{Crate}
use Rattle.mir_text.specs.Text.{text}
use Rattle.mir_rules.specs.Accepted.{Accepted}
use Rattle.mir_semantics.specs.Refines.{Refines}
use Rattle.pipe_words.specs.declared.command.Command.{Command}
use Rattle.pipe_words.specs.declared.command.Command.TheVariants.{Check, Seq, Run, Dump, Gen}
use Rattle.pipe_words.specs.Commands.{Says, IsMisfit}
use Rattle.pass_order.specs.Passes.{optimised}
use Rattle.pass_order.specs.Stages.{HasStep}
use Rattle.crate_run.specs.Ran.{IsRunText}
use Rattle.crate_gen.specs.Made.{made_crate}
use Rattle.mirpipe_cli.specs.declared.fault.InputFault.{InputFault}
use Rattle.mirpipe_cli.specs.declared.fault.InputFault.TheVariants.{NoFunction, NoEntry}
use Rattle.mirpipe_cli.specs.FirstDrop.{first_drop}
use Rattle.mirpipe_cli.specs.Refused.{IsAccepted, IsFaulty, IsNoDrop, LacksFunction, LacksEntry, LacksDumped, fault_line}
use Rattle.mirpipe_cli.specs.Dumped.{IsDumped}

-- a status, what is written out, and the notes
pub record Told : Type 0 where
  pub status : ℕ
  pub out : List ℕ
  pub notes : List ℕ

-- done, with bytes
abbrev pub done : List ℕ → Told
done bytes = record { status = 0; out = bytes; notes = [] }

abbrev pub refused : InputFault → Told
refused fault = record { status = 1; out = []; notes = fault_line fault }

abbrev pub word_fault : ℕ → Told
word_fault k = record { status = 2; out = []; notes = codes "word " ++ (decimal k ++ codes "\n") }

-- ---- commands

abbrev pub RefusesRun : List ℕ → List Number → List ℕ → InputFault → Type 0
RefusesRun path args input NoFunction = LacksFunction input path
RefusesRun path args input NoEntry = LacksEntry input path args
RefusesRun path args input fault = IsFaulty input fault × IsNoDrop fault

abbrev pub RefusesDump : List ℕ → List ℕ → InputFault → Type 0
RefusesDump path input NoFunction = LacksDumped input path
RefusesDump path input fault = IsFaulty input fault

-- the faults for which a command refuses an input: a `drop` is one of `seq` and `dump`, a function that isn't there one of `run` and `dump`, and
-- a run that can't be begun one of `run` alone; `gen` reads no input
abbrev pub Refuses : Command → List ℕ → InputFault → Type 0
Refuses Check input fault = IsFaulty input fault × IsNoDrop fault
Refuses Seq input fault = IsFaulty input fault
Refuses (Run path args answers steps) input fault = RefusesRun path args input fault
Refuses (Dump stage path) input fault = RefusesDump path input fault
Refuses (Gen start functions) input fault = ⊥

-- `check` counts the functions of an accepted crate
abbrev pub counted : Crate → List ℕ
counted C = codes "ok " ++ (decimal (length C.functions) ++ codes "\n")

-- what a command writes of an accepted input: `seq` the text of the crate after the passes, where no body has a `drop`; `run` the text of a
-- run; `dump` the text of a function at a stage of the passes, where no body has a `drop`; and `gen`, whatever the input, the text of the crate
-- that is made
abbrev pub Writes : Command → List ℕ → List ℕ → Type 0
Writes Check input bytes = (C : Crate) × (lines : Lines) × IsAccepted input C lines × (bytes ≡ counted C)
Writes Seq input bytes = (C : Crate) × (lines : Lines) × IsAccepted input C lines × (first_drop lines C ≡ None) × (bytes ≡ text (optimised C))
Writes (Run path args answers steps) input bytes = (C : Crate) × (lines : Lines) × IsAccepted input C lines × IsRunText C path args answers steps bytes
Writes (Dump stage path) input bytes = (C : Crate) × (lines : Lines) × IsAccepted input C lines × (first_drop lines C ≡ None) × IsDumped C stage path bytes
Writes (Gen start functions) input bytes = bytes ≡ text (made_crate start functions)

-- a command asks for no stage but one whose step is there, and for as many functions as are made
abbrev pub CanBeDone : Command → Type 0
CanBeDone (Dump stage path) = HasStep stage
CanBeDone (Gen start functions) = (0 < functions) × (functions ≤ 10000)
CanBeDone command = ⊤

-- what is told of a command and an input
abbrev pub OfCommand : Command → List ℕ → Told → Type 0
OfCommand command input told = ((bytes : List ℕ) × Writes command input bytes × (told ≡ done bytes)) ⊎ ((fault : InputFault) × Refuses command input fault × (told ≡ refused fault))

-- ---- all words

-- what is told of words and an input: of the command that the words say, or of the first word that doesn't fit
abbrev pub Answers : List (List ℕ) → List ℕ → Told → Type 0
Answers words input told = ((command : Command) × Says words command × OfCommand command input told) ⊎ ((k : ℕ) × IsMisfit words k × (told ≡ word_fault k))

-- words for which no input is read: those that say `gen`
abbrev pub ReadsNothing : List (List ℕ) → Type 0
ReadsNothing words = (start functions : ℕ) × Says words (Gen start functions)

-- ---- what the command `seq` is for

-- bytes are the text of what the passes make of an accepted crate, and that refines it
pub record IsOptimised (input bytes : List ℕ) : Type 0 where
  pub C : Crate
  pub accepted : Accepted input C
  pub written : bytes ≡ text (optimised C)
  pub refines : Refines (optimised C) C
