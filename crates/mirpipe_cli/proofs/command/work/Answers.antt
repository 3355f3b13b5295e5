use Rattle.std.proofs.Common.{sym, subst}
use Rattle.std.specs.Prelude.{IfOk, IfErr}
use Rattle.pipe_words.specs.declared.command.Command.{Command}
use Rattle.mirpipe_cli.specs.Refused.{OfInput}
use Rattle.mirpipe_cli.specs.Answer.{CanBeDone, Writes, Refuses}
use Rattle.mirpipe_cli.specs.Output.{bytes_of}
use Rattle.mirpipe_cli.proofs.command.work.Goals as goal

pub returns-in_ok-accepted-in-Check-clause-writes : goal.returns-in_ok-accepted-in-Check-clause-writes
returns-in_ok-accepted-in-Check-clause-writes g c = λ input left.
    subst (λ (k : Command). IfOk c.check.result (λ output. Writes k input (bytes_of output))) (sym c.in-Check.is) (c.check.ensures.writes input (c.in_ok-accepted-in-Check.ensures.accepted input left))

pub returns-in_ok-accepted-in-Seq-clause-writes : goal.returns-in_ok-accepted-in-Seq-clause-writes
returns-in_ok-accepted-in-Seq-clause-writes g c = λ input left.
    subst (λ (k : Command). IfOk c.seq.result (λ output. Writes k input (bytes_of output))) (sym c.in-Seq.is) (c.seq.ensures.writes input (c.in_ok-accepted-in-Seq.ensures.accepted input left))

pub returns-in_ok-accepted-in-Seq-clause-refused : goal.returns-in_ok-accepted-in-Seq-clause-refused
returns-in_ok-accepted-in-Seq-clause-refused g c = λ input left.
    subst (λ (k : Command). IfErr c.seq.result (OfInput (Refuses k input))) (sym c.in-Seq.is) (c.seq.ensures.refused input (c.in_ok-accepted-in-Seq.ensures.accepted input left))

pub returns-in_ok-accepted-in-Run-clause-writes : goal.returns-in_ok-accepted-in-Run-clause-writes
returns-in_ok-accepted-in-Run-clause-writes g c = λ input left.
    subst (λ (k : Command). IfOk c.run.result (λ output. Writes k input (bytes_of output))) (sym c.in-Run.is) (c.run.ensures.writes input (c.in_ok-accepted-in-Run.ensures.accepted input left))

pub returns-in_ok-accepted-in-Dump-clause-writes : goal.returns-in_ok-accepted-in-Dump-clause-writes
returns-in_ok-accepted-in-Dump-clause-writes g c = λ input left.
    subst (λ (k : Command). IfOk c.dump.result (λ output. Writes k input (bytes_of output))) (sym c.in-Dump.is) (c.dump.ensures.writes input (c.in_ok-accepted-in-Dump.ensures.accepted input left))

pub returns-in_ok-accepted-in-Dump-clause-refused : goal.returns-in_ok-accepted-in-Dump-clause-refused
returns-in_ok-accepted-in-Dump-clause-refused g c = λ input left.
    subst (λ (k : Command). IfErr c.dump.result (OfInput (Refuses k input))) (sym c.in-Dump.is) (c.dump.ensures.refused input (c.in_ok-accepted-in-Dump.ensures.accepted input left))

pub dump-requires : goal.dump-requires
dump-requires g c = record { step = subst CanBeDone c.in-Dump.is c.requires.can }
