use Rattle.std.proofs.Common.{ℕ, List, sym, subst}
use Rattle.mir_print.specs.Prints.{Prints}
use Rattle.mirpipe_cli.specs.declared.command.Output.{Output}
use Rattle.mirpipe_cli.specs.Output.{bytes_of}
use Rattle.mirpipe_cli.proofs.command.write.Goals as goal

pub returns-in-Line : goal.returns-in-Line
returns-in-Line g c =
    let P : List ℕ → Type 0 = λ bytes. Prints (g.K.Sink.written c.args.out.now) (g.K.Sink.written c.write_all.new.sink) (g.K.Sink.faults c.args.out.now) (g.K.Sink.faults c.write_all.new.sink) bytes c.write_all.result in
    let line : P c.in-Line.line = subst P c.as_slice.ensures (record { whole = c.write_all.ensures.whole; front = c.write_all.ensures.front; cause = c.write_all.ensures.cause }) in
    subst (λ (o : Output). P (bytes_of o)) (sym c.in-Line.is) line
