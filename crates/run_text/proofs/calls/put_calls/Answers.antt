use Rattle.mir_machine.specs.Seen.{code_in}
use Rattle.run_text.proofs.Lines.{line_put, lines_put}
use Rattle.run_text.proofs.calls.put_calls.Goals as goal

pub loop-call-preserved : goal.loop-call-preserved
loop-call-preserved c = line_put (code_in c.args.program.now) c.args.calls.now c.loop-call.call-index c.call-item.result c.args.out.now c.loop-call-test.true c.call-item.is c.loop-call.invariant c.in_ok-put_call.ensures

pub returns : goal.returns
returns c = lines_put (code_in c.args.program.now) c.args.calls.now c.loop-call.call-index c.args.out.now c.loop-call-test.false c.loop-call.invariant
