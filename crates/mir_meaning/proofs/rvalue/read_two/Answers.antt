use Rattle.mir_meaning.specs.Views.{memory_of}
use Rattle.mir_meaning.specs.Sight.{here_of}
use Rattle.mir_meaning.proofs.Binds.{stopped}
use Rattle.mir_meaning.proofs.Evals.{first_gone, second_gone, both_read}
use Rattle.mir_meaning.proofs.rvalue.read_two.Goals as goal

pub returns-in_err-a : goal.returns-in_err-a
returns-in_err-a c = stopped c.in_err-a.field-0.0 c.read_number.result c.from_residual.result _ _ _ _ c.in_err-a.was c.from_residual.ensures.1 c.read_number.ensures (first_gone (here_of c.args.here) (memory_of c.args.memory.now) c.args.left.now c.args.right.now)

pub returns-in_err-b : goal.returns-in_err-b
returns-in_err-b c = stopped c.in_err-b.field-0.0 c.read_number-2.result c.from_residual-in_err-b.result _ _ _ _ c.in_err-b.was c.from_residual-in_err-b.ensures.1 c.read_number-2.ensures (second_gone (here_of c.args.here) (memory_of c.args.memory.now) (memory_of c.read_number.new.memory) c.args.left.now c.args.right.now c.in_ok-a.a c.in_ok-a.ensures)

pub returns : goal.returns
returns c = both_read (here_of c.args.here) (memory_of c.args.memory.now) (memory_of c.read_number.new.memory) (memory_of c.read_number-2.new.memory) c.args.left.now c.args.right.now c.in_ok-a.a c.in_ok-b.b c.in_ok-a.ensures c.in_ok-b.ensures
