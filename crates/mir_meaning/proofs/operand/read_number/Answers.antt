use Rattle.std.proofs.Common.{sym}
use Rattle.mir_meaning.specs.Views.{memory_of, value_of}
use Rattle.mir_meaning.specs.Sight.{here_of}
use Rattle.mir_meaning.proofs.Binds.{stopped}
use Rattle.mir_meaning.proofs.Operands.{number_gone, number_other, number_read}
use Rattle.mir_meaning.proofs.operand.read_number.Goals as goal

pub returns-in_err-value : goal.returns-in_err-value
returns-in_err-value c = stopped c.in_err-value.field-0.0 c.read.result c.from_residual.result _ _ _ _ c.in_err-value.was c.from_residual.ensures.1 c.read.ensures (number_gone (here_of c.args.here) (memory_of c.args.memory.now) c.args.operand.now)

pub returns-in_default : goal.returns-in_default
returns-in_default c = number_other (here_of c.args.here) (memory_of c.args.memory.now) (memory_of c.read.new.memory) c.args.operand.now (value_of c.in_ok-value.value) c.in_ok-value.ensures (sym c.in_default.ensures)

pub returns : goal.returns
returns c = number_read (here_of c.args.here) (memory_of c.args.memory.now) (memory_of c.read.new.memory) c.args.operand.now (value_of c.in_ok-value.value) c.in-Some.bits c.in_ok-value.ensures (sym c.in-Some.ensures)
