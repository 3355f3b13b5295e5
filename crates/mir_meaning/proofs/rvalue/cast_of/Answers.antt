use Rattle.std.proofs.Common.{◌∙◌, sym, ap}
use Rattle.mir_meaning.specs.Programs.{type_in}
use Rattle.mir_meaning.specs.Views.{memory_of, value_of}
use Rattle.mir_meaning.specs.Sight.{here_of}
use Rattle.mir_meaning.proofs.Values.{view_num}
use Rattle.mir_meaning.specs.declared.datum.Datum.{Num}
use Rattle.mir_meaning.proofs.Binds.{stopped}
use Rattle.mir_meaning.proofs.Evals.{cast_untyped, cast_nowhere, cast_unread, cast_some, same_seen}
use Rattle.mir_meaning.proofs.rvalue.cast_of.Goals as goal

pub returns-in_default : goal.returns-in_default
returns-in_default c = cast_untyped (here_of c.args.here) (memory_of c.args.memory.now) c.args.operand.now (type_in c.args.here.program.now c.args.to) (sym c.in_default.ensures)

pub returns-in_default-scalar_of : goal.returns-in_default-scalar_of
returns-in_default-scalar_of c = cast_nowhere (here_of c.args.here) (memory_of c.args.memory.now) c.args.operand.now (type_in c.args.here.program.now c.args.to) (sym c.in_default-scalar_of.ensures)

pub returns-in_err-bits : goal.returns-in_err-bits
returns-in_err-bits c = stopped c.in_err-bits.field-0.0 c.read_number.result c.from_residual.result _ _ _ _ c.in_err-bits.was c.from_residual.ensures.1 c.read_number.ensures (cast_unread (here_of c.args.here) (memory_of c.args.memory.now) c.args.operand.now (type_in c.args.here.program.now c.args.to))

pub returns : goal.returns
returns c =
    cast_some (here_of c.args.here) (memory_of c.args.memory.now) (memory_of c.read_number.new.memory) c.args.operand.now (type_in c.args.here.program.now c.args.to) c.in-Some.from c.in-Some-scalar_of.into c.in_ok-bits.bits (sym c.in-Some.ensures) (sym c.in-Some-scalar_of.ensures) c.in_ok-bits.ensures
    ∙ same_seen _ _ _ (sym (ap value_of (ap Num c.cast_scalar.ensures) ∙ view_num _))
