use Rattle.std.proofs.Common.{◌∙◌, sym, ap}
use Rattle.mir_meaning.specs.Views.{memory_of, value_of}
use Rattle.mir_meaning.specs.Sight.{here_of}
use Rattle.mir_meaning.proofs.Values.{view_num}
use Rattle.mir_meaning.specs.declared.datum.Datum.{Num}
use Rattle.mir_meaning.proofs.Binds.{stopped}
use Rattle.mir_meaning.proofs.Evals.{unary_untyped, unary_unread, unary_some, same_seen}
use Rattle.mir_meaning.proofs.rvalue.unary_of.Goals as goal

pub returns-in_default : goal.returns-in_default
returns-in_default c = unary_untyped (here_of c.args.here) (memory_of c.args.memory.now) c.args.op c.args.operand.now (sym c.in_default.ensures)

pub returns-in_err-bits : goal.returns-in_err-bits
returns-in_err-bits c = stopped c.in_err-bits.field-0.0 c.read_number.result c.from_residual.result _ _ _ _ c.in_err-bits.was c.from_residual.ensures.1 c.read_number.ensures (unary_unread (here_of c.args.here) (memory_of c.args.memory.now) c.args.op c.args.operand.now)

pub returns : goal.returns
returns c =
    unary_some (here_of c.args.here) (memory_of c.args.memory.now) (memory_of c.read_number.new.memory) c.args.op c.args.operand.now c.in-Some.ty c.in_ok-bits.bits (sym c.in-Some.ensures) c.in_ok-bits.ensures
    ∙ same_seen _ _ _ (sym (ap value_of (ap Num c.unary.ensures) ∙ view_num _))
