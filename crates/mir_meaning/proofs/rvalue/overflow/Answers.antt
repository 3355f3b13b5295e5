use Rattle.std.proofs.Common.{◌∙◌, sym, ap}
use Rattle.mir_meaning.specs.Views.{memory_of}
use Rattle.mir_meaning.specs.Sight.{here_of}
use Rattle.mir_semantics.specs.Step.{pair_of}
use Rattle.mir_meaning.proofs.Binds.{stopped}
use Rattle.mir_meaning.proofs.Evals.{overflow_untyped, overflow_unread, overflow_some, same_seen}
use Rattle.mir_meaning.proofs.rvalue.overflow.Goals as goal

pub returns-in_default : goal.returns-in_default
returns-in_default c = overflow_untyped (here_of c.args.here) (memory_of c.args.memory.now) c.args.op c.args.left.now c.args.right.now (sym c.in_default.ensures)

pub returns-in_err-a : goal.returns-in_err-a
returns-in_err-a c = stopped c.in_err-a.field-0.0 c.read_two.result c.from_residual.result _ _ _ _ c.in_err-a.was c.from_residual.ensures.1 c.read_two.ensures (overflow_unread (here_of c.args.here) (memory_of c.args.memory.now) c.args.op c.args.left.now c.args.right.now)

pub returns : goal.returns
returns c =
    overflow_some (here_of c.args.here) (memory_of c.args.memory.now) (memory_of c.read_two.new.memory) c.args.op c.args.left.now c.args.right.now c.in-Some.ty c.in_ok-a.a c.in_ok-a.b (sym c.in-Some.ensures) c.in_ok-a.ensures
    ∙ same_seen _ _ _ (ap pair_of (sym c.over_scalar-bits.ensures) ∙ sym c.in_ok-value.ensures)
