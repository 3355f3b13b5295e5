use Rattle.std.proofs.Common.{◌∙◌, sym}
use Rattle.mir_meaning.specs.Views.{memory_of}
use Rattle.mir_meaning.specs.Sight.{here_of}
use Rattle.mir_meaning.proofs.Values.{view_num}
use Rattle.mir_meaning.proofs.Binds.{stopped}
use Rattle.mir_meaning.proofs.Evals.{binary_untyped, binary_unread, binary_none, binary_some, same_seen}
use Rattle.mir_meaning.proofs.rvalue.binary.Goals as goal

pub returns-in_default : goal.returns-in_default
returns-in_default c = binary_untyped (here_of c.args.here) (memory_of c.args.memory.now) c.args.op c.args.left.now c.args.right.now (sym c.in_default.ensures)

pub returns-in_err-a : goal.returns-in_err-a
returns-in_err-a c = stopped c.in_err-a.field-0.0 c.read_two.result c.from_residual.result _ _ _ _ c.in_err-a.was c.from_residual.ensures.1 c.read_two.ensures (binary_unread (here_of c.args.here) (memory_of c.args.memory.now) c.args.op c.args.left.now c.args.right.now)

pub returns-in_default-binop : goal.returns-in_default-binop
returns-in_default-binop c = binary_none (here_of c.args.here) (memory_of c.args.memory.now) (memory_of c.read_two.new.memory) c.args.op c.args.left.now c.args.right.now c.in-Some.ty c.in_ok-a.a c.in_ok-a.b (sym c.in-Some.ensures) c.in_ok-a.ensures (sym c.in_default-binop.ensures)

pub returns : goal.returns
returns c =
    binary_some (here_of c.args.here) (memory_of c.args.memory.now) (memory_of c.read_two.new.memory) c.args.op c.args.left.now c.args.right.now c.in-Some.ty c.in_ok-a.a c.in_ok-a.b c.in-Some-binop.bits (sym c.in-Some.ensures) c.in_ok-a.ensures (sym c.in-Some-binop.ensures)
    ∙ same_seen _ _ _ (sym (view_num c.in-Some-binop.bits))
