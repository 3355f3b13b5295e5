use Rattle.std.proofs.Common.{◌∙◌, ◌∷◌, ◌++◌, [], ap, map}
use Rattle.std.proofs.lemmas.List.{map-append}
use Rattle.mir_meaning.specs.Views.{memory_of}
use Rattle.mir_meaning.specs.Sight.{here_of}
use Rattle.mir_meaning.proofs.Binds.{stopped}
use Rattle.mir_machine.specs.Ends.{integer_in}
use Rattle.mir_machine.proofs.Messages.{all_integers, left_untyped, left_gone, left_read, left_none}
use Rattle.mir_machine.proofs.integers.integers.Goals as goal

pub loop-operand-init : goal.loop-operand-init
loop-operand-init c = all_integers (here_of c.args.here) (memory_of c.args.memory.now) c.args.operands.now (map integer_in c.in_ok-numbers.numbers) (ap (map integer_in) c.in_ok-numbers.ensures)

pub returns-in_default : goal.returns-in_default
returns-in_default c =
    c.loop-operand.invariant ∙ left_untyped (here_of c.args.here) (memory_of c.loop-operand.memory) c.args.operands.now c.loop-operand.operand-index c.operand-item.result (map integer_in c.loop-operand.numbers) c.loop-operand-test.true c.operand-item.is c.in_default.ensures

pub returns-in_err-bits : goal.returns-in_err-bits
returns-in_err-bits c =
    stopped c.in_err-bits.field-0.0 c.read_number.result c.from_residual-in_err-bits.result _ _ _ _ c.in_err-bits.was c.from_residual-in_err-bits.ensures.1 c.read_number.ensures
    (λ gone. c.loop-operand.invariant ∙ left_gone (here_of c.args.here) (memory_of c.loop-operand.memory) c.args.operands.now c.loop-operand.operand-index c.operand-item.result c.in-Some.ty (map integer_in c.loop-operand.numbers) c.loop-operand-test.true c.operand-item.is c.in-Some.ensures gone)

pub loop-operand-preserved : goal.loop-operand-preserved
loop-operand-preserved c =
    c.loop-operand.invariant
    ∙ left_read (here_of c.args.here) (memory_of c.loop-operand.memory) (memory_of c.read_number.new.memory) c.args.operands.now c.loop-operand.operand-index c.operand-item.result c.in-Some.ty (map integer_in c.loop-operand.numbers) (map integer_in c.push.new.self) c.in_ok-bits.bits c.loop-operand-test.true c.operand-item.is c.in-Some.ensures c.in_ok-bits.ensures
    (ap (map integer_in) c.in_ok-push.ensures.ok ∙ (map-append integer_in c.loop-operand.numbers (c.integer.result ∷ []) ∙ ap (λ z. map integer_in c.loop-operand.numbers ++ z ∷ []) c.integer.ensures))

pub returns : goal.returns
returns c = c.loop-operand.invariant ∙ left_none (here_of c.args.here) (memory_of c.loop-operand.memory) c.args.operands.now c.loop-operand.operand-index (map integer_in c.loop-operand.numbers) c.loop-operand-test.false
