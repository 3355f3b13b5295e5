use Rattle.std.proofs.Common.{◌∙◌, sym, ap, map, Some, true, false, arith}
use Rattle.mir_semantics.specs.Step.{on}
use Rattle.mir_meaning.specs.Views.{memory_of}
use Rattle.mir_meaning.specs.Sight.{here_of}
use Rattle.mir_meaning.proofs.Binds.{stopped}
use Rattle.mir_machine.specs.Seen.{code_in, control_in, state_in}
use Rattle.mir_machine.specs.Ends.{integer_in}
use Rattle.mir_machine.proofs.Ending.{assert_gone, assert_holds, assert_lost, assert_aborts, flagged}
use Rattle.mir_machine.proofs.machine.Machine.assert.Goals as goal

pub returns-in_err-bits-clause-goes : goal.returns-in_err-bits-clause-goes
returns-in_err-bits-clause-goes c =
    stopped c.in_err-bits.field-0.0 c.read_number.result c.from_residual.result _ _ _ _ c.in_err-bits.was c.from_residual.ensures.1 c.read_number.ensures
    (assert_gone (code_in c.args.here.program.now) (here_of c.args.here) (state_in c.args.here.program.now c.args.self.now) c.args.operand.now c.args.expected c.args.text.now c.args.values.now c.args.block)

pub returns-then-bits-wanted-clause-goes : goal.returns-then-bits-wanted-clause-goes
returns-then-bits-wanted-clause-goes c =
    assert_holds (code_in c.args.here.program.now) (here_of c.args.here) (state_in c.args.here.program.now c.args.self.now) c.args.operand.now c.args.expected c.args.text.now c.args.values.now c.args.block c.in_ok-bits.bits (memory_of c.read_number.new.memory) (control_in c.args.here.program.now c.go_to.new.self.top)
    c.in_ok-bits.ensures (flagged c.in_ok-bits.bits c.flag-wanted.result c.args.expected true c.flag-wanted.ensures (grind (arith, c.if-bits-wanted.true))) (c.go_to.ensures.top c.args.here.program.now)
    ∙ ap (λ m. Some (on (state_in c.args.here.program.now m))) (sym c.go_to.ensures.others)

pub returns-in_err-numbers-clause-goes : goal.returns-in_err-numbers-clause-goes
returns-in_err-numbers-clause-goes c =
    stopped c.in_err-numbers.field-0.0 c.integers.result c.from_residual-in_err-numbers.result _ _ _ _ c.in_err-numbers.was c.from_residual-in_err-numbers.ensures.1 c.integers.ensures
    (assert_lost (code_in c.args.here.program.now) (here_of c.args.here) (state_in c.args.here.program.now c.args.self.now) c.args.operand.now c.args.expected c.args.text.now c.args.values.now c.args.block c.in_ok-bits.bits (memory_of c.read_number.new.memory)
    c.in_ok-bits.ensures (flagged c.in_ok-bits.bits c.flag-wanted.result c.args.expected false c.flag-wanted.ensures (grind (arith, c.if-bits-wanted.false))))

pub returns-clause-goes : goal.returns-clause-goes
returns-clause-goes c =
    assert_aborts (code_in c.args.here.program.now) (here_of c.args.here) (state_in c.args.here.program.now c.args.self.now) c.args.operand.now c.args.expected c.args.text.now c.in_ok-copied.field-0 c.args.values.now c.args.block c.in_ok-bits.bits (memory_of c.read_number.new.memory) (memory_of c.integers.new.memory) (map integer_in c.in_ok-numbers.numbers)
    c.in_ok-bits.ensures (flagged c.in_ok-bits.bits c.flag-wanted.result c.args.expected false c.flag-wanted.ensures (grind (arith, c.if-bits-wanted.false))) c.in_ok-numbers.ensures c.in_ok-copied.ensures
