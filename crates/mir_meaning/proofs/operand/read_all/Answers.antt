use Rattle.std.proofs.Common.{◌+◌, ◌∙◌, ◌∷◌, [], sym, ap, map, drop}
use Rattle.mir_semantics.specs.Step.{read_all}
use Rattle.mir_meaning.specs.Views.{memory_of, value_of}
use Rattle.mir_meaning.specs.Sight.{here_of}
use Rattle.mir_meaning.proofs.Binds.{stopped}
use Rattle.mir_meaning.proofs.Operands.{all_read, left_gone, left_read, left_none, then_read}
use Rattle.std.proofs.lemmas.List.{map-append}
use Rattle.mir_meaning.proofs.operand.read_all.Goals as goal

pub loop-operand-init : goal.loop-operand-init
loop-operand-init c =
    all_read (here_of c.args.here) (memory_of c.args.memory.now) c.args.operands.now ∙ ap (λ l. then_read (map value_of l) (read_all (here_of c.args.here) (memory_of c.args.memory.now) c.args.operands.now)) (sym c.in_ok-values.ensures)

pub returns-in_err-read : goal.returns-in_err-read
returns-in_err-read c =
    stopped c.in_err-read.field-0.0 c.read.result c.from_residual-in_err-read.result _ _ _ _ c.in_err-read.was c.from_residual-in_err-read.ensures.1 c.read.ensures
    (λ gone. c.loop-operand.invariant ∙ left_gone (here_of c.args.here) (memory_of c.loop-operand.memory) c.args.operands.now c.loop-operand.operand-index c.operand-item.result (map value_of c.loop-operand.values) c.loop-operand-test.true c.operand-item.is gone)

pub loop-operand-preserved : goal.loop-operand-preserved
loop-operand-preserved c =
    c.loop-operand.invariant
    ∙ (left_read (here_of c.args.here) (memory_of c.loop-operand.memory) (memory_of c.read.new.memory) c.args.operands.now c.loop-operand.operand-index c.operand-item.result (map value_of c.loop-operand.values) (value_of c.in_ok-read.field-0) c.loop-operand-test.true c.operand-item.is c.in_ok-read.ensures
    ∙ ap (λ l. then_read l (read_all (here_of c.args.here) (memory_of c.read.new.memory) (drop (c.loop-operand.operand-index + 1) c.args.operands.now))) (sym (ap (map value_of) c.in_ok-push.ensures.ok ∙ map-append value_of c.loop-operand.values (c.in_ok-read.field-0 ∷ []))))

pub returns : goal.returns
returns c = c.loop-operand.invariant ∙ left_none (here_of c.args.here) (memory_of c.loop-operand.memory) c.args.operands.now c.loop-operand.operand-index (map value_of c.loop-operand.values) c.loop-operand-test.false
