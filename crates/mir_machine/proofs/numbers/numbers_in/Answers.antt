use Rattle.std.proofs.Common.{◌∙◌, map}
use Rattle.mir_meaning.specs.Views.{value_of}
use Rattle.mir_machine.proofs.Bits.{all_numbers, number_missing, number_next, no_numbers_left}
use Rattle.mir_machine.proofs.numbers.numbers_in.Goals as goal

pub loop-value-init : goal.loop-value-init
loop-value-init c = all_numbers (map value_of c.args.values.now) c.in_ok-numbers.numbers c.in_ok-numbers.ensures

pub returns-in_default : goal.returns-in_default
returns-in_default c = c.loop-value.invariant ∙ number_missing c.args.values.now c.loop-value.value-index c.value-item.result c.loop-value.numbers c.loop-value-test.true c.value-item.is c.in_default.ensures

pub loop-value-preserved : goal.loop-value-preserved
loop-value-preserved c = c.loop-value.invariant ∙ number_next c.args.values.now c.loop-value.value-index c.value-item.result c.loop-value.numbers c.push.new.self c.in-Some.bits c.loop-value-test.true c.value-item.is c.in-Some.ensures c.in_ok-push.ensures.ok

pub returns : goal.returns
returns c = c.loop-value.invariant ∙ no_numbers_left c.args.values.now c.loop-value.value-index c.loop-value.numbers c.loop-value-test.false
