use Rattle.std.proofs.Common.{map, arith}
use Rattle.mir_print.specs.Seen.{crate_in}
use Rattle.mir_syntax.specs.Tree.{at_id, trees_of}
use Rattle.mir_text.specs.TypeText.{more_items}
use Rattle.mir_text.specs.PlaceText.{operand_text}
use Rattle.mir_print.proofs.Texts.{remains_more, remains_none, first_item, no_items}
use Rattle.mir_print.proofs.place.put_more_operands.Goals as goal

pub loop-operand-preserved : goal.loop-operand-preserved
loop-operand-preserved g c =
    remains_more ((λ xs. more_items (operand_text (crate_in c.args.program.now) (map (at_id (trees_of c.args.program.now.types)) c.args.locals.now)) xs)) ((λ xs. more_items (operand_text (crate_in c.args.program.now) (map (at_id (trees_of c.args.program.now.types)) c.args.locals.now)) xs)) c.args.operands.now c.loop-operand.operand-index c.operand-item.result
    (omega (arith, c.loop-operand-test.true)) c.operand-item.is (first_item (operand_text (crate_in c.args.program.now) (map (at_id (trees_of c.args.program.now.types)) c.args.locals.now)) _ _) c.loop-operand.invariant c.put_next_operand.ensures

pub returns : goal.returns
returns g c =
    remains_none ((λ xs. more_items (operand_text (crate_in c.args.program.now) (map (at_id (trees_of c.args.program.now.types)) c.args.locals.now)) xs)) c.args.operands.now c.loop-operand.operand-index (omega (arith, c.loop-operand-test.false)) (no_items (operand_text (crate_in c.args.program.now) (map (at_id (trees_of c.args.program.now.types)) c.args.locals.now))) c.loop-operand.invariant
