use Rattle.std.proofs.Common.{map, arith}
use Rattle.mir_print.specs.Seen.{crate_in}
use Rattle.mir_syntax.specs.Tree.{at_id, trees_of}
use Rattle.mir_text.specs.PlaceText.{operand_text}
use Rattle.mir_print.proofs.Texts.{opened}
use Rattle.mir_print.proofs.Printing.{goes_then}
use Rattle.mir_text.specs.TypeText.{comma_list}
use Rattle.mir_print.proofs.place.put_operands.Goals as goal

pub returns-in-len1-up : goal.returns-in-len1-up
unfolding comma_list
returns-in-len1-up g c =
    opened (λ xs. comma_list (operand_text (crate_in c.args.program.now) (map (at_id (trees_of c.args.program.now.types)) c.args.locals.now)) xs) c.args.operands.now c.first-item.result (omega (arith, c.in-len1-up.len_at_least)) c.first-item.is (goes_then c.put_operand.ensures c.put_more_operands.ensures)
