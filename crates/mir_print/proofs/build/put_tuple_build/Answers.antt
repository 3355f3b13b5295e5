use Rattle.std.proofs.Common.{map, arith}
use Rattle.mir_print.specs.Seen.{crate_in}
use Rattle.mir_syntax.specs.Tree.{at_id, trees_of}
use Rattle.mir_text.specs.StatementText.{tuple_text}
use Rattle.mir_print.proofs.Builds.{opened_lone, opened_tuple}
use Rattle.mir_print.proofs.Printing.{goes_then}
use Rattle.mir_print.proofs.build.put_tuple_build.Goals as goal

pub returns-in-len1 : goal.returns-in-len1
unfolding tuple_text
returns-in-len1 g c =
    opened_lone (tuple_text (crate_in c.args.program.now) (map (at_id (trees_of c.args.program.now.types)) c.args.locals.now)) c.args.operands.now c.only-item.result c.in-len1.len_at_least (omega (arith, c.in-len1.len_below)) c.only-item.is
    (goes_then c.put-in-len1.ensures (goes_then c.put_operand.ensures c.put-in-len1-2.ensures))

pub returns-in-len1-up : goal.returns-in-len1-up
returns-in-len1-up g c =
    opened_tuple (crate_in c.args.program.now) (map (at_id (trees_of c.args.program.now.types)) c.args.locals.now) c.args.operands.now c.first-item.result c.in-len1-up.len_at_least c.first-item.is
    (goes_then c.put-in-len1-up.ensures (goes_then c.put_operand-in-len1-up.ensures (goes_then c.put_more_operands.ensures c.put-in-len1-up-2.ensures)))
