use Rattle.std.proofs.Common.{map, arith, ◌∷◌}
use Rattle.mir_print.specs.Seen.{crate_in}
use Rattle.mir_syntax.specs.Tree.{at_id, trees_of}
use Rattle.mir_syntax.specs.Crate.{field_of}
use Rattle.mir_text.specs.StatementText.{named_text}
use Rattle.mir_print.proofs.Texts.{opened}
use Rattle.mir_print.proofs.Printing.{goes_then}
use Rattle.mir_print.proofs.build.put_some_named.Goals as goal

pub returns-in-len1-up : goal.returns-in-len1-up
unfolding named_text
returns-in-len1-up g c =
    opened (λ xs. named_text (crate_in c.args.program.now) (map (at_id (trees_of c.args.program.now.types)) c.args.locals.now) (field_of (trees_of c.args.program.now.types) c.args.field.now ∷ map (field_of (trees_of c.args.program.now.types)) c.args.fields.now) xs)
    c.args.operands.now c.operand-item.result (omega (arith, c.in-len1-up.len_at_least)) c.operand-item.is
    (goes_then c.put-in-len1-up.ensures (goes_then c.put_name.ensures (goes_then c.put-in-len1-up-2.ensures (goes_then c.put_operand.ensures (goes_then c.put_more_named.ensures c.put-in-len1-up-3.ensures)))))
