use Rattle.std.proofs.Common.{map, arith}
use Rattle.mir_print.specs.Seen.{crate_in}
use Rattle.mir_syntax.specs.Tree.{trees_of}
use Rattle.mir_syntax.specs.Crate.{field_of}
use Rattle.mir_print.proofs.Texts.{opened}
use Rattle.mir_print.proofs.Printing.{goes_then}
use Rattle.mir_text.specs.Text.{braced_text}
use Rattle.mir_print.proofs.items.put_braced.Goals as goal

pub returns-in-len1-up : goal.returns-in-len1-up
unfolding braced_text
returns-in-len1-up g c =
    opened (λ xs. braced_text (crate_in c.args.program.now) (map (field_of (trees_of c.args.program.now.types)) xs)) c.args.fields.now c.first-item.result (omega (arith, c.in-len1-up.len_at_least)) c.first-item.is (goes_then c.put-in-len1-up.ensures (goes_then c.put_field.ensures (goes_then c.put_more_fields.ensures c.put-in-len1-up-2.ensures)))
