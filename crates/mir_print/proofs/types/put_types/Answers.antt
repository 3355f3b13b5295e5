use Rattle.std.proofs.Common.{map, arith}
use Rattle.mir_print.specs.Seen.{crate_in}
use Rattle.mir_syntax.specs.Tree.{at_id, trees_of}
use Rattle.mir_text.specs.TypeText.{type_text, comma_list}
use Rattle.mir_print.proofs.Texts.{opened_copy}
use Rattle.mir_print.proofs.Printing.{goes_then}
use Rattle.mir_print.proofs.types.put_types.Goals as goal

pub returns-in-len1-up : goal.returns-in-len1-up
unfolding comma_list
returns-in-len1-up g c =
    opened_copy (λ xs. comma_list (type_text (crate_in c.args.program.now)) (map (at_id (trees_of c.args.program.now.types)) xs)) c.args.ids.now _ (omega (arith, c.in-len1-up.len_at_least)) (goes_then c.put_type.ensures c.put_more_types.ensures)
