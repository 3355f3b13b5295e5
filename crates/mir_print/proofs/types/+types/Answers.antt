use Rattle.std.proofs.Common.{arith}
use Rattle.mir_print.specs.Seen.{crate_in}
use Rattle.mir_syntax.specs.Tree.{at_ids, trees_of}
use Rattle.mir_text.specs.TypeText.{type_text, parts_text, rest_text}
use Rattle.mir_syntax.proofs.Lists.{id_below}
use Rattle.mir_print.proofs.Texts.{remains_next, remains_end, first_part, no_parts, opened_copy, past_table}
use Rattle.mir_print.proofs.Printing.{goes_then}
use Rattle.mir_print.proofs.types.+types.Goals as goal

pub put_type-returns-else-id-types : goal.put_type-returns-else-id-types
put_type-returns-else-id-types g t c =
    rw (past_table (crate_in c.args.program.now) c.args.program.now.types c.args.id (omega (arith, c.if-id-types.false, c.types.ensures))) c.put_scalar.ensures

pub put_tuple-returns-in-len1-up : goal.put_tuple-returns-in-len1-up
unfolding type_text
put_tuple-returns-in-len1-up g t c =
    opened_copy (λ xs. type_text (crate_in c.args.program.now) (at_ids (trees_of c.args.program.now.types) xs)) c.args.ids.now _ (omega (arith, c.in-len1-up.len_at_least)) (goes_then c.put-in-len1-up.ensures (goes_then c.put_type.ensures c.put_rest.ensures))

pub put_rest-returns-in-len1-up : goal.put_rest-returns-in-len1-up
unfolding rest_text
put_rest-returns-in-len1-up g t c =
    opened_copy (λ xs. rest_text (crate_in c.args.program.now) (at_ids (trees_of c.args.program.now.types) xs)) c.args.ids.now _ (omega (arith, c.in-len1-up.len_at_least)) (goes_then c.put-in-len1-up.ensures (goes_then c.put_type.ensures c.put_parts.ensures))

pub put_parts-put_type-requires : goal.put_parts-put_type-requires
put_parts-put_type-requires g t c =
    λ κs inside. grind (arith, id_below, c.requires, c.loop-id-test.true)

pub put_parts-loop-id-preserved : goal.put_parts-loop-id-preserved
put_parts-loop-id-preserved g t c =
    remains_next (λ xs. parts_text (crate_in c.args.program.now) (at_ids (trees_of c.args.program.now.types) xs)) (λ xs. parts_text (crate_in c.args.program.now) (at_ids (trees_of c.args.program.now.types) xs)) c.args.ids.now c.loop-id.id-index _ (omega (arith, c.loop-id-test.true)) (first_part (crate_in c.args.program.now) (trees_of c.args.program.now.types) _ _) c.loop-id.invariant (goes_then c.put.ensures c.put_type.ensures)

pub put_parts-returns : goal.put_parts-returns
put_parts-returns g t c =
    remains_end (λ xs. parts_text (crate_in c.args.program.now) (at_ids (trees_of c.args.program.now.types) xs)) c.args.ids.now c.loop-id.id-index (omega (arith, c.loop-id-test.false)) (no_parts (crate_in c.args.program.now) (trees_of c.args.program.now.types)) c.loop-id.invariant c.put-2.ensures
