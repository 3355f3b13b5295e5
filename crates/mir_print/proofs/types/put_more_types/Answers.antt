use Rattle.std.proofs.Common.{map, arith}
use Rattle.mir_print.specs.Seen.{crate_in}
use Rattle.mir_syntax.specs.Tree.{at_id, trees_of}
use Rattle.mir_text.specs.TypeText.{more_items, type_text}
use Rattle.mir_print.proofs.Texts.{remains_next, remains_none, first_item, no_items}
use Rattle.mir_print.proofs.types.put_more_types.Goals as goal

pub loop-id-preserved : goal.loop-id-preserved
loop-id-preserved g c =
    remains_next ((λ xs. more_items (type_text (crate_in c.args.program.now)) (map (at_id (trees_of c.args.program.now.types)) xs))) ((λ xs. more_items (type_text (crate_in c.args.program.now)) (map (at_id (trees_of c.args.program.now.types)) xs))) c.args.ids.now c.loop-id.id-index _
    (omega (arith, c.loop-id-test.true)) (first_item (type_text (crate_in c.args.program.now)) _ _) c.loop-id.invariant c.put_next_type.ensures

pub returns : goal.returns
returns g c =
    remains_none ((λ xs. more_items (type_text (crate_in c.args.program.now)) (map (at_id (trees_of c.args.program.now.types)) xs))) c.args.ids.now c.loop-id.id-index (omega (arith, c.loop-id-test.false)) (no_items (type_text (crate_in c.args.program.now))) c.loop-id.invariant
