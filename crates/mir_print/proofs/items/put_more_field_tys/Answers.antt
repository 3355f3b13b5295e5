use Rattle.std.proofs.Common.{map, arith}
use Rattle.mir_print.specs.Seen.{crate_in}
use Rattle.mir_syntax.specs.Tree.{trees_of}
use Rattle.mir_text.specs.TypeText.{more_items}
use Rattle.mir_text.specs.Text.{field_ty_text}
use Rattle.mir_syntax.specs.Crate.{field_of}
use Rattle.mir_print.proofs.Texts.{remains_more, remains_none, first_item, no_items}
use Rattle.mir_print.proofs.items.put_more_field_tys.Goals as goal

pub loop-field-preserved : goal.loop-field-preserved
loop-field-preserved g c =
    remains_more ((λ xs. more_items (field_ty_text (crate_in c.args.program.now)) (map (field_of (trees_of c.args.program.now.types)) xs))) ((λ xs. more_items (field_ty_text (crate_in c.args.program.now)) (map (field_of (trees_of c.args.program.now.types)) xs))) c.args.fields.now c.loop-field.field-index c.field-item.result
    (omega (arith, c.loop-field-test.true)) c.field-item.is (first_item (field_ty_text (crate_in c.args.program.now)) _ _) c.loop-field.invariant c.put_next_field_ty.ensures

pub returns : goal.returns
returns g c =
    remains_none ((λ xs. more_items (field_ty_text (crate_in c.args.program.now)) (map (field_of (trees_of c.args.program.now.types)) xs))) c.args.fields.now c.loop-field.field-index (omega (arith, c.loop-field-test.false)) (no_items (field_ty_text (crate_in c.args.program.now))) c.loop-field.invariant
