use Rattle.std.proofs.Common.{map, arith}
use Rattle.mir_print.specs.Seen.{crate_in}
use Rattle.mir_syntax.specs.Tree.{trees_of}
use Rattle.mir_text.specs.TypeText.{more_items}
use Rattle.mir_text.specs.Text.{variant_text}
use Rattle.mir_syntax.specs.Crate.{variant_of}
use Rattle.mir_print.proofs.Texts.{remains_more, remains_none, first_item, no_items}
use Rattle.mir_print.proofs.items.put_more_variants.Goals as goal

pub loop-variant-preserved : goal.loop-variant-preserved
loop-variant-preserved g c =
    remains_more ((λ xs. more_items (variant_text (crate_in c.args.program.now)) (map (variant_of (trees_of c.args.program.now.types)) xs))) ((λ xs. more_items (variant_text (crate_in c.args.program.now)) (map (variant_of (trees_of c.args.program.now.types)) xs))) c.args.variants.now c.loop-variant.variant-index c.variant-item.result
    (omega (arith, c.loop-variant-test.true)) c.variant-item.is (first_item (variant_text (crate_in c.args.program.now)) _ _) c.loop-variant.invariant c.put_next_variant.ensures

pub returns : goal.returns
returns g c =
    remains_none ((λ xs. more_items (variant_text (crate_in c.args.program.now)) (map (variant_of (trees_of c.args.program.now.types)) xs))) c.args.variants.now c.loop-variant.variant-index (omega (arith, c.loop-variant-test.false)) (no_items (variant_text (crate_in c.args.program.now))) c.loop-variant.invariant
