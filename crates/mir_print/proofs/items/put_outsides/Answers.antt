use Rattle.std.proofs.Common.{map, arith}
use Rattle.mir_print.specs.Seen.{crate_in}
use Rattle.mir_syntax.specs.Tree.{trees_of}
use Rattle.mir_text.specs.Text.{outsides_text}
use Rattle.mir_syntax.specs.Crate.{outside_of}
use Rattle.mir_print.proofs.Texts.{remains_more, remains_none, first_outside, no_outsides}
use Rattle.mir_print.proofs.items.put_outsides.Goals as goal

pub loop-outside-preserved : goal.loop-outside-preserved
loop-outside-preserved g c =
    remains_more ((λ xs. outsides_text (crate_in c.args.program.now) (map (outside_of (trees_of c.args.program.now.types)) xs))) ((λ xs. outsides_text (crate_in c.args.program.now) (map (outside_of (trees_of c.args.program.now.types)) xs))) c.args.outsides.now c.loop-outside.outside-index c.outside-item.result
    (omega (arith, c.loop-outside-test.true)) c.outside-item.is (first_outside (crate_in c.args.program.now) _ _) c.loop-outside.invariant c.put_outside.ensures

pub returns : goal.returns
returns g c =
    remains_none ((λ xs. outsides_text (crate_in c.args.program.now) (map (outside_of (trees_of c.args.program.now.types)) xs))) c.args.outsides.now c.loop-outside.outside-index (omega (arith, c.loop-outside-test.false)) (no_outsides (crate_in c.args.program.now)) c.loop-outside.invariant
