use Rattle.std.proofs.Common.{map, arith, ◌+◌}
use Rattle.mir_print.specs.Seen.{crate_in}
use Rattle.mir_syntax.specs.Tree.{at_id, trees_of}
use Rattle.mir_text.specs.Text.{lets_text}
use Rattle.mir_print.proofs.Texts.{remains_next, remains_none, first_let, no_lets}
use Rattle.mir_print.proofs.function.put_lets.Goals as goal

pub loop-index-preserved : goal.loop-index-preserved
loop-index-preserved g c =
    remains_next ((λ xs. lets_text (crate_in c.args.program.now) (c.args.first + c.loop-index.index) (map (at_id (trees_of c.args.program.now.types)) xs))) ((λ xs. lets_text (crate_in c.args.program.now) (c.args.first + (c.loop-index.index + 1)) (map (at_id (trees_of c.args.program.now.types)) xs))) c.args.types.now c.loop-index.index _
    (omega (arith, c.loop-index-test.true, c.loop-index.auto.index-end)) (first_let (crate_in c.args.program.now) (c.args.first + c.loop-index.index) (c.args.first + (c.loop-index.index + 1)) _ _ (omega arith)) c.loop-index.invariant c.put_let.ensures

pub returns : goal.returns
returns g c =
    remains_none ((λ xs. lets_text (crate_in c.args.program.now) (c.args.first + c.loop-index.index) (map (at_id (trees_of c.args.program.now.types)) xs))) c.args.types.now c.loop-index.index (omega (arith, c.loop-index-test.false, c.loop-index.auto.index-end)) (no_lets (crate_in c.args.program.now) (c.args.first + c.loop-index.index)) c.loop-index.invariant
