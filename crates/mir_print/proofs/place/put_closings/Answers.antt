use Rattle.std.proofs.Common.{arith}
use Rattle.mir_print.specs.Seen.{crate_in}
use Rattle.mir_syntax.specs.Tree.{trees_of}
use Rattle.mir_text.specs.PlaceText.{closings}
use Rattle.mir_print.specs.Parts.{part_tree}
use Rattle.mir_print.proofs.Texts.{remains_none, no_closings, closings_more}
use Rattle.mir_print.proofs.place.put_closings.Goals as goal

pub loop-proj-preserved : goal.loop-proj-preserved
loop-proj-preserved g c =
    closings_more (crate_in c.args.program.now) (part_tree (trees_of c.args.program.now.types) c.loop-proj.part) (part_tree (trees_of c.args.program.now.types) c.part_after-part.result) c.args.projs.now c.loop-proj.proj-index _ (omega (arith, c.loop-proj-test.true)) c.part_after-part.ensures c.loop-proj.invariant c.put_closing.ensures

pub returns : goal.returns
returns g c =
    remains_none (λ xs. closings (crate_in c.args.program.now) (part_tree (trees_of c.args.program.now.types) c.loop-proj.part) xs) c.args.projs.now c.loop-proj.proj-index (omega (arith, c.loop-proj-test.false)) (no_closings (crate_in c.args.program.now) (part_tree (trees_of c.args.program.now.types) c.loop-proj.part)) c.loop-proj.invariant
