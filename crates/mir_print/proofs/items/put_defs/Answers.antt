use Rattle.std.proofs.Common.{map, arith}
use Rattle.mir_print.specs.Seen.{crate_in}
use Rattle.mir_syntax.specs.Tree.{trees_of}
use Rattle.mir_text.specs.Text.{defs_text}
use Rattle.mir_syntax.specs.Crate.{def_of}
use Rattle.mir_print.proofs.Texts.{remains_more, remains_none, first_def, no_defs}
use Rattle.mir_print.proofs.items.put_defs.Goals as goal

pub loop-def-preserved : goal.loop-def-preserved
loop-def-preserved g c =
    remains_more ((λ xs. defs_text (crate_in c.args.program.now) (map (def_of (trees_of c.args.program.now.types)) xs))) ((λ xs. defs_text (crate_in c.args.program.now) (map (def_of (trees_of c.args.program.now.types)) xs))) c.args.defs.now c.loop-def.def-index c.def-item.result
    (omega (arith, c.loop-def-test.true)) c.def-item.is (first_def (crate_in c.args.program.now) _ _) c.loop-def.invariant c.put_def.ensures

pub returns : goal.returns
returns g c =
    remains_none ((λ xs. defs_text (crate_in c.args.program.now) (map (def_of (trees_of c.args.program.now.types)) xs))) c.args.defs.now c.loop-def.def-index (omega (arith, c.loop-def-test.false)) (no_defs (crate_in c.args.program.now)) c.loop-def.invariant
