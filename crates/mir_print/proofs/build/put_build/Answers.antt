use Rattle.std.proofs.Common.{map, sym}
use Rattle.mir_syntax.specs.Tree.{at_id, trees_of}
use Rattle.mir_print.proofs.Builds.{goes_no_def, goes_no_variant, goes_built}
use Rattle.mir_print.proofs.build.put_build.Goals as goal

pub returns-in_default : goal.returns-in_default
returns-in_default g c =
    goes_no_def c.args.program.now (map (at_id (trees_of c.args.program.now.types)) c.args.locals.now) c.args.operands.now c.args.def c.args.variant (sym c.in_default.ensures)

pub returns-in-None : goal.returns-in-None
returns-in-None g c =
    goes_no_variant c.args.program.now (map (at_id (trees_of c.args.program.now.types)) c.args.locals.now) c.args.operands.now c.args.def c.args.variant c.in-Some.def.now (sym c.in-Some.ensures) (sym c.in-None.ensures) c.put_bare_build.ensures

pub returns-in-Some-get : goal.returns-in-Some-get
returns-in-Some-get g c =
    goes_built c.args.program.now (map (at_id (trees_of c.args.program.now.types)) c.args.locals.now) c.args.operands.now c.args.def c.args.variant c.in-Some.def.now c.in-Some-get.variant.now (sym c.in-Some.ensures) (sym c.in-Some-get.ensures) c.put_variant_build.ensures
