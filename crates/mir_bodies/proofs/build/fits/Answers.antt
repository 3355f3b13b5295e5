use Rattle.std.proofs.Common.{ap, ◌∙◌}
use Rattle.mir_syntax.specs.Tree.{trees_of}
use Rattle.mir_text.specs.NameFaults.{variant_fits}
use Rattle.mir_tree.specs.Bodies.{build_rule}
use Rattle.mir_bodies.proofs.build.fits.Goals as goal

pub returns-in-Some : goal.returns-in-Some
returns-in-Some g c =
    c.has_form.ensures g.sense.names (trees_of c.args.program.now.types) c.requires.strings
    ∙ ap (variant_fits g.sense.names (build_rule c.args.parts.now)) (c.in-Some.ensures g.sense.names c.requires.defs)

pub returns-in-None : goal.returns-in-None
returns-in-None g c = ap (variant_fits g.sense.names (build_rule c.args.parts.now)) (c.in-None.ensures g.sense.names c.requires.defs)
