use Rattle.std.proofs.Common.{ap, sym, ◌∙◌}
use Rattle.mir_text.specs.Words.{place_in}
use Rattle.mir_text.specs.Names.{string_at}
use Rattle.mir_text.specs.NamedBodies.{enum_variant_at}
use Rattle.mir_bodies.proofs.Building.{none_on, some_on}
use Rattle.mir_bodies.proofs.build.variant_named.Goals as goal

pub returns-in_ok-built-in-Some : goal.returns-in_ok-built-in-Some
returns-in_ok-built-in-Some g c =
    some_on (enum_variant_at g.sense.names (string_at g.sense.names.strings c.args.name)) (place_in g.sense.names.paths c.args.path.now) c.in-Some.def _
    (c.in-Some.ensures ∙ ap (λ ps. place_in ps c.args.path.now) (sym c.requires.paths)) c.in_ok-built-in-Some.ensures

pub returns-in-None : goal.returns-in-None
returns-in-None g c =
    none_on (enum_variant_at g.sense.names (string_at g.sense.names.strings c.args.name)) (place_in g.sense.names.paths c.args.path.now)
    (c.in-None.ensures ∙ ap (λ ps. place_in ps c.args.path.now) (sym c.requires.paths))
