use Rattle.std.proofs.Common.{map, ap, sym, ◌∙◌}
use Rattle.std.specs.Option.{option_map}
use Rattle.mir_syntax.specs.Tree.{trees_of}
use Rattle.mir_syntax.specs.Crate.{def_of}
use Rattle.mir_text.specs.Words.{place_in}
use Rattle.mir_text.specs.Names.{string_at}
use Rattle.mir_bodies.specs.Places.{name_of}
use Rattle.mir_bodies.specs.Builds.{pair_with}
use Rattle.mir_bodies.proofs.Building.{variant_built, variant_unbuilt}
use Rattle.mir_bodies.proofs.build.enum_variant.Goals as goal

pub returns-in_ok-number-in-Some : goal.returns-in_ok-number-in-Some
returns-in_ok-number-in-Some g c =
    let trees = trees_of c.args.program.now.types in
    let d = c.args.def in
    c.with_variant.ensures
    ∙ ap (option_map (pair_with d))
    (c.in_ok-number-in-Some.ensures
    ∙ ap (place_in (map name_of c.in-Some.variants.now)) (c.string_of.ensures ∙ ap (λ s. string_at s c.args.name) (sym c.requires.strings)))
    ∙ variant_built g.sense.names (string_at g.sense.names.strings c.args.name) trees d (map (def_of trees) c.args.program.now.defs) c.in-Some.variants.now c.requires.defs c.in-Some.ensures

pub returns-in-None : goal.returns-in-None
returns-in-None g c =
    let trees = trees_of c.args.program.now.types in
    variant_unbuilt g.sense.names (string_at g.sense.names.strings c.args.name) c.args.def (map (def_of trees) c.args.program.now.defs) c.requires.defs c.in-None.ensures
