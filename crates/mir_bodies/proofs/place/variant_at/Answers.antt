use Rattle.std.proofs.Common.{map, ap, sym, ◌∙◌}
use Rattle.std.specs.Option.{option_map}
use Rattle.mir_syntax.specs.Tree.{at_id, trees_of}
use Rattle.mir_syntax.specs.Crate.{def_of}
use Rattle.mir_text.specs.Words.{place_in}
use Rattle.mir_text.specs.Names.{string_at}
use Rattle.mir_bodies.specs.Places.{name_of}
use Rattle.mir_bodies.proofs.OnTypes.{variant_found, variant_missing}
use Rattle.mir_bodies.proofs.place.variant_at.Goals as goal

pub returns-in_ok-number-in-Some : goal.returns-in_ok-number-in-Some
returns-in_ok-number-in-Some g c =
    let trees = trees_of c.args.program.now.types in
    c.in_ok-number-in-Some.ensures
    ∙ ap (place_in (map name_of c.in-Some.variants.now)) (c.string_of.ensures ∙ ap (λ s. string_at s c.args.name) (sym c.requires.strings))
    ∙ variant_found g.sense.names (string_at g.sense.names.strings c.args.name) trees (option_map (at_id trees) c.args.ty) (map (def_of trees) c.args.program.now.defs)
    c.in-Some.variants.now c.requires.defs c.in-Some.ensures

pub returns-in-None : goal.returns-in-None
returns-in-None g c =
    let trees = trees_of c.args.program.now.types in
    variant_missing g.sense.names (string_at g.sense.names.strings c.args.name) (option_map (at_id trees) c.args.ty) (map (def_of trees) c.args.program.now.defs)
    c.requires.defs c.in-None.ensures
