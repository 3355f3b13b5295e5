use Rattle.std.proofs.Common.{ap, sym, ◌∙◌}
use Rattle.mir_text.specs.Names.{path_bytes}
use Rattle.mir_tree.specs.Types.{path_rule}
use Rattle.mir_bodies.specs.Builds.{pair_of, struct_by_path, variant_by_rule}
use Rattle.mir_bodies.proofs.Building.{or_some, or_other}
use Rattle.mir_bodies.proofs.build.built_by.Goals as goal

pub returns-in-Some : goal.returns-in-Some
returns-in-Some g c =
    let rule = path_rule c.args.path.now in
    or_some (pair_of c.in-Some.built) (struct_by_path g.sense.names (path_bytes g.sense.names.strings rule)) (variant_by_rule g.sense.names rule)
    (c.in-Some.ensures
    ∙ ap (struct_by_path g.sense.names) (c.as_slice.ensures ∙ c.in_ok-put_path.ensures ∙ ap (λ s. path_bytes s rule) (sym c.requires.strings)))

pub returns-in_ok-built-in-None : goal.returns-in_ok-built-in-None
returns-in_ok-built-in-None g c =
    let rule = path_rule c.args.path.now in
    or_other _ (struct_by_path g.sense.names (path_bytes g.sense.names.strings rule)) (variant_by_rule g.sense.names rule)
    (c.in-None.ensures
    ∙ ap (struct_by_path g.sense.names) (c.as_slice.ensures ∙ c.in_ok-put_path.ensures ∙ ap (λ s. path_bytes s rule) (sym c.requires.strings)))
    c.in_ok-built-in-None.ensures

pub variant_by_last-requires : goal.variant_by_last-requires
variant_by_last-requires g c =
    let rule = path_rule c.args.path.now in
    (c.requires, c.as_slice-in-None.ensures ∙ c.in_ok-put_path.ensures ∙ ap (λ s. path_bytes s rule) (sym c.requires.strings))
