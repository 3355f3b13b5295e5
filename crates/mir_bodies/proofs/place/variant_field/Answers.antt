use Rattle.std.proofs.Common.{◌≡◌, length, Some, None, ap, ◌∙◌}
use Rattle.std.specs.Option.{option_map}
use Rattle.mir_syntax.specs.Tree.{at_id, trees_of}
use Rattle.mir_syntax.specs.Crate.{crate_of}
use Rattle.mir_syntax.specs.Shapes.{shapes_of}
use Rattle.mir_syntax.proofs.InTable.{field-read}
use Rattle.mir_bodies.specs.Places.{downcast_by}
use Rattle.mir_bodies.proofs.OnTypes.{none_then, some_then, none_downcast, no_variant, field_in}
use Rattle.mir_bodies.proofs.place.variant_field.Goals as goal

pub returns-in_err-ty-clause-ty : goal.returns-in_err-ty-clause-ty
returns-in_err-ty-clause-ty c =
    let D = shapes_of (crate_of c.args.program.now) in
    rw c.from_residual.ensures (none_then (at_id (trees_of c.args.program.now.types)) (λ u. downcast_by D u c.args.index c.args.variant) c.args.ty c.in_err-ty.was)

pub returns-in_err-variant-clause-ty : goal.returns-in_err-variant-clause-ty
returns-in_err-variant-clause-ty c =
    let D = shapes_of (crate_of c.args.program.now) in
    let none : c.args.variant ≡ None = c.in_err-variant.was in
    rw (c.from_residual-in_err-variant.ensures, none) (none_downcast D (at_id (trees_of c.args.program.now.types)) c.args.index c.args.ty)

pub returns-in_err-variant_fields-clause-ty : goal.returns-in_err-variant_fields-clause-ty
returns-in_err-variant_fields-clause-ty c =
    let D = shapes_of (crate_of c.args.program.now) in
    let trees = trees_of c.args.program.now.types in
    let some : c.args.variant ≡ Some c.in_ok-variant.field-0 = c.in_ok-variant.was in
    rw (c.from_residual-in_err-variant_fields.ensures, some)
    (some_then (at_id trees) (λ u. downcast_by D u c.args.index (Some c.in_ok-variant.field-0)) c.args.ty c.in_ok-ty.field-0 None c.in_ok-ty.was
    (no_variant D (at_id trees c.in_ok-ty.field-0) c.in_ok-variant.field-0 c.args.index c.in_err-variant_fields.ensures.fields))

pub returns-clause-ty : goal.returns-clause-ty
returns-clause-ty c =
    let D = shapes_of (crate_of c.args.program.now) in
    let trees = trees_of c.args.program.now.types in
    let some : c.args.variant ≡ Some c.in_ok-variant.field-0 = c.in_ok-variant.was in
    rw some
    (some_then (at_id trees) (λ u. downcast_by D u c.args.index (Some c.in_ok-variant.field-0)) c.args.ty c.in_ok-ty.field-0 _ c.in_ok-ty.was
    (ap (option_map (at_id trees)) c.field_at.ensures
    ∙ field_in D trees (at_id trees c.in_ok-ty.field-0) c.in_ok-variant.field-0 c.args.index c.in_ok-variant_fields.field-0.now c.in_ok-variant_fields.ensures.fields))

pub returns-clause-in_table : goal.returns-clause-in_table
returns-clause-in_table c =
    λ h. field-read (length c.args.program.now.types) c.in_ok-variant_fields.field-0.now c.args.index c.field_at.result (c.in_ok-variant_fields.ensures.in_table h) c.field_at.ensures
