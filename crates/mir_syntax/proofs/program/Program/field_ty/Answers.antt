use Rattle.std.proofs.Common.{sym, ap, ◌∙◌}
use Rattle.mir_syntax.specs.Tree.{trees_of, at_id, node, named}
use Rattle.mir_syntax.specs.Crate.{crate_of}
use Rattle.mir_syntax.specs.Shapes.{shapes_of}
use Rattle.mir_syntax.proofs.Places.{scalar-field, other-field, tuple-field, no-field, field-of-fields}
use Rattle.std.proofs.Common.{length, IsTrue}
use Rattle.mir_syntax.specs.declared.types.Ty.TheVariants.{Tuple}
use Rattle.mir_syntax.specs.Table.{ids_below}
use Rattle.mir_syntax.proofs.InTable.{id-read, field-read}
use Rattle.mir_syntax.proofs.program.Program.field_ty.Goals as goal

pub returns-in_err-ids-clause-ty : goal.returns-in_err-ids-clause-ty
returns-in_err-ids-clause-ty c =
    rw c.from_residual.ensures (sym (scalar-field (shapes_of (crate_of c.args.self.now)) (at_id (trees_of c.args.self.now.types) c.args.id) c.args.index c.in_err-ids.ensures.stands))

pub returns-in_err-struct_fields-in-Named-clause-ty : goal.returns-in_err-struct_fields-in-Named-clause-ty
returns-in_err-struct_fields-in-Named-clause-ty c =
    rw (c.from_residual-in_err-struct_fields-in-Named.ensures, (c.in_ok-ids.ensures.stands ∙ ap (node (trees_of c.args.self.now.types)) c.in-Named.is)) (sym (no-field (shapes_of (crate_of c.args.self.now)) (named c.in-Named.def) c.args.index c.in_err-struct_fields-in-Named.ensures.fields))

pub returns-in-Tuple-clause-ty : goal.returns-in-Tuple-clause-ty
returns-in-Tuple-clause-ty c =
    rw (c.copied.ensures, c.get.ensures, c.in_ok-ids.ensures.stands, c.in-Tuple.is) (tuple-field (shapes_of (crate_of c.args.self.now)) (trees_of c.args.self.now.types) c.in-Tuple.ids c.args.index)

pub returns-in_ok-struct_fields-in-Named-clause-ty : goal.returns-in_ok-struct_fields-in-Named-clause-ty
returns-in_ok-struct_fields-in-Named-clause-ty c =
    rw (c.field_at.ensures, (c.in_ok-ids.ensures.stands ∙ ap (node (trees_of c.args.self.now.types)) c.in-Named.is)) (field-of-fields (shapes_of (crate_of c.args.self.now)) (trees_of c.args.self.now.types) (named c.in-Named.def) c.in_ok-struct_fields-in-Named.field-0.now c.args.index c.in_ok-struct_fields-in-Named.ensures.fields)

pub returns-in_default-clause-ty : goal.returns-in_default-clause-ty
returns-in_default-clause-ty c =
    rw c.in_ok-ids.ensures.stands (sym (other-field (shapes_of (crate_of c.args.self.now)) (trees_of c.args.self.now.types) c.in_ok-ids.field-0.now c.args.index c.in_default.not-Tuple c.in_default.not-Named))

pub returns-in-Tuple-clause-in_table : goal.returns-in-Tuple-clause-in_table
returns-in-Tuple-clause-in_table c =
    λ h.
    let made : IsTrue (ids_below (length c.args.self.now.types) (Tuple c.in-Tuple.ids)) = rw c.in-Tuple.is at c.in_ok-ids.ensures.made in
    id-read (length c.args.self.now.types) c.in-Tuple.ids c.args.index c.copied.result made (c.copied.ensures ∙ c.get.ensures)

pub returns-in_ok-struct_fields-in-Named-clause-in_table : goal.returns-in_ok-struct_fields-in-Named-clause-in_table
returns-in_ok-struct_fields-in-Named-clause-in_table c =
    λ h. field-read (length c.args.self.now.types) c.in_ok-struct_fields-in-Named.field-0.now c.args.index c.field_at.result (c.in_ok-struct_fields-in-Named.ensures.in_table h) c.field_at.ensures
