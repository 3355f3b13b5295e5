use Rattle.std.proofs.Common.{Some, sym, ap, refl, ◌∙◌}
use Rattle.std.specs.Option.{option_map}
use Rattle.mir_syntax.specs.declared.body.Proj.TheVariants as proj
use Rattle.mir_syntax.specs.Tree.{trees_of, at_id}
use Rattle.mir_syntax.specs.Crate.{crate_of}
use Rattle.mir_syntax.specs.Shapes.{shapes_of}
use Rattle.mir_syntax.proofs.Places.{path-none, path-on, ends-deref, ends-field, path-variant, path-variant-none, path-downcast, through_none, through-downcast, through-variant}
use Rattle.std.proofs.Common.{length}
use Rattle.mir_syntax.proofs.InTable.{field-read}
use Rattle.mir_syntax.proofs.program.Program.project.Goals as goal

pub returns-in_err-pointee-in-Deref-clause-path : goal.returns-in_err-pointee-in-Deref-clause-path
returns-in_err-pointee-in-Deref-clause-path c =
    rw (c.from_residual.ensures, c.in-Deref.is) (path-none (shapes_of (crate_of c.args.self.now)) (at_id (trees_of c.args.self.now.types) c.args.id) proj.Deref c.args.rest.now (sym c.in_err-pointee-in-Deref.ensures.ty))

pub returns-in_err-field_ty-in-Field-clause-path : goal.returns-in_err-field_ty-in-Field-clause-path
returns-in_err-field_ty-in-Field-clause-path c =
    rw (c.from_residual-in_err-field_ty-in-Field.ensures, c.in-Field.is) (path-none (shapes_of (crate_of c.args.self.now)) (at_id (trees_of c.args.self.now.types) c.args.id) (proj.Field c.in-Field.index) c.args.rest.now (sym c.in_err-field_ty-in-Field.ensures.ty))

pub returns-in_ok-pointee-in-Deref-clause-path : goal.returns-in_ok-pointee-in-Deref-clause-path
returns-in_ok-pointee-in-Deref-clause-path c =
    rw c.in-Deref.is (path-on (shapes_of (crate_of c.args.self.now)) (at_id (trees_of c.args.self.now.types) c.args.id) (at_id (trees_of c.args.self.now.types) c.in_ok-pointee-in-Deref.field-0) proj.Deref c.args.rest.now (ends-deref c.args.rest.now) (sym c.in_ok-pointee-in-Deref.ensures.ty))

pub returns-in_ok-field_ty-in-Field-clause-path : goal.returns-in_ok-field_ty-in-Field-clause-path
returns-in_ok-field_ty-in-Field-clause-path c =
    rw c.in-Field.is (path-on (shapes_of (crate_of c.args.self.now)) (at_id (trees_of c.args.self.now.types) c.args.id) (at_id (trees_of c.args.self.now.types) c.in_ok-field_ty-in-Field.field-0) (proj.Field c.in-Field.index) c.args.rest.now (ends-field c.in-Field.index c.args.rest.now) (sym c.in_ok-field_ty-in-Field.ensures.ty))

pub returns-in_err-index-in-Downcast-clause-path : goal.returns-in_err-index-in-Downcast-clause-path
returns-in_err-index-in-Downcast-clause-path c =
    rw (c.from_residual-in_err-index-in-Downcast.ensures, c.in-Downcast.is) (path-downcast c.args.self.now (at_id (trees_of c.args.self.now.types) c.args.id) c.in-Downcast.variant c.args.rest.now c.in_err-index-in-Downcast.ensures)

pub returns-in_err-variant_fields-in-Downcast-clause-path : goal.returns-in_err-variant_fields-in-Downcast-clause-path
returns-in_err-variant_fields-in-Downcast-clause-path c =
    rw (c.from_residual-in_err-variant_fields-in-Downcast.ensures, c.in-Downcast.is) (path-none (shapes_of (crate_of c.args.self.now)) (at_id (trees_of c.args.self.now.types) c.args.id) (proj.Downcast c.in-Downcast.variant) c.args.rest.now (sym c.in_err-variant_fields-in-Downcast.ensures.fields))

pub returns-in_err-field_at-in-Downcast-clause-path : goal.returns-in_err-field_at-in-Downcast-clause-path
returns-in_err-field_at-in-Downcast-clause-path c =
    let fields = c.in_ok-variant_fields-in-Downcast.field-0.now in
    let none = ap (option_map (at_id (trees_of c.args.self.now.types))) (sym c.in_err-field_at-in-Downcast.ensures) in
    rw (c.from_residual-in_err-field_at-in-Downcast.ensures, c.in-Downcast.is, c.in_ok-index-in-Downcast.ensures)
    (path-variant-none (shapes_of (crate_of c.args.self.now)) (trees_of c.args.self.now.types) (at_id (trees_of c.args.self.now.types) c.args.id) c.in-Downcast.variant c.in_ok-index-in-Downcast.index fields c.in_ok-index-in-Downcast.rest.now (sym c.in_ok-variant_fields-in-Downcast.ensures.fields) none)

pub returns-in_ok-field_at-in-Downcast-clause-path : goal.returns-in_ok-field_at-in-Downcast-clause-path
returns-in_ok-field_at-in-Downcast-clause-path c =
    let fields = c.in_ok-variant_fields-in-Downcast.field-0.now in
    let some = ap (option_map (at_id (trees_of c.args.self.now.types))) (sym c.in_ok-field_at-in-Downcast.ensures) in
    rw (c.in-Downcast.is, c.in_ok-index-in-Downcast.ensures)
    (path-variant (shapes_of (crate_of c.args.self.now)) (trees_of c.args.self.now.types) (at_id (trees_of c.args.self.now.types) c.args.id) c.in-Downcast.variant c.in_ok-index-in-Downcast.index fields (at_id (trees_of c.args.self.now.types) c.in_ok-field_at-in-Downcast.field-0) c.in_ok-index-in-Downcast.rest.now
    (sym c.in_ok-variant_fields-in-Downcast.ensures.fields) some)

pub returns-in_ok-field_at-in-Downcast-clause-in_table : goal.returns-in_ok-field_at-in-Downcast-clause-in_table
returns-in_ok-field_at-in-Downcast-clause-in_table c =
    λ h.
    field-read (length c.args.self.now.types) c.in_ok-variant_fields-in-Downcast.field-0.now c.in_ok-index-in-Downcast.index (Some c.in_ok-field_at-in-Downcast.field-0)
    (c.in_ok-variant_fields-in-Downcast.ensures.in_table h) c.in_ok-field_at-in-Downcast.ensures

-- ---- destructors on the way

pub returns-in_err-pointee-in-Deref-clause-through : goal.returns-in_err-pointee-in-Deref-clause-through
returns-in_err-pointee-in-Deref-clause-through c =
    rw (c.from_residual.ensures, c.in-Deref.is, ← c.in_err-pointee-in-Deref.ensures.ty) (through_none (shapes_of (crate_of c.args.self.now)) c.args.rest.now)

pub returns-in_err-field_ty-in-Field-clause-through : goal.returns-in_err-field_ty-in-Field-clause-through
returns-in_err-field_ty-in-Field-clause-through c =
    rw (c.from_residual-in_err-field_ty-in-Field.ensures, c.in-Field.is, ← c.in_err-field_ty-in-Field.ensures.ty) (through_none (shapes_of (crate_of c.args.self.now)) c.args.rest.now)

pub returns-in_err-index-in-Downcast-clause-through : goal.returns-in_err-index-in-Downcast-clause-through
returns-in_err-index-in-Downcast-clause-through c =
    rw (c.from_residual-in_err-index-in-Downcast.ensures, c.in-Downcast.is)
    (through-downcast c.args.self.now (at_id (trees_of c.args.self.now.types) c.args.id) c.in-Downcast.variant c.args.rest.now c.in_err-index-in-Downcast.ensures)

pub returns-in_err-variant_fields-in-Downcast-clause-through : goal.returns-in_err-variant_fields-in-Downcast-clause-through
returns-in_err-variant_fields-in-Downcast-clause-through c =
    rw (c.from_residual-in_err-variant_fields-in-Downcast.ensures, c.in-Downcast.is, ← c.in_err-variant_fields-in-Downcast.ensures.fields) (through_none (shapes_of (crate_of c.args.self.now)) c.args.rest.now)

pub returns-in_err-field_at-in-Downcast-clause-through : goal.returns-in_err-field_at-in-Downcast-clause-through
returns-in_err-field_at-in-Downcast-clause-through c =
    let D = shapes_of (crate_of c.args.self.now) in
    let fields = c.in_ok-variant_fields-in-Downcast.field-0.now in
    let rest = c.in_ok-index-in-Downcast.rest.now in
    let none = ap (option_map (at_id (trees_of c.args.self.now.types))) (sym c.in_err-field_at-in-Downcast.ensures) in
    rw (c.from_residual-in_err-field_at-in-Downcast.ensures, c.in-Downcast.is, c.in_ok-index-in-Downcast.ensures)
    (through-variant D (trees_of c.args.self.now.types) (at_id (trees_of c.args.self.now.types) c.args.id) c.in-Downcast.variant c.in_ok-index-in-Downcast.index fields _ rest
    (sym c.in_ok-variant_fields-in-Downcast.ensures.fields) none ∙ through_none D rest)

pub returns-in_ok-field_at-in-Downcast-clause-through : goal.returns-in_ok-field_at-in-Downcast-clause-through
returns-in_ok-field_at-in-Downcast-clause-through c =
    let fields = c.in_ok-variant_fields-in-Downcast.field-0.now in
    let some = ap (option_map (at_id (trees_of c.args.self.now.types))) (sym c.in_ok-field_at-in-Downcast.ensures) in
    rw (c.in-Downcast.is, c.in_ok-index-in-Downcast.ensures)
    (through-variant (shapes_of (crate_of c.args.self.now)) (trees_of c.args.self.now.types) (at_id (trees_of c.args.self.now.types) c.args.id) c.in-Downcast.variant c.in_ok-index-in-Downcast.index fields _ c.in_ok-index-in-Downcast.rest.now
    (sym c.in_ok-variant_fields-in-Downcast.ensures.fields) some)

pub returns-in_ok-pointee-in-Deref-clause-through : goal.returns-in_ok-pointee-in-Deref-clause-through
returns-in_ok-pointee-in-Deref-clause-through c = rw (c.in-Deref.is, ← c.in_ok-pointee-in-Deref.ensures.ty) refl

pub returns-in_ok-field_ty-in-Field-clause-through : goal.returns-in_ok-field_ty-in-Field-clause-through
returns-in_ok-field_ty-in-Field-clause-through c = rw (c.in-Field.is, ← c.in_ok-field_ty-in-Field.ensures.ty) refl
