use Rattle.std.proofs.Common.{sym, ap, true, false, map, ◌∙◌}
use Rattle.mir_syntax.specs.Tree.{trees_of}
use Rattle.mir_validate.specs.Inside.{shapes, local_types}
use Rattle.mir_validate.proofs.PartTypes.{build_past, build_absent, build_at, have_types_is}
use Rattle.mir_syntax.proofs.InTable.{variant-in-table}
use Rattle.mir_validate.specs.Codes.{field_tree, have_types}
use Rattle.mir_validate.proofs.inside.Inside.build.Goals as goal

pub returns-in_err-def-clause-ty : goal.returns-in_err-def-clause-ty
returns-in_err-def-clause-ty c = rw c.from_residual.ensures (sym (build_past c.args.self.now.program.now _ c.args.number c.args.variant (sym c.in_err-def.ensures)))

pub returns-in_err-variant-clause-ty : goal.returns-in_err-variant-clause-ty
returns-in_err-variant-clause-ty c =
    rw c.from_residual-in_err-variant.ensures (sym (build_absent c.args.self.now.program.now _ c.args.number c.args.variant c.in_ok-def.def.now (sym c.in_ok-def.ensures) (sym c.in_err-variant.ensures)))

pub have_field_types-requires-clause-in_table : goal.have_field_types-requires-clause-in_table
have_field_types-requires-clause-in_table c =
    rw c.as_slice.ensures (variant-in-table c.args.self.now.program.now c.args.number c.args.variant c.in_ok-def.def.now c.in_ok-variant.variant.now c.args.self.now.ids (sym c.in_ok-def.ensures) (sym c.in_ok-variant.ensures))

pub returns-then-have_field_types-clause-ty : goal.returns-then-have_field_types-clause-ty
returns-then-have_field_types-clause-ty c =
    let p = c.args.self.now.program.now in
    let trees = trees_of p.types in
    let have = sym (have_types_is (shapes p) (local_types p c.args.self.now.body.now) c.args.parts.now (map (field_tree trees) c.in_ok-variant.variant.now.fields))
    ∙ (ap (λ fields. have_types (shapes p) (local_types p c.args.self.now.body.now) c.args.parts.now (map (field_tree trees) fields)) (sym c.as_slice.ensures) ∙ (sym c.have_field_types.ensures ∙ c.if-have_field_types.true)) in
    sym (build_at p _ c.args.number c.args.variant c.in_ok-def.def.now c.in_ok-variant.variant.now true (sym c.in_ok-def.ensures) (sym c.in_ok-variant.ensures) have)

pub returns-else-have_field_types-clause-ty : goal.returns-else-have_field_types-clause-ty
returns-else-have_field_types-clause-ty c =
    let p = c.args.self.now.program.now in
    let trees = trees_of p.types in
    let have = sym (have_types_is (shapes p) (local_types p c.args.self.now.body.now) c.args.parts.now (map (field_tree trees) c.in_ok-variant.variant.now.fields))
    ∙ (ap (λ fields. have_types (shapes p) (local_types p c.args.self.now.body.now) c.args.parts.now (map (field_tree trees) fields)) (sym c.as_slice.ensures) ∙ (sym c.have_field_types.ensures ∙ c.if-have_field_types.false)) in
    sym (build_at p _ c.args.number c.args.variant c.in_ok-def.def.now c.in_ok-variant.variant.now false (sym c.in_ok-def.ensures) (sym c.in_ok-variant.ensures) have)
