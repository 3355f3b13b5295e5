use Rattle.std.proofs.Common.{sym, arith, ◌∙◌}
use Rattle.mir_syntax.specs.Tree.{trees_of, at_id}
use Rattle.mir_validate.specs.Inside.{shapes, local_types}
use Rattle.mir_validate.proofs.Values.{set_place, set_unfit, set_needs, set_fits, set_past}
use Rattle.mir_validate.proofs.inside.Inside.set_code.Goals as goal

pub returns-in_default : goal.returns-in_default
returns-in_default c =
    let p = c.args.self.now.program.now in
    let trees = trees_of p.types in
    let locals = local_types p c.args.self.now.body.now in
    set_place (shapes p) c.args.self.now.body.now.args locals c.args.place.now c.args.variant c.in_default.ensures.ty

pub returns-in_default-enum_variants : goal.returns-in_default-enum_variants
returns-in_default-enum_variants c =
    let p = c.args.self.now.program.now in
    let trees = trees_of p.types in
    let locals = local_types p c.args.self.now.body.now in
    set_unfit (shapes p) c.args.self.now.body.now.args locals c.args.place.now c.args.variant (at_id trees c.in-Some.id) c.in-Some.ensures.ty c.in_default-enum_variants.ensures

pub returns-then-needs_drop : goal.returns-then-needs_drop
returns-then-needs_drop c =
    let p = c.args.self.now.program.now in
    let trees = trees_of p.types in
    let locals = local_types p c.args.self.now.body.now in
    set_needs (shapes p) c.args.self.now.body.now.args locals c.args.place.now c.args.variant (at_id trees c.in-Some.id) c.in-Some.ensures.ty c.in-Some-enum_variants.variants c.in-Some-enum_variants.ensures (sym c.needs_drop.ensures ∙ c.if-needs_drop.true)

pub returns-then-variant-variants : goal.returns-then-variant-variants
returns-then-variant-variants c =
    let p = c.args.self.now.program.now in
    let trees = trees_of p.types in
    let locals = local_types p c.args.self.now.body.now in
    set_fits (shapes p) c.args.self.now.body.now.args locals c.args.place.now c.args.variant (at_id trees c.in-Some.id) c.in-Some.ensures.ty c.in-Some-enum_variants.variants c.in-Some-enum_variants.ensures (sym c.needs_drop.ensures ∙ c.if-needs_drop.false) (omega arith)

pub returns-else-variant-variants : goal.returns-else-variant-variants
returns-else-variant-variants c =
    let p = c.args.self.now.program.now in
    let trees = trees_of p.types in
    let locals = local_types p c.args.self.now.body.now in
    set_past (shapes p) c.args.self.now.body.now.args locals c.args.place.now c.args.variant (at_id trees c.in-Some.id) c.in-Some.ensures.ty c.in-Some-enum_variants.variants c.in-Some-enum_variants.ensures (sym c.needs_drop.ensures ∙ c.if-needs_drop.false) (omega arith)
