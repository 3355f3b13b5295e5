use Rattle.std.proofs.Common.{sym, ◌∙◌}
use Rattle.mir_syntax.specs.Tree.{trees_of, at_id}
use Rattle.mir_validate.specs.Inside.{shapes, local_types}
use Rattle.mir_rules.specs.BodyRules.{moves_through_destructor, moves_needing_indirectly}
use Rattle.mir_validate.proofs.Values.{any_of_value, assign_place, assign_parts, assign_value, assign_moves}
use Rattle.mir_validate.proofs.inside.Inside.assign_code.Goals as goal

pub returns-in_default : goal.returns-in_default
returns-in_default c =
    let p = c.args.self.now.program.now in
    let trees = trees_of p.types in
    let locals = local_types p c.args.self.now.body.now in
    assign_place (shapes p) locals trees c.args.self.now.body.now.args c.args.place.now c.args.value.now c.in_default.ensures.ty

pub returns-then-parts_untyped : goal.returns-then-parts_untyped
returns-then-parts_untyped c =
    let p = c.args.self.now.program.now in
    let trees = trees_of p.types in
    let locals = local_types p c.args.self.now.body.now in
    assign_parts (shapes p) locals trees c.args.self.now.body.now.args c.args.place.now c.args.value.now (sym c.parts_untyped.ensures ∙ c.if-parts_untyped.true)

pub returns-in-Some-value_code : goal.returns-in-Some-value_code
returns-in-Some-value_code c =
    let p = c.args.self.now.program.now in
    let trees = trees_of p.types in
    let locals = local_types p c.args.self.now.body.now in
    assign_value (shapes p) locals trees c.args.self.now.body.now.args c.args.place.now c.args.value.now (at_id trees c.in-Some.to) c.in-Some-value_code.code c.in-Some.ensures.ty (sym c.parts_untyped.ensures ∙ c.if-parts_untyped.false) c.in-Some-value_code.ensures

pub returns-in-None : goal.returns-in-None
returns-in-None c =
    let p = c.args.self.now.program.now in
    let trees = trees_of p.types in
    let locals = local_types p c.args.self.now.body.now in
    let a = c.value_moves.result.through in
    let b = c.value_moves.result.indirectly in
    c.code.ensures ∙ assign_moves (shapes p) locals trees c.args.self.now.body.now.args c.args.place.now c.args.value.now (at_id trees c.in-Some.to) a b c.in-Some.ensures.ty (sym c.parts_untyped.ensures ∙ c.if-parts_untyped.false) c.in-None.ensures
    (c.value_moves.ensures.through ∙ any_of_value (moves_through_destructor (shapes p) locals) trees c.args.value.now)
    (c.value_moves.ensures.indirectly ∙ any_of_value (moves_needing_indirectly (shapes p) locals) trees c.args.value.now)
