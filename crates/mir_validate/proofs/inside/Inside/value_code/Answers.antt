use Rattle.std.proofs.Common.{Some, true, false, sym, ap, ◌∙◌}
use Rattle.mir_syntax.specs.Tree.{trees_of, at_id}
use Rattle.mir_validate.specs.Inside.{shapes, local_types, seen_tree}
use Rattle.mir_validate.proofs.Values.{code_unfit, code_fits, code_tuple}
use Rattle.mir_validate.proofs.inside.Inside.value_code.Goals as goal

pub returns-then-is_tuple_of : goal.returns-then-is_tuple_of
returns-then-is_tuple_of c =
    let p = c.args.self.now.program.now in
    let trees = trees_of p.types in
    let locals = local_types p c.args.self.now.body.now in
    let typed = rw c.in-Tuple.is at c.requires.typed in
    let same = rw c.as_slice.ensures at c.is_tuple_of.ensures in
    rw c.in-Tuple.is (code_tuple (shapes p) locals trees c.in-Tuple.parts (at_id trees c.args.to) true typed (sym c.if-is_tuple_of.true ∙ same))

pub returns-else-is_tuple_of : goal.returns-else-is_tuple_of
returns-else-is_tuple_of c =
    let p = c.args.self.now.program.now in
    let trees = trees_of p.types in
    let locals = local_types p c.args.self.now.body.now in
    let typed = rw c.in-Tuple.is at c.requires.typed in
    let same = rw c.as_slice.ensures at c.is_tuple_of.ensures in
    rw c.in-Tuple.is (code_tuple (shapes p) locals trees c.in-Tuple.parts (at_id trees c.args.to) false typed (sym c.if-is_tuple_of.false ∙ same))

pub returns-then-is : goal.returns-then-is
returns-then-is c =
    let p = c.args.self.now.program.now in
    let trees = trees_of p.types in
    let locals = local_types p c.args.self.now.body.now in
    code_fits (shapes p) locals trees c.args.value.now (seen_tree trees c.in-Some.seen) (at_id trees c.args.to) true c.in-Some.ensures.ty (sym c.if-is.true ∙ c.is.ensures)

pub returns-else-is : goal.returns-else-is
returns-else-is c =
    let p = c.args.self.now.program.now in
    let trees = trees_of p.types in
    let locals = local_types p c.args.self.now.body.now in
    code_fits (shapes p) locals trees c.args.value.now (seen_tree trees c.in-Some.seen) (at_id trees c.args.to) false c.in-Some.ensures.ty (sym c.if-is.false ∙ c.is.ensures)

pub returns-in-None : goal.returns-in-None
returns-in-None c =
    let p = c.args.self.now.program.now in
    let trees = trees_of p.types in
    let locals = local_types p c.args.self.now.body.now in
    ap Some c.own_rule.ensures ∙ code_unfit (shapes p) locals trees c.args.value.now (at_id trees c.args.to) c.in_default.not-Tuple c.requires.typed c.in-None.ensures.ty
