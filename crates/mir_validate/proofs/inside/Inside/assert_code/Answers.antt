use Rattle.std.proofs.Common.{true, false, sym, ◌∙◌}
use Rattle.mir_syntax.specs.Tree.{trees_of}
use Rattle.mir_validate.specs.Inside.{shapes, local_types}
use Rattle.mir_validate.proofs.TermCodes.{assert_first, assert_args}
use Rattle.mir_validate.proofs.inside.Inside.assert_code.Goals as goal

pub returns-then-not-is_bool : goal.returns-then-not-is_bool
returns-then-not-is_bool c =
    let p = c.args.self.now.program.now in
    let trees = trees_of p.types in
    let locals = local_types p c.args.self.now.body.now in
    assert_first (shapes p) locals c.args.operand.now c.args.args.now c.requires.typed (sym c.is_bool.ensures ∙ c.if-not-is_bool.true)

pub returns-then-has_unscalar : goal.returns-then-has_unscalar
returns-then-has_unscalar c =
    let p = c.args.self.now.program.now in
    let trees = trees_of p.types in
    let locals = local_types p c.args.self.now.body.now in
    assert_args (shapes p) locals c.args.operand.now c.args.args.now true c.requires.typed (sym c.is_bool.ensures ∙ c.if-not-is_bool.false) (sym c.if-has_unscalar.true ∙ c.has_unscalar.ensures)

pub returns-else-has_unscalar : goal.returns-else-has_unscalar
returns-else-has_unscalar c =
    let p = c.args.self.now.program.now in
    let trees = trees_of p.types in
    let locals = local_types p c.args.self.now.body.now in
    assert_args (shapes p) locals c.args.operand.now c.args.args.now false c.requires.typed (sym c.is_bool.ensures ∙ c.if-not-is_bool.false) (sym c.if-has_unscalar.false ∙ c.has_unscalar.ensures)
