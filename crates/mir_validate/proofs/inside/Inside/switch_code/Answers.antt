use Rattle.std.proofs.Common.{true, false, sym, ◌∙◌}
use Rattle.mir_syntax.specs.Tree.{trees_of}
use Rattle.mir_validate.specs.Inside.{shapes, local_types}
use Rattle.mir_validate.proofs.TermCodes.{switch_unfit, switch_arms}
use Rattle.mir_validate.proofs.inside.Inside.switch_code.Goals as goal

pub returns-in_default : goal.returns-in_default
returns-in_default c =
    let p = c.args.self.now.program.now in
    let trees = trees_of p.types in
    let locals = local_types p c.args.self.now.body.now in
    switch_unfit (shapes p) locals c.args.operand.now c.args.arms.now c.requires.typed c.in_default.ensures

pub returns-then-wrong : goal.returns-then-wrong
returns-then-wrong c =
    let p = c.args.self.now.program.now in
    let trees = trees_of p.types in
    let locals = local_types p c.args.self.now.body.now in
    switch_arms (shapes p) locals c.args.operand.now c.args.arms.now c.in-Some.scalar true c.in-Some.ensures (sym c.if-wrong.true ∙ c.in_ok-wrong.ensures)

pub returns-else-wrong : goal.returns-else-wrong
returns-else-wrong c =
    let p = c.args.self.now.program.now in
    let trees = trees_of p.types in
    let locals = local_types p c.args.self.now.body.now in
    switch_arms (shapes p) locals c.args.operand.now c.args.arms.now c.in-Some.scalar false c.in-Some.ensures (sym c.if-wrong.false ∙ c.in_ok-wrong.ensures)
