use Rattle.std.proofs.Common.{◌∙◌, sym}
use Rattle.const_flow.specs.Sights.{text_in, facts_in}
use Rattle.const_flow.proofs.Valued.{over_other, over_deeper, over_further, over_first, over_second}
use Rattle.const_flow.proofs.sight.Sight.overflow_part.Goals as goal

pub returns-in_default : goal.returns-in_default
returns-in_default c = over_other (text_in c.args.self) (facts_in c.args.self c.args.cells.now) c.args.op c.args.left.now c.args.right.now c.args.way.now c.in_default.ensures

pub returns-then-not-is_empty : goal.returns-then-not-is_empty
returns-then-not-is_empty c =
    over_deeper (text_in c.args.self) (facts_in c.args.self c.args.cells.now) c.args.op c.args.left.now c.args.right.now c.args.way.now c.in-Some.index c.in-Some.rest.now c.in-Some.ensures (sym c.is_empty.ensures ∙ c.if-not-is_empty.true)

pub returns-then-index-gt1 : goal.returns-then-index-gt1
returns-then-index-gt1 c =
    over_further (text_in c.args.self) (facts_in c.args.self c.args.cells.now) c.args.op c.args.left.now c.args.right.now c.args.way.now c.in-Some.index c.in-Some.rest.now c.in-Some.ensures (sym c.is_empty.ensures ∙ c.if-not-is_empty.false) c.if-index-gt1.true

pub returns-then-index-eq0 : goal.returns-then-index-eq0
returns-then-index-eq0 c = c.overflow-bits.ensures.wrapped ∙
    over_first (text_in c.args.self) (facts_in c.args.self c.args.cells.now) c.args.op c.args.left.now c.args.right.now c.args.way.now c.in-Some.index c.in-Some.rest.now c.in-Some.ensures (sym c.is_empty.ensures ∙ c.if-not-is_empty.false) c.if-index-eq0.true

pub returns-else-index-eq0 : goal.returns-else-index-eq0
returns-else-index-eq0 c = c.overflow-bits.ensures.over ∙
    over_second (text_in c.args.self) (facts_in c.args.self c.args.cells.now) c.args.op c.args.left.now c.args.right.now c.args.way.now c.in-Some.index c.in-Some.rest.now c.in-Some.ensures (sym c.is_empty.ensures ∙ c.if-not-is_empty.false) c.if-index-gt1.false c.if-index-eq0.false
