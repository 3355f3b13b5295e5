use Rattle.std.proofs.Common.{◌∙◌, sym}
use Rattle.const_flow.specs.Sights.{text_in, facts_in}
use Rattle.const_flow.proofs.Valued.{tuple_other, tuple_there, tuple_gone, build_other, build_there, build_gone}
use Rattle.const_flow.proofs.sight.Sight.made_of.Goals as goal

pub returns-in_default-clause-tuple : goal.returns-in_default-clause-tuple
returns-in_default-clause-tuple c = tuple_other (text_in c.args.self) (facts_in c.args.self c.args.cells.now) c.args.parts.now c.args.way.now c.in_default.ensures

pub returns-in_default-clause-build : goal.returns-in_default-clause-build
returns-in_default-clause-build c = λ d k. build_other (text_in c.args.self) (facts_in c.args.self c.args.cells.now) d k c.args.parts.now c.args.way.now c.in_default.ensures

pub returns-in-Some-get-clause-tuple : goal.returns-in-Some-get-clause-tuple
returns-in-Some-get-clause-tuple c =
    c.part_known.ensures ∙ tuple_there (text_in c.args.self) (facts_in c.args.self c.args.cells.now) c.args.parts.now c.args.way.now c.in-Some.index c.in-Some-get.operand.now c.in-Some.rest.now c.in-Some.ensures (sym c.in-Some-get.ensures)

pub returns-in-Some-get-clause-build : goal.returns-in-Some-get-clause-build
returns-in-Some-get-clause-build c = λ d k.
    (c.part_known.ensures ∙ build_there (text_in c.args.self) (facts_in c.args.self c.args.cells.now) d k c.args.parts.now c.args.way.now c.in-Some.index c.in-Some-get.operand.now c.in-Some.rest.now c.in-Some.ensures (sym c.in-Some-get.ensures))

pub returns-in-None-clause-tuple : goal.returns-in-None-clause-tuple
returns-in-None-clause-tuple c = tuple_gone (text_in c.args.self) (facts_in c.args.self c.args.cells.now) c.args.parts.now c.args.way.now c.in-Some.index c.in-Some.rest.now c.in-Some.ensures (sym c.in-None.ensures)

pub returns-in-None-clause-build : goal.returns-in-None-clause-build
returns-in-None-clause-build c = λ d k. build_gone (text_in c.args.self) (facts_in c.args.self c.args.cells.now) d k c.args.parts.now c.args.way.now c.in-Some.index c.in-Some.rest.now c.in-Some.ensures (sym c.in-None.ensures)
