use Rattle.std.proofs.Common.{◌∙◌, List, length, ap}
use Rattle.mir_syntax.specs.Parts.{rvalue_operands}
use Rattle.mir_syntax.specs.Crate.{rvalue_of}
use Rattle.const_flow.specs.declared.cell.Cell.{Cell}
use Rattle.const_flow.specs.Facts.{value_known, learn, moved_all}
use Rattle.const_flow.specs.Sights.{text_in, trees_in, facts_in}
use Rattle.const_flow.proofs.Learning.{fresh_fits, assigned}
use Rattle.const_flow.proofs.effects.Walk.assign.Goals as goal

pub put-requires : goal.put-requires
put-requires c =
    let new = value_known (text_in c.args.sight) (facts_in c.args.sight c.args.self.now.cells) (rvalue_of (trees_in c.args.sight) c.args.rvalue.now) in
    fresh_fits c.args.place.now new c.args.sight.paths.now c.under-span.result.from c.under-span.result.to c.under-span.ensures.within c.as_slice.result.now c.as_mut_slice.result.now
    (c.as_slice.ensures ∙ (c.forget_moved_by.ensures.fresh ∙ c.in_ok-evaluate.ensures.fresh)) (ap length c.as_mut_slice.ensures.value ∙ c.forget_moved_by.ensures.cells)

pub returns-clause-ok : goal.returns-clause-ok
returns-clause-ok c =
    let new = value_known (text_in c.args.sight) (facts_in c.args.sight c.args.self.now.cells) (rvalue_of (trees_in c.args.sight) c.args.rvalue.now) in
    let operands = rvalue_operands (rvalue_of (trees_in c.args.sight) c.args.rvalue.now) in
    assigned c.args.place.now new c.args.sight.paths.now c.under-span.result.from c.under-span.result.to c.under-span.ensures.within
    c.forget_moved_by.new.self.cells c.as_mut_slice.result.now c.as_slice.result.now c.put.new.cells c.forget_moved_by.ensures.cells c.under-span.ensures.spans c.as_mut_slice.ensures.value
    (c.as_slice.ensures ∙ (c.forget_moved_by.ensures.fresh ∙ c.in_ok-evaluate.ensures.fresh)) c.put.ensures
    ∙ ap (learn c.args.place.now new) (c.forget_moved_by.ensures.facts ∙ ap (λ (ks : List Cell). moved_all operands (facts_in c.args.sight ks)) c.in_ok-evaluate.ensures.cells)
