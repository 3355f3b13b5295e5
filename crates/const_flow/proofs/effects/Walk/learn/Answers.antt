use Rattle.const_flow.proofs.Learning.{learnt}
use Rattle.const_flow.proofs.effects.Walk.learn.Goals as goal

pub returns-clause-facts : goal.returns-clause-facts
returns-clause-facts c =
    learnt c.args.place.now c.args.cell c.args.sight.paths.now c.args.self.now.cells c.as_mut_slice.result.now c.fill.new.cells c.under-span.result.from c.under-span.result.to
    c.requires c.under-span.ensures.within c.under-span.ensures.spans c.as_mut_slice.ensures.value c.fill.ensures
