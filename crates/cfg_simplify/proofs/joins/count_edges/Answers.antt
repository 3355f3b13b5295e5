use Rattle.std.proofs.Common.{ap, ◌∙◌}
use Rattle.cfg_simplify.specs.Code.{counted}
use Rattle.cfg_simplify.proofs.joins.count_edges.Goals as goal

pub count_all-requires-clause-within : goal.count_all-requires-clause-within
count_all-requires-clause-within c = rw (c.as_slice.ensures ∙ c.in_ok-ends.ensures) c.requires.within

pub returns : goal.returns
returns c = c.count_all.ensures ∙ ap (counted c.args.counts.now) (c.as_slice.ensures ∙ c.in_ok-ends.ensures)
