use Rattle.std.proofs.Common.{◌∙◌}
use Rattle.mir_meaning.specs.Views.{part_of}
use Rattle.mir_meaning.proofs.Values.{along_none}
use Rattle.mir_meaning.proofs.part.Part.along.Goals as goal

pub returns-in_default-inner : goal.returns-in_default-inner
returns-in_default-inner c =
    along_none c.loop-first.path.now c.in-Some.rest.now (part_of c.loop-first.part) c.in-Some.first c.in-Some.ensures c.in_default-inner.ensures ∙ c.loop-first.invariant
