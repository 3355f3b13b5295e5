use Rattle.std.proofs.Common.{◌≡◌, map, take}
use Rattle.mir_syntax.specs.Crate.{rvalue_of}
use Rattle.const_flow.specs.Facts.{value_known}
use Rattle.const_flow.specs.Cells.{places_between, known_under}
use Rattle.const_flow.specs.Sights.{text_in, trees_in, facts_in}
use Rattle.const_flow.proofs.effects.Walk.evaluate.Given as goal

abbrev pub invariant-loop-tracked : goal.invariant-loop-tracked
invariant-loop-tracked l =
    (l.self.cells ≡ l.fn.self.cells) × (l.self.fresh ≡ map (known_under l.place (value_known (text_in l.sight) (facts_in l.sight l.fn.self.cells) (rvalue_of (trees_in l.sight) l.rvalue))) (take l.tracked-index (places_between l.sight.paths.now l.fn.span.from l.fn.span.to)))
