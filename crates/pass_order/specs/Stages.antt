-- The body of a function at a stage of the passes.
use Rattle.std.specs.Prelude.{◌≡◌, ℕ, List, take, Option, Some, None, option_map}
use Rattle.mir_syntax.specs.declared.stage.Stage.{Stage}
use Rattle.mir_syntax.specs.declared.stage.Stage.TheVariants as at
use Rattle.mir_syntax.specs.Crate.{TypedBody}
use Rattle.mir_syntax.specs.Shapes.{Shape}
use Rattle.pass_order.specs.Passes.{passes, after}

-- how many of the passes are behind a body at a stage; none is named for a stage whose step isn't there yet
abbrev pub passes_behind : Stage → Option ℕ
passes_behind at.Built = Some 0
passes_behind at.Promoted = Some 1
passes_behind at.Elaborated = None
passes_behind at.Spliced = None
passes_behind at.Split = Some 2
passes_behind at.Folded = Some 3
passes_behind at.Threaded = Some 5
passes_behind at.Merged = Some 7
passes_behind at.Pruned = Some 8
passes_behind at.Optimised = Some 10

-- the step of the stage is there
abbrev pub HasStep : Stage → Type 0
HasStep stage = (n : ℕ) × (passes_behind stage ≡ Some n)

-- the body after the passes up to the stage's step
unfoldable pub at_stage : Stage → List Shape → TypedBody → Option TypedBody
at_stage stage D b = option_map (λ n. after (take n passes) D b) (passes_behind stage)
