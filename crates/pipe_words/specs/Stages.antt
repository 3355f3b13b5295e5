-- The stages of a body, as words ask for them.
use Rattle.std.specs.Prelude.{◌≡◌, ℕ, List, Option, Some, None, codes}
use Rattle.mir_syntax.specs.declared.stage.Stage.{Stage}
use Rattle.mir_syntax.specs.declared.stage.Stage.TheVariants as at

-- the word of a stage; a stage whose step isn't there yet has none
abbrev pub stage_word : Stage → Option (List ℕ)
stage_word at.Built = Some (codes "built")
stage_word at.Promoted = Some (codes "promoted")
stage_word at.Elaborated = None
stage_word at.Spliced = None
stage_word at.Split = Some (codes "split")
stage_word at.Folded = Some (codes "folded")
stage_word at.Threaded = Some (codes "threaded")
stage_word at.Merged = Some (codes "merged")
stage_word at.Pruned = Some (codes "pruned")
stage_word at.Optimised = Some (codes "optimised")

abbrev pub IsStage : List ℕ → Stage → Type 0
IsStage word stage = stage_word stage ≡ Some word
