-- Words that name a stage, and words that name none.
use Rattle.std.proofs.Common.{◌≡◌, ℕ, List, codes, Some}
use Rattle.mir_syntax.specs.declared.stage.Stage.{Stage}
use Rattle.mir_syntax.specs.declared.stage.Stage.TheVariants as at
use Rattle.pipe_words.specs.Stages.{stage_word, IsStage}

text_is : (text word : List ℕ) → Some text ≡ Some word → word ≡ text
text_is text word e = cc

pub is_stage : (stage : Stage) (word text : List ℕ) → stage_word stage ≡ Some text → word ≡ text → IsStage word stage
is_stage stage word text is e = cc

pub no_stage : (word : List ℕ) → (word ≡ codes "built" → ⊥) → (word ≡ codes "promoted" → ⊥) → (word ≡ codes "split" → ⊥) → (word ≡ codes "folded" → ⊥) → (word ≡ codes "threaded" → ⊥) → (word ≡ codes "merged" → ⊥) → (word ≡ codes "pruned" → ⊥) → (word ≡ codes "optimised" → ⊥) → (stage : Stage) → IsStage word stage → ⊥
no_stage word built promoted split folded threaded merged pruned optimised at.Built e = built (text_is (codes "built") word e)
no_stage word built promoted split folded threaded merged pruned optimised at.Promoted e = promoted (text_is (codes "promoted") word e)
no_stage word built promoted split folded threaded merged pruned optimised at.Elaborated e = absurd cc
no_stage word built promoted split folded threaded merged pruned optimised at.Spliced e = absurd cc
no_stage word built promoted split folded threaded merged pruned optimised at.Split e = split (text_is (codes "split") word e)
no_stage word built promoted split folded threaded merged pruned optimised at.Folded e = folded (text_is (codes "folded") word e)
no_stage word built promoted split folded threaded merged pruned optimised at.Threaded e = threaded (text_is (codes "threaded") word e)
no_stage word built promoted split folded threaded merged pruned optimised at.Merged e = merged (text_is (codes "merged") word e)
no_stage word built promoted split folded threaded merged pruned optimised at.Pruned e = pruned (text_is (codes "pruned") word e)
no_stage word built promoted split folded threaded merged pruned optimised at.Optimised e = optimised (text_is (codes "optimised") word e)
