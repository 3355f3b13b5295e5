-- What each entry of the code's list of passes stands for; no public promise rests on it.
use Rattle.cfg_simplify.specs.Simple.{simple}
use Rattle.sroa_pass.specs.Split.{split}
use Rattle.const_rewrite.specs.Folded.{folded}
use Rattle.jump_threading.specs.Threaded.{threaded}
use Rattle.dest_prop.specs.Merged.{merged}
use Rattle.dead_store.specs.Pruned.{pruned}
use Rattle.trim_locals.specs.Trimmed.{trimmed}
use Rattle.pass_order.specs.declared.passes.Pass.{Pass}
use Rattle.pass_order.specs.declared.passes.Pass.TheVariants.{Clean, Split, Fold, Thread, Merge, Prune, Trim}
use Rattle.pass_order.specs.Passes.{BodyPass}

abbrev pub pass_of : Pass → BodyPass
pass_of Clean = λ D. simple
pass_of Split = split
pass_of Fold = folded
pass_of Thread = threaded
pass_of Merge = merged
pass_of Prune = pruned
pass_of Trim = λ D. trimmed
