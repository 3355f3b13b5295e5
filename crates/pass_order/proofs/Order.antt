-- The passes in their order keep what each of them keeps.
use Rattle.std.proofs.lemmas.List.{take-append-le}
use Rattle.std.proofs.Common.{◌≡◌, ◌↔◌, refl, ap, ◌∙◌, ℕ, zero, suc, List, [], ◌∷◌, map, take, arith}
use Rattle.mir_syntax.specs.Crate.{TypedBody}
use Rattle.mir_syntax.specs.Shapes.{Shape, shapes_of}
use Rattle.mir_rules.specs.Valid.{with_body, at_function}
use Rattle.mir_rules.proofs.ValidCrates.{args_below, body_formed_at, holds_body}
use Rattle.cfg_simplify.specs.Simple.{simple}
use Rattle.cfg_simplify.proofs.PassLaws as cleaning
use Rattle.sroa_pass.specs.Split.{firsts, new_types, split}
use Rattle.sroa_pass.proofs.PassLaws as splitting
use Rattle.const_rewrite.specs.Folded.{folded_by, folded}
use Rattle.const_rewrite.proofs.PassLaws as folding
use Rattle.jump_threading.specs.Threaded.{threaded_by, threaded}
use Rattle.jump_threading.proofs.PassLaws as threading
use Rattle.dest_prop.specs.Merged.{merged}
use Rattle.dest_prop.proofs.PassLaws as merging
use Rattle.dead_store.specs.Pruned.{IsPruned, pruned}
use Rattle.dead_store.proofs.equal.Once.{one_answer}
use Rattle.dead_store.proofs.PassLaws as pruning
use Rattle.trim_locals.specs.Trimmed.{trimmed}
use Rattle.trim_locals.proofs.PassLaws as trimming
use Rattle.trim_locals.proofs.Renumbered.{start_stays}
use Rattle.pass_order.specs.declared.passes.Pass.{Pass}
use Rattle.pass_order.specs.declared.passes.Pass.TheVariants.{Clean, Split, Fold, Thread, Merge, Prune, Trim}
use Rattle.pass_order.specs.Passes.{BodyPass, passes, after, after_passes}
use Rattle.pass_order.specs.Steps.{pass_of}
use Rattle.pass_order.proofs.Keeps.{PassKeeps, AllKeep, after_keeps}

pub simple_keeps : PassKeeps (λ (D : List Shape). simple)
simple_keeps = record { laws = cleaning.laws; args = λ C f b v. refl; start = λ C f b v. refl }

pub split_keeps : PassKeeps split
unfolding split
split_keeps = record {
  laws = splitting.laws;
  args = λ C f b v. refl;
  start = λ C f b v. let l = args_below (at_function C f v.function b) b (body_formed_at (at_function C f v.function b) v.valid f (with_body v.function b) (holds_body C f b v)) in take-append-le (suc b.args) b.locals (new_types (shapes_of (at_function C f v.function b)) (firsts (shapes_of (at_function C f v.function b)) b) b.locals) (omega (arith, l));
}

pub folded_keeps : PassKeeps folded
unfolding folded folded_by
folded_keeps = record { laws = folding.laws; args = λ C f b v. refl; start = λ C f b v. refl }

pub threaded_keeps : PassKeeps threaded
unfolding threaded threaded_by
threaded_keeps = record { laws = threading.laws; args = λ C f b v. refl; start = λ C f b v. refl }

pub merged_keeps : PassKeeps merged
unfolding merged
merged_keeps = record { laws = merging.laws; args = λ C f b v. refl; start = λ C f b v. refl }

pub pruned_keeps : PassKeeps pruned
unfolding pruned
pruned_keeps = record { laws = pruning.laws; args = λ C f b v. refl; start = λ C f b v. refl }

trimmed_keeps : PassKeeps (λ (D : List Shape). trimmed)
trimmed_keeps = record {
  laws = trimming.laws;
  args = λ C f b v. refl;
  start = λ C f b v. start_stays (at_function C f v.function b) b (body_formed_at (at_function C f v.function b) v.valid f (with_body v.function b) (holds_body C f b v));
}

-- each entry of the code's list
pub each_keeps : (p : Pass) → PassKeeps (pass_of p)
each_keeps Clean = simple_keeps
each_keeps Split = split_keeps
each_keeps Fold = folded_keeps
each_keeps Thread = threaded_keeps
each_keeps Merge = merged_keeps
each_keeps Prune = pruned_keeps
each_keeps Trim = trimmed_keeps

all_of : (list : List Pass) → AllKeep (map pass_of list)
all_of [] = tt
all_of (p ∷ rest) = (each_keeps p, all_of rest)

-- these entries stand for the passes
abbrev pub entries : List Pass
entries = Clean ∷ Split ∷ Fold ∷ Clean ∷ Thread ∷ Clean ∷ Merge ∷ Prune ∷ Clean ∷ Trim ∷ []

all_keep : AllKeep passes
all_keep = all_of entries

pub passes_keep : PassKeeps after_passes
unfolding after_passes
passes_keep = after_keeps passes all_keep

-- the first passes alone
front_keep : (n : ℕ) (list : List BodyPass) → AllKeep list → AllKeep (take n list)
front_keep zero list h = tt
front_keep (suc n) [] h = tt
front_keep (suc n) (pass ∷ rest) h = (h.0, front_keep n rest h.1)

pub front_keeps : (n : ℕ) → PassKeeps (after (take n passes))
front_keeps n = after_keeps (take n passes) (front_keep n passes all_keep)

-- the definitions one after another have one result
pub one_result : (D : List Shape) (b c : TypedBody) → ((left : TypedBody) × IsPruned D (after (take 7 passes) D b) left × (c ≡ trimmed (simple left))) ↔ c ≡ after_passes D b
unfolding after_passes
one_result D b c =
    let before : TypedBody = after (take 7 passes) D b in
    (λ (left, is, same). same ∙ ap (λ (l : TypedBody). trimmed (simple l)) ((one_answer D before left).0 is), λ e. (pruned D before, (one_answer D before (pruned D before)).1 refl, e))
