use Rattle.std.proofs.Common.{◌≡◌, ℕ, ◌≤◌, List, ◌++◌, map, length, drop}
use Rattle.mir_text.specs.GrammarItems.{ArgRule}
use Rattle.mir_text.specs.PartLines.{Lined}
use Rattle.mir_text.specs.ReadLines.{local_lines}
use Rattle.mir_tree.specs.Bodies.{lined}
use Rattle.mir_tree.specs.Rules.{arg_rule}
use Rattle.mir_file.proofs.local_lines.set_lines.Given as goal

abbrev pub invariant-texts : goal.invariant-texts
invariant-texts l = record {
  set : (done : List (Lined ArgRule)) (n : ℕ) → l.fn.lines ≡ local_lines done 0 n → l.lines ≡ local_lines (map (lined arg_rule) (drop l.left l.texts) ++ done) 0 n;
  within : l.left ≤ length l.texts;
}

abbrev pub decreases-texts : goal.decreases-texts
decreases-texts l = l.left
