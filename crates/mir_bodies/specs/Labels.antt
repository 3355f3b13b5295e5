-- The labels of a function's blocks.
use Rattle.std.specs.Prelude.{◌≡◌, ℕ, nat_eq, List}
use Rattle.std.specs.HashSet.{contains}
use Rattle.mir_text.specs.NameFaults.{is_among}
use Rattle.mir_tree.specs.declared.body.BlockText.{BlockText}
use Rattle.mir_bodies.specs.declared.scope.Labels.{Labels}

abbrev pub label_of : BlockText → ℕ
label_of b = b.label

-- the labels are these
pub record AreLabels (labels : Labels) (blocks : List ℕ) : Type 0 where
  pub among : (b : ℕ) → contains nat_eq labels.numbers b ≡ is_among blocks b
