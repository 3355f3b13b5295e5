-- Lists of the grammar, by their items and whether a comma stands after the last one.
use Rattle.std.specs.Prelude.{Bool, true, false, List, [], ◌∷◌}
use Rattle.mir_text.specs.Grammar as g
use Rattle.mir_tree.specs.declared.Items.{Items}

abbrev pub listed : {X R : Type 0} → (X → R) → List X → Bool → g.Items R
listed of [] trailing = g.end
listed of (x ∷ []) false = g.last (of x)
listed of (x ∷ []) true = g.more (of x) g.end
listed of (x ∷ y ∷ ys) trailing = g.more (of x) (listed of (y ∷ ys) trailing)

abbrev pub items_rule : {X R : Type 0} → (X → R) → Items X → g.Items R
items_rule of xs = listed of xs.items xs.trailing
