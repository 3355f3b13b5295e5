use Rattle.std.proofs.Common.{◌≡◌, true, subst}
use Rattle.mir_rules.specs.Same.{same_tree}
use Rattle.mir_rules.proofs.Same.{same_tree_is, same_tree_refl}
use Rattle.mir_rules.proofs.same_type_is_equality.Goals as goal

pub returns : goal.returns
returns c t u = (same_tree_is t u, λ e. subst (λ w. same_tree t w ≡ true) e (same_tree_refl t))
