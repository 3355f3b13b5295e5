-- Bodies with the same locals: the slots of new frames.
use Rattle.std.proofs.Common.{◌≡◌, sym, ap, ◌∙◌, subst, ℕ, List, Some, slice_get}
use Rattle.mir_syntax.specs.Tree.{Tree}
use Rattle.mir_syntax.specs.Shapes.{Shape}
use Rattle.mir_semantics.specs.Values.{Value}
use Rattle.mir_semantics.specs.Step.{new_slots}
use Rattle.mir_renaming.specs.Renaming.{Renaming, SomeRel}
use Rattle.mir_renaming.proofs.Agree.{Agree, tight_agree}
use Rattle.mir_renaming.proofs.Slots.{slots_rel, value_in}
use Rattle.mir_renaming.proofs.Statements.{ValuesRel}
use Rattle.mir_renaming.proofs.Tight.{slots_tight, tight_in}
use Rattle.mir_relate.specs.Alike.{AllSame}

module _ (D : List Shape) (ts2 ts1 : List Tree) (same : ts2 ≡ ts1) (j : Renaming) (vs ws : List Value) where
  -- they are related where the arguments are
  pub slots_same : ValuesRel j vs ws → (x : ℕ) (v : Value) → slice_get (new_slots D ts1 vs) x ≡ Some v → SomeRel j v (slice_get (new_slots D ts2 ws) x)
  slots_same h x v e = subst (λ ts. SomeRel j v (slice_get (new_slots D ts ws) x)) (sym same) (value_in j (new_slots D ts1 vs) (new_slots D ts1 ws) x v (slots_rel j D ts1 vs ws h) e)

  -- and agree where these do
  pub slots_agree : AllSame j vs ws → (x : ℕ) (t : Tree) (v w : Value) → slice_get (new_slots D ts1 vs) x ≡ Some v → slice_get (new_slots D ts2 ws) x ≡ Some w → Agree D t v w
  slots_agree h x t v w e1 e2 = tight_agree D v w t (tight_in (new_slots D ts1 vs) (new_slots D ts1 ws) x v w (slots_tight D ts1 vs ws h.1) e1 (ap (λ ts. slice_get (new_slots D ts ws) x) (sym same) ∙ e2))
