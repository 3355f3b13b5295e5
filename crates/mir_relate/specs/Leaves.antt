-- What steps leave of the frames that wait. This project's own.
use Rattle.std.specs.Prelude.{◌≡◌, ℕ, ◌<◌, List, Option, Some, None}
use Rattle.mir_syntax.specs.Tree.{Tree}
use Rattle.mir_syntax.specs.Shapes.{Shape}
use Rattle.mir_semantics.specs.Values.{Value}
use Rattle.mir_semantics.specs.Memory.{Memory, local_at}
use Rattle.mir_renaming.specs.Renaming.{Renaming, Sub}
use Rattle.mir_renaming.proofs.Types.{TypeMap}
use Rattle.mir_renaming.proofs.Agree.{Agree}

-- where one side's values of a type agree with the other's, they agree again
pub record Steady (D : List Shape) (t : Tree) (o2 o1 : Option Value) (w' v' : Value) : Type 0 where
  pub old1 : Value
  pub old2 : Value
  pub was1 : o1 ≡ Some old1
  pub was2 : o2 ≡ Some old2
  pub agree : Agree D t old1 old2 → Agree D t v' w'

-- of frames below these numbers: what references stand for is the same; locals that nobody has lent, and in the target those that stand for no
-- lent one, have their values; the lent ones agree where they agreed
pub record Leaves (D : List Shape) (G : TypeMap) (j j' : Renaming) (n2 n1 : ℕ) (m2' m1' m2 m1 : Memory) : Type 0 where
  pub up : Sub j j'
  pub same1 : (h x : ℕ) → h < n1 → j' h x ≡ j h x
  pub same2 : (h x g y : ℕ) → g < n2 → j' h x ≡ Some (g, y) → j h x ≡ Some (g, y)
  pub source : (h x : ℕ) → h < n1 → j h x ≡ None → local_at m1' h x ≡ local_at m1 h x
  pub target : (g y : ℕ) → g < n2 → ((h x : ℕ) → j h x ≡ Some (g, y) → ⊥) → local_at m2' g y ≡ local_at m2 g y
  pub steady : (h x g y : ℕ) (t : Tree) (v' w' : Value) → h < n1 → j h x ≡ Some (g, y) → G h x ≡ Some t → local_at m1' h x ≡ Some v' → local_at m2' g y ≡ Some w' → Steady D t (local_at m2 g y) (local_at m1 h x) w' v'
