-- What the laws of the pass ask of a crate's types. Each crate that a table of types stands behind, and that is within the limits, has it.
use Rattle.std.specs.Prelude.{◌≡◌, ℕ, ◌≤◌, true, List, length, Some, slice_get}
use Rattle.mir_syntax.specs.Tree.{Tree, empty, more}
use Rattle.mir_syntax.specs.Crate.{TypedBody}
use Rattle.mir_syntax.specs.Shapes.{Shape}
use Rattle.mir_rules.specs.Limits.{most_nodes}

abbrev pub IsTuple : Tree → Type 0
IsTuple empty = Unit {0}
IsTuple (more t ts) = Unit {0}
IsTuple _ = ⊥

-- what is left of a tuple behind its first part is a tuple, everywhere in the type
abbrev pub Tupled : Tree → Type 0
Tupled (more t ts) = Tupled t × IsTuple ts × Tupled ts
Tupled _ = Unit {0}

-- so in the fields of the definitions and in the locals of a body
pub record TypesTupled (D : List Shape) (b : TypedBody) : Type 0 where
  pub fields : (d : ℕ) (s : Shape) → slice_get D d ≡ Some s → (k : ℕ) (t : Tree) → slice_get s.variants k ≡ Some t → Tupled t
  pub locals : (x : ℕ) (t : Tree) → slice_get b.locals x ≡ Some t → Tupled t

-- no enum has more variants than a type within the limits has nodes
abbrev pub FewVariants : List Shape → Type 0
FewVariants D = (d : ℕ) (s : Shape) → slice_get D d ≡ Some s → s.is_enum ≡ true → length s.variants ≤ most_nodes
