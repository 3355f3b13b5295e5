-- Headers of destructors in the shape of the code. No public promise rests on these.
use Rattle.std.specs.Prelude.{ℕ, Option, Some, None}
use Rattle.mir_syntax.specs.Tree.{Tree, ref_mut, named}

-- the definition that a type is a mutable reference to
abbrev pub dropped_definition : Tree → Option ℕ
dropped_definition (ref_mut (named d)) = Some d
dropped_definition _ = None
