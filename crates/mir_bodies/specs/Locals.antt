-- The locals of a function, as they are declared one after another.
use Rattle.std.specs.Prelude.{◌≡◌, ℕ, nat_eq, List, [], ◌∷◌, map, Option, Some, None, if◌then◌else◌}
use Rattle.std.specs.declared.hash.FoldHasher.{FoldHasher}
use Rattle.std.specs.declared.hash.BuildHasherDefault.{BuildHasherDefault}
use Rattle.std.specs.HashMap.{HashMap, get}
use Rattle.mir_syntax.specs.declared.types.TyId.{TyId}
use Rattle.mir_syntax.specs.Tree.{Tree, at_id}
use Rattle.mir_text.specs.NamedBodies.{Declared}

-- the type of the first declaration of a local
abbrev pub first_ty : List (ℕ × TyId) → ℕ → Option TyId
first_ty [] x = None
first_ty (d ∷ ds) x = if nat_eq d.0 x then Some d.1 else first_ty ds x

-- a map has the type of the first declaration of each local
pub record AreFirsts (declared : List (ℕ × TyId)) (firsts : HashMap ℕ TyId (BuildHasherDefault FoldHasher)) : Type 0 where
  pub found : (x : ℕ) → get nat_eq firsts x ≡ first_ty declared x

-- declarations with their ids replaced by what these stand for
abbrev pub declared_in : List Tree → List (ℕ × TyId) → Declared
declared_in trees ds = map (λ d. (d.0, at_id trees d.1)) ds
