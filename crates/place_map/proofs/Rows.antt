-- Tracked places of small bodies, computed.
use Rattle.std.proofs.Common.{◌≡◌, refl, ℕ, Bool, true, false, nat_eq, List, [], ◌∷◌, Some, None}
use Rattle.mir_syntax.specs.declared.types.IntTy.TheVariants.{U8}
use Rattle.mir_syntax.specs.declared.types.ScalarTy.TheVariants as scalar_ty
use Rattle.mir_syntax.specs.declared.body.Proj.TheVariants.{Field}
use Rattle.mir_syntax.specs.declared.body.Term.TheVariants.{Return}
use Rattle.mir_syntax.specs.Tree.{Tree, scalar, empty, more, ref, named}
use Rattle.mir_syntax.specs.Shapes.{Shape, ◌>>=◌}
use Rattle.mir_syntax.specs.Crate.{TypedBody}
use Rattle.place_map.specs.Tracked.{way, scalars, place_at, tracked}

abbrev byte : Tree
byte = scalar (scalar_ty.Int U8)

abbrev body_with : List Tree → TypedBody
body_with locals = record { args = 0; locals = locals; blocks = record { stmts = []; term = Return } ∷ [] }

abbrev nobody : ℕ → Bool
nobody x = false

-- the places of two locals of a scalar type
two_bytes : tracked [] nobody (body_with (byte ∷ byte ∷ [])) ≡ place_at 0 [] ∷ place_at 1 [] ∷ []
unfolding tracked scalars
two_bytes = refl

-- of a local that is taken none
one_is_taken : tracked [] (nat_eq 0) (body_with (byte ∷ byte ∷ [])) ≡ place_at 1 [] ∷ []
unfolding tracked scalars
one_is_taken = refl

-- depth first, through tuples and structs; none behind references and in enums
abbrev struct : Shape
struct = record { is_enum = false; variants = more byte (more byte empty) ∷ []; destructor = None }

abbrev enum : Shape
enum = record { is_enum = true; variants = more byte empty ∷ []; destructor = None }

parts : scalars (struct ∷ enum ∷ []) (more (named 0) (more (ref byte) (more (named 1) (more byte empty)))) ≡ (Field 0 ∷ Field 0 ∷ []) ∷ (Field 0 ∷ Field 1 ∷ []) ∷ (Field 3 ∷ []) ∷ []
unfolding scalars ◌>>=◌
parts = refl

-- the way from a place to one under it, and from one that is apart
under : way (place_at 2 (Field 1 ∷ [])) (place_at 2 (Field 1 ∷ Field 0 ∷ [])) ≡ Some (Field 0 ∷ [])
unfolding way
under = refl

apart : way (place_at 2 (Field 1 ∷ [])) (place_at 2 (Field 0 ∷ [])) ≡ None
unfolding way
apart = refl
