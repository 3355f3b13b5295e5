-- What the parts of a type make of the types before them, with whether each path in a type names a struct or an enum; and the same of types
-- that are read into a table. These follow the code and help the proofs alone: the calls say `type_named` and `is_known`.
use Rattle.std.specs.Prelude.{◌≡◌, ℕ, zero, suc, Bool, true, false, ◌&&◌, nat_lt, List, [], ◌∷◌, length, is_some}
use Rattle.mir_syntax.specs.declared.types.ScalarTy.TheVariants as scalar_ty
use Rattle.mir_syntax.specs.declared.types.TyId.{TyId}
use Rattle.mir_syntax.specs.declared.types.Ty.{Ty}
use Rattle.mir_syntax.specs.declared.types.Ty.TheVariants.{Ref, RefMut}
use Rattle.mir_syntax.specs.declared.program.Program.{Program}
use Rattle.mir_syntax.specs.Tree.{Tree, scalar, empty, more, at_id, Extends}
use Rattle.mir_text.specs.Words.{place_in}
use Rattle.mir_text.specs.GrammarTypes.{PathRule, TypeRule}
use Rattle.mir_text.specs.Names.{Strings, path_bytes, named_or, ref_to, type_named, is_known}
use Rattle.mir_tree.specs.declared.ty.TypePart.{TypePart}
use Rattle.mir_tree.specs.declared.ty.TypePart.TheVariants as p
use Rattle.mir_tree.specs.Types.{path_rule}
use Rattle.mir_resolve.specs.declared.types.ReadTy.{ReadTy}

-- a program that differs from an earlier one in its table alone, which goes on from the earlier one
pub record Grown (old new : Program) : Type 0 where
  pub types : Extends old.types new.types
  pub defs : new.defs ≡ old.defs
  pub outsides : new.outsides ≡ old.outsides
  pub functions : new.functions ≡ old.functions

-- a type, and whether each path in it names a struct or an enum
abbrev pub Told : Type 0
Told = Tree × Bool

abbrev pub told : Strings → List (List ℕ) → TypeRule → Told
told strings paths u = (type_named strings paths u, is_known strings paths u)

abbrev pub path_told : Strings → List (List ℕ) → PathRule → Told
path_told strings paths x =
    (named_or (length paths) (place_in paths (path_bytes strings x)), is_some (place_in paths (path_bytes strings x)))

-- a tuple with one more type in front
abbrev pub with_first : Told → Told → Told
with_first u q = (more u.0 q.0, u.1 && q.1)

abbrev pub taken_told : ℕ → Told → List Told → Told × List Told
taken_told zero q stack = (q, stack)
taken_told (suc n) q [] = (q, [])
taken_told (suc n) q (u ∷ stack) = taken_told n (with_first u q) stack

abbrev pub put_told : Told × List Told → List Told
put_told x = x.0 ∷ x.1

abbrev pub ref_told : Bool → List Told → List Told
ref_told m [] = []
ref_told m (u ∷ stack) = (ref_to m u.0, u.1) ∷ stack

-- the types after one part, the last one first
abbrev pub part_told : Strings → List (List ℕ) → TypePart → List Told → List Told
part_told strings paths (p.Int t) stack = (scalar (scalar_ty.Int t), true) ∷ stack
part_told strings paths p.Bool stack = (scalar scalar_ty.Bool, true) ∷ stack
part_told strings paths (p.Path x) stack = path_told strings paths (path_rule x) ∷ stack
part_told strings paths p.Unit stack = (empty, true) ∷ stack
part_told strings paths (p.Ref m) stack = ref_told m stack
part_told strings paths (p.Tuple n trailing) stack = put_told (taken_told n (empty, true) stack)

abbrev pub parts_told : Strings → List (List ℕ) → List TypePart → List Told → List Told
parts_told strings paths [] stack = stack
parts_told strings paths (x ∷ xs) stack = parts_told strings paths xs (part_told strings paths x stack)

abbrev pub top_told : List Told → Told
top_told [] = (empty, true)
top_told (u ∷ stack) = u

-- ---- types that are read into a table

abbrev pub read_id : ReadTy → TyId
read_id r = r.id

abbrev pub read_known : ReadTy → Bool
read_known r = r.known

abbrev pub read_below : ℕ → ReadTy → Bool
read_below n r = nat_lt r.id.0 n

abbrev pub read_in : List Tree → ReadTy → Told
read_in trees r = (at_id trees r.id, r.known)

-- what a stack tells, the last one first
abbrev pub piled : List Tree → List ReadTy → List Told → List Told
piled trees [] below = below
piled trees (r ∷ rs) below = piled trees rs (read_in trees r ∷ below)

abbrev pub stack_in : List Tree → List ReadTy → List Told
stack_in trees reads = piled trees reads []

-- a reference to a type of the table
abbrev pub ref_ty_of : Bool → TyId → Ty
ref_ty_of true id = RefMut id
ref_ty_of false id = Ref id
