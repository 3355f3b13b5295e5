-- What a body in its program shows to the rules, and the types that are seen in it.
use Rattle.std.specs.Prelude.{ℕ, Bool, true, nat_lt, List, map}
use Rattle.mir_syntax.specs.declared.types.ScalarTy.{ScalarTy}
use Rattle.mir_syntax.specs.declared.types.ScalarTy.TheVariants as scalar_ty
use Rattle.mir_syntax.specs.declared.body.Body.{Body}
use Rattle.mir_syntax.specs.declared.program.Program.{Program}
use Rattle.mir_syntax.specs.Tree.{Tree, scalar, empty, more, named, at_id, trees_of}
use Rattle.mir_syntax.specs.Tree as tree
use Rattle.mir_syntax.specs.Crate.{crate_of, body_of, TypedBody}
use Rattle.mir_syntax.specs.Shapes.{Shape, shapes_of}
use Rattle.mir_validate.specs.declared.seen.Seen.{Seen}
use Rattle.mir_validate.specs.declared.seen.Seen.TheVariants as seen

-- what is seen of the definitions of a program
abbrev pub shapes : Program → List Shape
shapes p = shapes_of (crate_of p)

abbrev pub typed : Program → Body → TypedBody
typed p b = body_of (trees_of p.types) b

-- the types of the locals of a body
abbrev pub local_types : Program → Body → List Tree
local_types p b = map (at_id (trees_of p.types)) b.locals

-- the tuple of a scalar and a flag
abbrev pub flagged : ScalarTy → Tree
flagged s = more (scalar s) (more (scalar scalar_ty.Bool) empty)

-- the type that is seen
abbrev pub seen_tree : List Tree → Seen → Tree
seen_tree trees (seen.InTable id) = at_id trees id
seen_tree trees (seen.Scalar s) = scalar s
seen_tree trees seen.Unit = empty
seen_tree trees (seen.WithFlag s) = flagged s
seen_tree trees (seen.Ref id) = tree.ref (at_id trees id)
seen_tree trees (seen.RefMut id) = tree.ref_mut (at_id trees id)
seen_tree trees (seen.Named d) = named d

-- the id in it lies in the table
abbrev pub seen_below : ℕ → Seen → Bool
seen_below n (seen.InTable id) = nat_lt id.0 n
seen_below n (seen.Scalar s) = true
seen_below n seen.Unit = true
seen_below n (seen.WithFlag s) = true
seen_below n (seen.Ref id) = nat_lt id.0 n
seen_below n (seen.RefMut id) = nat_lt id.0 n
seen_below n (seen.Named d) = true
