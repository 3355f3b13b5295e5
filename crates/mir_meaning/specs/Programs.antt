-- What the parts of a program stand for.
use Rattle.std.specs.Prelude.{if◌then◌else◌, List, Option, None, Some}
use Rattle.mir_syntax.specs.declared.types.TyId.{TyId}
use Rattle.mir_syntax.specs.declared.program.Program.{Program}
use Rattle.mir_syntax.specs.Tree.{Tree, at_id, trees_of}
use Rattle.mir_syntax.specs.Crate.{crate_of}
use Rattle.mir_syntax.specs.Shapes.{Shape, shapes_of, struct_fields}
use Rattle.mir_semantics.specs.Values.{is_unit}

abbrev pub shapes_in : Program → List Shape
shapes_in p = shapes_of (crate_of p)

abbrev pub type_in : Program → TyId → Tree
type_in p id = at_id (trees_of p.types) id

-- the fields of a struct that is moved and dropped by its parts
abbrev pub parts_of : Option Shape → Option Tree
parts_of None = None
parts_of (Some s) = if is_unit s then None else Some (struct_fields s)
