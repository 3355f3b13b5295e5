-- What stands at a place while it is printed; no public promise rests on it.
use Rattle.std.specs.Prelude.{List}
use Rattle.mir_syntax.specs.Tree.{Tree, at_id}
use Rattle.mir_syntax.specs.Shapes.{fields_tree}
use Rattle.mir_print.specs.declared.fields.Part.{Part}
use Rattle.mir_print.specs.declared.fields.Part.TheVariants.{Ty, Fields}

-- the type of a value, or the tuple of a variant's fields
abbrev pub part_tree : List Tree → Part → Tree
part_tree trees (Ty id) = at_id trees id
part_tree trees (Fields fields) = fields_tree trees fields.now
