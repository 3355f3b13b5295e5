use Rattle.std.proofs.Common.{◌≡◌, ◌++◌, map, take}
use Rattle.mir_syntax.specs.Shapes.{field_id}
use Rattle.drop_tables.proofs.holders.push_types.Given as goal

abbrev pub invariant-loop-field : goal.invariant-loop-field
invariant-loop-field l = l.ids.items ≡ l.fn.ids.items ++ map field_id (take l.field-index l.fields)
