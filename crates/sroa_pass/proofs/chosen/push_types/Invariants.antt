use Rattle.std.proofs.Common.{◌≡◌, ◌++◌, map, take}
use Rattle.mir_syntax.specs.Shapes.{field_id}
use Rattle.sroa_pass.proofs.chosen.push_types.Given as goal

abbrev pub invariant-loop-field : goal.invariant-loop-field
invariant-loop-field l = l.locals ≡ l.fn.locals ++ map field_id (take l.field-index l.fields)
