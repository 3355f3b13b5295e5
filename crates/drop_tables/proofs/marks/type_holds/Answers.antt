use Rattle.std.proofs.Common.{◌≤◌, IsTrue, length, sym, ap, ◌∙◌, arith}
use Rattle.std.specs.List.{list_any}
use Rattle.mir_syntax.specs.Tree.{trees_of}
use Rattle.mir_syntax.specs.Table.{all_below}
use Rattle.mir_syntax.proofs.Trees.{length-trees_of}
use Rattle.drop_tables.specs.Marks.{is_marked, id_marked}
use Rattle.drop_tables.proofs.Marking.{ids_held, other_type}
use Rattle.drop_tables.proofs.marks.type_holds.Goals as goal

pub returns-in-Tuple : goal.returns-in-Tuple
returns-in-Tuple c =
    let trees = trees_of c.args.program.now.types in
    let marks = is_marked c.args.marks.now in
    let within : c.args.id.0 ≤ length trees = omega (arith, length-trees_of c.args.program.now.types, c.requires.in_table) in
    let below : IsTrue (all_below c.args.id.0 c.in-Tuple.parts) = rw c.in-Tuple.is at c.ty.ensures.made in
    let known = c.requires.known in
    let held = ids_held marks trees c.args.id.0 within c.in-Tuple.parts below in
    rw (c.ty.ensures.stands, c.in-Tuple.is)
    (c.any_id.ensures ∙ (ap (λ l. list_any (id_marked c.args.known.now) l) c.as_slice.ensures ∙ (ap (λ l. list_any (id_marked l) c.in-Tuple.parts) known ∙ held)))

pub returns-in_default : goal.returns-in_default
returns-in_default c = rw c.ty.ensures.stands (sym (other_type (is_marked c.args.marks.now) (trees_of c.args.program.now.types) c.ty.result.now c.in_default.not-Tuple c.in_default.not-Named))
