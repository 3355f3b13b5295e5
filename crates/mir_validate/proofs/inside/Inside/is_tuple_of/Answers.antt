use Rattle.std.proofs.Common.{sym, ap, map, length, IsTrue, arith, ◌∙◌}
use Rattle.mir_syntax.specs.Tree.{trees_of, at_id}
use Rattle.mir_syntax.specs.Table.{ids_below}
use Rattle.mir_syntax.specs.declared.types.Ty.TheVariants.{Tuple}
use Rattle.mir_syntax.proofs.Growth.{all_below-more}
use Rattle.mir_syntax.proofs.Places.{at_ids-tuple}
use Rattle.mir_validate.specs.Inside.{shapes, local_types}
use Rattle.mir_validate.specs.Codes.{have_types}
use Rattle.mir_validate.proofs.PartTypes.{have_types_is}
use Rattle.mir_validate.proofs.Values.{no_tuple}
use Rattle.mir_validate.proofs.inside.Inside.is_tuple_of.Goals as goal

pub have_types-requires-clause-in_table : goal.have_types-requires-clause-in_table
have_types-requires-clause-in_table c =
    let made : IsTrue (ids_below c.args.id.0 (Tuple c.in-Tuple.ids)) = rw c.in-Tuple.is at c.ty.ensures.made in
    rw c.as_slice.ensures (all_below-more c.args.id.0 (length c.args.self.now.program.now.types) (omega arith) c.in-Tuple.ids made)

pub returns-in-Tuple : goal.returns-in-Tuple
returns-in-Tuple c =
    let p = c.args.self.now.program.now in
    let trees = trees_of p.types in
    let locals = local_types p c.args.self.now.body.now in
    rw (c.ty.ensures.stands, c.in-Tuple.is, at_ids-tuple trees c.in-Tuple.ids)
    (c.have_types.ensures ∙ (ap (λ ids. have_types (shapes p) locals c.args.parts.now (map (at_id trees) ids)) c.as_slice.ensures ∙ have_types_is (shapes p) locals c.args.parts.now (map (at_id trees) c.in-Tuple.ids)))

pub returns-in_default : goal.returns-in_default
returns-in_default c =
    let p = c.args.self.now.program.now in
    rw c.ty.ensures.stands (sym (no_tuple (shapes p) (local_types p c.args.self.now.body.now) (trees_of p.types) c.args.parts.now c.ty.result.now c.in_default.not-Tuple))
