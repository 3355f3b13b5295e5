use Rattle.std.proofs.Common.{sym, arith, ltb-true, ◌<◌, length}
use Rattle.mir_syntax.specs.Tree.{trees_of, at_id}
use Rattle.mir_rules.specs.Same.{same_tree}
use Rattle.mir_validate.proofs.Seeing.{not_ref_mut, same_ids}
use Rattle.mir_validate.proofs.inside.Inside.is_ref_mut.Goals as goal

pub returns-in-RefMut : goal.returns-in-RefMut
unfolding same_tree
returns-in-RefMut c =
    let types = c.args.self.now.program.now.types in
    let made = rw c.in-RefMut.is at c.ty.ensures.made in
    let below : c.in-RefMut.other.0 < c.args.id.0 = ltb-true c.in-RefMut.other.0 c.args.id.0 made in
    let inside : c.in-RefMut.other.0 < length types = omega arith in
    rw (c.ty.ensures.stands, c.in-RefMut.is) (sym (same_ids types c.args.to c.in-RefMut.other c.args.self.now.program.now.table c.requires.to_in_table inside))

pub returns-in_default : goal.returns-in_default
returns-in_default c =
    let trees = trees_of c.args.self.now.program.now.types in
    rw c.ty.ensures.stands (sym (not_ref_mut trees (at_id trees c.args.to) c.ty.result.now c.in_default.not-RefMut))
