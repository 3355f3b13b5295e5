use Rattle.std.proofs.Common.{◌++◌, sym, drop, take, length, IsTrue, take-append-drop}
use Rattle.std.specs.List.{list_all}
use Rattle.mir_syntax.specs.Tree.{trees_of}
use Rattle.mir_resolve.specs.Types.{read_below}
use Rattle.mir_resolve.proofs.TypeSteps.{tuple_taken, ids-below, all-parts, on_ok-then}
use Rattle.mir_resolve.proofs.types.push_tuple.Goals as goal

pub push-requires-clause-made : goal.push-requires-clause-made
push-requires-clause-made c =
    let n = length c.args.program.now.types in
    let stack = c.args.stack.now in
    let at = c.saturating_sub-at.result in
    let whole : IsTrue (list_all (read_below n) (take at stack ++ drop at stack)) = rw (take-append-drop at stack) c.requires in
    let below = ids-below n (drop at stack) (all-parts n (take at stack) (drop at stack) whole).1 in
    rw (c.in_ok-ids.ensures, c.parts_from-parts.ensures, c.as_slice.ensures) below

pub push-requires-clause-inside : goal.push-requires-clause-inside
push-requires-clause-inside c =
    let n = length c.args.program.now.types in
    let stack = c.args.stack.now in
    let at = c.saturating_sub-at.result in
    let whole : IsTrue (list_all (read_below n) (take at stack ++ drop at stack)) = rw (take-append-drop at stack) c.requires in
    rw c.truncate.ensures (all-parts n (take at stack) (drop at stack) whole).0

pub returns-clause-read : goal.returns-clause-read
returns-clause-read c =
    let trees = trees_of c.args.program.now.types in
    let stack = c.args.stack.now in
    on_ok-then c.push.result _ _ _ c.push.ensures.read
    (rw (c.in_ok-ids.ensures, c.all_known-known.ensures, c.parts_from-parts.ensures, c.as_slice.ensures, c.truncate.ensures, c.saturating_sub-at.ensures, c.len.ensures)
    (sym (tuple_taken trees c.args.count stack)))
