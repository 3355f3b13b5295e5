use Rattle.mir_entry.proofs.Finding.{found_there, on_behind, none_on, none_at_all, none_numbered}
use Rattle.mir_entry.proofs.entries.function_at.Goals as goal

pub functions-preserved : goal.functions-preserved
functions-preserved c = record {
  behind = on_behind c.args.program.now.functions c.functions.left.now c.in-Some.rest.now c.functions.place c.in-Some.function.now c.functions.invariant.behind c.in-Some.ensures;
  none = none_on c.args.program.now.functions c.functions.left.now c.in-Some.rest.now c.args.path.now c.functions.place c.in-Some.function.now c.has_path.result c.functions.invariant.behind c.in-Some.ensures c.has_path.ensures c.if-has_path.false c.functions.invariant.none;
}

pub returns : goal.returns
returns c = none_at_all c.args.program.now.functions c.functions.left.now c.args.path.now c.functions.place c.functions.invariant.behind c.in_default.ensures c.functions.invariant.none

pub returns-then-has_path : goal.returns-then-has_path
returns-then-has_path c = (c.in-Some.function.now, found_there c.args.program.now.functions c.functions.left.now c.in-Some.rest.now c.functions.place c.in-Some.function.now c.functions.invariant.behind c.in-Some.ensures, c.has_path.ensures.0 c.if-has_path.true, c.functions.invariant.none)

pub returns-then-place : goal.returns-then-place
returns-then-place c =
    none_numbered c.args.program.now.functions c.functions.left.now c.in-Some.rest.now c.args.path.now c.functions.place c.in-Some.function.now c.has_path.result c.functions.invariant.behind c.in-Some.ensures c.has_path.ensures c.if-has_path.false c.if-place.true c.functions.invariant.none
