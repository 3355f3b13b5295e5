use Rattle.std.proofs.Common.{sym, ap, map, take, drop, ◌∙◌}
use Rattle.mir_syntax.specs.declared.body.Callee.TheVariants.{Local, Outside}
use Rattle.mir_syntax.specs.Crate.{crate_of}
use Rattle.mir_syntax.specs.Tree.{trees_of, at_id}
use Rattle.mir_rules.specs.Typing.{callee_args_ty, operands_ty}
use Rattle.mir_validate.specs.Inside.{shapes, local_types}
use Rattle.mir_validate.specs.Codes.{have_types}
use Rattle.mir_validate.proofs.TermCodes.{no_function, no_outside, function_args, outside_args, takes_these, agree_none, args_below, outside_args_below}
use Rattle.mir_validate.proofs.inside.Inside.takes.Goals as goal

pub have_types-requires-clause-in_table : goal.have_types-requires-clause-in_table
have_types-requires-clause-in_table c =
    rw c.arg_types.ensures (args_below c.args.self.now.program.now c.args.self.now.ids c.in-Local.f.0 c.in-Some.function.now c.in-Some.ensures)

pub have_types-requires-in-Some-get-clause-in_table : goal.have_types-requires-in-Some-get-clause-in_table
have_types-requires-in-Some-get-clause-in_table c =
    rw c.as_slice.ensures (outside_args_below c.args.self.now.program.now c.args.self.now.ids c.in-Outside.o.0 c.in-Some-get.outside.now c.in-Some-get.ensures)

pub returns-in-Some : goal.returns-in-Some
returns-in-Some c =
    let p = c.args.self.now.program.now in
    let trees = trees_of p.types in
    let locals = local_types p c.args.self.now.body.now in
    let g = c.in-Some.function.now in
    rw c.in-Local.is (c.have_types.ensures ∙ (ap (λ ids. have_types (shapes p) locals c.args.args.now (map (at_id trees) ids)) c.arg_types.ensures
    ∙ takes_these (shapes p) locals c.args.args.now (map (at_id trees) (take g.body.args (drop 1 g.body.locals))) (callee_args_ty (crate_of p) (Local c.in-Local.f)) (function_args p c.in-Local.f.0 g c.in-Some.ensures)))

pub returns-in-None : goal.returns-in-None
returns-in-None c =
    let p = c.args.self.now.program.now in
    let trees = trees_of p.types in
    let locals = local_types p c.args.self.now.body.now in
    rw (c.in-Local.is, (no_function p c.in-Local.f.0 c.in-None.ensures).0) (sym (agree_none (operands_ty (shapes p) locals c.args.args.now)))

pub returns-in-Some-get : goal.returns-in-Some-get
returns-in-Some-get c =
    let p = c.args.self.now.program.now in
    let trees = trees_of p.types in
    let locals = local_types p c.args.self.now.body.now in
    let g = c.in-Some-get.outside.now in
    rw c.in-Outside.is (c.have_types-in-Some-get.ensures ∙ (ap (λ ids. have_types (shapes p) locals c.args.args.now (map (at_id trees) ids)) c.as_slice.ensures
    ∙ takes_these (shapes p) locals c.args.args.now (map (at_id trees) g.args) (callee_args_ty (crate_of p) (Outside c.in-Outside.o)) (outside_args p c.in-Outside.o.0 g c.in-Some-get.ensures)))

pub returns-in-None-get : goal.returns-in-None-get
returns-in-None-get c =
    let p = c.args.self.now.program.now in
    let trees = trees_of p.types in
    let locals = local_types p c.args.self.now.body.now in
    rw (c.in-Outside.is, (no_outside p c.in-Outside.o.0 c.in-None-get.ensures).0) (sym (agree_none (operands_ty (shapes p) locals c.args.args.now)))
