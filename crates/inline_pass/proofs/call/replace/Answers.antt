use Rattle.std.proofs.Common.{◌∙◌, sym, ap, subst, length, arith}
use Rattle.std.proofs.lemmas.Result.{on_ok_weaker}
use Rattle.mir_syntax.specs.declared.body.Body.{Body}
use Rattle.mir_syntax.specs.Ids.{BodyInTable}
use Rattle.mir_syntax.specs.Tree.{trees_of}
use Rattle.mir_syntax.specs.Crate.{crate_of}
use Rattle.inline_pass.specs.Code.{without_call, bare_with_call}
use Rattle.inline_pass.proofs.equal.Places.{set_long, same_without}
use Rattle.inline_pass.proofs.equal.InTable.{replaced_below}
use Rattle.inline_pass.proofs.equal.Results.{replaced}
use Rattle.inline_pass.proofs.call.replace.Goals as goal

pub put_body-requires-clause-block : goal.put_body-requires-clause-block
put_body-requires-clause-block c =
    let same = ap (λ (b : Body). length b.blocks) c.in-Some.ensures.0 ∙ set_long without_call c.args.body.now.blocks c.args.block in
    let lt = c.requires.block in
    omega (arith, same, lt)

pub put_body-requires-clause-few_blocks : goal.put_body-requires-clause-few_blocks
put_body-requires-clause-few_blocks c =
    let same = ap (λ (b : Body). length b.blocks) c.in-Some.ensures.0 ∙ set_long without_call c.args.body.now.blocks c.args.block in
    let few = c.requires.few_blocks in
    omega (arith, same, few)

pub returns-clause-body : goal.returns-clause-body
returns-clause-body c =
    let trees = trees_of c.args.program.now.types in
    let (first, is_first, mutable) = c.kept_ty-kept.ensures.stands in
    let locals = c.requires.few_locals in
    let blocks = c.requires.few_blocks in
    on_ok_weaker c.put_body.result
    (λ h. replaced trees (crate_of c.args.program.now) c.args.body.now c.args.block c.in-Some.call c.args.callee.now c.kept_ty-kept.result first c.in-Some.ensures.1 c.requires.inlinable.formed (omega (arith, locals)) (omega (arith, blocks)) is_first mutable c.put_body.new.body c.take_call_in.new.body c.in-Some.ensures.0 h)
    c.put_body.ensures

pub returns-clause-in_table : goal.returns-clause-in_table
returns-clause-in_table c =
    on_ok_weaker c.put_body.result
    (λ h call is below. subst (BodyInTable c.args.program.now.types) (sym (h ∙ ap (λ b. bare_with_call b c.args.block c.in-Some.call c.args.callee.now c.kept_ty-kept.result) c.in-Some.ensures.0 ∙ same_without c.args.body.now c.args.block c.in-Some.call c.args.callee.now c.kept_ty-kept.result))
    (replaced_below c.args.program.now.types c.args.body.now c.args.block c.in-Some.call c.args.callee.now c.kept_ty-kept.result below c.requires.inlinable.in_table c.kept_ty-kept.ensures.in_table))
    c.put_body.ensures
