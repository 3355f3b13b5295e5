use Rattle.std.proofs.Common.{◌∙◌, ap, arith}
use Rattle.mir_syntax.specs.Tree.{trees_of}
use Rattle.mir_syntax.specs.Crate.{body_of}
use Rattle.inline_pass.specs.Spliced.{inlined_at}
use Rattle.inline_pass.specs.Takes.{taken_in}
use Rattle.inline_pass.proofs.equal.InRounds.{in_more}
use Rattle.inline_pass.proofs.splice.inline_from.Goals as goal

pub loop-block-preserved : goal.loop-block-preserved
loop-block-preserved g c =
    let taken = taken_in c.args.program.now c.args.large (g.C.CalleeBodies.lent c.args.bodies.now) (g.C.CalleeBodies.qualifies c.args.bodies.now) in
    let block = c.loop-block.block in
    record {
      body = c.in_ok-inline_at.ensures.body ∙ ap (λ b. inlined_at taken b block) c.loop-block.invariant.body ∙ in_more taken (body_of (trees_of c.args.program.now.types) c.args.caller.now.body) c.args.from block (omega arith);
      caller = c.in_ok-inline_at.ensures.caller;
      grows = let l = c.loop-block.invariant.grows in let m = c.in_ok-inline_at.ensures.grows in omega (arith, l, m);
    }
