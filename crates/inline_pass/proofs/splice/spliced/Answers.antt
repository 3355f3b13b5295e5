use Rattle.std.proofs.Common.{◌∙◌, refl, ap, map, arith}
use Rattle.std.specs.Prelude.{sum_by}
use Rattle.mir_syntax.specs.Tree.{trees_of}
use Rattle.mir_syntax.specs.Crate.{block_of}
use Rattle.inline_pass.specs.Spliced.{stmts_in, spliced}
use Rattle.inline_pass.specs.Takes.{taken_in}
use Rattle.inline_pass.specs.Code.{capped}
use Rattle.inline_pass.proofs.equal.InRounds.{round_done}
use Rattle.inline_pass.proofs.splice.spliced.Goals as goal

pub loop-depth-init : goal.loop-depth-init
unfolding spliced
loop-depth-init g c = record {
  body = refl;
  caller = record {
    counted = c.stmts-stmts.ensures (trees_of c.args.program.now.types) ∙ ap (λ ks. capped (sum_by stmts_in (map (block_of (trees_of c.args.program.now.types)) ks))) c.as_slice.ensures;
    in_table = c.requires.body_ids;
    few_blocks = c.requires.few_blocks;
    few_locals = c.requires.few_locals;
  };
  from = omega arith;
}

pub loop-depth-preserved : goal.loop-depth-preserved
loop-depth-preserved g c =
    let taken = taken_in c.args.program.now c.args.large (g.C.CalleeBodies.lent c.args.bodies.now) (g.C.CalleeBodies.qualifies c.args.bodies.now) in
    let l = c.loop-depth-test.true in
    record {
      body = round_done taken (trees_of c.args.program.now.types) c.loop-depth.caller.body c.inline_from.new.caller.body c.loop-depth.depth c.loop-depth.from c.len-end.result (omega (arith, l)) c.len-end.ensures c.in_ok-inline_from.ensures.body ∙ c.loop-depth.invariant.body;
      caller = c.in_ok-inline_from.ensures.caller;
      from = let e = c.len-end.ensures in let m = c.in_ok-inline_from.ensures.grows in omega (arith, e, m);
    }
