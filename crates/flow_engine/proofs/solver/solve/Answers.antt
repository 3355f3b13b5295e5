use Rattle.std.proofs.Common.{◌≡◌, ◌<◌, refl, ℕ, List, [], length, sym, ap, ◌∙◌, subst, Some, slice_get, arith}
use Rattle.std.proofs.lemmas.Option.{slice_get_read}
use Rattle.flow_engine.specs.Solving.{IsGoing, waiting}
use Rattle.flow_engine.specs.Flow.{problem}
use Rattle.flow_engine.proofs.Lists.{length-starts}
use Rattle.flow_engine.proofs.Going.{begins_going, turn_going, turn_over, over, low_total, starts_count}
use Rattle.flow_engine.proofs.Waiting.{one_less}
use Rattle.flow_engine.proofs.solver.solve.Goals as goal

pub loop-block-init : goal.loop-block-init
loop-block-init g c =
    let a = c.args.analysis.now in
    let m = g.A.Analysis in
    let law = g.met.A.Analysis.lawful a in (
      ap length c.in_ok-facts.ensures ∙ length-starts (m.begun a) 0 c.args.blocks,
      begins_going (m.is_fact a) (m.below a) (m.rank a) (m.most a) (m.begun a) (m.joined a) (m.sent a) law c.args.blocks c.args.edges.now c.in_ok-facts.facts.items c.in_ok-work.work.waits.items c.requires c.in_ok-facts.ensures c.in_ok-work.ensures,
    )

pub send_all-requires-clause-leaves : goal.send_all-requires-clause-leaves
send_all-requires-clause-leaves g c =
    let a = c.args.analysis.now in
    let m = g.A.Analysis in
    let law = g.met.A.Analysis.lawful a in
    let n = c.args.blocks in
    let es = c.args.edges.now in
    let lists = c.in_ok-leaving.leaving.items in
    let inside : c.in-Some.block < length lists = omega (arith, c.in-Some.ensures.0.0, c.loop-block.invariant.1.marked, starts_count (m.is_fact a) (m.below a) (m.rank a) (m.most a) (m.begun a) (m.joined a) (m.sent a) law n es, c.in_ok-leaving.ensures.long) in
    let at : slice_get lists c.in-Some.block ≡ Some c.as_slice-edges_out.result.now = slice_get_read lists (length lists) c.in-Some.block c.index.result.now refl inside c.index.ensures ∙ ap (λ (list : List ℕ). Some list) (sym c.as_slice-edges_out.ensures) in
    λ i has. c.in_ok-leaving.ensures.only c.in-Some.block i c.as_slice-edges_out.result.now at has

pub send_all-requires-clause-going : goal.send_all-requires-clause-going
send_all-requires-clause-going g c =
    let a = c.args.analysis.now in
    let m = g.A.Analysis in
    let law = g.met.A.Analysis.lawful a in
    subst (λ n. IsGoing (m.is_fact a) (m.below a) (problem (m.joined a) (m.begun a) (m.sent a) n c.args.edges.now) c.loop-block.facts.items c.next.new.self.waits.items c.in-Some.block []) (sym c.loop-block.invariant.0)
    (turn_going (m.is_fact a) (m.below a) (m.rank a) (m.most a) (m.begun a) (m.joined a) (m.sent a) law c.args.blocks c.args.edges.now c.loop-block.facts.items c.loop-block.work.waits.items c.next.new.self.waits.items c.in-Some.block c.requires c.loop-block.invariant.1 c.in-Some.ensures.1)

pub loop-block-smaller : goal.loop-block-smaller
loop-block-smaller g c =
    let a = c.args.analysis.now in
    let m = g.A.Analysis in
    let law = g.met.A.Analysis.lawful a in
    let n = c.args.blocks in
    let es = c.args.edges.now in
    let less = ap waiting c.in-Some.ensures.1 in
    let one = one_less c.loop-block.work.waits.items c.in-Some.block c.in-Some.ensures.0 in
    let climbs = c.in_ok-send_all.ensures.climbs in
    let after = subst (λ n. IsGoing (m.is_fact a) (m.below a) (problem (m.joined a) (m.begun a) (m.sent a) n es) c.send_all.new.facts.items c.send_all.new.work.waits.items c.in-Some.block c.as_slice-edges_out.result.now) c.loop-block.invariant.0 c.in_ok-send_all.ensures.going in
    let low = low_total (m.is_fact a) (m.below a) (m.rank a) (m.most a) (m.begun a) (m.joined a) (m.sent a) law n es c.loop-block.facts.items c.loop-block.invariant.1.under in
    let low2 = low_total (m.is_fact a) (m.below a) (m.rank a) (m.most a) (m.begun a) (m.joined a) (m.sent a) law n es c.send_all.new.facts.items after.under in
    omega (arith, less, one, climbs, low, low2)

pub loop-block-preserved : goal.loop-block-preserved
loop-block-preserved g c =
    let a = c.args.analysis.now in
    let m = g.A.Analysis in
    let law = g.met.A.Analysis.lawful a in
    let n = c.args.blocks in
    let es = c.args.edges.now in
    let lists = c.in_ok-leaving.leaving.items in
    let inside : c.in-Some.block < length lists = omega (arith, c.in-Some.ensures.0.0, c.loop-block.invariant.1.marked, starts_count (m.is_fact a) (m.below a) (m.rank a) (m.most a) (m.begun a) (m.joined a) (m.sent a) law n es, c.in_ok-leaving.ensures.long) in
    let at : slice_get lists c.in-Some.block ≡ Some c.as_slice-edges_out.result.now = slice_get_read lists (length lists) c.in-Some.block c.index.result.now refl inside c.index.ensures ∙ ap (λ (list : List ℕ). Some list) (sym c.as_slice-edges_out.ensures) in
    let after = subst (λ n. IsGoing (m.is_fact a) (m.below a) (problem (m.joined a) (m.begun a) (m.sent a) n es) c.send_all.new.facts.items c.send_all.new.work.waits.items c.in-Some.block c.as_slice-edges_out.result.now) c.loop-block.invariant.0 c.in_ok-send_all.ensures.going in (
      c.send_all.ensures.same ∙ c.loop-block.invariant.0,
      turn_over (m.is_fact a) (m.below a) (m.rank a) (m.most a) (m.begun a) (m.joined a) (m.sent a) law n es c.send_all.new.facts.items c.send_all.new.work.waits.items c.in-Some.block c.as_slice-edges_out.result.now lists c.in_ok-leaving.ensures at after,
    )

pub returns : goal.returns
returns g c =
    let a = c.args.analysis.now in
    let m = g.A.Analysis in
    let law = g.met.A.Analysis.lawful a in
    rw c.from_vec.ensures (over (m.is_fact a) (m.below a) (m.rank a) (m.most a) (m.begun a) (m.joined a) (m.sent a) law c.args.blocks c.args.edges.now c.loop-block.facts.items c.loop-block.work.waits.items c.requires c.loop-block.invariant.1 c.in_default.ensures)
