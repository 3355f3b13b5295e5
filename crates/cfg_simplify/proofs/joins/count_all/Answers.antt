use Rattle.std.proofs.Common.{◌≡◌, ℕ, ◌<◌, ◌≤◌, List, length, get_or, take, ap, ◌∙◌, arith}
use Rattle.std.specs.List.{All}
use Rattle.std.proofs.lemmas.List.{take_all}
use Rattle.cfg_simplify.specs.Code.{counted}
use Rattle.cfg_simplify.proofs.equal.Counts.{length-counted, capped-counted, counts_more}
use Rattle.cfg_simplify.proofs.joins.count_all.Goals as goal

capped : (first counts ends : List ℕ) → All (λ n. n ≤ 2) first → counts ≡ counted first ends → All (λ n. n ≤ 2) counts
capped first counts ends h e = rw e (capped-counted first ends h)

pub count_edge-requires-clause-within : goal.count_edge-requires-clause-within
count_edge-requires-clause-within c =
    let first = c.args.counts.now in
    let i = c.loop-block.block-index in
    let same : length c.loop-block.counts ≡ length first = ap length c.loop-block.invariant ∙ length-counted first (take i c.args.ends.now) in
    let inside : get_or c.args.ends.now i 0 < length first = c.requires.within i 0 (omega arith) in
    rw same inside

pub count_edge-requires-clause-capped : goal.count_edge-requires-clause-capped
count_edge-requires-clause-capped c = capped c.args.counts.now c.loop-block.counts (take c.loop-block.block-index c.args.ends.now) c.requires.capped c.loop-block.invariant

pub loop-block-preserved : goal.loop-block-preserved
loop-block-preserved c =
    let i = c.loop-block.block-index in
    let within : i < length c.args.ends.now = omega arith in
    counts_more c.args.ends.now i 0 within c.args.counts.now c.loop-block.counts c.count_edge.new.counts c.loop-block.invariant c.count_edge.ensures

pub returns : goal.returns
returns c =
    let past : length c.args.ends.now ≤ c.loop-block.block-index = omega arith in
    c.loop-block.invariant ∙ ap (counted c.args.counts.now) (take_all c.loop-block.block-index c.args.ends.now past)
