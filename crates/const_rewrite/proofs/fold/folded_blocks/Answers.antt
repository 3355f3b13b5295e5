use Rattle.std.proofs.Common.{◌≡◌, ◌<◌, ◌∙◌, ap, [], ◌∷◌, ◌++◌, length, map, arith}
use Rattle.std.specs.List.{list_all}
use Rattle.std.proofs.lemmas.Grind.{common_steps}
use Rattle.mir_syntax.specs.Crate.{block_of}
use Rattle.mir_syntax.specs.Ids.{block_below}
use Rattle.const_rewrite.specs.Points.{here, trees_in}
use Rattle.const_rewrite.proofs.equal.Fronts.{front_long}
use Rattle.const_rewrite.proofs.equal.Whole.{going_none, going_more, all_folded}
use Rattle.const_rewrite.proofs.fold.folded_blocks.Goals as goal

pub loop-at-init : goal.loop-at-init
loop-at-init c =
    let same : c.deref_mut-block-items.result.now ≡ c.args.blocks = grind (arith, common_steps) in
    ([], going_none (trees_in c.args.text) (here c.args.text) c.args.rows.now c.args.blocks c.deref_mut-block-items.result.now same)

pub loop-at-preserved : goal.loop-at-preserved
loop-at-preserved c =
    let (front, g) = c.loop-at.invariant in
    let items = c.loop-at.block-items in
    let at = c.loop-at.at in
    let long = front_long c.args.blocks items front at g.here in
    let l : at < length c.args.blocks = omega arith in
    (front ++ c.fold_block.new.block ∷ [], going_more (trees_in c.args.text) (here c.args.text) c.args.rows.now c.args.blocks items front at c.block-item.result c.fold_block.new.block l g c.in_ok-fold_block.ensures.block c.in_ok-fold_block.ensures.ids)

pub returns-clause-blocks : goal.returns-clause-blocks
returns-clause-blocks c =
    let same : c.from_vec.result ≡ c.loop-at.block-items = grind (arith, common_steps) in
    let (front, g) = c.loop-at.invariant in
    ap (map (block_of (trees_in c.args.text))) same ∙ (all_folded (trees_in c.args.text) (here c.args.text) c.args.rows.now c.args.blocks c.loop-at.block-items front c.loop-at.at (omega arith) g).0

pub returns-clause-ids : goal.returns-clause-ids
returns-clause-ids c = λ n below.
    let same : c.from_vec.result ≡ c.loop-at.block-items = grind (arith, common_steps) in
    let (front, g) = c.loop-at.invariant in
    ap (list_all (block_below n)) same ∙ (all_folded (trees_in c.args.text) (here c.args.text) c.args.rows.now c.args.blocks c.loop-at.block-items front c.loop-at.at (omega arith) g).1 n below
