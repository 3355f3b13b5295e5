use Rattle.std.proofs.Common.{◌≡◌, ◌<◌, [], refl, sym, ap, ◌∙◌, subst, map, length, get_or, arith}
use Rattle.std.proofs.lemmas.Grind.{common_steps}
use Rattle.mir_syntax.specs.Crate.{stmt_of}
use Rattle.mir_syntax.specs.declared.body.Block.{Block}
use Rattle.bit_rows.specs.Rows.{row_at}
use Rattle.liveness.specs.Rows.{before_all}
use Rattle.dead_store.specs.Rounds.{SetsBelow}
use Rattle.dead_store.proofs.equal.Going.{going_more}
use Rattle.dead_store.proofs.blocks.pruned_blocks.Goals as goal

pub prune_block-requires-clause-live_row : goal.prune_block-requires-clause-live_row
prune_block-requires-clause-live_row c =
    let g = c.loop-at.invariant [] in
    let rows = g.rows in
    let long = g.long in
    let size = c.requires.live_size.count_is in
    let l : c.loop-at.at < length c.args.blocks = omega arith in
    omega arith

pub prune_block-requires-clause-lent_bits : goal.prune_block-requires-clause-lent_bits
prune_block-requires-clause-lent_bits c =
    let g = c.loop-at.invariant [] in
    let long = g.long in
    let at = c.loop-at.at in
    let l : at < length c.args.blocks = omega arith in
    subst (λ (k : Block). SetsBelow (length (row_at c.args.lent.now 0)) k.stmts) (sym (g.rest at c.block-item.result (omega arith) l))
    (subst (λ n. SetsBelow n (get_or c.args.blocks at c.block-item.result).stmts) (sym (c.requires.lent_size.bits_is 0 (omega arith))) (c.requires.sets at c.block-item.result l))

pub prune_block-requires-clause-live_bits : goal.prune_block-requires-clause-live_bits
prune_block-requires-clause-live_bits c =
    let g = c.loop-at.invariant [] in
    let long = g.long in
    let at = c.loop-at.at in
    let l : at < length c.args.blocks = omega arith in
    let bits : length (row_at c.loop-at.live at) ≡ c.args.locals = ap length (g.same at (omega arith)) ∙ c.requires.live_size.bits_is at l in
    subst (λ (k : Block). SetsBelow (length (row_at c.loop-at.live at)) k.stmts) (sym (g.rest at c.block-item.result (omega arith) l))
    (subst (λ n. SetsBelow n (get_or c.args.blocks at c.block-item.result).stmts) (sym bits) (c.requires.sets at c.block-item.result l))

pub loop-at-preserved : goal.loop-at-preserved
loop-at-preserved c = λ trees.
    let g = c.loop-at.invariant trees in
    let long = g.long in
    let at = c.loop-at.at in
    let live = c.loop-at.live in
    let items = c.loop-at.block-items in
    let item : Block = get_or items at c.block-item.result in
    let l : at < length c.args.blocks = omega arith in
    going_more trees (row_at c.args.lent.now 0) c.args.live c.args.blocks items _ live c.prune_block.new.live at c.block-item.result c.prune_block.new.block (before_all (map (stmt_of trees) item.stmts) (row_at live at)) l g (c.in_ok-prune_block.ensures.block trees) refl (c.in_ok-prune_block.ensures.live trees)

pub returns-clause-blocks : goal.returns-clause-blocks
returns-clause-blocks c = λ trees i d l.
    let g = c.loop-at.invariant trees in
    let long = g.long in
    let low : i < c.loop-at.at = omega arith in
    let done = g.done i d low l in
    grind (arith, common_steps)
