use Rattle.std.proofs.Common.{◌≡◌, ◌-◌, ◌<◌, ℕ, suc, [], drop, length, ap, subst, arith}
use Rattle.mir_syntax.specs.declared.body.Block.{Block}
use Rattle.bit_rows.specs.Rows.{row_at}
use Rattle.dest_prop.specs.Merged.{any_from}
use Rattle.dest_prop.specs.Code.{Grows, hurts_in, block_hurts_by}
use Rattle.dest_prop.proofs.equal.Grown.{grows_as, grows_item}
use Rattle.dest_prop.proofs.conflicts.note_blocks.Goals as goal

pub note_block-requires-clause-size : goal.note_block-requires-clause-size
note_block-requires-clause-size c = (c.loop-at.invariant.0 []).size

pub loop-at-preserved : goal.loop-at-preserved
loop-at-preserved c =
    let blocks = c.args.blocks.now in
    let n = c.args.locals in
    let rows = c.args.rows.now in
    let at = c.loop-at.at in
    let item = c.index-blocks-at.result in
    let next : ℕ = at - 1 in
    let low : next < length blocks = omega arith in (
      (λ trees.
          grows_item n (hurts_in trees rows.starts rows.ends) blocks c.args.hurts.now c.loop-at.hurts c.note_block.new.hurts next item low
          (subst (λ (m : ℕ). Grows n (λ x y. any_from (hurts_in trees rows.starts rows.ends x y) m (drop m blocks)) c.args.hurts.now c.loop-at.hurts) (let z : at ≡ suc next = omega arith in z) (c.loop-at.invariant.0 trees))
          (grows_as n (block_hurts_by trees rows.starts (row_at rows.ends next) item) _ c.loop-at.hurts c.note_block.new.hurts (λ x y l m. ap (λ (k : Block). block_hurts_by trees rows.starts (row_at rows.ends next) k x y) c.index-blocks-at.is) (c.note_block.ensures.hurts trees))),
      c.note_block.ensures.live,
    )

pub returns : goal.returns
returns c = λ trees.
    let rows = c.args.rows.now in
    let none : c.loop-at.at ≡ 0 = omega arith in
    subst (λ (m : ℕ). Grows c.args.locals (λ x y. any_from (hurts_in trees rows.starts rows.ends x y) m (drop m c.args.blocks.now)) c.args.hurts.now c.loop-at.hurts) none (c.loop-at.invariant.0 trees)
