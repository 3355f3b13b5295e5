use Rattle.std.proofs.Common.{◌+◌, ◌<◌, true, ◌∙◌, sym, subst, length, get_or, set, take, arith}
use Rattle.std.proofs.lemmas.List.{length-set}
use Rattle.bit_rows.specs.Rows.{row_at}
use Rattle.mir_cfg.specs.Search.{Finds}
use Rattle.mir_cfg.proofs.Searching.{finds_old, finds_new, one_row}
use Rattle.mir_cfg.proofs.search.find_all.Goals as goal

pub loop-block-preserved-then-get : goal.loop-block-preserved-then-get
loop-block-preserved-then-get c =
    let i = c.loop-block.block-index in (
      c.loop-block.invariant.0,
      finds_old (row_at c.args.found.now 0) (row_at c.loop-block.found 0) c.args.opened.now.items c.loop-block.opened.items c.args.blocks.now i 0 (omega arith) c.loop-block.invariant.1 (sym c.get.ensures ∙ c.if-get.true),
    )

pub loop-block-preserved : goal.loop-block-preserved
loop-block-preserved c =
    let i = c.loop-block.block-index in
    let n = length (row_at c.args.found.now 0) in
    let block = get_or c.args.blocks.now i 0 in
    let now = row_at c.loop-block.found 0 in
    let size = c.loop-block.invariant.0 in
    let low : block < n = c.requires.within i 0 (omega arith) in
    let r = one_row c.loop-block.found c.set.new.self n (set now block true) size c.set.ensures (length-set now block true ∙ size.bits_is 0 (omega arith)) in (
      r.0,
      subst (λ row. Finds (row_at c.args.found.now 0) row c.args.opened.now.items c.push.new.self.items (take (i + 1) c.args.blocks.now)) (sym r.1)
          (subst (λ os. Finds (row_at c.args.found.now 0) (set now block true) c.args.opened.now.items os (take (i + 1) c.args.blocks.now)) (sym c.in_ok-push.ensures.items)
          (finds_new (row_at c.args.found.now 0) now c.args.opened.now.items c.loop-block.opened.items c.args.blocks.now i 0 (omega arith) c.loop-block.invariant.1 (sym c.get.ensures ∙ c.if-get.false) low)),
    )
