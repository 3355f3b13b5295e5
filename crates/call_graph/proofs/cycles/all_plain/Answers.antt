use Rattle.std.proofs.Common.{◌≡◌, sym, ap, ◌∙◌, false, arith}
use Rattle.mir_cfg.specs.Paths.{block_term}
use Rattle.mir_syntax.specs.declared.body.Block.{Block}
use Rattle.call_graph.specs.Qualif.{is_plain}
use Rattle.call_graph.proofs.Tests.{all_not}
use Rattle.call_graph.proofs.cycles.all_plain.Goals as goal

pub returns-then-not-is_plain : goal.returns-then-not-is_plain
returns-then-not-is_plain c =
    let item = c.block-item.result in
    let e : is_plain item.term ≡ false = (let a = c.is_plain.ensures in let b = c.if-not-is_plain.true in grind arith) in
    sym (all_not is_plain block_term c.args.blocks.now c.loop-block.block-index item c.loop-block-test.true (ap (λ (b : Block). is_plain b.term) (sym c.block-item.is) ∙ e))
