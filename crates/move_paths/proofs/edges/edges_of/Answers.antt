use Rattle.std.proofs.Common.{◌≡◌, ◌<◌, ◌+◌, refl, sym, ap, ◌∙◌, subst, true, false, map, length, get_or, IsTrue, arith}
use Rattle.std.proofs.lemmas.List.{get_or-map}
use Rattle.mir_syntax.specs.Crate.{TypedBlock, block_of}
use Rattle.mir_syntax.specs.declared.body.Block.{Block}
use Rattle.mir_syntax.specs.Parts.{targets}
use Rattle.bit_rows.specs.Rows.{flag}
use Rattle.liveness.specs.Rows.{block_at, no_block}
use Rattle.move_paths.specs.Rows.{IsOnward}
use Rattle.move_paths.proofs.Onward.{onward_skips, onward_more}
use Rattle.move_paths.proofs.edges.edges_of.Goals.{then-has+in_ok-add_block, else-has}
use Rattle.move_paths.proofs.edges.edges_of.Goals as goal

pub loop-at-preserved : goal.loop-at-preserved
loop-at-preserved c = λ trees.
    let blocks = c.args.blocks.now in
    let typed = map (block_of trees) blocks in
    let at = c.loop-at.at in
    let item = c.index-blocks-at.result in
    let low : at < length blocks = omega (arith, c.loop-at-test.true) in
    let next : targets item.term ≡ targets (block_at typed at).term =
    ap (λ (b : Block). targets b.term) c.index-blocks-at.is ∙ ap (λ (b : TypedBlock). targets b.term) (sym (get_or-map (block_of trees) blocks at item no_block low)) in
    elim c.if-has.branch [
      | then-has+in_ok-add_block v ↦ subst (λ es. IsOnward (λ a. IsTrue (flag c.args.reached.now 0 a)) typed (at + 1) es) (sym v.edges-is) (onward_more (λ a. IsTrue (flag c.args.reached.now 0 a)) typed at c.loop-at.edges v.add_block.new.edges (targets item.term) (c.loop-at.invariant trees) (sym c.has.ensures ∙ v.if-has.true) next v.in_ok-add_block.ensures)
      | else-has v ↦ subst (λ es. IsOnward (λ a. IsTrue (flag c.args.reached.now 0 a)) typed (at + 1) es) (sym v.edges-is) (onward_skips (λ a. IsTrue (flag c.args.reached.now 0 a)) typed at c.loop-at.edges (c.loop-at.invariant trees) (λ h. absurd (let z : true ≡ false = sym h ∙ sym c.has.ensures ∙ v.if-has.false in grind arith)))
    ]

pub returns : goal.returns
returns c = λ trees.
    let all : c.loop-at.at ≡ length c.args.blocks.now = omega (arith, c.loop-at-test.false) in
    subst (λ n. IsOnward (λ a. IsTrue (flag c.args.reached.now 0 a)) (map (block_of trees) c.args.blocks.now) n c.loop-at.edges) all (c.loop-at.invariant trees)
