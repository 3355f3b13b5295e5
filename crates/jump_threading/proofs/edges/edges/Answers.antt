use Rattle.std.proofs.Common.{◌≡◌, ◌<◌, ◌+◌, ◌-◌, List, None, sym, ap, ◌∙◌, subst, map, length, get_or, arith}
use Rattle.std.proofs.lemmas.List.{length-map, get_or-map}
use Rattle.mir_syntax.specs.declared.body.Block.{Block}
use Rattle.mir_syntax.specs.Tree.{trees_of}
use Rattle.mir_syntax.specs.Crate.{crate_of, body_of, block_of}
use Rattle.mir_syntax.specs.Shapes.{shapes_of}
use Rattle.const_flow.specs.Sights.{text_of}
use Rattle.jump_threading.specs.Threaded.{thread_of, threads}
use Rattle.jump_threading.specs.Code.{IsEdgeOf, StandFor}
use Rattle.jump_threading.proofs.equal.Edges.{SoFar, so_far_none, so_far_some, stands_for}
use Rattle.jump_threading.proofs.edges.edges.Goals as goal
use Rattle.jump_threading.proofs.edges.edges.Goals.{in-Some+in_ok-push, in_default}

pub loop-from-preserved : goal.loop-from-preserved
loop-from-preserved c =
    let h = text_of c.args.program.now c.args.body.now in
    let typed = block_of (trees_of c.args.program.now.types) in
    let blocks = c.args.body.now.blocks in
    let ks = map typed blocks in
    let xs = c.args.rows.now in
    let i = c.loop-from.from in
    let d = c.block-item.result in
    let same : c.as_slice-block-items.result.now ≡ blocks = c.as_slice-block-items.ensures in
    let long : length ks ≡ length blocks = length-map blocks typed in
    let size : length c.as_slice-block-items.result.now ≡ length blocks = ap length same in
    let there : i < length blocks = omega (arith, size) in
    let within : i < length ks = omega (arith, there, long) in
    let item : get_or ks i (typed d) ≡ typed d = get_or-map typed blocks i d (typed d) there ∙ ap typed (ap (λ (bs : List Block). get_or bs i d) (sym same) ∙ sym c.block-item.is) in
    let is : IsEdgeOf ks c.in_ok-edge.field-0 (thread_of h ks i (typed d) (get_or xs i None)) = c.in_ok-edge.ensures in
    elim c.match-branch-2.branch [
      | in-Some+in_ok-push w ↦ subst (SoFar h ks xs (i + 1)) (sym (w.edges-is ∙ w.in_ok-push.ensures.ok)) (so_far_some h ks xs i (typed d) c.loop-from.edges c.in_ok-edge.field-0 w.in-Some.edge within item c.loop-from.invariant is w.in-Some.is)
      | in_default w ↦ subst (SoFar h ks xs (i + 1)) (sym w.edges-is) (so_far_none h ks xs i (typed d) c.loop-from.edges c.in_ok-edge.field-0 within item c.loop-from.invariant is w.in_default.is)
    ]

pub returns : goal.returns
returns c =
    let trees = trees_of c.args.program.now.types in
    let D = shapes_of (crate_of c.args.program.now) in
    let blocks = c.args.body.now.blocks in
    let long : length (map (block_of trees) blocks) ≡ length blocks = length-map blocks (block_of trees) in
    let size : length c.as_slice-block-items.result.now ≡ length blocks = ap length c.as_slice-block-items.ensures in
    let room : c.saturating_sub.result ≡ 10000 - length (map (block_of trees) blocks) = c.saturating_sub.ensures ∙ ap (λ n. 10000 - n) (c.len.ensures ∙ sym long) in
    subst (λ es. StandFor (map (block_of trees) blocks) es (threads D c.args.rows.now (body_of trees c.args.body.now))) (sym c.truncate.ensures)
    (stands_for D c.args.rows.now (body_of trees c.args.body.now) c.loop-from.from c.saturating_sub.result c.loop-from.edges (omega (arith, long, size)) room c.loop-from.invariant)
