use Rattle.std.proofs.Common.{ap, subst, List, map, length, IsTrue}
use Rattle.std.proofs.lemmas.Result.{IfOk-weaker}
use Rattle.mir_syntax.specs.Tree.{Tree}
use Rattle.mir_syntax.specs.Crate.{block_of}
use Rattle.mir_syntax.specs.declared.body.Block.{Block}
use Rattle.mir_cfg.specs.Paths.{terms_of, Reached}
use Rattle.bit_rows.specs.Rows.{flag}
use Rattle.move_paths.specs.Rows.{IsOnward}
use Rattle.move_paths.proofs.Onward.{onward_as}
use Rattle.move_paths.proofs.edges.onward_edges.Goals as goal

pub returns : goal.returns
returns c =
    let body = c.args.body.now in
    let reached = c.in_ok-reached.reached in
    let marks = c.in_ok-reached.ensures.reached in
    IfOk-weaker c.edges_of.result (λ edges. (trees : List Tree) → IsOnward (λ a. IsTrue (flag reached 0 a)) (map (block_of trees) c.as_slice.result.now) (length c.as_slice.result.now) edges) (λ edges. (trees : List Tree) → IsOnward (Reached (terms_of body)) (map (block_of trees) body.blocks) (length body.blocks) edges)
    (λ edges h trees. onward_as (λ a. IsTrue (flag reached 0 a)) (Reached (terms_of body)) (map (block_of trees) body.blocks) (length body.blocks) edges (λ a t. (marks a).0 t) (λ a r. (marks a).1 r)
    (subst (λ (bs : List Block). IsOnward (λ a. IsTrue (flag reached 0 a)) (map (block_of trees) bs) (length bs) edges) c.as_slice.ensures (h trees)))
    c.edges_of.ensures
