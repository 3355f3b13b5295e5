use Rattle.std.proofs.Common.{◌≡◌, ◌*◌, ◌<◌, List, sym, subst, map, length, arith}
use Rattle.std.specs.List.{All}
use Rattle.std.proofs.lemmas.List.{length-map}
use Rattle.std.proofs.lemmas.Result.{IfOk-weaker}
use Rattle.mir_syntax.specs.declared.body.Block.{Block}
use Rattle.mir_syntax.specs.Tree.{trees_of}
use Rattle.mir_syntax.specs.Crate.{crate_of, body_of}
use Rattle.mir_syntax.specs.Shapes.{shapes_of}
use Rattle.mir_cfg.specs.Paths.{block_term, terms_of}
use Rattle.flow_engine.specs.declared.edges.Edge.{Edge}
use Rattle.const_flow.specs.ConstAt.{const_at}
use Rattle.const_flow.specs.Cells.{reached_of}
use Rattle.const_flow.specs.Nodes.{at_starts, HasEdges, IsRow}
use Rattle.const_flow.proofs.EachEdge.{edges_tested, edges_inside, closed_at}
use Rattle.const_flow.proofs.Starts.{LeastRows, least_rows, rows_long, starts_of}
use Rattle.const_flow.proofs.rows.solved.Goals as goal

pub invariant_of-flow : goal.invariant_of-flow
invariant_of-flow c =
    let body = c.args.body.now in
    let edges = c.in_ok-edges.edges in
    let has : HasEdges (terms_of body) (length body.blocks) edges = subst (λ (bs : List Block). HasEdges (map block_term bs) (length bs) edges) c.as_slice.ensures c.in_ok-edges.ensures in
    record { all_edges = edges_tested (length body.blocks) (terms_of body) edges has }

pub solve-requires : goal.solve-requires
solve-requires c =
    let body = c.args.body.now in
    let n = length body.blocks in
    let edges = c.in_ok-edges.edges in
    let has : HasEdges (terms_of body) n edges = subst (λ (bs : List Block). HasEdges (map block_term bs) (length bs) edges) c.as_slice.ensures c.in_ok-edges.ensures in
    let m = 3 * c.len-blocks.result in
    let thrice : m ≡ 3 * n = omega (arith, c.len-blocks.ensures) in
    let all = edges_inside n m (terms_of body) edges thrice has (closed_at n (terms_of body) (length-map body.blocks block_term) c.requires.closed) in
    subst (λ (es : List Edge). All (λ (e : Edge). (e.from < m) × (e.to < m)) es) (sym c.as_slice-2.ensures) all

pub returns-clause-nodes : goal.returns-clause-nodes
returns-clause-nodes c =
    let p = c.args.program.now in
    let b = body_of (trees_of p.types) c.args.body.now in
    let D = shapes_of (crate_of p) in
    let ps = c.args.paths.now in
    let m = 3 * c.len-blocks.result in
    IfOk-weaker c.solve.result (LeastRows D b ps m c.as_slice-2.result.now c.in_ok-edges.edges) (λ facts. length facts ≡ 3 * length c.args.body.now.blocks) (λ facts l. omega (arith, rows_long D b ps m c.as_slice-2.result.now c.in_ok-edges.edges facts l, c.len-blocks.ensures)) c.solve.ensures

pub returns-clause-rows : goal.returns-clause-rows
returns-clause-rows c =
    let p = c.args.program.now in
    let b = body_of (trees_of p.types) c.args.body.now in
    let D = shapes_of (crate_of p) in
    let ps = c.args.paths.now in
    let m = 3 * c.len-blocks.result in
    IfOk-weaker c.solve.result (LeastRows D b ps m c.as_slice-2.result.now c.in_ok-edges.edges) (λ facts. All (IsRow ps) facts) (λ facts l. least_rows D b ps m c.as_slice-2.result.now c.in_ok-edges.edges facts l) c.solve.ensures

pub returns-clause-starts : goal.returns-clause-starts
returns-clause-starts c =
    let p = c.args.program.now in
    let trees = trees_of p.types in
    let body = c.args.body.now in
    let n = length body.blocks in
    let D = shapes_of (crate_of p) in
    let ps = c.args.paths.now in
    let edges = c.in_ok-edges.edges in
    let has : HasEdges (terms_of body) n edges = subst (λ (bs : List Block). HasEdges (map block_term bs) (length bs) edges) c.as_slice.ensures c.in_ok-edges.ensures in
    let m = 3 * c.len-blocks.result in
    let thrice : m ≡ 3 * n = omega (arith, c.len-blocks.ensures) in
    IfOk-weaker c.solve.result (LeastRows D (body_of trees body) ps m c.as_slice-2.result.now edges) (λ facts. map (reached_of ps) (at_starts facts) ≡ const_at D (body_of trees body)) (λ facts l. starts_of D trees body ps m c.as_slice-2.result.now edges facts c.requires.places thrice c.as_slice-2.ensures has c.requires.closed l) c.solve.ensures
