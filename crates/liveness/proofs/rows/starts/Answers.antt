use Rattle.std.proofs.Common.{◌≡◌, ◌<◌, ℕ, Bool, List, sym, ap, ◌∙◌, subst, map, length, IsTrue, ◌↔◌, arith}
use Rattle.std.specs.List.{All}
use Rattle.std.proofs.lemmas.Result.{IfOk-weaker}
use Rattle.mir_syntax.specs.Tree.{trees_of}
use Rattle.mir_syntax.specs.Crate.{crate_of, body_of, block_of}
use Rattle.mir_syntax.specs.Shapes.{shapes_of}
use Rattle.mir_syntax.specs.declared.body.Block.{Block}
use Rattle.bit_rows.specs.Rows.{row_at, flag, HasSize}
use Rattle.flow_engine.specs.declared.edges.Edge.{Edge}
use Rattle.liveness.specs.Live.{Live}
use Rattle.liveness.specs.Rows.{IsTurned}
use Rattle.liveness.specs.Facts.{IsSized}
use Rattle.liveness.proofs.Whole.{LeastOf, least_moved, sized, inside, facts_long, facts_sized, table_size, table_live}
use Rattle.liveness.proofs.rows.starts.Goals as goal

pub invariant_of-flow : goal.invariant_of-flow
invariant_of-flow c =
    let p = c.args.program.now in
    let trees = trees_of p.types in
    let body = c.args.body.now in
    let edges = c.in_ok-edges.edges in
    let turned : IsTurned (map (block_of trees) body.blocks) (length body.blocks) edges = subst (λ (bs : List Block). IsTurned (map (block_of trees) bs) (length bs) edges) c.as_slice.ensures (c.in_ok-edges.ensures trees) in
    let made = sized (shapes_of (crate_of p)) trees body c.requires.closed edges c.in_ok-gens.gens c.in_ok-kills.kills turned c.in_ok-gens.ensures (c.in_ok-kills.ensures trees) in
    record { sized = subst (λ n. IsSized n c.len-bits.result edges c.in_ok-gens.gens c.in_ok-kills.kills) (sym c.len-blocks.ensures) (subst (λ n. IsSized (length body.blocks) n edges c.in_ok-gens.gens c.in_ok-kills.kills) (sym c.len-bits.ensures) made) }

pub solve-requires : goal.solve-requires
solve-requires c =
    let p = c.args.program.now in
    let trees = trees_of p.types in
    let body = c.args.body.now in
    let edges = c.in_ok-edges.edges in
    let turned : IsTurned (map (block_of trees) body.blocks) (length body.blocks) edges = subst (λ (bs : List Block). IsTurned (map (block_of trees) bs) (length bs) edges) c.as_slice.ensures (c.in_ok-edges.ensures trees) in
    let all = inside (shapes_of (crate_of p)) trees body c.requires.closed edges c.in_ok-gens.gens c.in_ok-kills.kills turned c.in_ok-gens.ensures (c.in_ok-kills.ensures trees) in
    subst (λ n. All (λ (e : Edge). (e.from < n) × (e.to < n)) c.as_slice-2.result.now) (sym c.len-blocks.ensures) (subst (λ (es : List Edge). All (λ (e : Edge). (e.from < length body.blocks) × (e.to < length body.blocks)) es) (sym c.as_slice-2.ensures) all)

pub one_table-requires-clause-few : goal.one_table-requires-clause-few
one_table-requires-clause-few c =
    let p = c.args.program.now in
    let D = shapes_of (crate_of p) in
    let trees = trees_of p.types in
    let body = c.args.body.now in
    let edges = c.in_ok-edges.edges in
    let gens = c.in_ok-gens.gens in
    let kills = c.in_ok-kills.kills in
    let facts = c.in_ok-facts.facts in
    let turned : IsTurned (map (block_of trees) body.blocks) (length body.blocks) edges = subst (λ (bs : List Block). IsTurned (map (block_of trees) bs) (length bs) edges) c.as_slice.ensures (c.in_ok-edges.ensures trees) in
    let least : LeastOf (length body.blocks) (length body.locals) edges edges gens kills facts = least_moved c.len-blocks.result (length body.blocks) c.len-bits.result (length body.locals) c.as_slice-2.result.now edges gens kills facts c.len-blocks.ensures c.len-bits.ensures c.as_slice-2.ensures c.in_ok-facts.ensures in
    let long = facts_long D trees body c.requires.closed edges gens kills turned c.in_ok-gens.ensures (c.in_ok-kills.ensures trees) facts least in
    let same = ap length c.as_slice-3.ensures in
    omega (arith, c.requires.few_blocks)

pub one_table-requires-clause-sizes : goal.one_table-requires-clause-sizes
one_table-requires-clause-sizes c =
    let p = c.args.program.now in
    let D = shapes_of (crate_of p) in
    let trees = trees_of p.types in
    let body = c.args.body.now in
    let edges = c.in_ok-edges.edges in
    let gens = c.in_ok-gens.gens in
    let kills = c.in_ok-kills.kills in
    let facts = c.in_ok-facts.facts in
    let turned : IsTurned (map (block_of trees) body.blocks) (length body.blocks) edges = subst (λ (bs : List Block). IsTurned (map (block_of trees) bs) (length bs) edges) c.as_slice.ensures (c.in_ok-edges.ensures trees) in
    let least : LeastOf (length body.blocks) (length body.locals) edges edges gens kills facts = least_moved c.len-blocks.result (length body.blocks) c.len-bits.result (length body.locals) c.as_slice-2.result.now edges gens kills facts c.len-blocks.ensures c.len-bits.ensures c.as_slice-2.ensures c.in_ok-facts.ensures in
    let all = facts_sized D trees body c.requires.closed edges gens kills turned c.in_ok-gens.ensures (c.in_ok-kills.ensures trees) facts least in
    subst (λ n. All (λ x. HasSize x 1 n) c.as_slice-3.result.now) (sym c.len-bits.ensures) (subst (λ (xs : List (List (List Bool))). All (λ x. HasSize x 1 (length body.locals)) xs) (sym c.as_slice-3.ensures) all)

pub returns-clause-size : goal.returns-clause-size
returns-clause-size c =
    let p = c.args.program.now in
    let D = shapes_of (crate_of p) in
    let trees = trees_of p.types in
    let body = c.args.body.now in
    let edges = c.in_ok-edges.edges in
    let gens = c.in_ok-gens.gens in
    let kills = c.in_ok-kills.kills in
    let facts = c.in_ok-facts.facts in
    let turned : IsTurned (map (block_of trees) body.blocks) (length body.blocks) edges = subst (λ (bs : List Block). IsTurned (map (block_of trees) bs) (length bs) edges) c.as_slice.ensures (c.in_ok-edges.ensures trees) in
    let least : LeastOf (length body.blocks) (length body.locals) edges edges gens kills facts = least_moved c.len-blocks.result (length body.blocks) c.len-bits.result (length body.locals) c.as_slice-2.result.now edges gens kills facts c.len-blocks.ensures c.len-bits.ensures c.as_slice-2.ensures c.in_ok-facts.ensures in
    IfOk-weaker c.one_table.result (λ table. table ≡ map (λ row. row_at row 0) c.as_slice-3.result.now) (λ table. HasSize table (length body.blocks) (length body.locals)) (λ table e. table_size D trees body c.requires.closed edges gens kills turned c.in_ok-gens.ensures (c.in_ok-kills.ensures trees) facts least table (e ∙ ap (map (λ row. row_at row 0)) c.as_slice-3.ensures)) c.one_table.ensures

pub returns-clause-live : goal.returns-clause-live
returns-clause-live c =
    let p = c.args.program.now in
    let D = shapes_of (crate_of p) in
    let trees = trees_of p.types in
    let body = c.args.body.now in
    let edges = c.in_ok-edges.edges in
    let gens = c.in_ok-gens.gens in
    let kills = c.in_ok-kills.kills in
    let facts = c.in_ok-facts.facts in
    let turned : IsTurned (map (block_of trees) body.blocks) (length body.blocks) edges = subst (λ (bs : List Block). IsTurned (map (block_of trees) bs) (length bs) edges) c.as_slice.ensures (c.in_ok-edges.ensures trees) in
    let least : LeastOf (length body.blocks) (length body.locals) edges edges gens kills facts = least_moved c.len-blocks.result (length body.blocks) c.len-bits.result (length body.locals) c.as_slice-2.result.now edges gens kills facts c.len-blocks.ensures c.len-bits.ensures c.as_slice-2.ensures c.in_ok-facts.ensures in
    IfOk-weaker c.one_table.result (λ table. table ≡ map (λ row. row_at row 0) c.as_slice-3.result.now) (λ table. (b x : ℕ) → b < length body.blocks → x < length body.locals → IsTrue (flag table b x) ↔ Live D (body_of trees body) b 0 x) (λ table e. table_live D trees body c.requires.closed edges gens kills turned c.in_ok-gens.ensures (c.in_ok-kills.ensures trees) facts least table (e ∙ ap (map (λ row. row_at row 0)) c.as_slice-3.ensures)) c.one_table.ensures
