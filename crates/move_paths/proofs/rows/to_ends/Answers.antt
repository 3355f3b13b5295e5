use Rattle.std.proofs.Common.{◌≡◌, ◌<◌, ℕ, Bool, true, map, List, [], ap, ◌∙◌, sym, length, get_or, set, arith}
use Rattle.std.proofs.lemmas.List.{get_or-map}
use Rattle.bit_rows.specs.Rows.{row_at}
use Rattle.mir_syntax.specs.Crate.{TypedBlock, block_of, stmt_of}
use Rattle.mir_syntax.specs.declared.body.Stmt.{Stmt}
use Rattle.mir_syntax.specs.declared.body.Block.{Block}
use Rattle.liveness.specs.Rows.{block_at, no_block}
use Rattle.move_paths.specs.Rows.{passed_stmts, each_unit}
use Rattle.move_paths.proofs.Each.{each_long}
use Rattle.move_paths.proofs.Ending.{carried_more, carried_size}
use Rattle.move_paths.proofs.rows.to_ends.Goals as goal

pub pass_stmts-requires-clause-within : goal.pass_stmts-requires-clause-within
pass_stmts-requires-clause-within c = (let long = (c.loop-at.invariant []).count in let size = c.requires.size.count_is in omega (arith, long, size, c.loop-at-test.true))

pub pass_stmts-requires-clause-bits : goal.pass_stmts-requires-clause-bits
pass_stmts-requires-clause-bits c = (let here = (c.loop-at.invariant []).rest c.loop-at.at (omega arith) in ap length here ∙ c.requires.size.bits_is c.loop-at.at (omega (arith, c.loop-at-test.true)))

pub loop-at-preserved : goal.loop-at-preserved
loop-at-preserved c = λ trees.
    let us = c.args.units.now.places in
    let blocks = c.args.blocks.now in
    let at = c.loop-at.at in
    let now = c.loop-at.rows in
    let item = c.index-blocks-at.result in
    let low : at < length blocks = omega (arith, c.loop-at-test.true) in
    let on : ℕ → List Bool → List Bool = λ i. each_unit (passed_stmts true (block_at (map (block_of trees) blocks) i).stmts) us in
    let typed : block_at (map (block_of trees) blocks) at ≡ block_of trees (get_or blocks at item) = get_or-map (block_of trees) blocks at item no_block low in
    let here : block_of trees item ≡ block_at (map (block_of trees) blocks) at = ap (block_of trees) c.index-blocks-at.is ∙ sym typed in
    let is : c.pass_stmts.new.rows ≡ set now at (on at (row_at now at)) =
    (c.pass_stmts.ensures trees
    ∙ ap (λ (ss : List Stmt). set now at (each_unit (passed_stmts true (map (stmt_of trees) ss)) us (row_at now at))) c.as_slice.ensures
    ∙ ap (λ (k : TypedBlock). set now at (each_unit (passed_stmts true k.stmts) us (row_at now at))) here) in
    carried_more on c.args.rows.now now c.pass_stmts.new.rows at (let size = c.requires.size.count_is in omega (arith, size, low)) is (c.loop-at.invariant trees)

pub returns-clause-size : goal.returns-clause-size
returns-clause-size c =
    let us = c.args.units.now.places in
    let blocks = c.args.blocks.now in
    carried_size (λ i. each_unit (passed_stmts true (block_at (map (block_of []) blocks) i).stmts) us) c.args.rows.now c.loop-at.rows c.loop-at.at (length blocks) (length us) (λ i row l. each_long (passed_stmts true (block_at (map (block_of []) blocks) i).stmts) us row l) (omega arith) c.requires.size (c.loop-at.invariant [])

pub returns-clause-rows : goal.returns-clause-rows
returns-clause-rows c = λ trees i l. (c.loop-at.invariant trees).done i (omega arith)
