use Rattle.std.proofs.Common.{◌≡◌, ◌<◌, ◌∙◌, ap, [], ◌∷◌, ◌++◌, length, map, arith}
use Rattle.std.specs.List.{list_all}
use Rattle.std.proofs.lemmas.Grind.{common_steps}
use Rattle.mir_syntax.specs.Crate.{stmt_of}
use Rattle.mir_syntax.specs.Ids.{stmt_below}
use Rattle.const_rewrite.specs.Points.{here, trees_in}
use Rattle.const_rewrite.proofs.equal.Fronts.{front_long}
use Rattle.const_rewrite.proofs.equal.Stmts.{going_none, going_more, all_folded}
use Rattle.const_rewrite.proofs.fold.folded_stmts.Goals as goal

pub loop-stmt-init : goal.loop-stmt-init
loop-stmt-init c =
    let same : c.deref_mut-stmt-items.result.now ≡ c.args.stmts = grind (arith, common_steps) in
    ([], going_none (trees_in c.args.text) (here c.args.text) c.args.facts.now c.args.stmts c.deref_mut-stmt-items.result.now same)

pub loop-stmt-preserved : goal.loop-stmt-preserved
loop-stmt-preserved c =
    let (front, g) = c.loop-stmt.invariant in
    let items = c.loop-stmt.stmt-items in
    let at = c.loop-stmt.stmt-index in
    let long = front_long c.args.stmts items front at g.here in
    let l : at < length c.args.stmts = omega arith in
    (front ++ c.fold_stmt.new.stmt ∷ [], going_more (trees_in c.args.text) (here c.args.text) c.args.facts.now c.loop-stmt.facts c.fold_stmt.new.facts c.args.stmts items front at c.stmt-item.result c.fold_stmt.new.stmt l g c.in_ok-fold_stmt.ensures.stmt c.in_ok-fold_stmt.ensures.facts c.in_ok-fold_stmt.ensures.ids)

pub returns-clause-stmts : goal.returns-clause-stmts
returns-clause-stmts c =
    let same : c.from_vec.result ≡ c.loop-stmt.stmt-items = grind (arith, common_steps) in
    let (front, g) = c.loop-stmt.invariant in
    ap (map (stmt_of (trees_in c.args.text))) same ∙ (all_folded (trees_in c.args.text) (here c.args.text) c.args.facts.now c.loop-stmt.facts c.args.stmts c.loop-stmt.stmt-items front c.loop-stmt.stmt-index (omega arith) g).0

pub returns-clause-facts : goal.returns-clause-facts
returns-clause-facts c = let (front, g) = c.loop-stmt.invariant in (all_folded (trees_in c.args.text) (here c.args.text) c.args.facts.now c.loop-stmt.facts c.args.stmts c.loop-stmt.stmt-items front c.loop-stmt.stmt-index (omega arith) g).1

pub returns-clause-ids : goal.returns-clause-ids
returns-clause-ids c = λ n below.
    let same : c.from_vec.result ≡ c.loop-stmt.stmt-items = grind (arith, common_steps) in
    let (front, g) = c.loop-stmt.invariant in
    ap (list_all (stmt_below n)) same ∙ (all_folded (trees_in c.args.text) (here c.args.text) c.args.facts.now c.loop-stmt.facts c.args.stmts c.loop-stmt.stmt-items front c.loop-stmt.stmt-index (omega arith) g).2 n below
