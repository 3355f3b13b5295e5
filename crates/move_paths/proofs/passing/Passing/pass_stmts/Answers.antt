use Rattle.std.proofs.Common.{ap, ◌∙◌, ◌+◌, List, [], map, set, take, arith}
use Rattle.std.proofs.lemmas.List.{take_all}
use Rattle.mir_syntax.specs.declared.body.Stmt.{Stmt}
use Rattle.mir_syntax.specs.Crate.{stmt_of}
use Rattle.bit_rows.specs.Rows.{row_at}
use Rattle.move_paths.specs.Effects.{effect}
use Rattle.move_paths.specs.Rows.{passed, passed_stmts, each_unit}
use Rattle.move_paths.proofs.Each.{does_none, does_count, does_long, does_then, does_as}
use Rattle.move_paths.proofs.Moves.{passed_more}
use Rattle.move_paths.proofs.passing.Passing.pass_stmts.Goals as goal

pub loop-stmt-init : goal.loop-stmt-init
loop-stmt-init c = λ trees. does_none c.args.self.now.units.now.places c.args.row c.args.rows.now c.requires.bits

pub pass_stmt-requires-clause-within : goal.pass_stmt-requires-clause-within
pass_stmt-requires-clause-within c = (let s = c.args.self.now in let count = does_count (passed_stmts s.status (map (stmt_of []) (take c.loop-stmt.stmt-index c.args.stmts.now))) s.units.now.places c.args.row c.args.rows.now c.loop-stmt.rows (c.loop-stmt.invariant []) in omega (arith, c.requires.within))

pub pass_stmt-requires-clause-bits : goal.pass_stmt-requires-clause-bits
pass_stmt-requires-clause-bits c = (let s = c.args.self.now in does_long (passed_stmts s.status (map (stmt_of []) (take c.loop-stmt.stmt-index c.args.stmts.now))) s.units.now.places c.args.row c.args.rows.now c.loop-stmt.rows c.requires.within c.requires.bits (c.loop-stmt.invariant []))

pub loop-stmt-preserved : goal.loop-stmt-preserved
loop-stmt-preserved c = λ trees.
    let s = c.args.self.now in
    let us = s.units.now.places in
    let ss = c.args.stmts.now in
    let i = c.loop-stmt.stmt-index in
    let t = c.stmt-item.result in
    let before = passed_stmts s.status (map (stmt_of trees) (take i ss)) in
    does_as (λ u b. passed s.status (effect u (stmt_of trees t)) (before u b)) (passed_stmts s.status (map (stmt_of trees) (take (i + 1) ss))) us c.args.row c.args.rows.now c.pass_stmt.new.rows
    (λ u b. ap (λ (t : Stmt). passed s.status (effect u (stmt_of trees t)) (before u b)) c.stmt-item.is ∙ passed_more s.status trees ss i t (omega (arith, c.loop-stmt-test.true)) u b)
    (does_then before (λ u. passed s.status (effect u (stmt_of trees t))) us c.args.row c.args.rows.now c.loop-stmt.rows c.pass_stmt.new.rows c.requires.within c.requires.bits (c.loop-stmt.invariant trees) (c.pass_stmt.ensures trees))

pub returns : goal.returns
returns c = λ trees.
    let s = c.args.self.now in
    let rows = c.args.rows.now in
    c.loop-stmt.invariant trees ∙ ap (λ (xs : List Stmt). set rows c.args.row (each_unit (passed_stmts s.status (map (stmt_of trees) xs)) s.units.now.places (row_at rows c.args.row))) (take_all c.loop-stmt.stmt-index c.args.stmts.now (omega (arith, c.loop-stmt-test.false)))
