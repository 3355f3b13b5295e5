use Rattle.std.proofs.Common.{ap, ◌∙◌, [], List, map, arith}
use Rattle.mir_syntax.specs.declared.body.Stmt.{Stmt}
use Rattle.mir_syntax.specs.Crate.{stmt_of}
use Rattle.move_paths.specs.Effects.{term_effect}
use Rattle.move_paths.specs.Rows.{passed, passed_stmts, passed_block}
use Rattle.move_paths.proofs.Each.{does_count, does_long, does_then, does_as}
use Rattle.move_paths.proofs.passing.Passing.pass_block.Goals as goal

pub pass_term-requires-clause-within : goal.pass_term-requires-clause-within
pass_term-requires-clause-within c = (let s = c.args.self.now in let count = does_count (passed_stmts s.status (map (stmt_of []) c.as_slice.result.now)) s.units.now.places c.args.row c.args.rows.now c.pass_stmts.new.rows (c.pass_stmts.ensures []) in omega (arith, c.requires.within))

pub pass_term-requires-clause-bits : goal.pass_term-requires-clause-bits
pass_term-requires-clause-bits c = (let s = c.args.self.now in does_long (passed_stmts s.status (map (stmt_of []) c.as_slice.result.now)) s.units.now.places c.args.row c.args.rows.now c.pass_stmts.new.rows c.requires.within c.requires.bits (c.pass_stmts.ensures []))

pub returns : goal.returns
returns c = λ trees.
    let s = c.args.self.now in
    let us = s.units.now.places in
    let k = c.args.block.now in
    let before = passed_stmts s.status (map (stmt_of trees) c.as_slice.result.now) in
    does_as (λ u b. passed s.status (term_effect u k.term) (before u b)) (λ u b. passed s.status (term_effect u k.term) (passed_stmts s.status (map (stmt_of trees) k.stmts) u b)) us c.args.row c.args.rows.now c.pass_term.new.rows
    (λ u b. ap (λ (ss : List Stmt). passed s.status (term_effect u k.term) (passed_stmts s.status (map (stmt_of trees) ss) u b)) c.as_slice.ensures)
    (does_then before (λ u. passed s.status (term_effect u k.term)) us c.args.row c.args.rows.now c.pass_stmts.new.rows c.pass_term.new.rows c.requires.within c.requires.bits (c.pass_stmts.ensures trees) c.pass_term.ensures)
