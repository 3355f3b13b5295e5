use Rattle.std.proofs.Common.{map, length, ap, ◌∙◌}
use Rattle.std.specs.List.{list_all}
use Rattle.std.specs.Option.{option_map}
use Rattle.mir_syntax.specs.Ids.{stmt_below}
use Rattle.mir_syntax.specs.Tree.{trees_of}
use Rattle.mir_syntax.specs.Crate.{stmt_of}
use Rattle.mir_rules.specs.Broken.{statement_broken}
use Rattle.mir_rules.proofs.Lists.{and_true-right}
use Rattle.mir_validate.specs.Inside.{shapes, local_types}
use Rattle.mir_syntax.specs.Parts.{stmt_whole}
use Rattle.mir_validate.specs.Walk.{place_of, at_line, on_line, statements_broken}
use Rattle.mir_validate.proofs.Faulty.{statement_ascends, line_first, one_more, no_stmts, ended}
use Rattle.mir_validate.proofs.inside.Inside.statements_fault.Goals as goal

pub stmts-preserved : goal.stmts-preserved
stmts-preserved c =
    let p = c.args.self.now.program.now in
    let b = c.args.self.now.body.now in
    let locals = local_types p b in
    let trees = trees_of p.types in
    let line = c.in-Some-parted.line.now in
    let later = c.in-Some-parted.later.now in
    let s = c.in-Some.stmt.now in
    let others = c.in-Some.others.now in
    let codes = statement_broken (shapes p) b.args locals (stmt_of trees s) in
    let item = c.on_line.ensures ∙ (ap (on_line line) c.statement_code.ensures ∙ line_first line codes (statement_ascends (shapes p) locals b.args (stmt_of trees s))) in
    let split = rw (c.in-Some-parted.ensures, c.in-Some.ensures) at c.stmts.invariant.0 in
    let all = statements_broken (shapes p) b.args locals trees c.args.lines.now c.args.stmts.now in
    let next = one_more (option_map place_of c.stmts.found) (option_map place_of c.on_line.result) (map (at_line line) codes) (statements_broken (shapes p) b.args locals trees later others) all split item in
    let whole = rw c.in-Some.ensures at c.stmts.invariant.1 in
    let below = rw c.in-Some.ensures at c.stmts.invariant.2 in (
      rw c.sooner-found.ensures next,
      and_true-right (stmt_whole s) (list_all stmt_whole others) whole,
      and_true-right (stmt_below (length p.types) s) (list_all (stmt_below (length p.types)) others) below,
    )

pub returns : goal.returns
returns c =
    let p = c.args.self.now.program.now in
    let b = c.args.self.now.body.now in
    let locals = local_types p b in
    let trees = trees_of p.types in
    let left = c.stmts.left.now in
    let all = statements_broken (shapes p) b.args locals trees c.args.lines.now c.args.stmts.now in
    ended all (option_map place_of c.stmts.found) (statements_broken (shapes p) b.args locals trees left c.stmts.rest.now) c.stmts.invariant.0
    (ap (statements_broken (shapes p) b.args locals trees left) c.in_default.ensures ∙ no_stmts (shapes p) b.args locals trees left)
