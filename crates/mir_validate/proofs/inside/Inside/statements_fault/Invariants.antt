use Rattle.std.proofs.Common.{◌≡◌, IsTrue, length}
use Rattle.std.specs.List.{list_all}
use Rattle.std.specs.Option.{option_map}
use Rattle.mir_syntax.specs.Tree.{trees_of}
use Rattle.mir_text.specs.NameFaults.{first_fault}
use Rattle.mir_syntax.specs.Ids.{stmt_below}
use Rattle.mir_syntax.specs.Parts.{stmt_whole}
use Rattle.mir_validate.specs.Inside.{shapes, local_types}
use Rattle.mir_validate.specs.Walk.{place_of, statements_broken}
use Rattle.mir_limits.specs.Answer.{either}
use Rattle.mir_validate.proofs.inside.Inside.statements_fault.Given as goal

abbrev pub invariant-stmts : goal.invariant-stmts
invariant-stmts l =
    let p = l.self.program.now in
    let b = l.self.body.now in
    (first_fault (statements_broken (shapes p) b.args (local_types p b) (trees_of p.types) l.lines l.stmts) ≡ either (option_map place_of l.found) (first_fault (statements_broken (shapes p) b.args (local_types p b) (trees_of p.types) l.left l.rest)))
    × IsTrue (list_all stmt_whole l.rest) × IsTrue (list_all (stmt_below (length p.types)) l.rest)

abbrev pub decreases-stmts : goal.decreases-stmts
decreases-stmts l = length l.rest
