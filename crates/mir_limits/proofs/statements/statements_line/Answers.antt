use Rattle.std.proofs.Common.{arith}
use Rattle.mir_rules.specs.Limits.{statement_spots, statements_passed}
use Rattle.mir_limits.proofs.Counted.{told_past, none_past}
use Rattle.mir_limits.proofs.statements.statements_line.Goals as goal

pub returns-in-Line : goal.returns-in-Line
unfolding statements_passed
returns-in-Line c = λ C fit.
    let (spot, at, on) = c.in-Line.ensures C fit in
    told_past c.args.lines.now 6 2000000 c.in-Line.line (statement_spots C) spot at on

pub returns-in-Beyond : goal.returns-in-Beyond
unfolding statements_passed
returns-in-Beyond c = λ C fit.
    let left = c.in-Beyond.ensures C fit in
    none_past c.args.lines.now 6 2000000 (statement_spots C) (omega (arith, left))
