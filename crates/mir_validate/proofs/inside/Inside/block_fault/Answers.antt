use Rattle.std.proofs.Common.{map, sym, ap, ap₂, ◌∙◌}
use Rattle.mir_syntax.specs.Tree.{trees_of}
use Rattle.mir_syntax.specs.Crate.{crate_of}
use Rattle.mir_rules.specs.Broken.{terminator_broken}
use Rattle.mir_rules.proofs.Least.{first_fault_append}
use Rattle.mir_validate.specs.Inside.{shapes, local_types}
use Rattle.mir_validate.specs.Walk.{at_line, on_line, statements_broken}
use Rattle.mir_limits.specs.Answer.{either}
use Rattle.mir_validate.proofs.Faulty.{terminator_ascends, line_first}
use Rattle.mir_validate.proofs.inside.Inside.block_fault.Goals as goal

pub returns : goal.returns
returns c =
    let p = c.args.self.now.program.now in
    let b = c.args.self.now.body.now in
    let locals = local_types p b in
    let k = c.args.block.now in
    let lines = c.args.lines.now in
    let codes = terminator_broken (crate_of p) (shapes p) locals k.term in
    let stmts = rw (c.as_slice.ensures, c.as_slice-2.ensures) at c.statements_fault-stmts.ensures in
    let ends = c.on_line.ensures ∙ (ap (on_line lines.term) c.in_ok-code.ensures ∙ line_first lines.term codes (terminator_ascends (shapes p) locals (crate_of p) k.term)) in
    c.sooner.ensures ∙ (ap₂ either stmts ends ∙ sym (first_fault_append (statements_broken (shapes p) b.args locals (trees_of p.types) lines.stmts k.stmts) (map (at_line lines.term) codes)))
