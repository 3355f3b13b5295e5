use Rattle.std.proofs.Common.{List, ap₂, ◌∙◌, map}
use Rattle.mir_syntax.specs.declared.body.Stmt.{Stmt}
use Rattle.mir_syntax.specs.Crate.{stmt_of}
use Rattle.const_flow.specs.declared.cell.Cell.{Cell}
use Rattle.const_flow.specs.Facts.{after_all}
use Rattle.const_flow.specs.Sights.{text_in, trees_in, facts_in}
use Rattle.const_flow.proofs.FlownRows.{walked_row}
use Rattle.const_flow.proofs.flow.gone_over.Goals as goal

pub returns : goal.returns
returns c =
    let s = c.args.sight in
    walked_row s.paths.now c.pass_all.new.self.cells (after_all (text_in s) (map (stmt_of (trees_in s)) c.args.block.now.stmts) (facts_in s c.args.cells.now)) c.pass_all.ensures.cells
    (c.in_ok-pass_all.ensures.ok ∙ ap₂ (λ (ss : List Stmt) (ks : List Cell). after_all (text_in s) (map (stmt_of (trees_in s)) ss) (facts_in s ks)) c.as_slice.ensures c.in_ok-copied.ensures)
