use Rattle.std.proofs.Common.{◌≡◌, true, List, sym, ap, ◌∙◌, arith}
use Rattle.const_flow.specs.declared.cell.Cell.{Cell}
use Rattle.const_flow.specs.Facts.{after_term}
use Rattle.const_flow.specs.Sights.{facts_in}
use Rattle.const_flow.proofs.FlownRows.{out_row}
use Rattle.const_flow.proofs.flow.sent_out.Goals as goal

pub returns : goal.returns
returns c =
    let s = c.args.sight in
    let led : c.leads.result ≡ true = grind (arith, c.if-not-leads.false) in
    out_row s.paths.now c.args.term.now c.args.to (facts_in s c.args.cells.now) c.leave.new.self.cells (sym c.leads.ensures ∙ led) c.leave.ensures.cells (c.leave.ensures.facts ∙ ap (λ (ks : List Cell). after_term c.args.term.now (facts_in s ks)) c.in_ok-copied.ensures)
