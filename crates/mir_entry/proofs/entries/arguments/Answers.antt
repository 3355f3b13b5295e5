use Rattle.std.proofs.Common.{◌≡◌, ◌∙◌, false, sym, ap, drop, inr}
use Rattle.mir_syntax.specs.Tree.{at_ids, trees_of}
use Rattle.mir_semantics.specs.Entry.{holds_reference}
use Rattle.mir_meaning.specs.Programs.{shapes_in}
use Rattle.mir_entry.specs.Entering.{has_references}
use Rattle.mir_entry.specs.Readings.{integers_of}
use Rattle.mir_entry.proofs.Entering.{over_read}
use Rattle.mir_entry.proofs.entries.arguments.Goals as goal

pub returns-else-is_empty-clause-strays : goal.returns-else-is_empty-clause-strays
returns-else-is_empty-clause-strays c = λ k gives.
    let p = c.args.program.now in
    let count : c.args.body.now.args ≡ k = cc in
    let plain : has_references p c.args.body.now ≡ false = ap (λ ids. holds_reference (shapes_in p) (at_ids (trees_of p.types) ids)) (sym c.signature-signature.ensures.takes) ∙ sym c.types_refer_any.ensures ∙ c.if-types_refer_any.false in
    let over =
    over_read p c.args.body.now (integers_of c.args.flat.now) c.in-Fit.args c.in-Fit.rest.now c.behind_first.result.now c.is_empty.result (c.behind_first.ensures.drops ∙ ap (drop 1) c.signature-signature.ensures.takes)
    (rw c.in-Fit.is at c.in_ok-args.ensures.read) c.is_empty.ensures c.if-is_empty.false in
    inr (plain, inr (over, sym count))
