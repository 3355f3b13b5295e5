use Rattle.std.proofs.Common.{ℕ, List, ◌∙◌, map, ap, ap₂, sym}
use Rattle.mir_syntax.specs.declared.body.Term.{Term}
use Rattle.mir_syntax.specs.declared.lines.BlockLines.{BlockLines}
use Rattle.mir_syntax.specs.Crate.{TypedStmt, TypedBlock}
use Rattle.mir_text.specs.NameFaults.{each, on_line, term_codes, stmt_faults}
use Rattle.mir_text.specs.ReadLines.{first_of, any_wrong, term_places, stmt_line_in, wrong_stmt}
use Rattle.mir_tree.specs.Bodies.{lined, stmt_rule, term_rule}
use Rattle.mir_resolve.specs.Faults.{noted}
use Rattle.mir_resolve.proofs.Growing.{grown_then}
use Rattle.mir_resolve.proofs.Noting.{noted-append}
use Rattle.mir_bodies.specs.Statements.{text_stmts, text_line, text_faults, text_wrong}
use Rattle.mir_bodies.proofs.Blocks.{stmts_kept, stmts_inside, kept_last, stmts_each, each_mapped}
use Rattle.mir_bodies.proofs.block.read_block.Goals as goal

pub returns-clause-block : goal.returns-clause-block
returns-clause-block g c =
    let make : List TypedStmt → Term → TypedBlock = λ stmts term. record { stmts = stmts; term = term } in
    let old = c.read_stmts.new.draft.program.types in
    let new = c.read_term.new.draft.program.types in
    ap₂ make
    (stmts_kept old new c.in_ok-stmts.stmts.stmts c.in_ok-term.ensures.went.grown.types c.in_ok-stmts.ensures.inside ∙ c.in_ok-stmts.ensures.stmts
    ∙ ap (each (text_stmts g.sense)) c.as_slice.ensures ∙ stmts_each g.sense c.args.text.now.stmts)
    c.in_ok-term.ensures.term

pub returns-clause-lines : goal.returns-clause-lines
returns-clause-lines g c =
    let make : List ℕ → BlockLines = λ stmts. record { stmts = stmts; term = c.args.text.now.term.line } in
    ap make (c.in_ok-stmts.ensures.lines ∙ ap (each text_line) c.as_slice.ensures ∙ each_mapped stmt_line_in (lined stmt_rule) c.args.text.now.stmts)

pub returns-clause-wrong : goal.returns-clause-wrong
returns-clause-wrong g c =
    let text = c.args.text.now in
    c.first_wrong.ensures
    ∙ kept_last c.in_ok-stmts.stmts.wrong c.in_ok-term.term.wrong (any_wrong g.sense.names g.sense.locals (term_places (term_rule text.term.part))) text.term.line
    (each (wrong_stmt g.sense.names g.sense.locals) (map (lined stmt_rule) text.stmts))
    (c.in_ok-stmts.ensures.wrong
    ∙ ap first_of (ap (each (text_wrong g.sense)) c.as_slice.ensures ∙ each_mapped (wrong_stmt g.sense.names g.sense.locals) (lined stmt_rule) text.stmts))
    c.in_ok-term.ensures.wrong

pub returns-clause-inside : goal.returns-clause-inside
returns-clause-inside g c =
    stmts_inside c.read_stmts.new.draft.program.types c.read_term.new.draft.program.types c.in_ok-stmts.stmts.stmts c.in_ok-term.ensures.went.grown.types c.in_ok-stmts.ensures.inside

pub returns-clause-notes : goal.returns-clause-notes
returns-clause-notes g c =
    let text = c.args.text.now in
    let start = c.args.draft.now.notes in
    let term = on_line text.term.line (term_codes g.sense.names g.sense.locals g.sense.labels (term_rule text.term.part)) in
    c.in_ok-term.ensures.went.notes
    ∙ ap (λ k. noted k term)
    (c.in_ok-stmts.ensures.notes
    ∙ ap (noted start) (ap (each (text_faults g.sense)) c.as_slice.ensures ∙ each_mapped (stmt_faults g.sense.names g.sense.locals) (lined stmt_rule) text.stmts))
    ∙ sym (noted-append start (each (stmt_faults g.sense.names g.sense.locals) (map (lined stmt_rule) text.stmts)) term)

pub returns-clause-grown : goal.returns-clause-grown
returns-clause-grown g c = grown_then c.in_ok-stmts.ensures.grown c.in_ok-term.ensures.went.grown
