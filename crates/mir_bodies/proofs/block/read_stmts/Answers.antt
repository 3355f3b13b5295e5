use Rattle.std.proofs.Common.{◌≡◌, ◌∷◌, ◌++◌, ◌∙◌, map, length, ap, sym}
use Rattle.mir_syntax.specs.Tree.{trees_of}
use Rattle.mir_syntax.specs.Crate.{stmt_of}
use Rattle.mir_syntax.specs.Ids.{stmt_below}
use Rattle.mir_text.specs.NamedBodies.{or_else}
use Rattle.mir_text.specs.NameFaults.{each}
use Rattle.mir_text.specs.ReadLines.{first_of, any_wrong, stmt_places}
use Rattle.mir_tree.specs.Bodies.{stmt_rule}
use Rattle.mir_resolve.specs.Faults.{noted}
use Rattle.mir_resolve.proofs.Growing.{grown_then}
use Rattle.mir_resolve.proofs.Making.{later_of, first_left}
use Rattle.mir_bodies.specs.Statements.{listed, text_stmts, text_line, text_faults, text_wrong}
use Rattle.mir_bodies.proofs.Blocks.{stmts_inside, all_joined, stmts_step, lines_step, kept_step, faults_step, list_ended, wrong_over, faults_over}
use Rattle.mir_bodies.proofs.block.read_stmts.Goals as goal

pub stmts-preserved : goal.stmts-preserved
stmts-preserved g c =
    let left = c.stmts.left.now in
    let item = c.text-item.result in
    let later = later_of left in
    let first : left ≡ item ∷ later = first_left left item c.in-len1-up.len_at_least c.text-item.is in
    let old = c.stmts.draft.program.types in
    let new = c.read_stmt.new.draft.program.types in
    let read = c.in_ok-read.read in
    let is = c.in_ok-read.ensures in
    let put = c.in_ok-put_stmt.ensures in
    let before = c.stmts.invariant in
    record {
      told = stmts_step old new c.stmts.stmts c.put_stmt.new.stmts read.part (text_stmts g.sense item) (each (text_stmts g.sense) later) _ is.went.grown.types before.inside put.stmts
          (ap (λ l. map (stmt_of (trees_of old)) c.stmts.stmts ++ each (text_stmts g.sense) l) (sym first) ∙ before.told) is.stmt;
      lined = lines_step g.sense (trees_of new) c.stmts.lines c.put_stmt.new.lines read.part item (each text_line later) _ put.lines
          (ap (λ l. c.stmts.lines ++ each text_line l) (sym first) ∙ before.lined) is.stmt;
      wrong = ap (λ w. or_else w (first_of (each (text_wrong g.sense) later))) c.first_wrong-wrong.ensures
          ∙ kept_step c.stmts.wrong read.wrong (any_wrong g.sense.names g.sense.locals (stmt_places (stmt_rule item.part))) item.line (each (text_wrong g.sense) later) is.wrong
          ∙ ap (λ l. or_else c.stmts.wrong (first_of (each (text_wrong g.sense) l))) (sym first) ∙ before.wrong;
      inside = rw put.stmts (all_joined (stmt_below (length new)) c.stmts.stmts (listed read.part) (stmts_inside old new c.stmts.stmts is.went.grown.types before.inside) is.inside);
      notes = faults_step c.stmts.draft.notes c.read_stmt.new.draft.notes _ (text_faults g.sense item) (each (text_faults g.sense) later)
          (ap (λ l. noted c.stmts.draft.notes (each (text_faults g.sense) l)) (sym first) ∙ before.notes) is.went.notes;
      grown = grown_then before.grown is.went.grown;
      tells = is.tells;
    }

pub returns-clause-stmts : goal.returns-clause-stmts
returns-clause-stmts g c = list_ended (text_stmts g.sense) c.stmts.left.now _ _ c.in_default.len_below c.stmts.invariant.told

pub returns-clause-lines : goal.returns-clause-lines
returns-clause-lines g c = list_ended text_line c.stmts.left.now _ _ c.in_default.len_below c.stmts.invariant.lined

pub returns-clause-wrong : goal.returns-clause-wrong
returns-clause-wrong g c = wrong_over (text_wrong g.sense) c.stmts.left.now _ _ c.in_default.len_below c.stmts.invariant.wrong

pub returns-clause-notes : goal.returns-clause-notes
returns-clause-notes g c = faults_over (text_faults g.sense) c.stmts.left.now _ _ c.in_default.len_below c.stmts.invariant.notes
