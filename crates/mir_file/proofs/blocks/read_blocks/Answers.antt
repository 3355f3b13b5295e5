use Rattle.std.proofs.Common.{◌≡◌, [], ◌∷◌, ◌++◌, ◌∙◌, map, ap, refl, sym}
use Rattle.mir_syntax.specs.Tree.{trees_of}
use Rattle.mir_syntax.specs.Crate.{block_of}
use Rattle.mir_syntax.specs.Ids.{block_below}
use Rattle.mir_text.specs.NamedBodies.{or_else}
use Rattle.mir_text.specs.NameFaults.{each}
use Rattle.mir_text.specs.ReadLines.{first_of}
use Rattle.mir_resolve.specs.Faults.{noted}
use Rattle.mir_resolve.proofs.Growing.{grown_then}
use Rattle.mir_resolve.proofs.Making.{later_of, first_left, made_step}
use Rattle.mir_bodies.proofs.Blocks.{wrong_over}
use Rattle.mir_file.specs.Functions.{text_block, text_lines, text_wrong, text_faults}
use Rattle.mir_file.proofs.Steps.{more_inside, append_step, append_ended, faults_step, faults_ended}
use Rattle.mir_file.proofs.Bodies.{blocks_keep, first_step}
use Rattle.mir_file.proofs.blocks.read_blocks.Goals as goal

pub parts-preserved : goal.parts-preserved
parts-preserved g c =
    let left = c.parts.left.now in
    let item = c.text-item.result in
    let later = later_of left in
    let first : left ≡ item ∷ later = first_left left item c.in-len1-up.len_at_least c.text-item.is in
    let old = c.parts.draft.program.types in
    let new = c.read_block.new.draft.program.types in
    let found = c.parts.found in
    let read = c.in_ok-read.read in
    let is = c.in_ok-read.ensures in
    let put = c.in_ok-push.ensures in
    let before = c.parts.invariant in
    record {
      told = ap (λ l. map (block_of (trees_of new)) l ++ map (text_block g.sense) later) put.blocks
          ∙ made_step block_of block_below blocks_keep old new is.grown.types found.blocks read.block (text_block g.sense item) (map (text_block g.sense) later) _ before.inside
          (ap (λ l. map (block_of (trees_of old)) found.blocks ++ map (text_block g.sense) l) (sym first) ∙ before.told) is.block;
      lined = append_step found.lines _ (read.lines ∷ []) (map text_lines later) _ put.lines
          (ap (λ x. found.lines ++ x ∷ map text_lines later) is.lines ∙ ap (λ l. found.lines ++ map text_lines l) (sym first) ∙ before.lined);
      wrong = first_step found.wrong_field _ _ (text_wrong g.sense item) (each (text_wrong g.sense) later) (put.wrong ∙ ap (or_else found.wrong_field) is.wrong)
          (ap (λ l. or_else found.wrong_field (first_of (each (text_wrong g.sense) l))) (sym first) ∙ before.wrong);
      inside = more_inside block_of block_below blocks_keep old new is.grown.types found.blocks _ read.block before.inside put.blocks is.inside;
      notes = faults_step c.parts.draft.notes _ _ (text_faults g.sense item) (each (text_faults g.sense) later) is.notes
          (ap (λ l. noted c.parts.draft.notes (each (text_faults g.sense) l)) (sym first) ∙ before.notes);
      grown = grown_then before.grown is.grown;
      tells = is.tells;
    }

pub returns-clause-blocks : goal.returns-clause-blocks
returns-clause-blocks g c = append_ended (map (text_block g.sense)) c.parts.left.now _ _ c.in_default.len_below refl c.parts.invariant.told

pub returns-clause-lines : goal.returns-clause-lines
returns-clause-lines g c = append_ended (map text_lines) c.parts.left.now _ _ c.in_default.len_below refl c.parts.invariant.lined

pub returns-clause-wrong : goal.returns-clause-wrong
returns-clause-wrong g c = wrong_over (text_wrong g.sense) c.parts.left.now _ _ c.in_default.len_below c.parts.invariant.wrong

pub returns-clause-notes : goal.returns-clause-notes
returns-clause-notes g c = faults_ended (each (text_faults g.sense)) c.parts.left.now _ _ c.in_default.len_below refl c.parts.invariant.notes
