use Rattle.std.proofs.Common.{◌≡◌, ◌++◌, map, IsTrue, length}
use Rattle.std.specs.List.{list_all}
use Rattle.mir_syntax.specs.Tree.{trees_of}
use Rattle.mir_syntax.specs.Crate.{block_of}
use Rattle.mir_syntax.specs.Ids.{block_below}
use Rattle.mir_text.specs.NamedBodies.{or_else}
use Rattle.mir_text.specs.NameFaults.{each}
use Rattle.mir_text.specs.ReadLines.{first_of}
use Rattle.mir_resolve.specs.Types.{Grown}
use Rattle.mir_resolve.specs.Faults.{noted}
use Rattle.mir_bodies.specs.Scope.{Tells}
use Rattle.mir_file.specs.Functions.{text_block, text_lines, text_wrong, text_faults}
use Rattle.mir_file.proofs.blocks.read_blocks.Given as goal

abbrev pub ghost-read_block : goal.ghost-read_block
ghost-read_block g a = g.sense

abbrev pub invariant-parts : goal.invariant-parts
invariant-parts g l = record {
  told : map (block_of (trees_of l.draft.program.types)) l.found.blocks ++ map (text_block g.sense) l.left ≡ map (text_block g.sense) l.texts;
  lined : l.found.lines ++ map text_lines l.left ≡ map text_lines l.texts;
  wrong : or_else l.found.wrong_field (first_of (each (text_wrong g.sense) l.left)) ≡ first_of (each (text_wrong g.sense) l.texts);
  inside : IsTrue (list_all (block_below (length l.draft.program.types)) l.found.blocks);
  notes : noted l.draft.notes (each (text_faults g.sense) l.left) ≡ noted l.fn.draft.notes (each (text_faults g.sense) l.texts);
  grown : Grown l.fn.draft.program l.draft.program;
  tells : Tells l.scope l.draft.program g.sense;
}

abbrev pub decreases-parts : goal.decreases-parts
decreases-parts g l = length l.left
