use Rattle.std.proofs.Common.{◌≡◌, ◌++◌, IsTrue, map, length}
use Rattle.std.specs.List.{list_all}
use Rattle.mir_syntax.specs.Tree.{trees_of}
use Rattle.mir_syntax.specs.Crate.{stmt_of}
use Rattle.mir_syntax.specs.Ids.{stmt_below}
use Rattle.mir_text.specs.NamedBodies.{or_else}
use Rattle.mir_text.specs.NameFaults.{each}
use Rattle.mir_text.specs.ReadLines.{first_of}
use Rattle.mir_resolve.specs.Types.{Grown}
use Rattle.mir_resolve.specs.Faults.{noted}
use Rattle.mir_bodies.specs.Scope.{Tells}
use Rattle.mir_bodies.specs.Statements.{text_stmts, text_line, text_faults, text_wrong}
use Rattle.mir_bodies.proofs.block.read_stmts.Given as goal

abbrev pub ghost-read_stmt : goal.ghost-read_stmt
ghost-read_stmt g a = g.sense

abbrev pub invariant-stmts : goal.invariant-stmts
invariant-stmts g l = record {
  told : map (stmt_of (trees_of l.draft.program.types)) l.stmts ++ each (text_stmts g.sense) l.left ≡ each (text_stmts g.sense) l.texts;
  lined : l.lines ++ each text_line l.left ≡ each text_line l.texts;
  wrong : or_else l.wrong (first_of (each (text_wrong g.sense) l.left)) ≡ first_of (each (text_wrong g.sense) l.texts);
  inside : IsTrue (list_all (stmt_below (length l.draft.program.types)) l.stmts);
  notes : noted l.draft.notes (each (text_faults g.sense) l.left) ≡ noted l.fn.draft.notes (each (text_faults g.sense) l.texts);
  grown : Grown l.fn.draft.program l.draft.program;
  tells : Tells l.scope l.draft.program g.sense;
}

abbrev pub decreases-stmts : goal.decreases-stmts
decreases-stmts g l = length l.left
