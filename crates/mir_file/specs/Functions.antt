-- What names mean in the functions of a file, and what is said of a block by its tree.
use Rattle.std.specs.Prelude.{◌≡◌, ℕ, List, [], map}
use Rattle.mir_syntax.specs.declared.lines.BlockLines.{BlockLines}
use Rattle.mir_syntax.specs.declared.program.Program.{Program}
use Rattle.mir_syntax.specs.Tree.{trees_of}
use Rattle.mir_syntax.specs.Crate.{TypedBlock, def_of}
use Rattle.mir_syntax.specs.Ids.{IdsInTable}
use Rattle.mir_syntax.specs.Shapes.{shapes_from}
use Rattle.mir_text.specs.Names.{Strings, Names}
use Rattle.mir_text.specs.NamedBodies.{block_named}
use Rattle.mir_text.specs.NameFaults.{Fault, block_faults}
use Rattle.mir_text.specs.ReadLines.{block_lines, wrong_in_block}
use Rattle.mir_tree.specs.declared.body.BlockText.{BlockText}
use Rattle.mir_tree.specs.Bodies.{lined_block}
use Rattle.mir_tree.specs.Rules.{block_rule}
use Rattle.mir_bodies.specs.Scope.{Sense}
use Rattle.mir_file.specs.declared.paths.FilePaths.{FilePaths}

-- the names of a file whose strings and paths are these, and whose structs and enums a program has
pub record Knows (texts : Strings) (known : FilePaths) (program : Program) (names : Names) : Type 0 where
  pub strings : names.strings ≡ texts
  pub paths : names.paths ≡ known.defs
  pub functions : names.functions ≡ known.functions
  pub outsides : names.outsides ≡ known.outsides
  pub defs : names.defs ≡ map (def_of (trees_of program.types)) program.defs
  pub shapes : names.shapes ≡ shapes_from [] 0 names.defs
  pub in_table : IdsInTable program

-- of a block: what it means, the lines of its parts, those where a field's type is wrong, and its faults
abbrev pub text_block : Sense → BlockText → TypedBlock
text_block sense b = block_named sense.names sense.locals (block_rule (lined_block b))

abbrev pub text_lines : BlockText → BlockLines
text_lines b = block_lines (lined_block b)

abbrev pub text_wrong : Sense → BlockText → List ℕ
text_wrong sense b = wrong_in_block sense.names sense.locals (lined_block b)

abbrev pub text_faults : Sense → BlockText → List Fault
text_faults sense b = block_faults sense.names sense.locals sense.labels (lined_block b)
