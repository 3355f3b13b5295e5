use Rattle.std.proofs.Common.{◌≡◌, ◌++◌, length}
use Rattle.mir_text.specs.Names.{def_paths, function_paths_in, outside_paths_in}
use Rattle.mir_file.specs.Items.{rules_of}
use Rattle.mir_file.proofs.paths.read_paths.Given as goal

abbrev pub invariant-items : goal.invariant-items
invariant-items l = record {
  defs : l.paths.defs ++ def_paths l.strings (rules_of l.left) ≡ def_paths l.strings (rules_of l.items);
  functions : l.paths.functions ++ function_paths_in l.strings (rules_of l.left) ≡ function_paths_in l.strings (rules_of l.items);
  outsides : l.paths.outsides ++ outside_paths_in l.strings (rules_of l.left) ≡ outside_paths_in l.strings (rules_of l.items);
}

abbrev pub decreases-items : goal.decreases-items
decreases-items l = length l.left
