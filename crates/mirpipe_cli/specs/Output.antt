-- The bytes of what a command writes; no public promise rests on it.
use Rattle.std.specs.Prelude.{ℕ, List}
use Rattle.mir_syntax.specs.Tree.{trees_of}
use Rattle.mir_syntax.specs.Crate.{crate_of, function_of}
use Rattle.mir_text.specs.Text.{text, function_text}
use Rattle.mirpipe_cli.specs.declared.command.Output.{Output}
use Rattle.mirpipe_cli.specs.declared.command.Output.TheVariants.{Line, Crate, Function}

abbrev pub bytes_of : Output → List ℕ
bytes_of (Line line) = line
bytes_of (Crate program) = text (crate_of program)
bytes_of (Function program function) = function_text (crate_of program) (function_of (trees_of program.types) function)
