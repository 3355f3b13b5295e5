use Rattle.std.proofs.Common.{sym, ◌∙◌}
use Rattle.mir_syntax.specs.Tree.{trees_of}
use Rattle.mir_print.specs.Seen.{crate_in}
use Rattle.mir_print.proofs.Texts.{function_some, function_none}
use Rattle.mir_print.proofs.term.function_path.Goals as goal

pub returns-in-Some : goal.returns-in-Some
unfolding crate_in
returns-in-Some c = c.as_slice.ensures ∙ sym (function_some (trees_of c.args.program.now.types) c.args.program.now.functions c.args.function.0 c.in-Some.found.now (sym c.in-Some.ensures))

pub returns-in-None : goal.returns-in-None
unfolding crate_in
returns-in-None c = sym (function_none (trees_of c.args.program.now.types) c.args.program.now.functions c.args.function.0 (sym c.in-None.ensures))
