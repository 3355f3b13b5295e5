use Rattle.mir_text.specs.Names.{names_of}
use Rattle.mir_file.specs.Items.{rules_of}
use Rattle.mir_file.proofs.resolve.resolve_items.Given as goal

abbrev pub ghost-read_functions : goal.ghost-read_functions
ghost-read_functions a = names_of a.strings.now (rules_of a.items)
