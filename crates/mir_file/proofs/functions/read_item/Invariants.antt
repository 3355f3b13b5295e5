use Rattle.mir_file.proofs.functions.read_item.Given as goal

abbrev pub ghost-read_function : goal.ghost-read_function
ghost-read_function g a = g.names
