use Rattle.mir_bodies.proofs.rvalue.read_rvalue.Given as goal

abbrev pub ghost-read_operand : goal.ghost-read_operand
ghost-read_operand g a = g.sense

abbrev pub ghost-read_place : goal.ghost-read_place
ghost-read_place g a = g.sense

abbrev pub ghost-read_cast : goal.ghost-read_cast
ghost-read_cast g a = g.sense

abbrev pub ghost-read_binary : goal.ghost-read_binary
ghost-read_binary g a = g.sense

abbrev pub ghost-read_overflow : goal.ghost-read_overflow
ghost-read_overflow g a = g.sense

abbrev pub ghost-read_tuple : goal.ghost-read_tuple
ghost-read_tuple g a = g.sense

abbrev pub ghost-read_build : goal.ghost-read_build
ghost-read_build g a = g.sense
