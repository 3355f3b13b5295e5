use Rattle.std.proofs.Common.{sym}
use Rattle.mir_meaning.specs.Programs.{type_in}
use Rattle.mir_meaning.specs.Views.{memory_of, value_of}
use Rattle.mir_meaning.specs.Sight.{here_of}
use Rattle.mir_meaning.proofs.Execs.{blank_nowhere, blank_set, local_type}
use Rattle.mir_meaning.proofs.exec.set_blank.Goals as goal

pub returns-in_default : goal.returns-in_default
returns-in_default c = blank_nowhere (here_of c.args.here) (memory_of c.args.memory.now) c.args.local (local_type (type_in c.args.here.program.now) c.args.here.body.now.locals c.args.local _ (sym c.in_default.ensures))

pub returns : goal.returns
returns c = blank_set (here_of c.args.here) (memory_of c.args.memory.now) (memory_of c.write.new.self) c.args.local (type_in c.args.here.program.now c.in-Some.ty.now) (value_of c.in_ok-blank.blank) (local_type (type_in c.args.here.program.now) c.args.here.body.now.locals c.args.local _ (sym c.in-Some.ensures)) c.in_ok-blank.ensures c.write.ensures
