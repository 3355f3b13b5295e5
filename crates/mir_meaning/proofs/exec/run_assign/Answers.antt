use Rattle.mir_syntax.specs.Tree.{trees_of}
use Rattle.mir_syntax.specs.Crate.{rvalue_of}
use Rattle.mir_meaning.specs.Views.{memory_of, value_of}
use Rattle.mir_meaning.specs.Sight.{here_of}
use Rattle.mir_meaning.proofs.Binds.{stopped, gives_same}
use Rattle.mir_meaning.proofs.Execs.{exec_gone, exec_goes}
use Rattle.mir_meaning.proofs.exec.run_assign.Goals as goal

pub returns-in_err-value : goal.returns-in_err-value
returns-in_err-value c = stopped c.in_err-value.field-0.0 c.eval.result c.from_residual.result _ _ _ _ c.in_err-value.was c.from_residual.ensures.1 c.eval.ensures (exec_gone (here_of c.args.here) (memory_of c.args.memory.now) c.args.place.now (rvalue_of (trees_of c.args.here.program.now.types) c.args.rvalue.now))

pub returns : goal.returns
returns c = gives_same _ _ _ _ (exec_goes (here_of c.args.here) (memory_of c.args.memory.now) (memory_of c.eval.new.memory) c.args.place.now (rvalue_of (trees_of c.args.here.program.now.types) c.args.rvalue.now) (value_of c.in_ok-value.value) c.in_ok-value.ensures) c.assign.ensures
