use Rattle.std.proofs.Common.{◌∙◌, sym, ap}
use Rattle.mir_syntax.specs.Tree.{trees_of}
use Rattle.mir_syntax.specs.Crate.{rvalue_of}
use Rattle.mir_semantics.specs.Step.{eval}
use Rattle.mir_meaning.specs.Views.{memory_of}
use Rattle.mir_meaning.specs.Sight.{here_of}
use Rattle.mir_meaning.proofs.Binds.{gives_same}
use Rattle.mir_meaning.proofs.Evals.{use_is}
use Rattle.mir_meaning.proofs.rvalue.eval.Goals as goal

pub returns-in-Use : goal.returns-in-Use
returns-in-Use c =
    gives_same _ _ _ _ (ap (λ r. eval (here_of c.args.here) (memory_of c.args.memory.now) (rvalue_of (trees_of c.args.here.program.now.types) r)) c.in-Use.is ∙ sym (use_is (here_of c.args.here) (memory_of c.args.memory.now) c.in-Use.operand)) c.read.ensures
