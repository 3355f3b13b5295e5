use Rattle.std.proofs.Common.{◌∙◌, sym}
use Rattle.mir_meaning.specs.Views.{memory_of}
use Rattle.mir_meaning.specs.Sight.{here_of}
use Rattle.mir_meaning.proofs.Values.{view_parts}
use Rattle.mir_meaning.proofs.Binds.{stopped}
use Rattle.mir_meaning.proofs.Evals.{tuple_gone, tuple_made, same_seen}
use Rattle.mir_meaning.proofs.rvalue.tuple.Goals as goal

pub returns-in_err-values : goal.returns-in_err-values
returns-in_err-values c = stopped c.in_err-values.field-0.0 c.read_all.result c.from_residual.result _ _ _ _ c.in_err-values.was c.from_residual.ensures.1 c.read_all.ensures (tuple_gone (here_of c.args.here) (memory_of c.args.memory.now) c.args.operands.now)

pub returns : goal.returns
returns c = tuple_made (here_of c.args.here) (memory_of c.args.memory.now) (memory_of c.read_all.new.memory) c.args.operands.now _ c.in_ok-values.ensures ∙ same_seen _ _ _ (sym (view_parts c.in_ok-values.values))
