use Rattle.std.proofs.Common.{◌∙◌, sym, ap, Some}
use Rattle.mir_semantics.specs.Step.{read}
use Rattle.mir_meaning.specs.Views.{memory_of}
use Rattle.mir_meaning.specs.Sight.{here_of}
use Rattle.mir_meaning.proofs.Operands.{const_read}
use Rattle.mir_meaning.proofs.operand.read.Goals as goal

pub returns-in-Const : goal.returns-in-Const
returns-in-Const c =
    ap (read (here_of c.args.here) (memory_of c.args.memory.now)) c.in-Const.is ∙ (const_read (here_of c.args.here) (memory_of c.args.memory.now) c.in-Const.value ∙ ap (λ v. Some (v, memory_of c.args.memory.now)) (sym c.const_value.ensures))
