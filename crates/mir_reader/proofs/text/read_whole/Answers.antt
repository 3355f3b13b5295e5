use Rattle.mir_reader.specs.declared.refused.ReadRefused.TheVariants as refused
use Rattle.mir_reader.proofs.Refusing.{symbols-refuse}
use Rattle.mir_reader.proofs.Causes.{handed-on}
use Rattle.mir_reader.proofs.text.read_whole.Goals as goal

pub returns-in_err-file-clause-refuses : goal.returns-in_err-file-clause-refuses
returns-in_err-file-clause-refuses c = λ code line e.
    symbols-refuse c.args.bytes.now c.in_ok-found.found c.in_ok-found.ensures.once
    (c.parse.ensures.refuses code line
    (handed-on c.in_err-file.field-0.0 c.parse.result c.from_residual-in_err-file.result (refused.Fault code line) c.in_err-file.was c.from_residual-in_err-file.ensures.1 e))
