use Rattle.std.proofs.Common.{Err, Some, inr, ap, ap₂, ◌∙◌}
use Rattle.mir_reader.specs.declared.refused.ReadRefused.TheVariants as refused
use Rattle.mir_reader.proofs.OfTree.{tree-reads, tree-refuses, tree-first}
use Rattle.mir_reader.proofs.Causes.{handed-on, of-names}
use Rattle.mir_reader.proofs.program.read_program.Goals as goal

pub returns-in_err-found-clause-refuses : goal.returns-in_err-found-clause-refuses
returns-in_err-found-clause-refuses c = λ code line e.
    c.read_tree.ensures.refuses code line
    (handed-on c.in_err-found.field-0.0 c.read_tree.result c.from_residual.result (refused.Fault code line) c.in_err-found.was c.from_residual.ensures.1 e)

pub returns-in_err-program-clause-refuses : goal.returns-in_err-program-clause-refuses
returns-in_err-program-clause-refuses c = λ code line e.
    let why = of-names c.in_err-program.field-0.0 c.from_residual-in_err-program.result code line c.from_residual-in_err-program.ensures.1 e in
    tree-refuses c.args.bytes.now c.in_ok-found.found c.in_ok-found.ensures.read (why.fault.line, why.fault.code)
    (c.resolve_file.ensures.refused why.fault (c.in_err-program.was ∙ ap (λ x. Err x) why.is))

pub returns-in_err-program-clause-first : goal.returns-in_err-program-clause-first
returns-in_err-program-clause-first c = λ code line e.
    let why = of-names c.in_err-program.field-0.0 c.from_residual-in_err-program.result code line c.from_residual-in_err-program.ensures.1 e in
    inr (tree-first c.args.bytes.now c.in_ok-found.found c.in_ok-found.ensures.read code line
    (λ items is.
    c.resolve_file.ensures.refused why.fault (c.in_err-program.was ∙ ap (λ x. Err x) why.is) items is
    ∙ ap₂ (λ l k. Some (l, k)) why.line_is why.code_is))

pub returns-clause-reads : goal.returns-clause-reads
returns-clause-reads c =
    tree-reads c.args.bytes.now c.in_ok-found.found c.in_ok-found.ensures.read _ _
    c.in_ok-program.ensures.named c.in_ok-program.ensures.lined c.in_ok-program.ensures.faultless
