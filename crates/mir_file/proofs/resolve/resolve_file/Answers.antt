use Rattle.std.proofs.Common.{ap, sym, ◌∙◌}
use Rattle.mir_text.specs.NameFaults.{name_faults, first_fault}
use Rattle.mir_text.specs.ReadLines.{lines_named}
use Rattle.mir_file.proofs.Scopes.{lines_plain, faults_plain}
use Rattle.mir_file.proofs.Told.{crate_told, parts_told}
use Rattle.mir_file.proofs.resolve.resolve_file.Goals as goal

pub returns-in-Ok-clause-named : goal.returns-in-Ok-clause-named
returns-in-Ok-clause-named c = λ items is. c.in-Ok.ensures.named ∙ crate_told c.args.strings.now c.args.file.items items is

pub returns-in-Ok-clause-lined : goal.returns-in-Ok-clause-lined
returns-in-Ok-clause-lined c = λ items is. c.in-Ok.ensures.lined ∙ parts_told lines_named lines_plain c.args.strings.now c.args.file.items items is

pub returns-in-Ok-clause-faultless : goal.returns-in-Ok-clause-faultless
returns-in-Ok-clause-faultless c = λ items is. sym (parts_told name_faults faults_plain c.args.strings.now c.args.file.items items is) ∙ c.in-Ok.ensures.faultless

pub returns-in-Err-clause-refused : goal.returns-in-Err-clause-refused
returns-in-Err-clause-refused c = λ fault h items is.
    sym (ap first_fault (parts_told name_faults faults_plain c.args.strings.now c.args.file.items items is)) ∙ c.in-Err.ensures.refused fault h
