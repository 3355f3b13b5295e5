use Rattle.std.proofs.Common.{ap, ◌∙◌}
use Rattle.mir_text.specs.Names.{names_of}
use Rattle.mir_text.specs.Naming.{crate_named}
use Rattle.mir_text.specs.NameFaults.{name_faults}
use Rattle.mir_text.specs.ReadLines.{lines_named}
use Rattle.mir_tree.specs.Rules.{file_of}
use Rattle.mir_file.proofs.Scopes.{names_plain, crate_plain, lines_plain, faults_plain}
use Rattle.mir_file.proofs.laws.scopes_name_nothing.Goals as goal

pub returns-clause-names : goal.returns-clause-names
returns-clause-names c = λ strings file items is. ap (λ l. names_of strings (file_of l)) is ∙ names_plain strings items

pub returns-clause-crate_is : goal.returns-clause-crate_is
returns-clause-crate_is c = λ strings file items is. ap (λ l. crate_named strings (file_of l)) is ∙ crate_plain strings items

pub returns-clause-lines : goal.returns-clause-lines
returns-clause-lines c = λ names file items is. ap (lines_named names) is ∙ lines_plain names items

pub returns-clause-faults : goal.returns-clause-faults
returns-clause-faults c = λ names file items is. ap (name_faults names) is ∙ faults_plain names items
