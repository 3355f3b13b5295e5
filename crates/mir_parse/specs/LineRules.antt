-- The lines of a block: statements and terminators together.
use Rattle.mir_text.specs.Grammar.{Put}
use Rattle.mir_text.specs.GrammarStatements.{StmtRule, stmt_put}
use Rattle.mir_text.specs.GrammarTerms.{TermRule, term_put}
use Rattle.mir_text.specs.Nesting.{StmtGood, TermGood}
use Rattle.mir_tree.specs.Bodies.{stmt_rule, term_rule}
use Rattle.mir_parse.specs.declared.line.LineText.{LineText}
use Rattle.mir_parse.specs.declared.line.LineText.TheVariants as l

pub data LineRule : Type 0 where
  stmt : StmtRule → LineRule
  term : TermRule → LineRule

abbrev pub line_put : Put LineRule
line_put (stmt x) rest = stmt_put x rest
line_put (term x) rest = term_put x rest

abbrev pub line_rule : LineText → LineRule
line_rule (l.Stmt x) = stmt (stmt_rule x)
line_rule (l.Term x) = term (term_rule x)

abbrev pub LineGood : LineRule → Type 0
LineGood (stmt x) = StmtGood x
LineGood (term x) = TermGood x
