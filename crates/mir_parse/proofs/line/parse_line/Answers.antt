use Rattle.mir_parse.specs.LineRules.{line_put, line_rule, LineGood}
use Rattle.mir_parse.specs.Promises.{Semicolon}
use Rattle.mir_parse.specs.Lines.{line}
use Rattle.mir_parse.proofs.LinesRead.{line_text, line-back, line-ends, line-sound}
use Rattle.mir_parse.proofs.Laws.{derives, refuses}
use Rattle.mir_parse.proofs.line.parse_line.Goals as goal

pub returns-clause-derives : goal.returns-clause-derives
returns-clause-derives c =
    derives line_put line_text line_rule LineGood line-back line line-sound (λ f. (f.0, f.1.now)) c.args.symbols.now c.read_line.result c.read_line.ensures.read

pub returns-clause-refuses : goal.returns-clause-refuses
returns-clause-refuses c =
    refuses line_put line_text LineGood Semicolon line line-ends (λ f. (f.0, f.1.now)) c.args.symbols.now c.read_line.result c.read_line.ensures.read
