use Rattle.mirpipe_cli.proofs.Dropping.{line_there, no_block_line, no_function_line}
use Rattle.mirpipe_cli.proofs.drops.terminator_line.Goals as goal

pub returns-in-Some-get : goal.returns-in-Some-get
returns-in-Some-get c = line_there c.args.lines.now c.args.function c.args.block c.in-Some.found.now c.in-Some-get.at.now c.in-Some.ensures c.in-Some-get.ensures

pub returns-in-None-get : goal.returns-in-None-get
returns-in-None-get c = no_block_line c.args.lines.now c.args.function c.args.block c.in-Some.found.now c.in-Some.ensures c.in-None-get.ensures

pub returns-in-None : goal.returns-in-None
returns-in-None c = no_function_line c.args.lines.now c.args.function c.args.block c.in-None.ensures
