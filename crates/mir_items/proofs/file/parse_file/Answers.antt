-- The laws of the parser.
use Rattle.mir_items.proofs.FilesRead.{file-derives, file-once, file-refuses, file-in_item}
use Rattle.mir_items.proofs.file.parse_file.Goals as goal

pub returns-clause-derives : goal.returns-clause-derives
returns-clause-derives c = file-derives c.args.lines.now c.args.symbols.now c.read_file.result c.requires c.read_file.ensures

pub returns-clause-once : goal.returns-clause-once
returns-clause-once c = file-once c.args.lines.now c.args.symbols.now c.read_file.result c.requires c.read_file.ensures

pub returns-clause-refuses : goal.returns-clause-refuses
returns-clause-refuses c = file-refuses c.args.lines.now c.args.symbols.now c.read_file.result c.requires c.read_file.ensures

pub returns-clause-in_item : goal.returns-clause-in_item
returns-clause-in_item c = file-in_item c.args.lines.now c.args.symbols.now c.read_file.result c.requires c.read_file.ensures
