-- The laws of the parser.
use Rattle.mir_items.proofs.FilesGrow.{item-whole, item-over, item-fault}
use Rattle.mir_items.proofs.file.parse_item.Goals as goal

pub returns-in-Ok-default-empty : goal.returns-in-Ok-default-empty
returns-in-Ok-default-empty c =
    item-whole c.args.lines.now c.args.symbols.now c.in-Ok-default-empty.field-0-1.now c.in-Ok-default-empty.item c.requires c.in-Ok-default-empty.ensures.read c.in-Ok-default-empty.len_below

pub returns-in-Ok : goal.returns-in-Ok
returns-in-Ok c =
    item-over c.args.lines.now c.args.symbols.now c.in-Ok.field-0-1.now c.in-Ok._item c.requires c.in-Ok.ensures.read c.in-Ok.len_at_least

pub returns-in-Err-Fault : goal.returns-in-Err-Fault
returns-in-Err-Fault c = item-fault c.args.lines.now c.args.symbols.now c.in-Err-Fault.field-0 c.in-Err-Fault.field-0-0 c.requires c.in-Err-Fault.field-0-is c.in-Err-Fault.ensures.read
