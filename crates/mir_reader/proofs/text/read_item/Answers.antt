-- What was read before goes on, with one item more or without a symbol.
use Rattle.std.proofs.Common.{rules, ◌≡◌, None}
use Rattle.mir_reader.proofs.ItemByItem.{is-empty, blanks-read, item-of, item-read}
use Rattle.mir_reader.proofs.text.read_item.Goals as goal

pub returns-then-is_empty-clause-read : goal.returns-then-is_empty-clause-read
returns-then-is_empty-clause-read c = λ text read.
    let next = c.scan_item.new.self in
    let whole : next.fault ≡ None = search rules in
    blanks-read text c.args.found.now next c.args.items.now c.args.bytes.now c.in_ok-rest.rest.now c.in_ok-rest.ensures.goes_on (c.in_ok-rest.ensures.in_step c.requires.step)
    (is-empty next.symbols c.is_empty.result c.is_empty.ensures c.if-is_empty.true) whole read

pub returns-in_ok-push-in-Some-clause-read : goal.returns-in_ok-push-in-Some-clause-read
returns-in_ok-push-in-Some-clause-read c = λ text read.
    let next = c.scan_item.new.self in
    let whole : next.fault ≡ None = search rules in
    let item = item-of c.as_slice.result.now next.symbols c.as_slice-2.result.now next.lines c.in_ok-item.field-0 c.in-Some.item c.as_slice.ensures c.as_slice-2.ensures c.in-Some.is c.in_ok-item.ensures in
    item-read text c.args.found.now next c.args.items.now c.in-Some.item c.args.bytes.now c.in_ok-rest.rest.now c.in_ok-rest.ensures.goes_on (c.in_ok-rest.ensures.in_step c.requires.step) whole item
    c.clear.new.self c.push.new.self c.clear.ensures c.in_ok-push-in-Some.ensures.ok read
