-- At the end no byte is left.
use Rattle.std.proofs.Common.{◌≡◌, length, refl, ap, subst, arith}
use Rattle.mir_symbols.specs.declared.scan.Symbols.{Symbols}
use Rattle.mir_reader.specs.Text.{IsReadTo}
use Rattle.mir_reader.proofs.ItemByItem.{is-empty, none-read, all-read}
use Rattle.mir_reader.proofs.text.read_items.Goals as goal

pub items-init : goal.items-init
items-init c =
    let strings : length c.in_ok-found.found.strings ≡ 8 = ap (λ (r : Symbols). length r.strings) c.in_ok-found.ensures in
    let line : c.in_ok-found.found.end_line ≡ 1 = ap (λ (r : Symbols). r.end_line) c.in_ok-found.ensures in
    (none-read c.args.bytes.now c.in_ok-found.found c.new-items.result c.in_ok-found.ensures c.new-items.ensures, omega arith, omega arith)

pub returns : goal.returns
returns c =
    all-read c.args.bytes.now c.items.found _ refl
    (subst (IsReadTo c.args.bytes.now c.items.found c.items.items) (is-empty c.items.rest.now c.is_empty.result c.is_empty.ensures c.items-test.false) c.items.invariant.0)
