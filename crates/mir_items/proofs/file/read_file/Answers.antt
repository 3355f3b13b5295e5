use Rattle.std.proofs.Common.{◌≡◌, ◌==◌, Bool, true, false, List, [], ◌∷◌, length, refl}
use Rattle.mir_text.specs.declared.symbol.Symbol.{Symbol}
use Rattle.mir_items.specs.Files.{more_symbols, item}
use Rattle.mir_items.proofs.EachRead.{one-turn}
use Rattle.mir_items.proofs.file.read_file.Goals as goal

not_empty : (ts : List Symbol) (empty : Bool) → empty ≡ (length ts == 0) → empty ≡ false → more_symbols ts ≡ true
not_empty [] empty e h = absurd cc
not_empty (x ∷ ts) empty e h = refl

pub turns-preserved : goal.turns-preserved
turns-preserved c =
    let inv = c.turns.invariant in
    one-turn more_symbols (item c.args.lines.now) inv.0 c.turns.items c.push.new.self c.turns.rest.now c.in_ok-item.past.now c.in_ok-item.item _
    (not_empty c.turns.rest.now c.is_empty.result c.is_empty.ensures c.turns-test.true) c.in_ok-item.ensures.read c.in_ok-push.ensures.ok c.in_ok-item.ensures.shorter inv.1 inv.2
