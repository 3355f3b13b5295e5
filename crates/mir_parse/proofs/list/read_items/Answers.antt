use Rattle.std.proofs.Common.{◌≡◌, ◌<◌, ◌≤◌, ℕ, zero, suc, length, List, Ok, ap, refl, ◌∙◌, arith}
use Rattle.mir_text.specs.declared.symbol.Symbol.{Symbol}
use Rattle.mir_tree.specs.declared.Items.{Items}
use Rattle.mir_parse.specs.declared.list.Turn.{Turn}
use Rattle.mir_parse.specs.declared.list.Turn.TheVariants as turn
use Rattle.mir_parse.specs.Parser.{Found, Parse}
use Rattle.mir_parse.specs.Lists.{Closing, closing, turn_of, items_from}
use Rattle.mir_parse.proofs.list.read_items.Goals as goal

-- a turn that does not end the items leaves one turn less
one_turn : {A : Type 0} (closing : Closing) (item : Parse A) (turns most : ℕ) (items items2 : List A) (rest past : List Symbol) (whole : Found (Items A)) (t : Turn)
    → turn_of closing item items rest ≡ Ok ((t, items2), past) → t ≡ turn.More → length past < length rest → length rest ≤ turns → length rest ≤ most
    → whole ≡ items_from closing item (suc turns) items rest → (x : ℕ) × (length past ≤ x) × (length past ≤ most) × (whole ≡ items_from closing item (suc x) items2 past)
unfolding items_from
one_turn closing item zero most items items2 rest past whole t h is short few within e = absurd (omega arith)
one_turn closing item (suc k) most items items2 rest past whole t h is short few within e =
    let found = h ∙ ap (λ w. Ok ((w, items2), past)) is in
    (k, omega arith, omega arith, e ∙ rw found refl)

pub turns-preserved : goal.turns-preserved
turns-preserved g c =
    let inv = c.turns.invariant in
    one_turn (closing c.args.bracket) (g.R.ReadItem.item c.args.reader.now) inv.0 (length c.args.symbols.now) c.turns.items c.read_turn.new.items c.turns.rest.now c.in_ok-turn.past.now _ c.in_ok-turn.turn
    c.in_ok-turn.ensures.read c.in-More.is c.in_ok-turn.ensures.shorter inv.1 inv.2 inv.3
