use Rattle.std.proofs.Common.{◌≡◌, ◌<◌, ◌≤◌, ℕ, zero, suc, length, List, Ok, ap, refl, ◌∙◌, arith}
use Rattle.mir_text.specs.declared.symbol.Symbol.{Symbol}
use Rattle.mir_tree.specs.declared.ty.TypePart.{TypePart}
use Rattle.mir_parse.specs.declared.list.Turn.{Turn}
use Rattle.mir_parse.specs.declared.list.Turn.TheVariants as turn
use Rattle.mir_parse.specs.Parser.{Found}
use Rattle.mir_parse.specs.Types.{ParseType, tuple_turn, tuple_from, type_at, type_at-outer}
use Rattle.mir_parse.proofs.ty.+types.Goals as goal

pub read_parts-returns-clause-read : goal.read_parts-returns-clause-read
read_parts-returns-clause-read t c = rw (type_at-outer c.args.depth c.args.parts.now c.args.symbols.now (omega arith)) c.read_outer.ensures.read

-- a turn that does not end the types leaves one turn less
one_turn : (type : ParseType) (turns most : ℕ) (parts parts2 : List TypePart) (count next : ℕ) (rest past : List Symbol) (whole : Found (List TypePart)) (t : Turn)
    → tuple_turn type parts count rest ≡ Ok (((t, next), parts2), past) → t ≡ turn.More → length past < length rest → length rest ≤ turns → length rest ≤ most
    → whole ≡ tuple_from type (suc turns) parts count rest → (x : ℕ) × (length past ≤ x) × (length past ≤ most) × (whole ≡ tuple_from type (suc x) parts2 next past)
unfolding tuple_from
one_turn type zero most parts parts2 count next rest past whole t h is short few within e = absurd (omega arith)
one_turn type (suc k) most parts parts2 count next rest past whole t h is short few within e =
    let found = h ∙ ap (λ w. Ok (((w, next), parts2), past)) is in
    (k, omega arith, omega arith, e ∙ rw found refl)

pub read_tuple-turns-preserved : goal.read_tuple-turns-preserved
read_tuple-turns-preserved t c =
    let inv = c.turns.invariant in
    one_turn (type_at c.args.depth) inv.0 (length c.args.symbols.now) c.turns.parts c.read_tuple_turn.new.parts c.turns.count c.in_ok-turn.next c.turns.rest.now c.in_ok-turn.past.now _ c.in_ok-turn.turn
    c.in_ok-turn.ensures.read c.in-More.is c.in_ok-turn.ensures.shorter inv.1 inv.2 inv.3
