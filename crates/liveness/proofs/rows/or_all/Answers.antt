use Rattle.std.proofs.Common.{◌<◌, [], length, get_or, take, sym, ap, ◌∙◌, arith}
use Rattle.std.proofs.lemmas.List.{get_or-set_same, get_or-take, length-take-le}
use Rattle.bit_rows.specs.Rows.{row_at}
use Rattle.liveness.specs.Rows.{or_rows}
use Rattle.liveness.proofs.Filling.{length-or_rows, or_more}
use Rattle.liveness.proofs.rows.or_all.Goals as goal

pub or_other-requires-clause-same_bits : goal.or_other-requires-clause-same_bits
or_other-requires-clause-same_bits c =
    let rows = c.args.rows.now in
    let others = c.args.others.now in
    let from = c.args.from.now in
    let i = c.loop-other.other-index in
    let row = c.args.row in
    ap (λ t. length (row_at t row)) c.loop-other.invariant
    ∙ ap length (get_or-set_same rows row (or_rows others (row_at rows row) (take i from)) [] c.requires.within)
    ∙ length-or_rows others (row_at rows row) (take i from) (λ k l.
    let m : k < i = omega (arith, length-take-le i from (omega arith)) in
    let low : get_or (take i from) k 0 < length others = rw (get_or-take i from k 0 m) (c.requires.from k 0 (omega arith)) in
    sym (c.requires.same_bits (get_or (take i from) k 0) low))
    ∙ c.requires.same_bits (get_or from i 0) (c.requires.from i 0 (omega arith))

pub loop-other-preserved : goal.loop-other-preserved
loop-other-preserved c = or_more c.args.rows.now c.loop-other.rows c.or_other.new.self c.args.others.now c.args.row c.loop-other.other-index c.args.from.now 0 (omega arith) c.requires.within c.loop-other.invariant c.or_other.ensures.row
