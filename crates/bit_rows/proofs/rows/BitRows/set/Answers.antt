use Rattle.std.proofs.Common.{◌/◌, ◌<◌, arith}
use Rattle.bit_rows.specs.Words.{kept_flag}
use Rattle.bit_rows.proofs.Kept.{width_covers, word_in, place_in, seen_row, seen_bits, written_at}
use Rattle.bit_rows.proofs.rows.BitRows.set.Goals as goal

pub place-at-requires-clause-at : goal.place-at-requires-clause-at
place-at-requires-clause-at c =
    let s = c.self.inside in
    let row = seen_row s.rows s.bits (kept_flag s.words.items s.width) c.args.self.now c.args.row c.self.view_is c.requires.row_in in
    let bits = seen_bits s.rows s.bits (kept_flag s.words.items s.width) c.args.self.now c.args.row c.self.view_is row in
    let low : c.args.bit < s.bits = omega (arith, bits, c.requires.bit_in) in
    omega (arith, word_in s.width c.args.bit (omega (arith, low, width_covers s.bits s.width c.self.invariant.wide)))

pub index-requires : goal.index-requires
index-requires c =
    let s = c.self.inside in
    let row = seen_row s.rows s.bits (kept_flag s.words.items s.width) c.args.self.now c.args.row c.self.view_is c.requires.row_in in
    let bits = seen_bits s.rows s.bits (kept_flag s.words.items s.width) c.args.self.now c.args.row c.self.view_is row in
    let low : c.args.bit < s.bits = omega (arith, bits, c.requires.bit_in) in
    let word = word_in s.width c.args.bit (omega (arith, low, width_covers s.bits s.width c.self.invariant.wide)) in
    omega (arith, place_in s.rows s.width c.args.row (c.args.bit / 64) row word, c.self.invariant.long, c.place-at.ensures, s.words.ok.0)

pub index_mut-requires : goal.index_mut-requires
index_mut-requires c =
    let s = c.self.inside in
    let row = seen_row s.rows s.bits (kept_flag s.words.items s.width) c.args.self.now c.args.row c.self.view_is c.requires.row_in in
    let bits = seen_bits s.rows s.bits (kept_flag s.words.items s.width) c.args.self.now c.args.row c.self.view_is row in
    let low : c.args.bit < s.bits = omega (arith, bits, c.requires.bit_in) in
    let word = word_in s.width c.args.bit (omega (arith, low, width_covers s.bits s.width c.self.invariant.wide)) in
    omega (arith, place_in s.rows s.width c.args.row (c.args.bit / 64) row word, c.self.invariant.long, c.place-at.ensures, s.words.ok.0)

pub invariant_of-self : goal.invariant_of-self
invariant_of-self c =
    let s = c.self.inside in
    (written_at s.rows s.bits s.width s.words.items c.args.self.now c.self.invariant c.self.view_is c.args.row c.args.bit c.requires.row_in c.requires.bit_in c.place-at.result c.place-at.ensures c.index.result.now c.index.ensures c.with_bit.result c.args.on c.with_bit.ensures.here c.with_bit.ensures.others c.with_bit.ensures.fits).kept

pub returns : goal.returns
returns c =
    let s = c.self.inside in
    (written_at s.rows s.bits s.width s.words.items c.args.self.now c.self.invariant c.self.view_is c.args.row c.args.bit c.requires.row_in c.requires.bit_in c.place-at.result c.place-at.ensures c.index.result.now c.index.ensures c.with_bit.result c.args.on c.with_bit.ensures.here c.with_bit.ensures.others c.with_bit.ensures.fits).is
