use Rattle.std.proofs.Common.{◌/◌, ◌%◌, ◌<◌, ap, ◌∙◌, sym, nat_eq, get_or, length, arith}
use Rattle.std.proofs.lemmas.List.{get_or_read}
use Rattle.std.proofs.lemmas.Nat.Bits.{shr_and_one}
use Rattle.bit_rows.specs.Rows.{flag}
use Rattle.bit_rows.specs.Words.{word_bit, kept_flag}
use Rattle.bit_rows.proofs.Tables.{table-flag}
use Rattle.bit_rows.proofs.Kept.{width_covers, word_in, place_in, seen_row, seen_bits}
use Rattle.bit_rows.proofs.rows.BitRows.get.Goals as goal

pub place-requires-clause-at : goal.place-requires-clause-at
place-requires-clause-at c =
    let s = c.self.inside in
    let row = seen_row s.rows s.bits (kept_flag s.words.items s.width) c.args.self.now c.args.row c.self.view_is c.requires.row_in in
    let bits = seen_bits s.rows s.bits (kept_flag s.words.items s.width) c.args.self.now c.args.row c.self.view_is row in
    let low : c.args.bit < s.bits = omega (arith, bits, c.requires.bit_in) in
    omega (arith, word_in s.width c.args.bit (omega (arith, low, width_covers s.bits s.width c.self.invariant.wide)))

pub index-word-requires : goal.index-word-requires
index-word-requires c =
    let s = c.self.inside in
    let row = seen_row s.rows s.bits (kept_flag s.words.items s.width) c.args.self.now c.args.row c.self.view_is c.requires.row_in in
    let bits = seen_bits s.rows s.bits (kept_flag s.words.items s.width) c.args.self.now c.args.row c.self.view_is row in
    let low : c.args.bit < s.bits = omega (arith, bits, c.requires.bit_in) in
    let word = word_in s.width c.args.bit (omega (arith, low, width_covers s.bits s.width c.self.invariant.wide)) in
    omega (arith, place_in s.rows s.width c.args.row (c.args.bit / 64) row word, c.self.invariant.long, c.place.ensures, s.words.ok.0)

pub returns : goal.returns
returns c =
    let s = c.self.inside in
    let row = seen_row s.rows s.bits (kept_flag s.words.items s.width) c.args.self.now c.args.row c.self.view_is c.requires.row_in in
    let bits = seen_bits s.rows s.bits (kept_flag s.words.items s.width) c.args.self.now c.args.row c.self.view_is row in
    let low : c.args.bit < s.bits = omega (arith, bits, c.requires.bit_in) in
    let word = word_in s.width c.args.bit (omega (arith, low, width_covers s.bits s.width c.self.invariant.wide)) in
    let within : c.place.result < length s.words.items = omega (arith, place_in s.rows s.width c.args.row (c.args.bit / 64) row word, c.self.invariant.long, c.place.ensures) in
    ap (λ n. nat_eq n 1) (shr_and_one c.index-word.result.now (c.args.bit % 64))
    ∙ ap (λ w. word_bit w (c.args.bit % 64)) (get_or_read s.words.items c.place.result c.index-word.result.now within c.index-word.ensures 0 ∙ ap (λ n. get_or s.words.items n 0) c.place.ensures)
    ∙ sym (table-flag s.rows s.bits (kept_flag s.words.items s.width) c.args.row c.args.bit row low)
    ∙ ap (λ t. flag t c.args.row c.args.bit) c.self.view_is
