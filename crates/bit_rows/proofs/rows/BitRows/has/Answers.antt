use Rattle.std.proofs.Common.{◌≡◌, ◌≤◌, false, nat_lt, ◌∙◌, sym, arith}
use Rattle.std.proofs.lemmas.List.{get_or_past}
use Rattle.bit_rows.specs.Rows.{row_at}
use Rattle.bit_rows.specs.Words.{kept_flag}
use Rattle.bit_rows.proofs.Kept.{seen_row, seen_bits}
use Rattle.bit_rows.proofs.rows.BitRows.has.Goals as goal

pub get-requires-clause-bit_in : goal.get-requires-clause-bit_in
get-requires-clause-bit_in c =
    let s = c.self.inside in
    let f = kept_flag s.words.items s.width in
    omega (arith, seen_bits s.rows s.bits f c.args.self.now c.args.row c.self.view_is (seen_row s.rows s.bits f c.args.self.now c.args.row c.self.view_is c.requires))

pub returns-else-bit-self : goal.returns-else-bit-self
returns-else-bit-self c =
    let s = c.self.inside in
    let f = kept_flag s.words.items s.width in
    let bits = seen_bits s.rows s.bits f c.args.self.now c.args.row c.self.view_is (seen_row s.rows s.bits f c.args.self.now c.args.row c.self.view_is c.requires) in
    let past : s.bits ≤ c.args.bit = omega arith in
    let no : nat_lt c.args.bit s.bits ≡ false = grind arith in
    no ∙ sym (get_or_past (row_at c.args.self.now c.args.row) c.args.bit false (omega arith))
