use Rattle.std.proofs.Common.{[], ap, ◌∙◌, sym, set, arith}
use Rattle.std.proofs.lemmas.List.{set-get_or, set_past}
use Rattle.bit_rows.specs.Rows.{row_at}
use Rattle.bit_rows.specs.Words.{kept_flag}
use Rattle.bit_rows.proofs.Kept.{seen_row, seen_bits}
use Rattle.bit_rows.proofs.rows.BitRows.write.Goals as goal

pub set-requires-clause-bit_in : goal.set-requires-clause-bit_in
set-requires-clause-bit_in c =
    let s = c.self.inside in
    let f = kept_flag s.words.items s.width in
    omega (arith, seen_bits s.rows s.bits f c.args.self.now c.args.row c.self.view_is (seen_row s.rows s.bits f c.args.self.now c.args.row c.self.view_is c.requires))

pub returns-else-bit-self : goal.returns-else-bit-self
returns-else-bit-self c =
    let s = c.self.inside in
    let f = kept_flag s.words.items s.width in
    let old = c.args.self.now in
    let bits = seen_bits s.rows s.bits f c.args.self.now c.args.row c.self.view_is (seen_row s.rows s.bits f c.args.self.now c.args.row c.self.view_is c.requires) in
    sym (ap (set old c.args.row) (set_past (row_at old c.args.row) c.args.bit c.args.on (omega arith)) ∙ set-get_or old c.args.row [])
