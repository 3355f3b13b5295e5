use Rattle.std.proofs.Common.{◌≡◌, ◌||◌, [], ap, ◌∙◌, sym, set, arith}
use Rattle.std.proofs.lemmas.List.{set-get_or}
use lib.Lanes.{zip2}
use Rattle.bit_rows.specs.Rows.{row_at}
use Rattle.bit_rows.proofs.Tables.{zip-or-self}
use Rattle.bit_rows.proofs.rows.BitRows.or_row.Goals as goal

pub returns-else-into-from-clause-row : goal.returns-else-into-from-clause-row
returns-else-into-from-clause-row c =
    let old = c.args.self.now in
    let same : c.args.into ≡ c.args.from = omega arith in
    sym (ap (λ r. set old c.args.into (zip2 (λ a b. a || b) (row_at old c.args.into) (row_at old r))) (sym same) ∙ ap (set old c.args.into) (zip-or-self (row_at old c.args.into)) ∙ set-get_or old c.args.into [])
