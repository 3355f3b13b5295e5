use Rattle.std.proofs.Common.{ap, ◌∙◌, set}
use Rattle.bit_rows.specs.Rows.{row_at}
use Rattle.bit_rows.proofs.Tables.{zip-second}
use Rattle.bit_rows.proofs.rows.BitRows.copy_other.Goals as goal

pub returns-clause-row : goal.returns-clause-row
returns-clause-row c =
    let old = c.args.self.now in
    c.mix_other.ensures.row ∙ ap (λ row. set old c.args.into row) (zip-second (row_at old c.args.into) (row_at c.args.others.now c.args.from) c.requires.same_bits)
