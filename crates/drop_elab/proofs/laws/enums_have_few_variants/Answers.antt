use Rattle.drop_elab.proofs.Types.{few_variants}
use Rattle.drop_elab.proofs.laws.enums_have_few_variants.Goals as goal

pub returns : goal.returns
returns c C D valid within same = few_variants C valid within D same
