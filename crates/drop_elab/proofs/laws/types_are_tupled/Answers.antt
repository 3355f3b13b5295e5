use Rattle.drop_elab.proofs.Types.{table_types}
use Rattle.drop_elab.proofs.laws.types_are_tupled.Goals as goal

pub returns : goal.returns
returns c = table_types
