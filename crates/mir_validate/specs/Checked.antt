-- What is known of a program that was validated.
use Rattle.mir_syntax.specs.declared.program.Program.{Program}
use Rattle.mir_syntax.specs.Crate.{crate_of}
use Rattle.mir_syntax.specs.Ids.{IdsInTable}
use Rattle.mir_syntax.specs.Drops.{KnowsDrops}
use Rattle.mir_rules.specs.Valid.{Valid, Within}

pub record IsChecked (P : Program) : Type 0 where
  pub valid : Valid (crate_of P)
  pub within : Within (crate_of P)
  pub ids : IdsInTable P
  pub drops : KnowsDrops P
