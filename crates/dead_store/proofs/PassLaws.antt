-- What pruning keeps, as the record that all passes fill.
use Rattle.mir_syntax.specs.Shapes.{shapes_of}
use Rattle.mir_rules.specs.Valid.{at_function}
use Rattle.mir_relate.specs.Passes.{PassLaws}
use Rattle.dead_store.specs.Pruned.{pruned}
use Rattle.dead_store.proofs.valid.Same.{pruned_stays_valid, drops_same, calls_same}
use Rattle.dead_store.proofs.refines.Rounds.{in_its_place}

pub laws : PassLaws pruned
laws = record {
  refines = in_its_place;
  stays_valid = pruned_stays_valid;
  no_drops = λ C f b v. drops_same (shapes_of (at_function C f v.function b)) b;
  no_calls = λ C f b v. calls_same (shapes_of (at_function C f v.function b)) b;
}
