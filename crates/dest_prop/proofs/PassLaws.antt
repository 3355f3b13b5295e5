-- What merging keeps, as the record that all passes fill.
use Rattle.mir_syntax.specs.Shapes.{shapes_of}
use Rattle.mir_rules.specs.Valid.{at_function}
use Rattle.mir_relate.specs.Passes.{PassLaws}
use Rattle.dest_prop.specs.Merged.{merged}
use Rattle.dest_prop.proofs.valid.Stays.{merged_stays_valid, merged_no_drops, merged_adds_no_call}
use Rattle.dest_prop.proofs.refines.Refined.{in_its_place}

pub laws : PassLaws merged
laws = record {
  refines = in_its_place;
  stays_valid = merged_stays_valid;
  no_drops = λ C f b v. merged_no_drops (shapes_of (at_function C f v.function b)) b;
  no_calls = λ C f b v. merged_adds_no_call (shapes_of (at_function C f v.function b)) b;
}
