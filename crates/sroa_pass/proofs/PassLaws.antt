-- What splitting keeps, as the record that all passes fill.
use Rattle.mir_syntax.specs.Shapes.{shapes_of}
use Rattle.mir_rules.specs.Valid.{at_function}
use Rattle.mir_relate.specs.Passes.{PassLaws}
use Rattle.sroa_pass.specs.Split.{split}
use Rattle.sroa_pass.proofs.valid.Body.{split_stays_valid, split_no_drops, split_adds_no_call}
use Rattle.sroa_pass.proofs.refines.Refined.{in_its_place}

pub laws : PassLaws split
laws = record {
  refines = in_its_place;
  stays_valid = split_stays_valid;
  no_drops = λ C f b v. split_no_drops (shapes_of (at_function C f v.function b)) b;
  no_calls = λ C f b v. split_adds_no_call (shapes_of (at_function C f v.function b)) b;
}
