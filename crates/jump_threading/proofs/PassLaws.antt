-- What threading keeps, as the record that all passes fill.
use Rattle.mir_syntax.specs.Shapes.{shapes_of}
use Rattle.mir_rules.specs.Valid.{at_function}
use Rattle.mir_relate.specs.Passes.{PassLaws}
use Rattle.jump_threading.specs.Threaded.{threaded}
use Rattle.jump_threading.proofs.valid.Kept.{threaded_stays_valid, threaded_no_drops, threaded_adds_no_call}
use Rattle.jump_threading.proofs.refines.Refined.{in_its_place}

pub laws : PassLaws threaded
laws = record {
  refines = in_its_place;
  stays_valid = threaded_stays_valid;
  no_drops = λ C f b v. threaded_no_drops (shapes_of (at_function C f v.function b)) b;
  no_calls = λ C f b v. threaded_adds_no_call (shapes_of (at_function C f v.function b)) b;
}
