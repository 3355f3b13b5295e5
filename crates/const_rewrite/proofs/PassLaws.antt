-- What folding keeps, as the record that all passes fill.
use Rattle.mir_syntax.specs.Shapes.{shapes_of}
use Rattle.mir_rules.specs.Valid.{at_function}
use Rattle.mir_relate.specs.Passes.{PassLaws}
use Rattle.const_rewrite.specs.Folded.{folded}
use Rattle.const_rewrite.proofs.valid.Same.{folded_stays_valid, folded_no_drops, folded_adds_no_call}
use Rattle.const_rewrite.proofs.refines.Refined.{in_its_place}

pub laws : PassLaws folded
laws = record {
  refines = in_its_place;
  stays_valid = folded_stays_valid;
  no_drops = λ C f b v. folded_no_drops (shapes_of (at_function C f v.function b)) b;
  no_calls = λ C f b v. folded_adds_no_call (shapes_of (at_function C f v.function b)) b;
}
