-- What trimming keeps, as of each pass over one body.
use Rattle.std.proofs.Common.{List}
use Rattle.mir_syntax.specs.Shapes.{Shape}
use Rattle.mir_relate.specs.Passes.{PassLaws}
use Rattle.trim_locals.specs.Trimmed.{trimmed}
use Rattle.trim_locals.proofs.refines.Refined.{trimmed_refines_in_place}
use Rattle.trim_locals.proofs.valid.Stays.{trimmed_stays_valid, trimmed_no_drops, trimmed_adds_no_call}

pub laws : PassLaws (λ (D : List Shape). trimmed)
laws = record {
  refines = λ C f b valid none. trimmed_refines_in_place C f b valid;
  stays_valid = trimmed_stays_valid;
  no_drops = λ C f b valid none. trimmed_no_drops b none;
  no_calls = λ C f b valid. trimmed_adds_no_call b;
}
