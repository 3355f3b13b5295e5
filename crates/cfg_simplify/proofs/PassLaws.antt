-- What the cleaning keeps, as of each pass over one body.
use Rattle.std.proofs.Common.{List}
use Rattle.mir_syntax.specs.Shapes.{Shape}
use Rattle.mir_relate.specs.Passes.{PassLaws}
use Rattle.cfg_simplify.specs.Simple.{simple}
use Rattle.cfg_simplify.proofs.refines.Refined.{in_its_place}
use Rattle.cfg_simplify.proofs.valid.Kept.{simple_stays_valid}
use Rattle.cfg_simplify.proofs.valid.Calls.{simple_calls, simple_drops}

pub laws : PassLaws (λ (D : List Shape). simple)
laws = record {
  refines = λ C f b valid none. in_its_place C f b valid;
  stays_valid = simple_stays_valid;
  no_drops = simple_drops;
  no_calls = simple_calls;
}
