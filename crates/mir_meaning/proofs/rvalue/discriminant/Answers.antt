use Rattle.std.proofs.Common.{◌∙◌, sym}
use Rattle.mir_meaning.specs.Views.{memory_of, part_of}
use Rattle.mir_meaning.specs.Sight.{here_of}
use Rattle.mir_meaning.proofs.Values.{view_num}
use Rattle.mir_meaning.proofs.Evals.{variant_missed, variant_other, variant_found, same_seen}
use Rattle.mir_meaning.proofs.rvalue.discriminant.Goals as goal

pub returns-in_default : goal.returns-in_default
returns-in_default c = variant_missed (here_of c.args.here) (memory_of c.args.memory.now) c.args.place.now c.in_default.ensures.place

pub returns-in_default-variant : goal.returns-in_default-variant
returns-in_default-variant c = variant_other (here_of c.args.here) (memory_of c.args.memory.now) c.args.place.now _ (part_of c.in-Some.part) c.in-Some.ensures.place (sym c.in_default-variant.ensures)

pub returns : goal.returns
returns c = variant_found (here_of c.args.here) (memory_of c.args.memory.now) c.args.place.now _ (part_of c.in-Some.part) c.in-Some-variant.variant c.in-Some.ensures.place (sym c.in-Some-variant.ensures) ∙ same_seen _ _ _ (sym (view_num _))
