use Rattle.mir_entry.proofs.Variants.{named_some, named_none}
use Rattle.std.proofs.Common.{sym}
use Rattle.mir_machine.specs.Ends.{integer_in}
use Rattle.mir_entry.proofs.reads.variant_at.Goals as goal

pub returns-in-Some-get : goal.returns-in-Some-get
returns-in-Some-get c = λ trees. named_some trees c.args.variants.now (integer_in c.args.number) c.in-Some.place c.in-Some-get.variant.now c.as_slice.result.now c.in-Some.ensures (sym c.in-Some-get.ensures) c.as_slice.ensures

pub returns-in-None-get : goal.returns-in-None-get
returns-in-None-get c = λ trees. named_none trees c.args.variants.now (integer_in c.args.number) c.in-Some.place c.in-Some.ensures (sym c.in-None-get.ensures)
