use Rattle.std.proofs.Common.{map}
use Rattle.mir_meaning.specs.Views.{value_of}
use Rattle.mir_machine.specs.Ends.{integer_in}
use Rattle.mir_entry.proofs.FlatParts.{scalar_pushed, scalar_none}
use Rattle.mir_entry.proofs.flats.push_scalar.Goals as goal

pub returns-in_ok-push-in-Some : goal.returns-in_ok-push-in-Some
returns-in_ok-push-in-Some c = λ f. scalar_pushed f c.args.ty (value_of c.args.value.now) c.in-Some.bits c.integer.result c.args.out.now c.push.new.self c.in-Some.ensures c.integer.ensures c.in_ok-push-in-Some.ensures.ok

pub returns-in-None : goal.returns-in-None
returns-in-None c = λ f. scalar_none f c.args.ty (value_of c.args.value.now) (map integer_in c.args.out.now) c.in-None.ensures
