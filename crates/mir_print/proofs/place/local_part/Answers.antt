use Rattle.std.proofs.Common.{◌<◌, length, rules}
use Rattle.mir_print.proofs.Texts.{local_here, local_past}
use Rattle.mir_print.proofs.place.local_part.Goals as goal

pub returns-in-Some : goal.returns-in-Some
returns-in-Some c =
    let test = c.in-Some.ensures.lookup.0 in
    let within : c.args.local < length c.args.locals.now = search rules in
    λ trees. local_here trees c.args.locals.now c.args.local c.in-Some.id.now within c.in-Some.ensures.lookup.1

pub returns-in-None : goal.returns-in-None
returns-in-None c = λ trees. local_past trees c.args.locals.now c.args.local c.in-None.ensures.lookup.3
