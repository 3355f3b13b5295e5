use Rattle.std.proofs.Common.{◌∙◌, ◌∷◌, ◌++◌, [], sym, ap}
use Rattle.mir_meaning.specs.Programs.{type_in}
use Rattle.mir_meaning.specs.Spots.{spot_of}
use Rattle.mir_meaning.specs.Views.{memory_of, addr_of}
use Rattle.mir_meaning.specs.Sight.{here_of}
use Rattle.mir_machine.specs.Seen.{items_in}
use Rattle.mir_machine.proofs.DropsOn.{begun_gone, begun_untyped, begun_there}
use Rattle.mir_machine.proofs.drops.begin.Goals as goal

pub returns-in_default : goal.returns-in_default
returns-in_default c = begun_gone (here_of c.args.here) (memory_of c.args.memory.now) c.args.place.now c.args.target c.in_default.ensures.place

pub returns-in_default-type_of : goal.returns-in_default-type_of
returns-in_default-type_of c = begun_untyped (here_of c.args.here) (memory_of c.args.memory.now) c.args.place.now c.args.target (spot_of c.in-Some.spot) c.in-Some.ensures.place (sym c.in_default-type_of.ensures)

pub returns : goal.returns
returns c =
    begun_there (here_of c.args.here) (memory_of c.args.memory.now) c.args.place.now c.args.target (spot_of c.in-Some.spot) (addr_of c.in_ok-at.at) (type_in c.args.here.program.now c.in-Some-type_of.ty) (items_in c.args.here.program.now c.push.new.self) c.in-Some.ensures.place (sym c.in-Some-type_of.ensures) c.in_ok-at.ensures
    (ap (items_in c.args.here.program.now) (c.in_ok-push.ensures.ok ∙ ap (λ l. l ++ record { at = c.in_ok-first.first; ty = c.in-Some-type_of.ty } ∷ []) c.new-items.ensures) ∙ ap (λ a. record { addr = a; ty = type_in c.args.here.program.now c.in-Some-type_of.ty } ∷ []) c.in_ok-first.ensures)
