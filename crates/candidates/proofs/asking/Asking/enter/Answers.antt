use Rattle.std.proofs.Common.{sym, subst, length}
use Rattle.candidates.specs.Asking.{Asks, left_with}
use Rattle.candidates.specs.Comes.{comes_in}
use Rattle.candidates.specs.declared.asking.Part.{Part}
use Rattle.candidates.proofs.Asked.{entered_asks, taken_below}
use Rattle.candidates.proofs.asking.Asking.enter.Goals as goal

pub part_of-self-requires-clause-taken : goal.part_of-self-requires-clause-taken
part_of-self-requires-clause-taken c = taken_below (length c.args.program.now.functions) c.take-taken.result (c.take-taken.ensures.walk _ c.requires.stays.walk).1

pub returns-clause-stays : goal.returns-clause-stays
returns-clause-stays c = record { walk = (c.take-taken.ensures.walk _ c.requires.stays.walk).0; part = c.part_of-self.ensures.below }

pub returns-clause-asks : goal.returns-clause-asks
returns-clause-asks c P is of between =
    let a = c.args.self.now in
    subst (λ (p : Part). Asks P c.args.f.0 (record { part = p; walk = c.take-taken.new.self; large = a.large; lent = a.lent }) (left_with P c.args.f.0 (comes_in P c.args.f.0 a.walk))) (sym (c.part_of-self.ensures.entered P of))
    (entered_asks P is c.args.f.0 a c.take-taken.new.self c.take-taken.result between c.take-taken.ensures)
