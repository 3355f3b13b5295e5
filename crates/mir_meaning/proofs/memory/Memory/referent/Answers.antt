use Rattle.std.proofs.Common.{◌∙◌, sym, ap}
use Rattle.std.specs.Option.{option_map}
use Rattle.mir_semantics.specs.Memory.{walk, value_at}
use Rattle.mir_meaning.specs.Views.{memory_of, part_of, addr_of}
use Rattle.mir_meaning.specs.Spots.{spot_of}
use Rattle.mir_meaning.proofs.Walks.{walk_nothing, walk_no_reference, walk_dangling, walk_deref, spot_nothing, spot_some}
use Rattle.mir_meaning.proofs.memory.Memory.referent.Goals as goal

pub returns-in_default-clause-gone : goal.returns-in_default-clause-gone
returns-in_default-clause-gone c = λ _ rest. sym (walk_nothing _ (spot_of c.args.spot) _ rest (spot_nothing (memory_of c.args.self.now) c.args.spot c.requires c.in_default.is))

pub returns-in_default-referent-clause-gone : goal.returns-in_default-referent-clause-gone
returns-in_default-referent-clause-gone c =
    λ _ rest. sym (walk_no_reference (memory_of c.args.self.now) (spot_of c.args.spot) rest (part_of c.in-Some.part) (spot_some (memory_of c.args.self.now) c.args.spot c.in-Some.part c.requires c.in-Some.is) c.in_default-referent.ensures)

pub returns-in_default-behind-clause-gone : goal.returns-in_default-behind-clause-gone
returns-in_default-behind-clause-gone c =
    λ _ rest. sym (walk_dangling (memory_of c.args.self.now) (spot_of c.args.spot) (addr_of c.in-Some-referent.pointer.now) rest (part_of c.in-Some.part) (spot_some (memory_of c.args.self.now) c.args.spot c.in-Some.part c.requires c.in-Some.is)
    c.in-Some-referent.ensures c.in_default-behind.ensures)

pub returns-clause-there : goal.returns-clause-there
returns-clause-there c =
    λ rest. sym (walk_deref (memory_of c.args.self.now) (spot_of c.args.spot) (addr_of c.in-Some-referent.pointer.now) rest (part_of c.in-Some.part) (part_of c.in-Some-behind.target) (spot_some (memory_of c.args.self.now) c.args.spot c.in-Some.part c.requires c.in-Some.is)
    c.in-Some-referent.ensures c.in-Some-behind.ensures)
    ∙ ap (λ a. walk (memory_of c.args.self.now) a rest) (sym c.pointed.ensures.addr)

pub returns-clause-part : goal.returns-clause-part
returns-clause-part c = ap (option_map part_of) c.pointed.ensures.part ∙ (c.in-Some-behind.ensures ∙ ap (value_at (memory_of c.args.self.now)) (sym c.pointed.ensures.addr))
