use Rattle.std.proofs.Common.{◌∙◌, sym, ap}
use Rattle.mir_semantics.specs.Memory.{walk, value_at}
use Rattle.mir_meaning.specs.Views.{part_of, address}
use Rattle.mir_meaning.specs.Spots.{spot_of}
use Rattle.mir_meaning.proofs.Walks.{walk_nothing, walk_no_part, walk_further, part_further, spot_nothing, spot_some, spot_further}
use Rattle.mir_meaning.proofs.place.further.Goals as goal

pub returns-in_default-clause-gone : goal.returns-in_default-clause-gone
returns-in_default-clause-gone c = λ _ m rest is. sym (walk_nothing m (spot_of c.args.spot) c.args.step rest (spot_nothing m c.args.spot is c.in_default.is))

pub returns-in_default-inner-clause-gone : goal.returns-in_default-inner-clause-gone
returns-in_default-inner-clause-gone c =
    λ _ m rest is. sym (walk_no_part m (spot_of c.args.spot) c.args.step rest (part_of c.in-Some.part) c.requires.other (spot_some m c.args.spot c.in-Some.part is c.in-Some.is) c.in_default-inner.ensures)

pub returns-clause-there : goal.returns-clause-there
returns-clause-there c =
    λ m rest is. sym (walk_further m (spot_of c.args.spot) c.args.step rest (part_of c.in-Some.part) (part_of c.in-Some-inner.next) c.requires.other (spot_some m c.args.spot c.in-Some.part is c.in-Some.is) c.in-Some-inner.ensures)
    ∙ ap (λ ps. walk m (address c.args.spot.frame c.args.spot.local ps) rest) (sym (spot_further c.args.spot.front.now c.args.spot.back.now c.args.back.now c.args.step c.requires.further))

pub returns-clause-part : goal.returns-clause-part
returns-clause-part c =
    λ m is. part_further m (spot_of c.args.spot) c.args.step (part_of c.in-Some.part) (part_of c.in-Some-inner.next) (spot_some m c.args.spot c.in-Some.part is c.in-Some.is) c.in-Some-inner.ensures
    ∙ ap (λ ps. value_at m (address c.args.spot.frame c.args.spot.local ps)) (sym (spot_further c.args.spot.front.now c.args.spot.back.now c.args.back.now c.args.step c.requires.further))
