use Rattle.std.proofs.Common.{sym, subst}
use Rattle.mir_syntax.specs.Crate.{TypedBody}
use Rattle.mir_syntax.specs.Shapes.{shapes_of}
use Rattle.mir_rules.specs.Calls.{AddsNoCall}
use Rattle.mir_rules.specs.Drops.{NoDrops}
use Rattle.mir_rules.specs.Valid.{at_function, ValidAt}
use Rattle.dead_store.proofs.equal.Once.{pruned_is}
use Rattle.dead_store.proofs.valid.Same.{pruned_stays_valid as law, drops_same, calls_same}
use Rattle.dead_store.proofs.laws.pruned_stays_valid.Goals as goal

pub returns-clause-valid : goal.returns-clause-valid
returns-clause-valid c = λ C f b v b2 p. subst (λ (b2 : TypedBody). ValidAt C f b2) (sym (pruned_is (shapes_of (at_function C f v.function b)) b b2 p)) (law C f b v)

pub returns-clause-no_drops : goal.returns-clause-no_drops
returns-clause-no_drops c = λ D b b2 p n. subst (λ (b2 : TypedBody). NoDrops b2) (sym (pruned_is D b b2 p)) (drops_same D b n)

pub returns-clause-calls : goal.returns-clause-calls
returns-clause-calls c = λ D b b2 p. subst (λ (b2 : TypedBody). AddsNoCall b2 b) (sym (pruned_is D b b2 p)) (calls_same D b)
