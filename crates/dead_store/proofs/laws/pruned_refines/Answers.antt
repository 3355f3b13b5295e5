use Rattle.std.proofs.Common.{sym, subst}
use Rattle.mir_syntax.specs.Crate.{TypedBody}
use Rattle.mir_syntax.specs.Shapes.{shapes_of}
use Rattle.mir_rules.specs.Valid.{at_function}
use Rattle.mir_semantics.specs.Refines.{Refines}
use Rattle.dead_store.proofs.equal.Once.{pruned_is}
use Rattle.dead_store.proofs.refines.Rounds.{of_a_crate, in_its_place}
use Rattle.dead_store.proofs.laws.pruned_refines.Goals as goal

pub returns-clause-of_a_crate : goal.returns-clause-of_a_crate
returns-clause-of_a_crate c = λ C v f g e n b p. subst (λ (b : TypedBody). Refines (at_function C f g b) C) (sym (pruned_is (shapes_of C) g.body b p)) (of_a_crate C v f g e n)

pub returns-clause-in_its_place : goal.returns-clause-in_its_place
returns-clause-in_its_place c = λ C f b v n b2 p. subst (λ (b2 : TypedBody). Refines (at_function C f v.function b2) (at_function C f v.function b)) (sym (pruned_is (shapes_of (at_function C f v.function b)) b b2 p)) (in_its_place C f b v n)
