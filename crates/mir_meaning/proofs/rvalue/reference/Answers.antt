use Rattle.std.proofs.Common.{◌∙◌, sym, ap}
use Rattle.mir_semantics.specs.Values.{pointer}
use Rattle.mir_meaning.specs.Spots.{spot_of}
use Rattle.mir_meaning.specs.Views.{memory_of}
use Rattle.mir_meaning.specs.Sight.{here_of}
use Rattle.mir_meaning.proofs.Values.{view_ref}
use Rattle.mir_meaning.proofs.Evals.{ref_gone, ref_mut_gone, ref_found, ref_mut_found, same_seen}
use Rattle.mir_meaning.proofs.rvalue.reference.Goals as goal

pub returns-in_default-clause-shared : goal.returns-in_default-clause-shared
returns-in_default-clause-shared c = ref_gone (here_of c.args.here) (memory_of c.args.memory.now) c.args.place.now c.in_default.ensures.place

pub returns-in_default-clause-mutable : goal.returns-in_default-clause-mutable
returns-in_default-clause-mutable c = ref_mut_gone (here_of c.args.here) (memory_of c.args.memory.now) c.args.place.now c.in_default.ensures.place

pub returns-clause-shared : goal.returns-clause-shared
returns-clause-shared c = ref_found (here_of c.args.here) (memory_of c.args.memory.now) c.args.place.now (spot_of c.in-Some.spot) c.in-Some.ensures.place ∙ same_seen _ _ _ (sym (view_ref c.in_ok-pointer.pointer ∙ ap pointer c.in_ok-pointer.ensures))

pub returns-clause-mutable : goal.returns-clause-mutable
returns-clause-mutable c = ref_mut_found (here_of c.args.here) (memory_of c.args.memory.now) c.args.place.now (spot_of c.in-Some.spot) c.in-Some.ensures.place ∙ same_seen _ _ _ (sym (view_ref c.in_ok-pointer.pointer ∙ ap pointer c.in_ok-pointer.ensures))
