use Rattle.std.proofs.Common.{◌≡◌, ◌∙◌, ◌+◌, ◌++◌, ◌∷◌, [], IsTrue, drop, refl, sym, ap, subst}
use Rattle.std.proofs.lemmas.Option.{IfSome_then}
use Rattle.mir_syntax.specs.Parts.{path_formed}
use Rattle.mir_semantics.specs.Memory.{walk as along}
use Rattle.mir_meaning.specs.Views.{memory_of}
use Rattle.mir_meaning.specs.Spots.{spot_of}
use Rattle.mir_meaning.proofs.Walks.{drop_at, deref_at, take_at, drop_end, take_rest, slice_rest, walk_end, formed_append, formed_drop}
use Rattle.mir_meaning.proofs.place.+walk.Goals as goal

pub returns-in_default-clause-there : goal.returns-in_default-clause-there
returns-in_default-clause-there t c =
    ap (λ ps. along (memory_of c.args.memory.now) (spot_of c.args.spot) ps) (drop_end c.args.from.now c.args.len c.in_default.ensures.found) ∙ walk_end (memory_of c.args.memory.now) (spot_of c.args.spot)

pub returns-in_default-clause-formed : goal.returns-in_default-clause-formed
returns-in_default-clause-formed t c =
    λ h. let e : c.args.spot.back.now ≡ c.args.from.now = c.requires.back ∙ take_rest c.args.from.now c.args.len (drop_end c.args.from.now c.args.len c.in_default.ensures.found) in
    formed_append c.args.spot.front.now c.args.spot.back.now c.requires.front (subst (λ ps. IsTrue (path_formed ps)) (sym e) h)

pub returns-in_default-referent-clause-gone : goal.returns-in_default-referent-clause-gone
returns-in_default-referent-clause-gone t c =
    λ _. ap (λ ps. along (memory_of c.args.memory.now) (spot_of c.args.spot) ps) (deref_at c.args.from.now c.args.len c.in-Some.step c.in-Some.ensures.found c.in-Deref.is)
    ∙ c.in_default-referent.ensures.gone refl (drop (c.args.len + 1) c.args.from.now)

pub further-requires : goal.further-requires
further-requires t c = record {
  other = c.in_default-step.not-Deref;
  further = take_at c.args.from.now c.args.len c.in-Some.step c.in-Some.ensures.found ∙ ap (λ l. l ++ c.in-Some.step ∷ []) (sym c.requires.back);
}

pub returns-in_default-further : goal.returns-in_default-further
returns-in_default-further t c = record {
  gone = λ _. ap (λ ps. along (memory_of c.args.memory.now) (spot_of c.args.spot) ps) (drop_at c.args.from.now c.args.len c.in-Some.step c.in-Some.ensures.found)
      ∙ c.in_default-further.ensures.gone refl (memory_of c.args.memory.now) (drop (c.args.len + 1) c.args.from.now) c.requires.part;
  there = tt;
  part = tt;
  formed = λ _. tt;
}

pub returns-in-Some-referent-clause-gone : goal.returns-in-Some-referent-clause-gone
returns-in-Some-referent-clause-gone t c =
    λ h. ap (λ ps. along (memory_of c.args.memory.now) (spot_of c.args.spot) ps) (deref_at c.args.from.now c.args.len c.in-Some.step c.in-Some.ensures.found c.in-Deref.is)
    ∙ (c.in-Some-referent.ensures.there (drop (c.args.len + 1) c.args.from.now)
    ∙ (ap (λ ps. along (memory_of c.args.memory.now) (spot_of c.in-Some-referent.next) ps) (sym (slice_rest c.args.from.now (c.args.len + 1))) ∙ c.walk.ensures.gone h))

pub returns-in-Some-referent-clause-there : goal.returns-in-Some-referent-clause-there
returns-in-Some-referent-clause-there t c =
    IfSome_then c.walk.result c.walk.ensures.there
    (λ next h. ap (λ ps. along (memory_of c.args.memory.now) (spot_of c.args.spot) ps) (deref_at c.args.from.now c.args.len c.in-Some.step c.in-Some.ensures.found c.in-Deref.is)
    ∙ (c.in-Some-referent.ensures.there (drop (c.args.len + 1) c.args.from.now)
    ∙ (ap (λ ps. along (memory_of c.args.memory.now) (spot_of c.in-Some-referent.next) ps) (sym (slice_rest c.args.from.now (c.args.len + 1))) ∙ h)))

pub returns-in-Some-referent-clause-formed : goal.returns-in-Some-referent-clause-formed
returns-in-Some-referent-clause-formed t c =
    λ h. c.walk.ensures.formed (subst (λ ps. IsTrue (path_formed ps)) (sym (slice_rest c.args.from.now (c.args.len + 1))) (formed_drop (c.args.len + 1) c.args.from.now h))

pub returns-in-Some-further : goal.returns-in-Some-further
returns-in-Some-further t c =
    let on = ap (λ ps. along (memory_of c.args.memory.now) (spot_of c.args.spot) ps) (drop_at c.args.from.now c.args.len c.in-Some.step c.in-Some.ensures.found)
    ∙ c.in-Some-further.ensures.there (memory_of c.args.memory.now) (drop (c.args.len + 1) c.args.from.now) c.requires.part in
    record {
      gone = λ h. on ∙ c.walk-in_default-step.ensures.gone h;
      there = IfSome_then c.walk-in_default-step.result c.walk-in_default-step.ensures.there (λ next h. on ∙ h);
      part = c.walk-in_default-step.ensures.part;
      formed = c.walk-in_default-step.ensures.formed;
    }
