use Rattle.std.proofs.Common.{◌≡◌, length}
use Rattle.mir_text.specs.GrammarPlaces.{PlaceRule}
use Rattle.mir_tree.specs.Bodies.{place_from, place_rule}
use Rattle.mir_resolve.specs.Types.{Grown}
use Rattle.mir_bodies.specs.Scope.{Tells}
use Rattle.mir_bodies.specs.Places.{Reaches}
use Rattle.mir_bodies.proofs.place.read_place.Given as goal

abbrev pub ghost-step : goal.ghost-step
ghost-step g a = g.sense

abbrev pub invariant-projs : goal.invariant-projs
invariant-projs g l = record {
  q : PlaceRule;
  on : Reaches g.sense l.fn.draft.notes l.line q l.walk l.draft;
  whole : place_from q l.left ≡ place_rule l.text;
  grown : Grown l.fn.draft.program l.draft.program;
  tells : Tells l.scope l.draft.program g.sense;
}

abbrev pub decreases-projs : goal.decreases-projs
decreases-projs g l = length l.left
