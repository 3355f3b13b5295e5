-- Items that are taken one by one out of a list that is used up.
use Rattle.std.proofs.Common.{◌≡◌, ◌<◌, ◌∷◌, ◌∙◌, length, Option, Some, None, sym, arith}
use Rattle.std.proofs.lemmas.Option.{MatchOption-at_some, MatchOption-at_none}
use Rattle.std.specs.Vec.Iter.{into_iter_items, into_iter_steps}
use Rattle.std.specs.declared.vec.IntoIter.{IntoIter}

pub next_taken : {X Z : Type 0} (s t : IntoIter X Z) (r : Option X) (x : X) → r ≡ Some x → into_iter_steps s r t → into_iter_items s ≡ x ∷ into_iter_items t
next_taken s t r x is h = (MatchOption-at_some _ _ x is h).0

pub all_taken : {X Z : Type 0} (s t : IntoIter X Z) (r : Option X) → r ≡ None → into_iter_steps s r t → length (into_iter_items s) < 1
all_taken s t r is h =
    let none = sym s.rest.ok.0 ∙ (MatchOption-at_none _ _ is h).0 in
    omega (arith, none)
