-- Who comes of a function's candidates, given what it takes.
use Rattle.std.specs.Prelude.{ℕ, Bool, List, [], ◌∷◌, if◌then◌else◌}
use Rattle.query_plan.specs.Queries.{Pipeline, is_never, takes, cands, opt}
use Rattle.candidates.specs.declared.walk.Walk.{Walk}
use Rattle.candidates.specs.Walk.{coming, coming_with}

-- without those that may never be inlined
abbrev pub wanted : (ℕ → Bool) → List ℕ → List ℕ
wanted never [] = []
wanted never (g ∷ gs) = if never g then wanted never gs else g ∷ wanted never gs

module _ {B : Type 0} (P : Pipeline B) where
  abbrev pub never_of : ℕ → Bool
  never_of g = is_never (P.inlining g)

  -- whom g brings: whom its optimised body calls, where f takes it
  abbrev pub brings_of : ℕ → ℕ → List ℕ
  brings_of f g = if takes P (opt P) f g then P.callees (opt P g) else []

  -- the candidates of f that may be inlined
  abbrev pub all_of : ℕ → List ℕ
  all_of f = wanted never_of (cands P (opt P) f)

  -- who is still to come
  abbrev pub comes_in : ℕ → Walk → List ℕ
  comes_in f w = coming never_of (brings_of f) w

  -- and once g, which came last, is done
  abbrev pub comes_after : ℕ → ℕ → Walk → List ℕ
  comes_after f g w = coming_with never_of (brings_of f) w (brings_of f g)
