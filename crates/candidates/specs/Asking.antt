-- What the work of an optimised body has come to: which candidates are done, and what is left to ask.
use Rattle.std.specs.Prelude.{◌≡◌, ℕ, ◌<◌, Bool, true, false, List, [], ◌∷◌, ◌++◌, map, length, Option, Some, None, if◌then◌else◌}
use Rattle.bit_rows.specs.Rows.{stands}
use Rattle.mir_syntax.specs.Drops.{fn_number}
use Rattle.mir_syntax.specs.declared.types.FnId.{FnId}
use Rattle.mir_syntax.specs.declared.program.Program.{Program}
use Rattle.mir_syntax.specs.Crate.{crate_of}
use Rattle.call_graph.specs.Graph.{reach, asks, path_below}
use Rattle.query_plan.specs.declared.kind.Kind.TheVariants as kind
use Rattle.query_plan.specs.Queries.{Pipeline, is_never, is_large, qualifies, graph, may_take}
use Rattle.query_plan.specs.Needs.{query, asked_of}
use Rattle.candidates.specs.declared.walk.Walk.{Walk}
use Rattle.candidates.specs.declared.asking.Asking.{Asking}
use Rattle.candidates.specs.declared.asking.Part.{Part}
use Rattle.candidates.specs.declared.asking.Part.TheVariants as part
use Rattle.candidates.specs.Walk.{IsWalk, never_in}
use Rattle.candidates.specs.Comes.{all_of, comes_in, comes_after}

-- the pipeline's functions are those of the program, with their attributes and paths
pub record IsOf (p : Program) {B : Type 0} (P : Pipeline B) : Type 0 where
  pub functions : P.functions ≡ length p.functions
  pub never : (g : ℕ) → is_never (P.inlining g) ≡ never_in p.functions g
  pub below : (f g : ℕ) → P.below f g ≡ path_below (crate_of p) f g

-- the candidate at hand is one of so many functions
abbrev pub PartBelow : ℕ → Part → Type 0
PartBelow n part.Cost = Unit {0}
PartBelow n (part.Reach g) = g.0 < n
PartBelow n (part.Qualif g) = g.0 < n
PartBelow n (part.Opt g q) = g.0 < n
PartBelow n part.Elab = Unit {0}

-- all functions that come are among so many
pub record StaysBelow (n : ℕ) (a : Asking) : Type 0 where
  pub walk : IsWalk n a.walk
  pub part : PartBelow n a.part

module _ {B : Type 0} (P : Pipeline B) where
  -- of these candidates those whose bodies f may take
  abbrev pub lent_of : ℕ → List ℕ → List ℕ
  lent_of f [] = []
  lent_of f (g ∷ gs) = (if may_take P f g then g ∷ [] else []) ++ lent_of f gs

  -- what is left to ask of these candidates, and then of f itself
  abbrev pub left_with : ℕ → List ℕ → List ℕ
  left_with f gs = asked_of P f gs ++ query P.functions kind.Elab f ∷ []

  -- the query that comes next
  abbrev pub next_of : ℕ → Part → ℕ
  next_of f part.Cost = query P.functions kind.Cost f
  next_of f (part.Reach g) = query P.functions kind.Reach g.0
  next_of f (part.Qualif g) = query P.functions kind.Qualif g.0
  next_of f (part.Opt g q) = query P.functions kind.Opt g.0
  next_of f part.Elab = query P.functions kind.Elab f

  -- what comes after it
  abbrev pub then_of : ℕ → Part → Walk → List ℕ
  then_of f part.Cost w = left_with f (comes_in P f w)
  then_of f (part.Reach g) w = (if stands f (reach (graph P) g.0) then [] else query P.functions kind.Qualif g.0 ∷ query P.functions kind.Opt g.0 ∷ []) ++ left_with f (comes_after P f g.0 w)
  then_of f (part.Qualif g) w = query P.functions kind.Opt g.0 ∷ left_with f (comes_after P f g.0 w)
  then_of f (part.Opt g q) w = left_with f (comes_after P f g.0 w)
  then_of f part.Elab w = []

  -- the candidates that aren't done
  abbrev pub ahead : ℕ → Part → Walk → List ℕ
  ahead f part.Cost w = comes_in P f w
  ahead f (part.Reach g) w = g.0 ∷ comes_after P f g.0 w
  ahead f (part.Qualif g) w = g.0 ∷ comes_after P f g.0 w
  ahead f (part.Opt g q) w = g.0 ∷ comes_after P f g.0 w
  ahead f part.Elab w = []

  -- what is known of f and of the candidate at hand
  abbrev pub Known : ℕ → Part → Bool → Type 0
  Known f part.Cost large = Unit {0}
  Known f (part.Reach g) large = (large ≡ is_large P f) × (P.below f g.0 ≡ false)
  Known f (part.Qualif g) large = (large ≡ is_large P f) × (asks (graph P) f g.0 ≡ true)
  Known f (part.Opt g q) large = (large ≡ is_large P f) × (asks (graph P) f g.0 ≡ true) × (q ≡ qualifies P g.0)
  Known f part.Elab large = large ≡ is_large P f

  -- the candidates so far are done, and the walk goes on
  pub record IsBetween (f : ℕ) (a : Asking) : Type 0 where
    pub done : List ℕ
    pub all : all_of P f ≡ done ++ comes_in P f a.walk
    pub walk : IsWalk P.functions a.walk
    pub large : a.large ≡ is_large P f
    pub lent : map fn_number a.lent ≡ lent_of f done

  -- a question is open
  pub record IsAsking (f : ℕ) (a : Asking) : Type 0 where
    pub done : List ℕ
    pub all : all_of P f ≡ done ++ ahead f a.part a.walk
    pub stays : StaysBelow P.functions a
    pub known : Known f a.part a.large
    pub lent : map fn_number a.lent ≡ lent_of f done

  -- these are asked next
  pub record Asks (f : ℕ) (a : Asking) (list : List ℕ) : Type 0 where
    pub is : IsAsking f a
    pub needs : next_of f a.part ∷ then_of f a.part a.walk ≡ list

  -- where a question was open, what comes after it is asked next
  abbrev pub GoesOn : ℕ → Asking → Asking → Type 0
  GoesOn f a b = Asks f b (then_of f a.part a.walk)

  -- what is asked of the candidate that comes, or of f where none comes
  abbrev pub entered : ℕ → Option FnId → Part
  entered f None = part.Elab
  entered f (Some g) = if P.below f g.0 then part.Qualif g else part.Reach g
