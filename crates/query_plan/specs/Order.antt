-- An order in which functions can be optimised one by one: components of the call graph with callees first, and in a component by falling paths.
use Rattle.std.specs.Prelude.{◌≡◌, ℕ, ◌<◌, true}
use Rattle.call_graph.specs.Graph.{Graph}
use Rattle.query_plan.specs.Queries.{Pipeline, opt}

-- the places of functions in the order: earlier components come first, and in one component the function whose path is above
pub record IsOrder (G : Graph) (component place : ℕ → ℕ) : Type 0 where
  pub components : (f g : ℕ) → f < G.functions → g < G.functions → component g < component f → place g < place f
  pub paths_fall : (f g : ℕ) → f < G.functions → g < G.functions → component f ≡ component g → G.below f g ≡ true → place g < place f

-- of all functions that come before a place these are the optimised bodies
abbrev pub DoneBefore : {B : Type 0} → Pipeline B → (ℕ → ℕ) → ℕ → (ℕ → B) → Type 0
DoneBefore P place n bodies = (g : ℕ) → g < P.functions → place g < n → bodies g ≡ opt P g
