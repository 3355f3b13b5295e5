-- The candidates of a function, one after another: each may bring others, that come a layer later.
use Rattle.std.specs.Prelude.{◌≡◌, ◌⊎◌, ℕ, zero, suc, ◌<◌, ◌≤◌, Bool, true, false, ◌||◌, List, [], ◌∷◌, ◌++◌, length, get_or, set, drop, Option, Some, None, if◌then◌else◌, MatchOption, slice_get, replicate}
use Rattle.bit_rows.specs.Rows.{row_at, marked, stands, HasSize}
use Rattle.mir_syntax.specs.declared.body.Function.{Function}
use Rattle.mir_syntax.specs.declared.body.Inline.{Inline}
use Rattle.mir_syntax.specs.declared.body.Inline.TheVariants.{Plain}
use Rattle.query_plan.specs.Queries.{is_never}
use Rattle.candidates.specs.declared.walk.Walk.{Walk}

-- of the list those that aren't marked and may be inlined, each once
abbrev pub new_by : (ℕ → Bool) → List Bool → List ℕ → List ℕ
new_by never known [] = []
new_by never known (x ∷ xs) = (if get_or known x false || never x then [] else x ∷ []) ++ new_by never (set known x true) xs

-- the rest of a layer, and what comes after it. b says whom each brings
abbrev pub layer_from : (ℕ → Bool) → (ℕ → List ℕ) → (List Bool → List ℕ → List ℕ) → List Bool → List ℕ → List ℕ → List ℕ
layer_from never b after known fresh [] = after known fresh
layer_from never b after known fresh (g ∷ gs) = g ∷ layer_from never b after (marked known (b g)) (fresh ++ new_by never known (b g)) gs

-- who comes, where so many layers come after the rest of this one
abbrev pub coming_from : (ℕ → Bool) → (ℕ → List ℕ) → ℕ → List Bool → List ℕ → List ℕ → List ℕ
coming_from never b zero known fresh rest = rest
coming_from never b (suc d) known fresh rest = layer_from never b (λ k layer. coming_from never b d k [] layer) known fresh rest

abbrev pub coming : (ℕ → Bool) → (ℕ → List ℕ) → Walk → List ℕ
coming never b w = coming_from never b w.layers (row_at w.known 0) w.fresh (drop w.at w.layer)

-- whether the function of a number may never be inlined
abbrev pub inline_or_plain : Option Function → Inline
inline_or_plain None = Plain
inline_or_plain (Some f) = f.inline

abbrev pub never_in : List Function → ℕ → Bool
never_in functions g = is_never (inline_or_plain (slice_get functions g))

-- these are below the number of functions
abbrev pub AllBelow : ℕ → List ℕ → Type 0
AllBelow n xs = (x : ℕ) → stands x xs ≡ true → x < n

-- a walk over the functions below n
pub record IsWalk (n : ℕ) (w : Walk) : Type 0 where
  pub size : HasSize w.known 1 n
  pub at : w.at ≤ length w.layer
  pub layer : AllBelow n w.layer
  pub fresh : AllBelow n w.fresh

-- nobody came yet, of three layers
pub record IsFresh (n : ℕ) (w : Walk) : Type 0 where
  pub walk : IsWalk n w
  pub known : row_at w.known 0 ≡ replicate n false
  pub layers : w.layers ≡ 3
  pub fresh : w.fresh ≡ []
  pub layer : w.layer ≡ []
  pub at : w.at ≡ 0

-- who comes once the last one brought these
abbrev pub coming_with : (ℕ → Bool) → (ℕ → List ℕ) → Walk → List ℕ → List ℕ
coming_with never b w xs = coming_from never b w.layers (marked (row_at w.known 0) xs) (w.fresh ++ new_by never (row_at w.known 0) xs) (drop w.at w.layer)

pub record IsNextLayer (w v : Walk) : Type 0 where
  pub layers : suc v.layers ≡ w.layers
  pub layer : v.layer ≡ w.fresh
  pub at : v.at ≡ 0
  pub fresh : v.fresh ≡ []
  pub known : v.known ≡ w.known

-- the walk is as before, or its layer was at its end and the next begins
abbrev pub IsSettled : Walk → Walk → Type 0
IsSettled w v = ((w.at ≡ length w.layer) × (0 < w.layers) × IsNextLayer w v) ⊎ (((w.at ≡ length w.layer) → w.layers ≡ 0) × (v ≡ w))

-- the next one was taken
pub record Took (w v : Walk) (one : Option ℕ) : Type 0 where
  pub walk : (n : ℕ) → IsWalk n w → IsWalk n v × MatchOption one (Unit {0}) (λ g. g < n)
  pub next : (never : ℕ → Bool) (b : ℕ → List ℕ) → MatchOption one (coming never b w ≡ []) (λ g. coming never b w ≡ g ∷ coming_with never b v (b g))

-- these were brought so far
pub record Brings (never : ℕ → Bool) (n : ℕ) (w v : Walk) (xs : List ℕ) : Type 0 where
  pub layers : v.layers ≡ w.layers
  pub layer : v.layer ≡ w.layer
  pub at : v.at ≡ w.at
  pub fresh : v.fresh ≡ w.fresh ++ new_by never (row_at w.known 0) xs
  pub known : v.known ≡ marked (row_at w.known 0) xs ∷ []
  pub below : AllBelow n v.fresh
  pub size : HasSize v.known 1 n

-- these were brought where the test says so
abbrev pub BringsWhere : (ℕ → Bool) → ℕ → Walk → Walk → Bool → List ℕ → Type 0
BringsWhere never n w v true xs = Brings never n w v xs
BringsWhere never n w v false xs = v ≡ w
