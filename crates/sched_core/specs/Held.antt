-- What a weave holds beside its core: the works and the answers, by query.
use Rattle.std.specs.Prelude.{◌≡◌, ◌≢◌, ℕ, zero, suc, ◌<◌, true, List, [], ◌∷◌, Option, Some, None, length, slice_get, slice_set}
use Rattle.sched_core.specs.declared.Status.TheVariants.{Claimed, Stolen, Failed}
use Rattle.sched_core.specs.declared.state.Core.{Core}
use Rattle.sched_core.specs.Plan.{Plan}
use Rattle.sched_core.specs.Shown.{state_of, GoodFor}
use Rattle.sched_core.specs.State.{State, Entry, done}

-- each claimed query has a work that was begun for it and was given what its entry says
abbrev pub HasWorks : {W : Type 0} → (ℕ → W → Type 0) → (ℕ → W → List ℕ) → List (Option W) → List Entry → Type 0
HasWorks is_work given works [] = Unit {0}
HasWorks {W} is_work given works (e ∷ es) =
    ((x : W) × (slice_get works e.0 ≡ Some (Some x)) × is_work e.0 x × (given e.0 x ≡ e.1)) × HasWorks is_work given works es

pub record Holds {W A : Type 0} (is_work : ℕ → W → Type 0) (given : ℕ → W → List ℕ) (out : ℕ → A) (p : Plan) (c : State) (works : List (Option W)) (answers : List (Option A)) : Type 0 where
  pub works_long : length works ≡ p.queries
  pub answers_long : length answers ≡ p.queries
  pub worked : (w : ℕ) → HasWorks is_work given works (c.stack w)
  -- what is done has its defined answer, and what was stolen for a claimed query too
  pub answered : (q : ℕ) → done (c.status q) ≡ true → slice_get answers q ≡ Some (Some (out q))
  pub kept : (s q w : ℕ) → c.status s ≡ Stolen → p.steals q ≡ Some s → c.status q ≡ Claimed w → slice_get answers s ≡ Some (Some (out s))
  pub clean : (q : ℕ) → c.status q ≢ Failed

-- the answers without the stolen one
abbrev pub without : {A : Type 0} → Option ℕ → List (Option A) → List (Option A)
without None answers = answers
without (Some s) answers = slice_set answers s None

-- the core is good and the works and answers are those of its state
pub record Weaves {W A : Type 0} (is_work : ℕ → W → Type 0) (given : ℕ → W → List ℕ) (out : ℕ → A) (p : Plan) (c : Core) (works : List (Option W)) (answers : List (Option A)) : Type 0 where
  pub good : GoodFor p c
  pub holds : Holds is_work given out p (state_of c) works answers

-- a root that was done is done
abbrev pub RootsStay : Plan → State → State → Type 0
RootsStay p c d = (i : ℕ) → i < p.roots → done (c.status (p.root i)) ≡ true → done (d.status (p.root i)) ≡ true

-- the defined answers of n roots from the i-th on, in their order
abbrev pub roots_answers : {A : Type 0} → (ℕ → A) → Plan → ℕ → ℕ → List A
roots_answers out p i zero = []
roots_answers out p i (suc n) = out (p.root i) ∷ roots_answers out p (suc i) n
