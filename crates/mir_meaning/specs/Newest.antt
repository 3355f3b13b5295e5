-- The newest frame with a number, in a list of frames that has the newest last.
use Rattle.std.specs.Prelude.{◌≡◌, ℕ, ◌<◌, List, slice_get, Some}
use Rattle.mir_meaning.specs.declared.memory.Store.{Store}

abbrev pub NoneHas : List Store → ℕ → Type 0
NoneHas ss f = (k : ℕ) (s : Store) → slice_get ss k ≡ Some s → s.frame ≡ f → ⊥

pub record IsNewest (ss : List Store) (f i : ℕ) : Type 0 where
  pub store : Store
  pub there : slice_get ss i ≡ Some store
  pub same : store.frame ≡ f
  pub later : (k : ℕ) (s : Store) → i < k → slice_get ss k ≡ Some s → s.frame ≡ f → ⊥
