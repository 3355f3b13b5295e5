-- What holds while a problem is being solved. No promise of a public call rests on these.
use Rattle.std.specs.Prelude.{◌≡◌, ℕ, ◌<◌, ◌≤◌, Bool, true, false, if◌then◌else◌, List, length, get_or, sum_by, Some, slice_get, Contains}
use Rattle.flow_engine.specs.declared.edges.Edge.{Edge}
use Rattle.flow_engine.specs.Flow.{Flow, Arrow, Solves, AllFacts}

-- facts on the way to the least solution: at least the starts, and under every solution
pub record IsUnder {A : Type 0} (Ok : A → Type 0) (Below : A → A → Type 0) (p : Flow A) (xs : List A) : Type 0 where
  pub long : length xs ≡ length p.starts
  pub facts : AllFacts Ok xs
  pub above : (b : ℕ) (s x : A) → slice_get p.starts b ≡ Some s → slice_get xs b ≡ Some x → Below s x
  pub under : (ys : List A) → AllFacts Ok ys → Solves Below p ys → (b : ℕ) (x y : A) → slice_get xs b ≡ Some x → slice_get ys b ≡ Some y → Below x y

-- a block that waits: one with a mark
abbrev pub Waits : List Bool → ℕ → Type 0
Waits marks b = (b < length marks) × (get_or marks b false ≡ true)

-- no block waits from a number on, below it, ahead of a sweep that stands there, or at all
abbrev pub SleepFrom : List Bool → ℕ → Type 0
SleepFrom marks at = (b : ℕ) → at ≤ b → get_or marks b false ≡ false

abbrev pub SleepBelow : List Bool → ℕ → Type 0
SleepBelow marks at = (b : ℕ) → b < at → get_or marks b false ≡ false

abbrev pub SleepAhead : List Bool → ℕ → Bool → Type 0
SleepAhead marks at is_upward = (is_upward ≡ true → SleepFrom marks at) × (is_upward ≡ false → SleepBelow marks at)

abbrev pub SleepAll : List Bool → Type 0
SleepAll marks = (b : ℕ) → get_or marks b false ≡ false

-- how many blocks wait
abbrev pub one_if : Bool → ℕ
one_if mark = if mark then 1 else 0

abbrev pub waiting : List Bool → ℕ
waiting marks = sum_by one_if marks

-- the edges that add nothing: those from blocks without a mark, and of one block those that were sent
abbrev pub IsSent : {A : Type 0} → Flow A → List A → List Bool → ℕ → List ℕ → Type 0
IsSent p xs marks block sent = (i : ℕ) (e : Arrow _) (x y : _) → slice_get p.arrows i ≡ Some e → get_or marks e.from false ≡ false → (e.from ≡ block → Contains sent i) → slice_get xs e.from ≡ Some x → slice_get xs e.to ≡ Some y → p.join y (e.flow x) ≡ y

-- how far it has come, while the edges of one block are sent
pub record IsGoing {A : Type 0} (Ok : A → Type 0) (Below : A → A → Type 0) (p : Flow A) (xs : List A) (marks : List Bool) (block : ℕ) (sent : List ℕ) : Type 0 where
  pub under : IsUnder Ok Below p xs
  pub marked : length marks ≡ length p.starts
  pub sent_on : IsSent p xs marks block sent

-- of each block the numbers of the edges that leave it
pub record IsLeaving (edges : List Edge) (blocks : ℕ) (lists : List (List ℕ)) : Type 0 where
  pub long : length lists ≡ blocks
  pub has : (i : ℕ) (e : Edge) → slice_get edges i ≡ Some e → (list : List ℕ) → slice_get lists e.from ≡ Some list → Contains list i
  pub only : (b i : ℕ) (list : List ℕ) → slice_get lists b ≡ Some list → Contains list i → (e : Edge) × (slice_get edges i ≡ Some e) × (e.from ≡ b)
