-- Flow problems: one fact for each block, joined from a start and from what comes along the edges.
use Rattle.std.specs.Prelude.{◌≡◌, ℕ, zero, suc, ◌≤◌, List, [], ◌∷◌, length, Some, slice_get}
use Rattle.flow_engine.specs.declared.edges.Edge.{Edge}

-- an edge, and what it makes of the fact where it begins
pub record Arrow (A : Type 0) : Type 0 where
  pub from : ℕ
  pub to : ℕ
  pub flow : A → A

-- a problem: the blocks' starts, in order, and the edges
pub record Flow (A : Type 0) : Type 0 where
  pub join : A → A → A
  pub starts : List A
  pub arrows : List (Arrow A)

-- a solution: each block's fact is at least its start and at least what each edge brings
pub record Solves {A : Type 0} (Below : A → A → Type 0) (p : Flow A) (xs : List A) : Type 0 where
  pub same_length : length xs ≡ length p.starts
  pub start : (b : ℕ) (s x : A) → slice_get p.starts b ≡ Some s → slice_get xs b ≡ Some x → Below s x
  pub edge : (i : ℕ) (e : Arrow A) (x y : A) → slice_get p.arrows i ≡ Some e → slice_get xs e.from ≡ Some x → slice_get xs e.to ≡ Some y → Below (e.flow x) y

-- each of them is a fact of the problem
abbrev pub AllFacts : {A : Type 0} → (A → Type 0) → List A → Type 0
AllFacts Ok xs = (b : ℕ) (x : _) → slice_get xs b ≡ Some x → Ok x

-- the least solution among lists of the problem's facts; where what lies below both ways is equal, there is one alone
pub record Least {A : Type 0} (Ok : A → Type 0) (Below : A → A → Type 0) (p : Flow A) (xs : List A) : Type 0 where
  pub solves : Solves Below p xs
  pub facts : AllFacts Ok xs
  pub least : (ys : List A) → AllFacts Ok ys → Solves Below p ys → (b : ℕ) (x y : A) → slice_get xs b ≡ Some x → slice_get ys b ≡ Some y → Below x y

-- what an analysis keeps: its facts are a lattice of this height, and its flows rise
pub record Lawful {A : Type 0} (Ok : A → Type 0) (Below : A → A → Type 0) (rank : A → ℕ) (height : ℕ) (start : ℕ → A) (join : A → A → A) (flow : ℕ → A → A) : Type 0 where
  pub same : (x : A) → Ok x → Below x x
  pub then_below : (x y z : A) → Below x y → Below y z → Below x z
  pub join_ok : (x y : A) → Ok x → Ok y → Ok (join x y)
  pub left : (x y : A) → Ok x → Ok y → Below x (join x y)
  pub right : (x y : A) → Ok x → Ok y → Below y (join x y)
  pub least : (x y z : A) → Ok x → Ok y → Below x z → Below y z → Below (join x y) z
  pub rank_below : (x y : A) → Below x y → rank x ≤ rank y
  pub rank_same : (x y : A) → Below x y → rank x ≡ rank y → x ≡ y
  pub rank_high : (x : A) → Ok x → rank x ≤ height
  pub start_ok : (b : ℕ) → Ok (start b)
  pub flow_ok : (i : ℕ) (x : A) → Ok x → Ok (flow i x)
  pub flow_below : (i : ℕ) (x y : A) → Ok x → Ok y → Below x y → Below (flow i x) (flow i y)

-- the starts of so many blocks, from a number on
abbrev pub starts_to : {A : Type 0} → (ℕ → A) → ℕ → ℕ → List A
starts_to start b zero = []
starts_to start b (suc n) = start b ∷ starts_to start (suc b) n

-- the edges with their flows, the first being that of a number
abbrev pub arrows_at : {A : Type 0} → (ℕ → A → A) → ℕ → List Edge → List (Arrow A)
arrows_at flow i [] = []
arrows_at flow i (e ∷ es) = record { from = e.from; to = e.to; flow = flow i } ∷ arrows_at flow (suc i) es

-- the problem that `solve` is given
unfoldable pub problem : {A : Type 0} → (A → A → A) → (ℕ → A) → (ℕ → A → A) → ℕ → List Edge → Flow A
problem join start flow blocks es = record { join = join; starts = starts_to start 0 blocks; arrows = arrows_at flow 0 es }
