-- Which definitions hold a definition by value, and how marks go from definitions to those that hold them.
-- In the shape of the code; no public promise rests on these but `IsAsked`.
use Rattle.std.specs.Prelude.{◌≡◌, ◌⊎◌, ℕ, ◌<◌, ◌≤◌, ◌==◌, Bool, true, false, List, [], map, length, get_or, slice_get}
use Rattle.std.specs.List.{All, Contains}
use Rattle.mir_syntax.specs.declared.types.TyId.{TyId}
use Rattle.mir_syntax.specs.Tree.{Tree, at_id}
use Rattle.mir_syntax.specs.Shapes.{Shape, any_needs}
use Rattle.mir_rules.specs.DefinitionRules.{holds_one, breaks_v01}
use Rattle.drop_tables.specs.Marks.{is_marked}

abbrev pub holders_at : List (List ℕ) → ℕ → List ℕ
holders_at holders e = get_or holders e []

-- the definition d holds e by value, with no other between
abbrev pub Holds : List Shape → ℕ → ℕ → Type 0
Holds D d e = holds_one (λ k. k == e) (slice_get D d) ≡ true

-- of each definition those that hold it by value
pub record AreHolders (D : List Shape) (holders : List (List ℕ)) : Type 0 where
  pub long : length holders ≡ length D
  pub only : (e d : ℕ) → Contains (holders_at holders e) d → Holds D d e
  pub all : (e d : ℕ) → e < length D → Holds D d e → Contains (holders_at holders e) d

-- each that holds a definition is one of those that have a list
abbrev pub AreInside : List (List ℕ) → Type 0
AreInside holders = (e d : ℕ) → Contains (holders_at holders e) d → d < length holders

-- one of the types holds the definition by value
abbrev pub any_holds : List Tree → List TyId → ℕ → Bool
any_holds trees ids e = any_needs (λ k. k == e) (map (at_id trees) ids)

-- a definition was noted with those that some types hold by value
pub record Noted (trees : List Tree) (ids : List TyId) (from : ℕ) (holders holders2 : List (List ℕ)) : Type 0 where
  pub long : length holders2 ≡ length holders
  pub stay : (e d : ℕ) → Contains (holders_at holders e) d → Contains (holders_at holders2 e) d
  pub only : (e d : ℕ) → Contains (holders_at holders2 e) d → Contains (holders_at holders e) d ⊎ ((d ≡ from) × (any_holds trees ids e ≡ true))
  pub all : (e : ℕ) → e < length holders → any_holds trees ids e ≡ true → Contains (holders_at holders2 e) from

-- definitions were marked, and those not marked before are found
pub record Finds (marks marks2 : List Bool) (found found2 held : List ℕ) : Type 0 where
  pub long : length marks2 ≡ length marks
  pub kept : (d : ℕ) → is_marked marks d ≡ true → is_marked marks2 d ≡ true
  pub marked : All (λ d. is_marked marks2 d ≡ true) held
  pub only : (d : ℕ) → is_marked marks2 d ≡ true → (is_marked marks d ≡ true) ⊎ (Contains held d × Contains found2 d)
  pub stay : (d : ℕ) → Contains found d → Contains found2 d
  pub from : (d : ℕ) → Contains found2 d → Contains found d ⊎ Contains held d

-- the same for those that hold one of some definitions
pub record Round (holders : List (List ℕ)) (marks marks2 : List Bool) (front found : List ℕ) : Type 0 where
  pub long : length marks2 ≡ length marks
  pub kept : (d : ℕ) → is_marked marks d ≡ true → is_marked marks2 d ≡ true
  pub marked : (e d : ℕ) → Contains front e → Contains (holders_at holders e) d → is_marked marks2 d ≡ true
  pub only : (d : ℕ) → is_marked marks2 d ≡ true → (is_marked marks d ≡ true) ⊎ Contains found d
  pub from : (d : ℕ) → Contains found d → (e : ℕ) × Contains front e × Contains (holders_at holders e) d

-- numbers that never fall from a definition to those that it holds
abbrev pub number_of : List ℕ → ℕ → ℕ
number_of numbers d = get_or numbers d 0

-- definitions that hold one were looked at: none has a greater number, and those with the same one are marked
pub record Looked (numbers : List ℕ) (held : ℕ) (holders : List ℕ) (marks marks2 : List Bool) : Type 0 where
  pub long : length marks2 ≡ length marks
  pub kept : (d : ℕ) → is_marked marks d ≡ true → is_marked marks2 d ≡ true
  pub rising : (d : ℕ) → Contains holders d → number_of numbers d ≤ number_of numbers held
  pub level : (d : ℕ) → Contains holders d → d < length marks → number_of numbers d ≡ number_of numbers held → is_marked marks2 d ≡ true

-- each definition that holds one of its own number is marked, and no number falls
pub record Ordered (holders : List (List ℕ)) (numbers : List ℕ) (marks : List Bool) (upto : ℕ) : Type 0 where
  pub long : length marks ≡ length holders
  pub rising : (e d : ℕ) → e < upto → Contains (holders_at holders e) d → number_of numbers d ≤ number_of numbers e
  pub level : (e d : ℕ) → e < upto → d < length holders → Contains (holders_at holders e) d → number_of numbers d ≡ number_of numbers e → is_marked marks d ≡ true

-- what is kept to ask whether a definition holds itself: no other than a marked one does
pub record IsAsked (D : List Shape) (holders : List (List ℕ)) (suspects : List Bool) : Type 0 where
  pub holders_are : AreHolders D holders
  pub apart : (d : ℕ) → is_marked suspects d ≡ false → breaks_v01 D d ≡ false
