-- The places of a body that are tracked: its scalars that lie in locals by fields alone, and where no reference to the local is made.
use Rattle.std.specs.Prelude.{◌≡◌, ◌↔◌, ℕ, zero, suc, ◌/◌, ◌≤◌, ◌<◌, Bool, true, false, nat_eq, nat_le, if◌then◌else◌, List, [], ◌∷◌, ◌++◌, map, length, take, Option, Some, None, is_some, IsTrue, slice_get}
use Rattle.mir_syntax.specs.declared.body.Proj.{Proj}
use Rattle.mir_syntax.specs.declared.body.Proj.TheVariants.{Field, Downcast, Deref}
use Rattle.mir_syntax.specs.declared.body.Place.{Place}
use Rattle.mir_syntax.specs.Tree.{Tree, scalar, more, named}
use Rattle.mir_syntax.specs.Crate.{TypedBody}
use Rattle.mir_syntax.specs.Shapes.{Shape, fields_of}

-- ---- places at and under a place

abbrev pub same_proj : Proj → Proj → Bool
same_proj (Field i) (Field j) = nat_eq i j
same_proj (Downcast i) (Downcast j) = nat_eq i j
same_proj Deref Deref = true
same_proj _ _ = false

-- what is left of a path after another
abbrev pub rest_of : List Proj → List Proj → Option (List Proj)
rest_of [] ps = Some ps
rest_of (q ∷ qs) [] = None
rest_of (q ∷ qs) (p ∷ ps) = if same_proj q p then rest_of qs ps else None

-- the way from a place to one at or under it
unfoldable pub way : Place → Place → Option (List Proj)
way q p = if nat_eq q.local p.local then rest_of q.proj p.proj else None

-- the place at the end of a way from another
unfoldable pub beyond : Place → List Proj → Place
beyond p r = record { local = p.local; proj = p.proj ++ r }

-- ---- the scalars of a type, each by the fields that lead to it, depth first

abbrev pub deeper : ℕ → List Proj → List Proj
deeper i ps = Field i ∷ ps

-- of a type, or of a tuple's fields that are numbered from here on
abbrev pub scalars_by : (ℕ → List (List Proj)) → Option ℕ → Tree → List (List Proj)
scalars_by of_def None (scalar s) = [] ∷ []
scalars_by of_def None (more t ts) = map (deeper 0) (scalars_by of_def None t) ++ scalars_by of_def (Some 1) ts
scalars_by of_def None (named d) = of_def d
scalars_by of_def (Some i) (more t ts) = map (deeper i) (scalars_by of_def None t) ++ scalars_by of_def (Some (suc i)) ts
scalars_by of_def _ _ = []

-- of the fields of a struct; an enum has none of its own
abbrev pub scalars_in : (ℕ → List (List Proj)) → Option Tree → List (List Proj)
scalars_in of_def None = []
scalars_in of_def (Some t) = scalars_by of_def (Some 0) t

-- to a depth of definitions inside one another; their number is depth enough
abbrev pub scalars_def : List Shape → ℕ → ℕ → List (List Proj)
scalars_def D zero d = []
scalars_def D (suc n) d = scalars_in (scalars_def D n) (fields_of D (named d))

-- the ways to the scalars of a type
unfoldable pub scalars : List Shape → Tree → List (List Proj)
scalars D t = scalars_by (scalars_def D (length D)) None t

-- ---- the tracked places

abbrev pub place_at : ℕ → List Proj → Place
place_at x ps = record { local = x; proj = ps }

-- the scalars of locals that are numbered from here on, where nobody has taken them
abbrev pub untaken_scalars : List Shape → (ℕ → Bool) → ℕ → List Tree → List Place
untaken_scalars D taken x [] = []
untaken_scalars D taken x (t ∷ ts) = (if taken x then [] else map (place_at x) (scalars D t)) ++ untaken_scalars D taken (suc x) ts

-- how many are tracked at most in a body of so many blocks
abbrev pub most_tracked : ℕ → ℕ
most_tracked blocks = if nat_le 1000 (1000000 / blocks) then 1000 else 1000000 / blocks

-- in order of the locals, and depth first within each
unfoldable pub tracked : List Shape → (ℕ → Bool) → TypedBody → List Place
tracked D taken b = take (most_tracked (length b.blocks)) (untaken_scalars D taken 0 b.locals)

-- a place stands in a list at this number alone
pub record IsNumber (places : List Place) (p : Place) (i : ℕ) : Type 0 where
  pub stands : slice_get places i ≡ Some p
  pub alone : (j : ℕ) → slice_get places j ≡ Some p → j ≡ i

-- the numbers of the places at or under a place: those from one number up to but not another
abbrev pub SpansUnder : List Place → Place → ℕ → ℕ → Type 0
SpansUnder places p from to = (i : ℕ) (q : Place) → slice_get places i ≡ Some q → IsTrue (is_some (way p q)) ↔ ((from ≤ i) × (i < to))
