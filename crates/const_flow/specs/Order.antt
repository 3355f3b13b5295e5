-- The order of what is known, from less to more that may be, and how high it goes.
use Rattle.std.specs.Prelude.{◌≡◌, ℕ, suc, ◌+◌, ◌*◌, List, [], ◌∷◌, length, Some, None}
use Rattle.mir_syntax.specs.declared.body.Place.{Place}
use Rattle.const_flow.specs.declared.cell.Cell.{Cell}
use Rattle.const_flow.specs.declared.cell.Cell.TheVariants.{Nothing, Num, Many}
use Rattle.const_flow.specs.Facts.{Facts}
use Rattle.const_flow.specs.ConstAt.{Reached}

abbrev pub BelowCell : Cell → Cell → Type 0
BelowCell Nothing k = Unit {0}
BelowCell (Num a) Nothing = ⊥
BelowCell (Num a) (Num b) = a ≡ b
BelowCell (Num a) Many = Unit {0}
BelowCell Many Nothing = ⊥
BelowCell Many (Num b) = ⊥
BelowCell Many Many = Unit {0}

abbrev pub BelowFacts : Facts → Facts → Type 0
BelowFacts [] [] = Unit {0}
BelowFacts (e ∷ fs) (d ∷ gs) = ((e.place ≡ d.place) × BelowCell e.known d.known) × BelowFacts fs gs
BelowFacts _ _ = ⊥

abbrev pub BelowReached : Reached → Reached → Type 0
BelowReached None y = Unit {0}
BelowReached (Some fs) None = ⊥
BelowReached (Some fs) (Some gs) = BelowFacts fs gs

-- ---- facts of the same places

abbrev pub places : Facts → List Place
places [] = []
places (e ∷ fs) = e.place ∷ places fs

abbrev pub OkReached : List Place → Reached → Type 0
OkReached ps None = Unit {0}
OkReached ps (Some fs) = places fs ≡ ps

-- ---- heights

abbrev pub weight : Cell → ℕ
weight Nothing = 0
weight (Num n) = 1
weight Many = 2

abbrev pub sum : Facts → ℕ
sum [] = 0
sum (e ∷ fs) = weight e.known + sum fs

abbrev pub rank : Reached → ℕ
rank None = 0
rank (Some fs) = suc (sum fs)

-- the most that there is to know of these places
abbrev pub height : List Place → ℕ
height ps = 2 * length ps + 1
