-- When what is known holds of a memory: of the scalars of a frame whose locals have these types, as far as nobody refers to them.
use Rattle.std.specs.Prelude.{◌≡◌, ◌⊎◌, ℕ, IsTrue, List, [], ◌∷◌, Option, Some, None, slice_get}
use Rattle.mir_syntax.specs.declared.types.ScalarTy.{ScalarTy}
use Rattle.mir_syntax.specs.declared.body.Place.{Place}
use Rattle.mir_syntax.specs.Tree.{Tree, scalar}
use Rattle.mir_syntax.specs.Crate.{TypedBlock, TypedBody}
use Rattle.mir_syntax.specs.Shapes.{Shape}
use Rattle.mir_syntax.specs.Parts.{is_direct}
use Rattle.mir_semantics.specs.Values.{Addr, Value, number, hole}
use Rattle.mir_semantics.specs.Memory.{Memory, value_at}
use Rattle.mir_semantics.specs.Step.{Here, type_of}
use Rattle.const_flow.specs.declared.cell.Cell.{Cell}
use Rattle.const_flow.specs.declared.cell.Cell.TheVariants.{Nothing, Num, Many}
use Rattle.const_flow.specs.Facts.{Fact, Facts, after_all, after_term, leads}
use Rattle.const_flow.specs.ConstAt.{Reached, text, first_facts}
use Rattle.const_flow.specs.Order.{BelowFacts}

-- a value of which this is known
abbrev pub IsKnown : Cell → Value → Type 0
IsKnown Nothing v = v ≡ hole
IsKnown (Num n) v = (v ≡ hole) ⊎ (v ≡ number n)
IsKnown Many v = Unit {0}

-- where there is none, nothing is asked
abbrev pub Fits : Cell → Option Value → Type 0
Fits k None = Unit {0}
Fits k (Some v) = IsKnown k v

-- a number of which this is known
abbrev pub NumFits : Cell → ℕ → Type 0
NumFits Nothing n = ⊥
NumFits (Num c) n = c ≡ n
NumFits Many n = Unit {0}

module _ (D : List Shape) (ts : List Tree) (f : ℕ) (Free : ℕ → Type 0) where
  abbrev pub H : Here
  H = record { shapes = D; locals = ts; frame = f }

  -- a scalar of a local to which nobody refers, by the fields that lead to it
  pub record ScalarPlace (p : Place) : Type 0 where
    pub direct : IsTrue (is_direct p.proj)
    pub ty : ScalarTy
    pub scalar : type_of H p ≡ Some (scalar ty)
    pub free : Free p.local

  abbrev pub addr_of : Place → Addr
  addr_of p = record { frame = f; local = p.local; path = p.proj }

  abbrev pub HoldsAt : Memory → Fact → Type 0
  HoldsAt m e = ScalarPlace e.place × Fits e.known (value_at m (addr_of e.place))

  -- all these facts
  abbrev pub Holds : Memory → Facts → Type 0
  Holds m [] = Unit {0}
  Holds m (e ∷ fs) = HoldsAt m e × Holds m fs

-- facts at the blocks' starts that hold along the edges: the first block's say no more than what is known at the start, and where a reached
-- block leads, the next one's say no more than what comes
pub record IsSound (D : List Shape) (b : TypedBody) (xs : List Reached) : Type 0 where
  pub first : (gs : Facts) × (slice_get xs 0 ≡ Some (Some gs)) × BelowFacts (first_facts D b) gs
  pub next : (a t : ℕ) (k : TypedBlock) (fs : Facts) → slice_get b.blocks a ≡ Some k → slice_get xs a ≡ Some (Some fs) → IsTrue (leads (after_all (text D b) k.stmts fs) k.term t) → (gs : Facts) × (slice_get xs t ≡ Some (Some gs)) × BelowFacts (after_term k.term (after_all (text D b) k.stmts fs)) gs
