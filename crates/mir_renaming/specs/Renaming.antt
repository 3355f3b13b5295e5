-- Values and memories that are related by a renaming of locals. This project's own.
use Rattle.std.specs.Prelude.{◌≡◌, ℕ, Option, Some}
use Rattle.mir_semantics.specs.Values.{Addr, Value, number, nil, cons, variant, pointer, hole}
use Rattle.mir_semantics.specs.Memory.{Memory, local_at}

-- a local of a frame of the source to a local of a frame of the target
abbrev pub Renaming : Type 0
Renaming = ℕ → ℕ → Option (ℕ × ℕ)

pub record AddrRel (j : Renaming) (a b : Addr) : Type 0 where
  pub root : j a.frame a.local ≡ Some (b.frame, b.local)
  pub path : a.path ≡ b.path

-- a hole is related to anything
abbrev pub ValueRel : Renaming → Value → Value → Type 0
ValueRel j hole w = Unit {0}
ValueRel j (number n) (number m) = n ≡ m
ValueRel j nil nil = Unit {0}
ValueRel j (cons v vs) (cons w ws) = ValueRel j v w × ValueRel j vs ws
ValueRel j (variant k v) (variant i w) = (k ≡ i) × ValueRel j v w
ValueRel j (pointer a) (pointer b) = AddrRel j a b
ValueRel j _ _ = ⊥

-- what a related value has where the other has something
abbrev pub SomeRel : Renaming → Value → Option Value → Type 0
SomeRel j v o = (w : Value) × (o ≡ Some w) × ValueRel j v w

-- what is in one renaming is in the other
abbrev pub Sub : Renaming → Renaming → Type 0
Sub K L = (f x : ℕ) (r : ℕ × ℕ) → K f x ≡ Some r → L f x ≡ Some r

-- memories: j says what references stand for, L which locals have related values now
pub record MemRel (j L : Renaming) (m2 m1 : Memory) : Type 0 where
  pub at : (f x g y : ℕ) → L f x ≡ Some (g, y) → (v : Value) → local_at m1 f x ≡ Some v → SomeRel j v (local_at m2 g y)

-- an address where the related one stands
abbrev pub AddrThere : Renaming → Addr → Option Addr → Type 0
AddrThere j a o = (b : Addr) × (o ≡ Some b) × AddrRel j a b

-- the root of an address
abbrev pub RootOf : Addr → ℕ → ℕ → Type 0
RootOf a f x = (f ≡ a.frame) × (x ≡ a.local)

-- only the local of a is kept in b's
abbrev pub NoClash : Renaming → Memory → Addr → Addr → Type 0
NoClash L m1 a b = (f x : ℕ) (u : Value) → L f x ≡ Some (b.frame, b.local) → local_at m1 f x ≡ Some u → RootOf a f x
