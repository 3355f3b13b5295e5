-- The locals of the frames that live, and the addresses of places in them. This project's own.
use Rattle.std.specs.Prelude.{ℕ, zero, suc, nat_eq, if◌then◌else◌, List, [], ◌∷◌, ◌++◌, Option, Some, None, slice_get}
use Rattle.mir_syntax.specs.declared.body.Proj.{Proj}
use Rattle.mir_syntax.specs.declared.body.Proj.TheVariants.{Field, Downcast, Deref}
use Rattle.mir_syntax.specs.Shapes.{◌>>=◌}
use Rattle.mir_semantics.specs.Values.{Addr, Value, pointer, at_path, put}

-- the locals of one frame
pub record Store : Type 0 where
  pub frame : ℕ
  pub slots : List Value

-- the newest frame stands first
abbrev pub Memory : Type 0
Memory = List Store

abbrev pub slots_of : Memory → ℕ → Option (List Value)
slots_of [] f = None
slots_of (s ∷ m) f = if nat_eq s.frame f then Some s.slots else slots_of m f

-- the value of a local
unfoldable pub local_at : Memory → ℕ → ℕ → Option Value
local_at m f x = slots_of m f >>= λ vs. slice_get vs x

unfoldable pub value_at : Memory → Addr → Option Value
value_at m a = local_at m a.frame a.local >>= at_path a.path

abbrev pub change_slot : ℕ → (Value → Value) → List Value → List Value
change_slot x g [] = []
change_slot zero g (v ∷ vs) = g v ∷ vs
change_slot (suc x) g (v ∷ vs) = v ∷ change_slot x g vs

abbrev pub change_local : Memory → ℕ → ℕ → (Value → Value) → Memory
change_local [] f x g = []
change_local (s ∷ m) f x g = if nat_eq s.frame f then record { frame = s.frame; slots = change_slot x g s.slots } ∷ m else s ∷ change_local m f x g

unfoldable pub write : Memory → Addr → Value → Memory
write m a v = change_local m a.frame a.local (put a.path v)

unfoldable pub open_frame : Memory → ℕ → List Value → Memory
open_frame m f vs = record { frame = f; slots = vs } ∷ m

abbrev pub close_frame : Memory → ℕ → Memory
close_frame [] f = []
close_frame (s ∷ m) f = if nat_eq s.frame f then close_frame m f else s ∷ close_frame m f

-- ---- addresses of places

-- one projection further
abbrev pub further : Addr → Proj → Addr
further a p = record a { path = a.path ++ p ∷ [] }

-- the address, where a value stands at it
abbrev pub there : Option Value → Addr → Option Addr
there None a = None
there (Some v) a = Some a

abbrev pub referent : Value → Option Addr
referent (pointer a) = Some a
referent _ = None

-- a field and a variant have to be there; a dereference asks for a reference, and for a value at what it refers to
unfoldable pub project : Memory → Addr → Proj → Option Addr
project m a (Field i) = there (value_at m (further a (Field i))) (further a (Field i))
project m a (Downcast k) = there (value_at m (further a (Downcast k))) (further a (Downcast k))
project m a Deref = value_at m a >>= referent >>= λ b. there (value_at m b) b

-- a place is resolved from left to right
unfoldable pub walk : Memory → Addr → List Proj → Option Addr
walk m a [] = Some a
walk m a (p ∷ ps) = project m a p >>= λ b. walk m b ps
