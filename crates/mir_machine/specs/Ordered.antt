-- The frames of a state: those that live, and those of the controls, are the same ones, and newer frames have greater numbers.
use Rattle.std.specs.Prelude.{◌≡◌, ℕ, ◌<◌, List, [], ◌∷◌, map, reverse, suc}
use Rattle.mir_semantics.specs.Memory.{Store, Memory}
use Rattle.mir_semantics.specs.Step.{Control, State}
use Rattle.mir_meaning.specs.Views.{memory_of}
use Rattle.mir_machine.specs.declared.control.Control as machine
use Rattle.mir_machine.specs.declared.machine.Machine.{Machine}

abbrev pub store_frame : Store → ℕ
store_frame s = s.frame

abbrev pub control_frame : Control → ℕ
control_frame c = c.frame

abbrev pub frames_of : Memory → List ℕ
frames_of m = map store_frame m

abbrev pub Falling : ℕ → List ℕ → Type 0
Falling n [] = Unit {0}
Falling n (f ∷ fs) = (f < n) × Falling f fs

pub record Ordered (s : State) : Type 0 where
  pub frames : frames_of s.memory ≡ s.top.frame ∷ map control_frame s.callers
  pub falling : Falling s.next (s.top.frame ∷ map control_frame s.callers)

-- ---- of a machine

abbrev pub frame_in : machine.Control → ℕ
frame_in c = c.frame

abbrev pub stack_in : Machine → List ℕ
stack_in m = m.top.frame ∷ map frame_in (reverse m.callers)

-- the same of a machine
pub record Framed (m : Machine) : Type 0 where
  pub frames : frames_of (memory_of m.memory) ≡ stack_in m
  pub falling : Falling (suc m.last) (stack_in m)
