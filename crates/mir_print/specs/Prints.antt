-- What a call that prints does to a sink, and to the bytes that wait to be written to it.
use Rattle.std.specs.Prelude.{◌≡◌, ◌≤◌, ◌+◌, ◌-◌, ◌^◌, min, length, ℕ, Bool, true, false, List, ◌++◌, Result, OnOk}
use Rattle.std.specs.declared.option.Option.{Option}
use Rattle.std.specs.Io.KnownBytes.{Appends, append_known}
use Rattle.pipe_io.specs.Causes.{HasCause, AppendsFront, Rose}
use Rattle.pipe_io.specs.declared.traits.Failed.{Failed}

-- the whole text was written, or a front of it and the sink failed
pub record Prints (old new : Option (List ℕ)) (before now : ℕ) (text : List ℕ) (result : Result (Unit {0}) Failed) : Type 0 where
  pub whole : OnOk result (Appends old new text)
  pub front : AppendsFront old new text
  pub cause : HasCause before now result

-- bytes that are printed and wait to be written, whether no write failed yet, and how many bytes were printed (2^64 - 1 stands for more)
pub record Waiting : Type 0 where
  pub going : Bool
  pub bytes : List ℕ
  pub count : ℕ

-- a count after a text
abbrev pub counted : ℕ → List ℕ → ℕ
counted n text = min (n + length text) (2 ^ 64 - 1)

-- where printing stands: a sink's bytes and faults, and what waits
pub record At : Type 0 where
  pub written : Option (List ℕ)
  pub faults : ℕ
  pub waiting : Waiting

abbrev pub at : Option (List ℕ) → ℕ → Waiting → At
at written faults waiting = record { written = written; faults = faults; waiting = waiting }

-- Since a start a text was printed: a front of it is written, and what is written and what waits make it whole, or the sink failed; its bytes
-- are counted.
pub record Printed (start : Option (List ℕ)) (before : ℕ) (text : List ℕ) (now : At) : Type 0 where
  pub front : AppendsFront start now.written text
  pub whole : now.waiting.going ≡ true → Appends start (append_known now.written now.waiting.bytes) text × (now.faults ≡ before)
  pub cause : now.waiting.going ≡ false → Rose before now.faults × (before ≤ now.faults)
  pub count : now.waiting.count ≡ counted 0 text

-- Printing goes on by a text: whatever was printed before, this stands behind it.
pub record Goes (from to : At) (text : List ℕ) : Type 0 where
  pub behind : (start : Option (List ℕ)) (before : ℕ) (done : List ℕ) → Printed start before done from → Printed start before (done ++ text) to
