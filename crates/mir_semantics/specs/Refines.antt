-- When one crate may stand for another. This project's own.
use Rattle.std.specs.Prelude.{◌≡◌, ◌⊎◌, ℕ, Bool, List, map}
use Rattle.mir_syntax.specs.declared.body.Inline.{Inline}
use Rattle.mir_syntax.specs.Tree.{Tree}
use Rattle.mir_syntax.specs.Crate.{TypedFunction, Crate}
use Rattle.mir_semantics.specs.Step.{Called, Outcome, code_of}
use Rattle.mir_semantics.specs.Run.{Seen, going, ended, undefined, Entry, run}
use Rattle.mir_semantics.specs.Entry.{IsEntry, result_and_args}

abbrev pub trace_of : Seen → List Called
trace_of (going t) = t
trace_of (ended t o) = t
trace_of (undefined t) = t

abbrev pub IsUndefined : Seen → Type 0
IsUndefined (undefined t) = Unit {0}
IsUndefined _ = ⊥

-- ended or undefined
abbrev pub Stops : Seen → Type 0
Stops (going t) = ⊥
Stops _ = Unit {0}

-- what one run does where the other is defined: it ends alike, goes on alike, stops only where the other does, and calls outside nothing else
pub record RunsRefine (target source : ℕ → Seen) : Type 0 where
  pub ends : (n : ℕ) (t : List Called) (o : Outcome) → source n ≡ ended t o → (m : ℕ) × (target m ≡ ended t o)
  pub goes_on : (n : ℕ) (t : List Called) → source n ≡ going t → (m : ℕ) × (target m ≡ going t)
  pub stops : (m : ℕ) → Stops (target m) → (n : ℕ) × Stops (source n)
  pub traces : (m : ℕ) → (n : ℕ) × ((trace_of (source n) ≡ trace_of (target m)) ⊎ IsUndefined (source n))

-- what is seen of a function from outside its body
pub record Header : Type 0 where
  pub path : List ℕ
  pub inlining : Inline
  pub is_drop : Bool
  pub args : ℕ
  pub types : List Tree

abbrev pub header : TypedFunction → Header
header f = record { path = f.path; inlining = f.inlining; is_drop = f.is_drop; args = f.body.args; types = result_and_args f.body }

-- the target refines the source
pub record Refines (target source : Crate) : Type 0 where
  pub defs : target.defs ≡ source.defs
  pub outsides : target.outsides ≡ source.outsides
  pub headers : map header target.functions ≡ map header source.functions
  pub runs : (e : Entry) → IsEntry (code_of source) e → (answers : List ℕ) → RunsRefine (run (code_of target) e answers) (run (code_of source) e answers)
