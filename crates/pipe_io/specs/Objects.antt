-- What contracts see of the sources and sinks in memory.
use Rattle.std.specs.Prelude.{ℕ, List}

-- a sink: what was written to it, and how often it failed
pub record Written : Type 0 where
  pub bytes : List ℕ
  pub faults : ℕ

-- a source that fails at the calls whose numbers are listed: what is still to come, and the number of the next call
pub record Failing : Type 0 where
  pub left : List ℕ
  pub fails : List ℕ
  pub calls : ℕ
  pub faults : ℕ

-- a sink that fails at the calls whose numbers are listed, and takes at most so many bytes in one
pub record Choking : Type 0 where
  pub bytes : List ℕ
  pub fails : List ℕ
  pub calls : ℕ
  pub faults : ℕ
  pub most : ℕ
