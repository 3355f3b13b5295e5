-- Numbers that are counted up to a bound: what is above it is told by the bound alone.
use Rattle.std.specs.Prelude.{ℕ, ◌<◌, ◌≤◌}

-- told is the number, or the bound where the number is no less
pub record Tells (most told number : ℕ) : Type 0 where
  pub bounded : told ≤ most
  pub below : told ≤ number
  pub exact : told < most → number ≤ told
