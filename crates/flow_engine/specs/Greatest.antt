-- Numbers up to 3 by their order: the facts of the tests.
use Rattle.std.specs.Prelude.{ℕ, zero, suc, ◌≤◌, max}
use Rattle.std.proofs.Common.{arith}
use Rattle.flow_engine.specs.Flow.{Lawful}

-- block 0 starts with 3
abbrev pub starts_at : ℕ → ℕ
starts_at zero = 3
starts_at (suc b) = 0

starts_low : (b : ℕ) → starts_at b ≤ 3
starts_low zero = omega arith
starts_low (suc b) = omega arith

pub greatest_lawful : Lawful (λ x. x ≤ 3) (λ x y. x ≤ y) (λ x. x) 3 starts_at (λ x y. max x y) (λ i x. x)
greatest_lawful = record {
  same = λ x o. omega arith;
  then_below = λ x y z h k. omega arith;
  join_ok = λ x y o p. omega arith;
  left = λ x y o p. omega arith;
  right = λ x y o p. omega arith;
  least = λ x y z o p h k. omega arith;
  rank_below = λ x y h. h;
  rank_same = λ x y h e. e;
  rank_high = λ x o. o;
  start_ok = starts_low;
  flow_ok = λ i x o. o;
  flow_below = λ i x y o p h. h;
}
