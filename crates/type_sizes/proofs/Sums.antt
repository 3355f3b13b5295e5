-- Sums up to a bound, part by part.
use Rattle.std.proofs.Common.{◌≡◌, ℕ, ◌+◌, ◌<◌, ◌≤◌, arith}
use Rattle.type_sizes.specs.UpTo.{Tells}

-- what was summed up, with the rest, is all
pub record Summing (most total rest all : ℕ) : Type 0 where
  pub bounded : total ≤ most
  pub below : total + rest ≤ all
  pub exact : total < most → all ≤ total + rest

pub next_part : (most total rest all more x told new : ℕ) → Summing most total more all → more ≡ x + rest → Tells most told x → Tells most new (total + told) → Summing most new rest all
next_part most total rest all more x told new s is t n = record {
  bounded = n.bounded;
  below =
      let a = s.below in
      let b = t.below in
      let d = n.below in
      omega arith;
  exact = λ h.
      let a = s.exact in
      let b = t.exact in
      let d = n.exact h in
      omega arith;
}

pub all_parts : (most total rest n all : ℕ) → Summing most total rest all → all ≡ n + rest → Tells most total n
all_parts most total rest n all s is = record {
  bounded = s.bounded;
  below = let a = s.below in omega arith;
  exact = λ h. let a = s.exact h in omega arith;
}
