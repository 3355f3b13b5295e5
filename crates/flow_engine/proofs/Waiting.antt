-- How many blocks wait, as one is taken out and as one is added.
use Rattle.std.proofs.Common.{◌≡◌, ℕ, zero, suc, ◌+◌, ◌≤◌, Bool, true, false, List, [], ◌∷◌, set, arith}
use Rattle.std.proofs.lemmas.List.Sums.{sum_by-cons}
use Rattle.flow_engine.specs.Solving.{one_if, Waits, waiting}

one_low : (mark : Bool) → one_if mark ≤ 1
one_low true = omega arith
one_low false = omega arith

pub one_more : (marks : List Bool) (b : ℕ) → waiting (set marks b true) ≤ waiting marks + 1
one_more [] b = omega arith
one_more (m ∷ marks) zero = omega (arith, sum_by-cons one_if m marks, sum_by-cons one_if true marks)
one_more (m ∷ marks) (suc b) = omega (arith, sum_by-cons one_if m marks, sum_by-cons one_if m (set marks b true), one_more marks b)

pub one_less : (marks : List Bool) (b : ℕ) → Waits marks b → waiting (set marks b false) + 1 ≡ waiting marks
one_less [] b w = absurd (let l = w.0 in omega arith)
one_less (true ∷ marks) zero w = omega (arith, sum_by-cons one_if true marks, sum_by-cons one_if false marks)
one_less (false ∷ marks) zero w = absurd (let e = w.1 in grind arith)
one_less (m ∷ marks) (suc b) w = omega (arith, sum_by-cons one_if m marks, sum_by-cons one_if m (set marks b false), one_less marks b ((let l = w.0 in omega arith), w.1))
