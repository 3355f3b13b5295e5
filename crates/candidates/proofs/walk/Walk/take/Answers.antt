use Rattle.std.proofs.Common.{refl, ap, ℕ, List, arith}
use Rattle.std.specs.Prelude.{slice_index_or}
use Rattle.candidates.proofs.Walking.{took_none, took_some}
use Rattle.candidates.proofs.walk.Walk.take.Goals as goal

pub returns-then-self-len : goal.returns-then-self-len
returns-then-self-len c = took_none c.args.self.now c.settle.new.self c.settle.ensures c.requires (omega (arith, c.len.ensures, c.if-self-len.true))

pub returns : goal.returns
returns c = took_some c.args.self.now c.settle.new.self _ (slice_index_or c.as_slice.result.now c.settle.new.self.at 0) 0 c.settle.ensures (omega (arith, c.len.ensures, c.if-self-len.false)) (ap (λ (xs : List ℕ). slice_index_or xs c.settle.new.self.at 0) c.as_slice.ensures) refl refl refl refl refl
