use Rattle.std.proofs.Common.{◌≡◌, ◌+◌, ◌<◌, ◌^◌, length, map}
use Rattle.mir_symbols.specs.Scan.{noted_all}
use Rattle.mir_symbols.proofs.name.number_all.Given as goal

abbrev pub invariant-texts : goal.invariant-texts
invariant-texts l =
    (length l.seen + length l.texts < 2 ^ 32) × (noted_all l.fn.seen (map (λ w. w.now) l.fn.texts) ≡ noted_all l.seen (map (λ w. w.now) l.texts))

abbrev pub decreases-texts : goal.decreases-texts
decreases-texts l = length l.texts
