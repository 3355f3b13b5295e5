use Rattle.std.proofs.Common.{ap, ◌∙◌, sym, map, get_or, bit_and, bit_or, arith}
use Rattle.std.specs.Int.{bit_not, w64}
use Rattle.std.proofs.lemmas.Simd.{get_or-zip2}
use Rattle.std.proofs.lemmas.List.{get_or-map, length-map}
use Rattle.bit_rows.specs.declared.kernel.Mix.{Mix}
use Rattle.bit_rows.specs.Words.{mixed_word}
use Rattle.bit_rows.proofs.lanes.mixed_lanes.Goals as goal
use Rattle.bit_rows.proofs.lanes.mixed_lanes.Goals.{in-Or, in-Copy, in-Minus}

pub returns-clause-each : goal.returns-clause-each
returns-clause-each c i l =
    let into = c.args.into in
    let from = c.args.from in
    let word = λ (m : Mix). mixed_word m (get_or into i 0) (get_or from i 0) in
    elim c.match-mix.branch [
      | in-Or w ↦ ap (λ xs. get_or xs i 0) w.result-is ∙ get_or-zip2 bit_or into from i 0 0 0 (omega (arith, c.requires.into_lanes)) (omega (arith, c.requires.from_lanes)) ∙ ap word (sym w.in-Or.is)
      | in-Copy w ↦ ap (λ xs. get_or xs i 0) w.result-is ∙ ap word (sym w.in-Copy.is)
      | in-Minus w ↦ ap (λ xs. get_or xs i 0) w.result-is ∙ get_or-zip2 bit_and into (map (bit_not w64) from) i 0 0 0 (omega (arith, c.requires.into_lanes)) (omega (arith, length-map from (bit_not w64), c.requires.from_lanes)) ∙ ap (λ n. bit_and (get_or into i 0) n) (get_or-map (bit_not w64) from i 0 0 (omega (arith, c.requires.from_lanes))) ∙ ap word (sym w.in-Minus.is)
    ]
