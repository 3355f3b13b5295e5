use Rattle.std.proofs.Common.{◌≡◌, ℕ, ◌+◌, ◌<◌, get_or, replicate, sym, ap₂, ◌∙◌, arith}
use Rattle.std.specs.Prelude.{bit_and}
use Rattle.std.proofs.lemmas.Simd.{length-chunk, get_or-chunk, length-zip2, get_or-zip2, get_or-replicate}
use lib.Lanes.{zip2, chunk}
use Rattle.bit_rows.proofs.lanes.block_meets.Goals as goal

pub differ-requires-clause-a_lanes : goal.differ-requires-clause-a_lanes
differ-requires-clause-a_lanes c =
    let words = c.args.words.now in
    let first = length-chunk c.args.a 8 words c.requires.a_in in
    length-zip2 bit_and (chunk c.args.a 8 words) (chunk c.args.b 8 words) (first ∙ sym (length-chunk c.args.b 8 words c.requires.b_in)) ∙ first

pub returns : goal.returns
returns c =
    let words = c.args.words.now in
    let first = length-chunk c.args.a 8 words c.requires.a_in in
    let second = length-chunk c.args.b 8 words c.requires.b_in in
    let lane : (i : ℕ) → i < 8 → get_or (zip2 bit_and (chunk c.args.a 8 words) (chunk c.args.b 8 words)) i 0 ≡ bit_and (get_or words (c.args.a + i) 0) (get_or words (c.args.b + i) 0) = (λ i l. get_or-zip2 bit_and (chunk c.args.a 8 words) (chunk c.args.b 8 words) i 0 0 0 (omega (arith, first)) (omega (arith, second)) ∙ ap₂ bit_and (get_or-chunk c.args.a 8 words i 0 l) (get_or-chunk c.args.b 8 words i 0 l)) in
    let zero : (i : ℕ) → i < 8 → get_or {A = ℕ} (replicate 8 0) i 0 ≡ 0 = (λ i l. get_or-replicate {A = ℕ} 8 i 0 0 l) in (
      λ t. (let r = c.differ.ensures.0 t in (r.0, r.1, λ e. r.2 (lane r.0 r.1 ∙ e ∙ sym (zero r.0 r.1)))),
      λ r. c.differ.ensures.1 (r.0, r.1, λ e. r.2 (sym (lane r.0 r.1) ∙ e ∙ zero r.0 r.1)),
    )
