use Rattle.std.proofs.Common.{◌≡◌, ◌≢◌, ◌+◌, ◌*◌, ◌<◌, ap, ◌∙◌, length, get_or, subst, List, ℕ, Bool, IsTrue, ◌↔◌, arith}
use Rattle.std.specs.Prelude.{bit_and}
use Rattle.bit_rows.specs.Rows.{flag}
use Rattle.bit_rows.specs.Words.{kept_flag}
use Rattle.bit_rows.proofs.Kept.{seen_row, row_within, meets_is}
use Rattle.bit_rows.proofs.rows.BitRows.meets.Goals as goal

pub words_meet-requires-clause-a_in : goal.words_meet-requires-clause-a_in
words_meet-requires-clause-a_in c =
    let s = c.self.inside in
    row_within s.rows s.width c.args.a c.place-first.result (length c.as_slice.result.now) (seen_row s.rows s.bits (kept_flag s.words.items s.width) c.args.self.now c.args.a c.self.view_is c.requires.a_in) c.place-first.ensures (ap length c.as_slice.ensures.value ∙ c.self.invariant.long)

pub words_meet-requires-clause-b_in : goal.words_meet-requires-clause-b_in
words_meet-requires-clause-b_in c =
    let s = c.self.inside in
    row_within s.rows s.width c.args.b c.place-second.result (length c.as_slice.result.now) (seen_row s.rows s.bits (kept_flag s.words.items s.width) c.args.self.now c.args.b c.self.view_is c.requires.b_in) c.place-second.ensures (ap length c.as_slice.ensures.value ∙ c.self.invariant.long)

pub returns : goal.returns
returns c =
    let s = c.self.inside in
    let e = c.as_slice.ensures.value in
    let first : c.place-first.result ≡ c.args.a * s.width = omega (arith, c.place-first.ensures) in
    let second : c.place-second.result ≡ c.args.b * s.width = omega (arith, c.place-second.ensures) in
    let Meets = λ (ws : List ℕ) (p q : ℕ). IsTrue c.words_meet.result ↔ ((i : ℕ) × (i < s.width) × (bit_and (get_or ws (p + i) 0) (get_or ws (q + i) 0) ≢ 0)) in
    let is = subst (λ q. Meets s.words.items (c.args.a * s.width) q) second (subst (λ p. Meets s.words.items p c.place-second.result) first (subst (λ ws. Meets ws c.place-first.result c.place-second.result) e c.words_meet.ensures)) in
    subst (λ (t : List (List Bool)). IsTrue c.words_meet.result ↔ ((k : ℕ) × IsTrue (flag t c.args.a k) × IsTrue (flag t c.args.b k))) c.self.view_is
    (meets_is s.rows s.bits s.width s.words.items c.self.invariant c.args.a c.args.b (seen_row s.rows s.bits (kept_flag s.words.items s.width) c.args.self.now c.args.a c.self.view_is c.requires.a_in) (seen_row s.rows s.bits (kept_flag s.words.items s.width) c.args.self.now c.args.b c.self.view_is c.requires.b_in) c.words_meet.result is)
