use Rattle.std.proofs.Common.{◌≡◌, ap, ◌∙◌, sym, length, subst, List, ℕ, IsTrue, ◌↔◌, ◌≢◌, arith}
use Rattle.std.proofs.lemmas.List.{take_at, with_items_is}
use Rattle.bit_rows.specs.Words.{kept_flag, table, IsKept, Mixed}
use Rattle.bit_rows.proofs.Kept.{seen_row, seen_bits, row_within, rows_apart, mixed_at}
use Rattle.bit_rows.proofs.rows.BitRows.mix.Goals as goal

pub mix_words-requires-clause-into_in : goal.mix_words-requires-clause-into_in
mix_words-requires-clause-into_in c =
    let s = c.self.inside in
    row_within s.rows s.width c.args.into c.place-first.result (length c.as_mut_slice.result.now) (seen_row s.rows s.bits (kept_flag s.words.items s.width) c.args.self.now c.args.into c.self.view_is c.requires.into_in) c.place-first.ensures (ap length c.as_mut_slice.ensures.value ∙ c.self.invariant.long)

pub mix_words-requires-clause-from_in : goal.mix_words-requires-clause-from_in
mix_words-requires-clause-from_in c =
    let s = c.self.inside in
    row_within s.rows s.width c.args.from c.place-second.result (length c.as_mut_slice.result.now) (seen_row s.rows s.bits (kept_flag s.words.items s.width) c.args.self.now c.args.from c.self.view_is c.requires.from_in) c.place-second.ensures (ap length c.as_mut_slice.ensures.value ∙ c.self.invariant.long)

pub mix_words-requires-clause-apart : goal.mix_words-requires-clause-apart
mix_words-requires-clause-apart c = rows_apart c.self.inside.width c.args.into c.args.from c.place-first.result c.place-second.result c.requires.differ c.place-first.ensures c.place-second.ensures

pub invariant_of-self : goal.invariant_of-self
invariant_of-self c =
    let s = c.self.inside in
    let e = c.as_mut_slice.ensures.value in
    let words : List ℕ = c.mix_words.new.words in
    let m : Mixed c.args.mix s.words.items words c.place-first.result s.words.items c.place-second.result s.width c.mix_words.result = subst (λ ws. Mixed c.args.mix ws words c.place-first.result ws c.place-second.result s.width c.mix_words.result) e c.mix_words.ensures in
    let r = mixed_at s.rows s.bits s.width s.words.items c.args.self.now c.self.invariant c.self.view_is s.rows s.words.items c.args.self.now c.self.invariant c.self.view_is c.args.mix c.args.into c.args.from c.requires.into_in c.requires.from_in c.place-first.result c.place-second.result c.place-first.ensures c.place-second.ensures words c.mix_words.result m in
    let long : length words ≡ s.words.len = omega (arith, m.long, s.words.ok.0) in
    subst (IsKept s.rows s.bits s.width) (sym (take_at words _ s.words.len long)) r.kept

pub returns-clause-row : goal.returns-clause-row
returns-clause-row c =
    let s = c.self.inside in
    let e = c.as_mut_slice.ensures.value in
    let words : List ℕ = c.mix_words.new.words in
    let m : Mixed c.args.mix s.words.items words c.place-first.result s.words.items c.place-second.result s.width c.mix_words.result = subst (λ ws. Mixed c.args.mix ws words c.place-first.result ws c.place-second.result s.width c.mix_words.result) e c.mix_words.ensures in
    let r = mixed_at s.rows s.bits s.width s.words.items c.args.self.now c.self.invariant c.self.view_is s.rows s.words.items c.args.self.now c.self.invariant c.self.view_is c.args.mix c.args.into c.args.from c.requires.into_in c.requires.from_in c.place-first.result c.place-second.result c.place-first.ensures c.place-second.ensures words c.mix_words.result m in
    ap (λ ws. table s.rows s.bits (kept_flag ws s.width)) (with_items_is s.words words (omega (arith, m.long, s.words.ok.0))) ∙ r.is

pub returns-clause-changed : goal.returns-clause-changed
returns-clause-changed c =
    let s = c.self.inside in
    let e = c.as_mut_slice.ensures.value in
    let words : List ℕ = c.mix_words.new.words in
    let m : Mixed c.args.mix s.words.items words c.place-first.result s.words.items c.place-second.result s.width c.mix_words.result = subst (λ ws. Mixed c.args.mix ws words c.place-first.result ws c.place-second.result s.width c.mix_words.result) e c.mix_words.ensures in
    let r = mixed_at s.rows s.bits s.width s.words.items c.args.self.now c.self.invariant c.self.view_is s.rows s.words.items c.args.self.now c.self.invariant c.self.view_is c.args.mix c.args.into c.args.from c.requires.into_in c.requires.from_in c.place-first.result c.place-second.result c.place-first.ensures c.place-second.ensures words c.mix_words.result m in
    subst (λ t. IsTrue c.mix_words.result ↔ (t ≢ c.args.self.now)) (sym (ap (λ ws. table s.rows s.bits (kept_flag ws s.width)) (with_items_is s.words words (omega (arith, m.long, s.words.ok.0))))) r.changed_is

pub returns-clause-same_bits : goal.returns-clause-same_bits
returns-clause-same_bits c =
    let s = c.self.inside in
    let f = kept_flag s.words.items s.width in
    seen_bits s.rows s.bits f c.args.self.now c.args.into c.self.view_is (seen_row s.rows s.bits f c.args.self.now c.args.into c.self.view_is c.requires.into_in)
    ∙ sym (seen_bits s.rows s.bits f c.args.self.now c.args.from c.self.view_is (seen_row s.rows s.bits f c.args.self.now c.args.from c.self.view_is c.requires.from_in))
