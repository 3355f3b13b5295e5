use Rattle.std.proofs.Common.{◌≡◌, ap, ◌∙◌, sym, length, subst, List, ℕ, IsTrue, ◌↔◌, ◌≢◌, arith}
use Rattle.std.proofs.lemmas.List.{take_at, with_items_is}
use Rattle.bit_rows.specs.Words.{kept_flag, table, IsKept, Mixed}
use Rattle.bit_rows.proofs.Kept.{seen_row, row_within, mixed_other_at, same_bits}
use Rattle.bit_rows.proofs.rows.BitRows.mix_other.Goals as goal

pub mix_others-requires-clause-into_in : goal.mix_others-requires-clause-into_in
mix_others-requires-clause-into_in c =
    let s = c.self.inside in
    row_within s.rows s.width c.args.into c.place-first.result (length c.as_mut_slice.result.now) (seen_row s.rows s.bits (kept_flag s.words.items s.width) c.args.self.now c.args.into c.self.view_is c.requires.into_in) c.place-first.ensures (ap length c.as_mut_slice.ensures.value ∙ c.self.invariant.long)

pub mix_others-requires-clause-from_in : goal.mix_others-requires-clause-from_in
mix_others-requires-clause-from_in c =
    let s = c.self.inside in
    let o = c.others.inside in
    let same = same_bits s.rows s.bits s.width s.words.items c.args.self.now c.self.invariant c.self.view_is o.rows o.bits o.width o.words.items c.args.others.now c.others.invariant c.others.view_is c.args.into c.args.from c.requires.into_in c.requires.from_in c.requires.same_bits in
    omega (arith, same.1, row_within o.rows o.width c.args.from c.place-second.result (length c.as_slice.result.now) (seen_row o.rows o.bits (kept_flag o.words.items o.width) c.args.others.now c.args.from c.others.view_is c.requires.from_in) c.place-second.ensures (ap length c.as_slice.ensures.value ∙ c.others.invariant.long))

pub invariant_of-self : goal.invariant_of-self
invariant_of-self c =
    let s = c.self.inside in
    let e = c.as_mut_slice.ensures.value in
    let words : List ℕ = c.mix_others.new.words in
    let o = c.others.inside in
    let f = c.as_slice.ensures.value in
    let same = same_bits s.rows s.bits s.width s.words.items c.args.self.now c.self.invariant c.self.view_is o.rows o.bits o.width o.words.items c.args.others.now c.others.invariant c.others.view_is c.args.into c.args.from c.requires.into_in c.requires.from_in c.requires.same_bits in
    let m : Mixed c.args.mix s.words.items words c.place-first.result o.words.items c.place-second.result s.width c.mix_others.result = subst (λ vs. Mixed c.args.mix s.words.items words c.place-first.result vs c.place-second.result s.width c.mix_others.result) f (subst (λ ws. Mixed c.args.mix ws words c.place-first.result c.as_slice.result.now c.place-second.result s.width c.mix_others.result) e c.mix_others.ensures) in
    let r = mixed_other_at s.rows s.bits s.width s.words.items c.args.self.now c.self.invariant c.self.view_is o.rows o.bits o.width o.words.items c.args.others.now c.others.invariant c.others.view_is c.args.mix c.args.into c.args.from c.requires.into_in c.requires.from_in same.0 same.1 c.place-first.result c.place-second.result c.place-first.ensures c.place-second.ensures words c.mix_others.result m in
    let long : length words ≡ s.words.len = omega (arith, m.long, s.words.ok.0) in
    subst (IsKept s.rows s.bits s.width) (sym (take_at words _ s.words.len long)) r.kept

pub returns-clause-row : goal.returns-clause-row
returns-clause-row c =
    let s = c.self.inside in
    let e = c.as_mut_slice.ensures.value in
    let words : List ℕ = c.mix_others.new.words in
    let o = c.others.inside in
    let f = c.as_slice.ensures.value in
    let same = same_bits s.rows s.bits s.width s.words.items c.args.self.now c.self.invariant c.self.view_is o.rows o.bits o.width o.words.items c.args.others.now c.others.invariant c.others.view_is c.args.into c.args.from c.requires.into_in c.requires.from_in c.requires.same_bits in
    let m : Mixed c.args.mix s.words.items words c.place-first.result o.words.items c.place-second.result s.width c.mix_others.result = subst (λ vs. Mixed c.args.mix s.words.items words c.place-first.result vs c.place-second.result s.width c.mix_others.result) f (subst (λ ws. Mixed c.args.mix ws words c.place-first.result c.as_slice.result.now c.place-second.result s.width c.mix_others.result) e c.mix_others.ensures) in
    let r = mixed_other_at s.rows s.bits s.width s.words.items c.args.self.now c.self.invariant c.self.view_is o.rows o.bits o.width o.words.items c.args.others.now c.others.invariant c.others.view_is c.args.mix c.args.into c.args.from c.requires.into_in c.requires.from_in same.0 same.1 c.place-first.result c.place-second.result c.place-first.ensures c.place-second.ensures words c.mix_others.result m in
    ap (λ ws. table s.rows s.bits (kept_flag ws s.width)) (with_items_is s.words words (omega (arith, m.long, s.words.ok.0))) ∙ r.is

pub returns-clause-changed : goal.returns-clause-changed
returns-clause-changed c =
    let s = c.self.inside in
    let e = c.as_mut_slice.ensures.value in
    let words : List ℕ = c.mix_others.new.words in
    let o = c.others.inside in
    let f = c.as_slice.ensures.value in
    let same = same_bits s.rows s.bits s.width s.words.items c.args.self.now c.self.invariant c.self.view_is o.rows o.bits o.width o.words.items c.args.others.now c.others.invariant c.others.view_is c.args.into c.args.from c.requires.into_in c.requires.from_in c.requires.same_bits in
    let m : Mixed c.args.mix s.words.items words c.place-first.result o.words.items c.place-second.result s.width c.mix_others.result = subst (λ vs. Mixed c.args.mix s.words.items words c.place-first.result vs c.place-second.result s.width c.mix_others.result) f (subst (λ ws. Mixed c.args.mix ws words c.place-first.result c.as_slice.result.now c.place-second.result s.width c.mix_others.result) e c.mix_others.ensures) in
    let r = mixed_other_at s.rows s.bits s.width s.words.items c.args.self.now c.self.invariant c.self.view_is o.rows o.bits o.width o.words.items c.args.others.now c.others.invariant c.others.view_is c.args.mix c.args.into c.args.from c.requires.into_in c.requires.from_in same.0 same.1 c.place-first.result c.place-second.result c.place-first.ensures c.place-second.ensures words c.mix_others.result m in
    subst (λ t. IsTrue c.mix_others.result ↔ (t ≢ c.args.self.now)) (sym (ap (λ ws. table s.rows s.bits (kept_flag ws s.width)) (with_items_is s.words words (omega (arith, m.long, s.words.ok.0))))) r.changed_is
