-- Rows are carried to the ends of their blocks, one row after another.
use Rattle.std.proofs.Common.{◌≡◌, ◌⊎◌, inl, inr, ap, ◌∙◌, sym, ℕ, ◌+◌, ◌<◌, ◌≤◌, Bool, List, [], length, set, arith}
use Rattle.std.proofs.lemmas.Bool.{cases_eq}
use Rattle.std.proofs.lemmas.List.{length-set, get_or-set_same, get_or-set_other}
use Rattle.bit_rows.specs.Rows.{row_at, HasSize}

-- the rows up to a number are carried on, the others are as they were
pub record Carried (on : ℕ → List Bool → List Bool) (old now : List (List Bool)) (at : ℕ) : Type 0 where
  pub count : length now ≡ length old
  pub done : (i : ℕ) → i < at → row_at now i ≡ on i (row_at old i)
  pub rest : (i : ℕ) → at ≤ i → row_at now i ≡ row_at old i

pub carried_more : (on : ℕ → List Bool → List Bool) (old now new : List (List Bool)) (at : ℕ) → at < length old → new ≡ set now at (on at (row_at now at)) → Carried on old now at → Carried on old new (at + 1)
carried_more on old now new at low is w = record {
  count = ap length is ∙ length-set now at (on at (row_at now at)) ∙ w.count;
  done = λ i l. go i l (cases_eq i at);
  rest = λ i l. ap (λ rows. row_at rows i) is ∙ get_or-set_other now at i (on at (row_at now at)) [] (λ z. absurd (omega arith)) ∙ w.rest i (omega arith);
}
  where
    go : (i : ℕ) → i < at + 1 → (i ≡ at) ⊎ (i ≡ at → ⊥) → row_at new i ≡ on i (row_at old i)
    go i l (inl e) = ap (λ rows. row_at rows i) is ∙ ap (row_at (set now at (on at (row_at now at)))) e ∙ get_or-set_same now at (on at (row_at now at)) [] (omega (arith, w.count)) ∙ ap (on at) (w.rest at (omega arith)) ∙ sym (ap (λ k. on k (row_at old k)) e)
    go i l (inr ne) = ap (λ rows. row_at rows i) is ∙ get_or-set_other now at i (on at (row_at now at)) [] ne ∙ w.done i (omega arith)

pub carried_size : (on : ℕ → List Bool → List Bool) (old now : List (List Bool)) (at blocks bits : ℕ) → ((i : ℕ) (row : List Bool) → length row ≡ bits → length (on i row) ≡ bits) → blocks ≤ at → HasSize old blocks bits → Carried on old now at → HasSize now blocks bits
carried_size on old now at blocks bits long all size w = record { count_is = w.count ∙ size.count_is; bits_is = λ i l. ap length (w.done i (omega arith)) ∙ long i (row_at old i) (size.bits_is i l) }
