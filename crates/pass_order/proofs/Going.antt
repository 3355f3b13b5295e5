-- Functions that are worked on one after another.
use Rattle.std.proofs.Common.{◌≡◌, ◌⊎◌, inl, inr, refl, sym, ap, ◌∙◌, subst, ℕ, ◌+◌, ◌<◌, ◌≤◌, List, length, get_or, set, arith}
use Rattle.std.proofs.lemmas.Bool.{cases_eq}
use Rattle.std.proofs.lemmas.List.{length-set, get_or-set_same, get_or-set_other, get_or_default}
use Rattle.mir_syntax.specs.declared.body.Function.{Function}

-- the first items are done, the others are still as they were
pub record Going (P : Function → Function → Type 0) (old items : List Function) (n : ℕ) : Type 0 where
  pub long : length items ≡ length old
  pub done : (i : ℕ) (d : Function) → i < n → i < length old → P (get_or old i d) (get_or items i d)
  pub rest : (i : ℕ) (d : Function) → n ≤ i → get_or items i d ≡ get_or old i d

pub going_none : (P : Function → Function → Type 0) (old : List Function) → Going P old old 0
going_none P old = record { long = refl; done = λ i d l m. absurd (omega (arith, l)); rest = λ i d l. refl }

pub going_more : (P : Function → Function → Type 0) (old items : List Function) (n : ℕ) (d v : Function) → n < length items → Going P old items n → P (get_or items n d) v → Going P old (set items n v) (n + 1)
going_more P old items n d v l g is = record {
  long = length-set items n v ∙ g.long;
  done = λ i e m k. found i e m k (cases_eq i n);
  rest = λ i e m. get_or-set_other items n i v e (λ s. absurd (omega (arith, m, s))) ∙ g.rest i e (omega (arith, m));
}
  where
    below : n < length old
    below = let long = g.long in omega (arith, l, long)

    found : (i : ℕ) (e : Function) → i < n + 1 → i < length old → (i ≡ n) ⊎ (i ≡ n → ⊥) → P (get_or old i e) (get_or (set items n v) i e)
    found i e m k (inl s) =
        let here : get_or (set items n v) i e ≡ v = ap (λ i. get_or (set items n v) i e) s ∙ get_or-set_same items n v e l in
        let was : get_or items n d ≡ get_or old i e = g.rest n d (omega arith) ∙ get_or_default old n d e below ∙ ap (λ i. get_or old i e) (sym s) in
        subst (P (get_or old i e)) (sym here) (subst (λ x. P x v) was is)
    found i e m k (inr ne) =
        let at = g.done i e (omega (arith, m, ne)) k in
        subst (P (get_or old i e)) (sym (get_or-set_other items n i v e ne)) at
