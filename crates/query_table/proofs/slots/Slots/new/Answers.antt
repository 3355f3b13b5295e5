use Rattle.std.proofs.Common.{◌≡◌, ℕ, zero, suc, List, [], ◌∷◌, ◌++◌, length, ◌⊎◌, inl, inr, sym, ap, ◌∙◌, refl, arith}
use Rattle.std.specs.Prelude.{Some, slice_get}
use Rattle.query_table.proofs.slots.Slots.new.Goals as goal

snoc_get : {A : Type 0} (xs : List A) (x y : A) (q : ℕ) → slice_get (xs ++ x ∷ []) q ≡ Some y → (slice_get xs q ≡ Some y) ⊎ ((q ≡ length xs) × (x ≡ y))
snoc_get [] x y zero h = inr (refl, (cc))
snoc_get [] x y (suc q) h = absurd (cc)
snoc_get (z ∷ zs) x y zero h = inl h
snoc_get (z ∷ zs) x y (suc q) h = elim (snoc_get zs x y q h) [ inl i ↦ inl i | inr i ↦ inr (ap suc i.0, i.1) ]

pub loop-q-preserved : goal.loop-q-preserved
loop-q-preserved g c =
    let i = c.loop-q.invariant in
    let len = c.loop-q.slots.ok.0 in
    let e = c.push_reserved.ensures in
    record {
      count = omega arith;
      room = omega arith;
      tags = λ q slot h. elim (snoc_get c.loop-q.slots.items c.new.result slot q (ap (λ xs. slice_get xs q) (sym e.items) ∙ h)) [
        | inl k ↦ i.tags q slot k
        | inr k ↦ (let here = k.0 in let same : c.loop-q.q ≡ q = omega arith in (
          ap (λ t. t.query) (sym k.1) ∙ (ap (λ t. t.query) c.new.ensures ∙ same),
          ap (λ t. t.jobs.value) (sym k.1) ∙ (ap (λ t. t.jobs.value) c.new.ensures ∙ c.of.ensures),
        ))
      ];
    }

pub invariant_of-result : goal.invariant_of-result
invariant_of-result g c =
    let i = c.loop-q.invariant in
    let jobs = c.of-2.ensures in
    let all = c.queries-count.ensures in
    let same = ap (λ j. (g.J.Jobs.plan j).queries) jobs in
    let over = c.loop-q-test.false in
    let end = c.loop-q.auto.q-end in
    (omega arith, λ q slot h. let t = i.tags q slot h in (t.0, t.1 ∙ sym jobs))
