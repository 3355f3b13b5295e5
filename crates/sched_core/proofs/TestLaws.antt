-- For the tests only: the plans of the tests are lawful.
use Rattle.std.specs.Prelude.{◌≡◌, ℕ, zero, suc, ◌+◌, ◌<◌, Bool, true, false, List, [], ◌∷◌, ◌++◌, Some, refl}
use Rattle.std.proofs.Common.{arith, sym, subst, ◌∙◌}
use Rattle.std.proofs.lemmas.Bool.Decides.{nat_tests}
use Rattle.sched_core.proofs.TestJobs.{chosen_is}
use Rattle.sched_core.specs.Plan.{IsLawful, Reads, has}
use Rattle.sched_core.specs.TestJobs.{plan, stolen, few, few_reads}

falls : (far : Bool) (q n : ℕ) → has n ((plan far).needs q) ≡ true → n < q
falls far zero n h = absurd (cc)
falls far (suc zero) n h = absurd (cc)
falls far (suc (suc zero)) n h = grind (arith, nat_tests)
falls far (suc (suc (suc zero))) n h = grind (arith, nat_tests)
falls far (suc (suc (suc (suc q)))) n h = grind (arith, nat_tests, chosen_is far)

below : (far : Bool) (q n : ℕ) → has n ((plan far).needs q) ≡ true → n < 5
below far zero n h = absurd (cc)
below far (suc zero) n h = absurd (cc)
below far (suc (suc zero)) n h = grind (arith, nat_tests)
below far (suc (suc (suc zero))) n h = grind (arith, nat_tests)
below far (suc (suc (suc (suc q)))) n h = grind (arith, nat_tests, chosen_is far)

-- 3 is the only thief, of 1
thief : (q s : ℕ) → stolen q ≡ Some s → (q ≡ 3) × (s ≡ 1)
thief zero s h = absurd (cc)
thief (suc zero) s h = absurd (cc)
thief (suc (suc zero)) s h = absurd (cc)
thief (suc (suc (suc zero))) s h = (refl, grind (arith))
thief (suc (suc (suc (suc q)))) s h = absurd (cc)

-- who reads 1 is 2
reader : (far : Bool) (r : ℕ) → Reads (plan far) r 1 → r ≡ 2
reader far zero h = absurd (grind (arith, nat_tests, h.0))
reader far (suc zero) h = absurd (grind (arith, nat_tests, h.0))
reader far (suc (suc zero)) h = refl
reader far (suc (suc (suc zero))) h = absurd (h.1 refl)
reader far (suc (suc (suc (suc r)))) h = absurd (grind (arith, nat_tests, h.0, chosen_is far))

last_need : (far : Bool) (s q : ℕ) → stolen q ≡ Some s → (before : List ℕ) × ((plan far).needs q ≡ before ++ s ∷ []) × (has s before ≡ false)
last_need far s zero h = absurd (cc)
last_need far s (suc zero) h = absurd (cc)
last_need far s (suc (suc zero)) h = absurd (cc)
last_need far s (suc (suc (suc zero))) h = (2 ∷ [], grind (arith), grind (arith, nat_tests))
last_need far s (suc (suc (suc (suc q)))) h = absurd (cc)

waits : (far : Bool) (s q r : ℕ) → stolen q ≡ Some s → Reads (plan far) r s → has r ((plan far).needs q) ≡ true
waits far s q r h k = let t = thief q s h in
    subst (λ (x : ℕ). has r ((plan far).needs x) ≡ true) (sym t.0) (grind (arith, nat_tests, reader far r (subst (λ (x : ℕ). Reads (plan far) r x) t.1 k)))

pub lawful : (far : Bool) → IsLawful (plan far)
lawful far = record {
  roots_below = λ i h. omega arith;
  needs_below = λ q n h k. below far q n k;
  no_cycle = λ q n h. falls far q n h;
  one_thief = λ s q r h k. (thief q s h).0 ∙ sym (thief r s k).0;
  distinct_roots = λ i j h k e. omega arith;
  roots_stay = λ i q h. let t = thief q (i + 3) h in omega (arith, t.1);
  thief_waits = waits far;
  stolen_last = last_need far;
}

few_falls : (q n : ℕ) → has n (few_reads q) ≡ true → n < q
few_falls zero n h = absurd (cc)
few_falls (suc zero) n h = grind (arith, nat_tests)
few_falls (suc (suc q)) n h = absurd (cc)

pub few_lawful : (two : Bool) → IsLawful (few two)
few_lawful false = record {
  roots_below = λ i h. omega arith;
  needs_below = λ q n h k. let l = few_falls q n k in omega (arith, l, h);
  no_cycle = few_falls;
  one_thief = λ s q r h k. absurd (cc);
  distinct_roots = λ i j h k e. omega arith;
  roots_stay = λ i q h. (cc);
  thief_waits = λ s q r h k. absurd (cc);
  stolen_last = λ s q h. absurd (cc);
}
few_lawful true = record {
  roots_below = λ i h. omega arith;
  needs_below = λ q n h k. let l = few_falls q n k in omega (arith, l, h);
  no_cycle = few_falls;
  one_thief = λ s q r h k. absurd (cc);
  distinct_roots = λ i j h k e. omega arith;
  roots_stay = λ i q h. (cc);
  thief_waits = λ s q r h k. absurd (cc);
  stolen_last = λ s q h. absurd (cc);
}
