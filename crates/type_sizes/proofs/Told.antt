-- Lists of sizes that grow, and rounds that change nothing.
use Rattle.std.proofs.Common.{◌≡◌, ℕ, zero, suc, ◌+◌, ◌-◌, ◌<◌, ◌≤◌, List, [], ◌∷◌, ◌++◌, length, slice_get, refl, sym, ap, subst, ◌∙◌, arith}
use Rattle.std.proofs.lemmas.List.{get_or_past, get_or_push}
use borrow.Author.Count.{below_more}
use Rattle.mir_syntax.specs.Tree.{named}
use Rattle.mir_syntax.specs.Shapes.{Shape, needs_drop}
use Rattle.type_sizes.specs.declared.measure.Measure.{Measure}
use Rattle.type_sizes.specs.declared.measure.Measure.TheVariants.{Nodes, Units, Inside}
use Rattle.type_sizes.specs.UpTo.{Tells}
use Rattle.type_sizes.specs.Measures.{leaf, most, told, whole, level, Told}

pub leaf_bounded : (m : Measure) → leaf m ≤ most m
leaf_bounded Nodes = omega arith
leaf_bounded Units = omega arith
leaf_bounded Inside = omega arith

pub leaf_told : (m : Measure) → Tells (most m) (leaf m) (leaf m)
leaf_told m = record { bounded = leaf_bounded m; below = omega arith; exact = λ h. omega arith }

pub bounded_more : (m : Measure) (sizes : List ℕ) (x : ℕ) → ((k : ℕ) → told m sizes k ≤ most m) → x ≤ most m → (k : ℕ) → told m (sizes ++ x ∷ []) k ≤ most m
bounded_more m [] x all here zero = here
bounded_more m [] x all here (suc k) = leaf_bounded m
bounded_more m (y ∷ sizes) x all here zero = all 0
bounded_more m (y ∷ sizes) x all here (suc k) = bounded_more m sizes x (λ j. all (suc j)) here k

pub told_before : (m : Measure) (sizes : List ℕ) (x d : ℕ) → d < length sizes → told m (sizes ++ x ∷ []) d ≡ told m sizes d
told_before m [] x d h = absurd (omega arith)
told_before m (y ∷ sizes) x zero h = refl
told_before m (y ∷ sizes) x (suc d) h = told_before m sizes x d (omega arith)

pub told_last : (m : Measure) (sizes : List ℕ) (x at : ℕ) → length sizes ≡ at → told m (sizes ++ x ∷ []) at ≡ x
told_last m sizes x at h = get_or_push sizes x (leaf m) at h

pub told_past : (m : Measure) (sizes : List ℕ) (d : ℕ) → length sizes ≤ d → told m sizes d ≡ leaf m
told_past m sizes d h = get_or_past sizes d (leaf m) h

-- one more size
pub one_more : (m : Measure) (old new : List ℕ) (at x : ℕ) → new ≡ old ++ x ∷ [] → length old ≡ at → (f : ℕ → ℕ) → ((d : ℕ) → d < at → Tells (most m) (told m old d) (f d)) → Tells (most m) x (f at)
    → (d : ℕ) → d < at + 1 → Tells (most m) (told m new d) (f d)
one_more m old new at x is long f below here =
    below_more (λ d. Tells (most m) (told m new d) (f d)) at
    (λ d h. subst (λ n. Tells (most m) n (f d)) (sym (ap (λ l. told m l d) is ∙ told_before m old x d (omega (arith, long, h)))) (below d h))
    (subst (λ n. Tells (most m) n (f at)) (sym (ap (λ l. told m l at) is ∙ told_last m old x at long)) here)

module _ (D : List Shape) (m : Measure) (sizes : List ℕ) where
  abbrev Kept : Type 0
  Kept = (g : ℕ → ℕ) → Told m sizes g → Told m sizes (λ d. whole D m g (needs_drop D (named d)) (slice_get D d))

  still : Kept → (n k : ℕ) → Told m sizes (level D m n) → Told m sizes (level D m (k + n))
  still kept n zero here = subst (λ j. Told m sizes (level D m j)) (let z : n ≡ zero + n = omega arith in z) here
  still kept n (suc k) here =
      let next : suc (k + n) ≡ suc k + n = omega arith in
      subst (λ j. Told m sizes (level D m j)) next (kept (level D m (k + n)) (still kept n k here))

  -- where a round changes nothing, none after it does
  pub settled : Kept → (n j : ℕ) → n ≤ j → Told m sizes (level D m n) → Told m sizes (level D m j)
  settled kept n j below here =
      let far : (j - n) + n ≡ j = omega arith in
      subst (λ i. Told m sizes (level D m i)) far (still kept n (j - n) here)
