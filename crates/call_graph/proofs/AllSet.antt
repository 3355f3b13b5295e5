-- The same value is put at many places of a list.
use Rattle.std.proofs.Common.{◌≡◌, ◌≢◌, refl, sym, ap, subst, ◌∙◌, ℕ, ◌+◌, ◌<◌, ◌≤◌, true, false, List, [], ◌∷◌, ◌++◌, length, get_or, set, take, ◌⊎◌, inl, inr, arith, get_or-set_same, get_or-set_other}
use Rattle.std.proofs.Math.ListN.{length-set}
use Rattle.std.proofs.lemmas.List.{take_more, get_or_past}
use Rattle.std.proofs.lemmas.List.Sums.{sum_by-set}
use Rattle.std.proofs.lemmas.Bool.{cases_eq}
use Rattle.bit_rows.specs.Rows.{stands}
use Rattle.call_graph.specs.declared.components.Mark.{Mark}
use Rattle.call_graph.specs.declared.components.Mark.TheVariants.{Unseen, OnStack, Closed}
use Rattle.call_graph.specs.Search.{all_set, unseen_one, unseen}
use Rattle.call_graph.proofs.Once.{bool_tells, both, stands_cases, stands_first, stands_later}

module _ {A : Type 0} where
  pub all_set_long : (xs : List A) (is : List ℕ) (v : A) → length (all_set xs is v) ≡ length xs
  all_set_long xs [] v = refl
  all_set_long xs (i ∷ is) v = all_set_long (set xs i v) is v ∙ length-set xs i v

  pub all_set_else : (xs : List A) (is : List ℕ) (v d : A) (i : ℕ) → stands i is ≡ false → get_or (all_set xs is v) i d ≡ get_or xs i d
  all_set_else xs [] v d i e = refl
  all_set_else xs (j ∷ is) v d i e =
      all_set_else (set xs j v) is v d i (elim (bool_tells (stands i is)) [ inl t ↦ absurd (both (stands i (j ∷ is)) (stands_later i j is t) e) | inr t ↦ t ])
      ∙ get_or-set_other xs j i v d (λ k. absurd (both (stands i (j ∷ is)) (subst (λ x. stands i (x ∷ is) ≡ true) k (stands_first i is)) e))

  pub all_set_there : (xs : List A) (is : List ℕ) (v d : A) (i : ℕ) → i < length xs → stands i is ≡ true → get_or (all_set xs is v) i d ≡ v
  all_set_there xs [] v d i l e = absurd (cc)
  all_set_there xs (j ∷ is) v d i l e = go (bool_tells (stands i is)) (all_set_there (set xs j v) is v d i (let k = length-set xs j v in omega (arith, k, l)))
    where
      go : (stands i is ≡ true) ⊎ (stands i is ≡ false) → (stands i is ≡ true → get_or (all_set (set xs j v) is v) i d ≡ v) → get_or (all_set (set xs j v) is v) i d ≡ v
      go (inl t) r = r t
      go (inr t) r = elim (stands_cases i j is e) [
        | inl s ↦ all_set_else (set xs j v) is v d i t ∙ subst (λ x. get_or (set xs x v) i d ≡ v) s (get_or-set_same xs i v d l)
        | inr s ↦ absurd (both (stands i is) s t)
      ]

  all_set_append : (xs : List A) (is js : List ℕ) (v : A) → all_set xs (is ++ js) v ≡ all_set (all_set xs is v) js v
  all_set_append xs [] js v = refl
  all_set_append xs (i ∷ is) js v = all_set_append (set xs i v) is js v

  -- one place more
  pub all_set_more : (xs ys : List A) (is : List ℕ) (i : ℕ) (v : A) → i < length is → ys ≡ all_set xs (take i is) v → set ys (get_or is i 0) v ≡ all_set xs (take (i + 1) is) v
  all_set_more xs ys is i v l e =
      ap (λ zs. set zs (get_or is i 0) v) e
      ∙ sym (all_set_append xs (take i is) (get_or is i 0 ∷ []) v)
      ∙ ap (λ js. all_set xs js v) (sym (take_more is i 0 l))

-- ---- marks of those that were seen

seen_none : (m : Mark) → m ≢ Unseen → unseen_one m ≡ 0
seen_none Unseen ne = absurd (ne refl)
seen_none (OnStack i) ne = refl
seen_none Closed ne = refl

seen_in : (marks : List Mark) (f : ℕ) → get_or marks f Unseen ≢ Unseen → f < length marks
seen_in marks f ne = elim (let d : (f < length marks) ⊎ (length marks ≤ f) = grind arith in d) [ inl l ↦ l | inr out ↦ absurd (ne (get_or_past marks f Unseen out)) ]

unseen_same : (marks : List Mark) (f : ℕ) → get_or marks f Unseen ≢ Unseen → unseen (set marks f Closed) ≡ unseen marks
unseen_same marks f ne = let s = sum_by-set unseen_one marks f Closed Unseen (seen_in marks f ne) in let k = seen_none (get_or marks f Unseen) ne in omega (arith, s, k)

pub unseen_kept : (marks : List Mark) (fs : List ℕ) → ((f : ℕ) → stands f fs ≡ true → get_or marks f Unseen ≢ Unseen) → unseen (all_set marks fs Closed) ≡ unseen marks
unseen_kept marks [] h = refl
unseen_kept marks (f ∷ fs) h = unseen_kept (set marks f Closed) fs after ∙ unseen_same marks f (h f (stands_first f fs))
  where
    after : (g : ℕ) → stands g fs ≡ true → get_or (set marks f Closed) g Unseen ≢ Unseen
    after g e k = elim (cases_eq g f) [
      | inr ne ↦ h g (stands_later g f fs e) (sym (get_or-set_other marks f g Closed Unseen ne) ∙ k)
      | inl s ↦ (let m = sym (get_or-set_same marks f Closed Unseen (seen_in marks f (h f (stands_first f fs)))) ∙ ap (λ x. get_or (set marks f Closed) x Unseen) (sym s) ∙ k in absurd (cc))
    ]
