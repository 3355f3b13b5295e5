-- Numbers that never fall show which definitions don't hold themselves.
use Rattle.std.proofs.Common.{◌≡◌, ◌⊎◌, inl, inr, ℕ, zero, suc, ◌+◌, ◌<◌, ◌≤◌, Bool, true, false, cond, ◌||◌, ◌==◌, nat_le, List, [], length, get_or, set, take, replicate, slice_get, Option, Some, None, is_some, refl, sym, ap, ◌∙◌, subst, arith, eqb-true, eq-eqb}
use Rattle.std.specs.List.{Contains}
use Rattle.std.proofs.lemmas.Bool.{false_from_ne_true, cases_eq, cases_lt, leb-true, or_cases}
use Rattle.std.proofs.lemmas.List.{length-set, get_or-set_same, get_or-set_other, length-replicate, take_more}
use Rattle.std.proofs.lemmas.List.Elements.{Contains-push_cases}
use Rattle.mir_syntax.specs.Shapes.{Shape}
use Rattle.mir_rules.specs.DefinitionRules.{holds_one, holds, breaks_v01}
use Rattle.mir_rules.proofs.Depth.{one_one, there}
use Rattle.drop_tables.specs.Marks.{is_marked}
use Rattle.drop_tables.specs.Holders.{holders_at, Holds, AreHolders, number_of, Looked, Ordered}
use Rattle.drop_tables.proofs.Rounds.{marked_inside}

module _ (D : List Shape) where
  inside : (n d e : ℕ) → holds D n e d ≡ true → d < length D
  inside zero d e h = absurd cc
  inside (suc n) d e h = there D (λ k. k == e || holds D n e k) d (slice_get D d) refl h

  none_there : (p : ℕ → Bool) (o : Option Shape) → is_some o ≡ false → holds_one p o ≡ false
  none_there p None h = refl
  none_there p (Some s) h = absurd cc

  -- no definition that isn't there holds itself
  holds_none : (n d e : ℕ) → is_some (slice_get D d) ≡ false → holds D n e d ≡ false
  holds_none zero d e h = refl
  holds_none (suc n) d e h = none_there (λ k. k == e || holds D n e k) (slice_get D d) h

  pub none_apart : (d : ℕ) → is_some (slice_get D d) ≡ false → breaks_v01 D d ≡ false
  none_apart d h = holds_none (length D) d d h

  module _ (holders : List (List ℕ)) (numbers : List ℕ) (marks : List Bool) (are : AreHolders D holders) (ordered : Ordered holders numbers marks (length holders)) where
    edge : (d k : ℕ) → Holds D d k → k < length D → number_of numbers d ≤ number_of numbers k
    edge d k h below = ordered.rising k d (omega (arith, are.long, below)) (are.all k d below h)

    along : (n d e : ℕ) → e < length D → holds D n e d ≡ true → number_of numbers d ≤ number_of numbers e
    along zero d e below h = absurd cc
    along (suc n) d e below h =
        let (k, passes, names) = one_one (λ k. k == e || holds D n e k) (slice_get D d) h in
        go k names (or_cases (k == e) (holds D n e k) passes) (along n k e below)
      where
        go : (k : ℕ) → Holds D d k → ((k == e) ≡ true) ⊎ (holds D n e k ≡ true) → (holds D n e k ≡ true → number_of numbers k ≤ number_of numbers e) → number_of numbers d ≤ number_of numbers e
        go k names (inl same) far = let z : k ≡ e = eqb-true k e same in edge d e (subst (Holds D d) z names) below
        go k names (inr h) far = omega (arith, edge d k names (inside n k e h), far h)

    on_level : (n d : ℕ) → holds D n d d ≡ true → is_marked marks d ≡ true
    on_level zero d h = absurd cc
    on_level (suc n) d h =
        let (k, passes, names) = one_one (λ k. k == d || holds D n d k) (slice_get D d) h in
        go k names (or_cases (k == d) (holds D n d k) passes)
      where
        below : d < length D
        below = inside (suc n) d d h

        go : (k : ℕ) → Holds D d k → ((k == d) ≡ true) ⊎ (holds D n d k ≡ true) → is_marked marks d ≡ true
        go k names (inl same) = let z : k ≡ d = eqb-true k d same in (let low : d < length holders = omega (arith, are.long, below) in ordered.level d d low low (are.all d d below (subst (Holds D d) z names)) refl)
        go k names (inr h) =
            let low : k < length D = inside n k d h in
            let same : number_of numbers d ≡ number_of numbers k = omega (arith, edge d k names low, along n k d below h) in
            ordered.level k d (omega (arith, are.long, low)) (omega (arith, are.long, below)) (are.all k d low names) same

    -- a definition that isn't marked doesn't hold itself
    pub level_apart : (d : ℕ) → is_marked marks d ≡ false → breaks_v01 D d ≡ false
    level_apart d off = false_from_ne_true (breaks_v01 D d) (λ h. let t : true ≡ false = sym (on_level (length D) d h) ∙ off in absurd cc)

-- ---- numbers that are looked over

pub looked_none : (numbers : List ℕ) (held : ℕ) (marks : List Bool) → Looked numbers held [] marks marks
looked_none numbers held marks = record {
  long = refl;
  kept = λ d h. h;
  rising = λ d c. absurd (omega (arith, c.1));
  level = λ d c. absurd (omega (arith, c.1));
}

module _ (numbers : List ℕ) (held : ℕ) (holders : List ℕ) (marks now now2 : List Bool) (i d : ℕ) (l : i < length holders) (k : Looked numbers held (take i holders) marks now)
    (made : now2 ≡ cond (number_of numbers (get_or holders i d) == number_of numbers held) (set now (get_or holders i d) true) now) (fits : nat_le (number_of numbers (get_or holders i d)) (number_of numbers held) ≡ true) where
  abbrev def : ℕ
  def = get_or holders i d

  long_now : (b : Bool) → length (cond b (set now def true) now) ≡ length now
  long_now true = length-set now def true
  long_now false = refl

  kept_now : (b : Bool) (e : ℕ) → is_marked now e ≡ true → is_marked (cond b (set now def true) now) e ≡ true
  kept_now false e h = h
  kept_now true e h = elim (cases_eq e def) [
    | inl same ↦ ap (is_marked (set now def true)) same ∙ get_or-set_same now def true false (marked_inside now def (sym (ap (is_marked now) same) ∙ h))
    | inr ne ↦ get_or-set_other now def e true false ne ∙ h
  ]

  pub looked_more : Looked numbers held (take (i + 1) holders) marks now2
  looked_more = record {
    long = ap length made ∙ (long_now (number_of numbers def == number_of numbers held) ∙ k.long);
    kept = λ e h. ap (λ m. is_marked m e) made ∙ kept_now (number_of numbers def == number_of numbers held) e (k.kept e h);
    rising = λ e c. elim (Contains-push_cases (take i holders) def e (subst (λ xs. Contains xs e) (take_more holders i d l) c)) [
      | inl q ↦ k.rising e q
      | inr same ↦ subst (λ x. number_of numbers x ≤ number_of numbers held) same (leb-true (number_of numbers def) (number_of numbers held) fits)
    ];
    level = λ e c below eq. ap (λ m. is_marked m e) made ∙ elim (Contains-push_cases (take i holders) def e (subst (λ xs. Contains xs e) (take_more holders i d l) c)) [
      | inl q ↦ kept_now (number_of numbers def == number_of numbers held) e (k.level e q below eq)
      | inr same ↦ (
          let on : (number_of numbers def == number_of numbers held) ≡ true = eq-eqb (number_of numbers def) (number_of numbers held) (ap (number_of numbers) same ∙ eq) in
          ap (λ b. is_marked (cond b (set now def true) now) e) on ∙ (ap (is_marked (set now def true)) (sym same) ∙ get_or-set_same now def true false (let z : def ≡ e = same in omega (arith, k.long, below, z)))
          )
    ];
  }

pub ordered_none : (holders : List (List ℕ)) (numbers : List ℕ) (marks : List Bool) (n : ℕ) → marks ≡ replicate n false → n ≡ length holders → Ordered holders numbers marks 0
ordered_none holders numbers marks n made long = record {
  long = ap length made ∙ (length-replicate n false ∙ long);
  rising = λ e d l c. absurd (omega arith);
  level = λ e d l m c eq. absurd (omega arith);
}

-- one more definition, with those that hold it
pub ordered_more : (holders : List (List ℕ)) (numbers : List ℕ) (marks marks2 : List Bool) (e : ℕ) → Ordered holders numbers marks e → Looked numbers e (holders_at holders e) marks marks2 → Ordered holders numbers marks2 (e + 1)
ordered_more holders numbers marks marks2 e o k = record {
  long = k.long ∙ o.long;
  rising = λ x d l c. elim (cases_eq x e) [
    | inl same ↦ subst (λ y. number_of numbers d ≤ number_of numbers y) (sym same) (k.rising d (subst (λ y. Contains (holders_at holders y) d) same c))
    | inr ne ↦ o.rising x d (below x l ne) c
  ];
  level = λ x d l m c eq. elim (cases_eq x e) [
    | inl same ↦ k.level d (subst (λ y. Contains (holders_at holders y) d) same c) (omega (arith, o.long, m)) (eq ∙ ap (number_of numbers) same)
    | inr ne ↦ k.kept d (o.level x d (below x l ne) m c eq)
  ];
}
  where
    below : (x : ℕ) → x < e + 1 → (x ≡ e → ⊥) → x < e
    below x m ne = elim (cases_lt x e) [ inl l ↦ l | inr l ↦ absurd (ne (let z : x ≡ e = omega arith in z)) ]
