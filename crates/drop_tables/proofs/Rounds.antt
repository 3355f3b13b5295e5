-- Marks that go from definitions to those that hold them, round by round.
use Rattle.std.proofs.Common.{◌≡◌, ◌⊎◌, inl, inr, ℕ, zero, suc, ◌+◌, ◌<◌, ◌≤◌, Bool, true, false, ◌==◌, List, [], ◌∷◌, ◌++◌, length, get_or, set, take, slice_get, refl, sym, ap, ◌∙◌, subst, arith, eqb-true}
use Rattle.std.specs.List.{All, Contains}
use Rattle.std.proofs.lemmas.Bool.{cases_eq, or_cases, or_left, or_right}
use Rattle.std.proofs.lemmas.List.{length-set, get_or-set_same, get_or-set_other, take_more}
use Rattle.std.proofs.lemmas.List.Elements.{Contains-push, Contains-push_cases, Contains-append_left, All-nil, All-push, All-weaker, All-contains}
use Rattle.mir_syntax.specs.Shapes.{Shape}
use Rattle.mir_rules.specs.DefinitionRules.{holds_one}
use Rattle.mir_rules.proofs.Depth.{one_mono, one_one}
use Rattle.drop_tables.specs.Marks.{is_marked, spread}
use Rattle.drop_tables.specs.Holders.{holders_at, AreHolders, Finds, Round}
use Rattle.drop_tables.proofs.Spreading.{stable}
use Rattle.mir_syntax.proofs.Bools.{same_tests}

pub none_in_empty : (x : ℕ) → Contains {X = ℕ} [] x → ⊥
none_in_empty x p = absurd (omega (arith, p.1))

pub marked_inside : (marks : List Bool) (d : ℕ) → is_marked marks d ≡ true → d < length marks
marked_inside [] d h = absurd cc
marked_inside (m ∷ marks) zero h = omega arith
marked_inside (m ∷ marks) (suc d) h = let b : d < length marks = marked_inside marks d h in omega (arith, b)

-- ---- some are marked

pub finds_none : (marks : List Bool) (found : List ℕ) → Finds marks marks found found []
finds_none marks found = record {
  long = refl;
  kept = λ d h. h;
  marked = All-nil (λ d. is_marked marks d ≡ true);
  only = λ d h. inl h;
  stay = λ d h. h;
  from = λ d h. inl h;
}

module _ (marks now : List Bool) (found found_now held : List ℕ) (i d : ℕ) (l : i < length held) (f : Finds marks now found found_now (take i held)) where
  abbrev def : ℕ
  def = get_or held i d

  abbrev done : List ℕ
  done = take (i + 1) held

  earlier : (e : ℕ) → Contains (take i held) e → Contains done e
  earlier e c = subst (λ xs. Contains xs e) (sym (take_more held i d l)) (Contains-append_left (take i held) (def ∷ []) e c)

  last : Contains done def
  last = subst (λ xs. Contains xs def) (sym (take_more held i d l)) (Contains-push (take i held) def)

  -- one that was marked already
  pub finds_old : is_marked now def ≡ true → Finds marks now found found_now done
  finds_old h = record {
    long = f.long;
    kept = f.kept;
    marked = subst (All (λ e. is_marked now e ≡ true)) (sym (take_more held i d l)) (All-push (λ e. is_marked now e ≡ true) (take i held) def f.marked h);
    only = λ e g. elim (f.only e g) [ inl q ↦ inl q | inr q ↦ inr (earlier e q.0, q.1) ];
    stay = f.stay;
    from = λ e c. elim (f.from e c) [ inl q ↦ inl q | inr q ↦ inr (earlier e q) ];
  }

  -- one that is marked now
  pub finds_new : def < length marks → Finds marks (set now def true) found (found_now ++ def ∷ []) done
  finds_new m = record {
    long = length-set now def true ∙ f.long;
    kept = λ e g. still e (f.kept e g);
    marked = subst (All (λ e. is_marked (set now def true) e ≡ true)) (sym (take_more held i d l)) (All-push (λ e. is_marked (set now def true) e ≡ true) (take i held) def (All-weaker (λ e. is_marked now e ≡ true) (λ e. is_marked (set now def true) e ≡ true) still (take i held) f.marked) here);
    only = λ e g. elim (cases_eq e def) [
      | inl same ↦ inr (subst (Contains done) (sym same) last, subst (Contains (found_now ++ def ∷ [])) (sym same) (Contains-push found_now def))
      | inr ne ↦ elim (f.only e (sym (get_or-set_other now def e true false ne) ∙ g)) [ inl q ↦ inl q | inr q ↦ inr (earlier e q.0, Contains-append_left found_now (def ∷ []) e q.1) ]
    ];
    stay = λ e c. Contains-append_left found_now (def ∷ []) e (f.stay e c);
    from = λ e c. elim (Contains-push_cases found_now def e c) [
      | inl q ↦ elim (f.from e q) [ inl p ↦ inl p | inr p ↦ inr (earlier e p) ]
      | inr same ↦ inr (subst (Contains done) same last)
    ];
  }
    where
      here : is_marked (set now def true) def ≡ true
      here = get_or-set_same now def true false (omega (arith, f.long, m))

      still : (e : ℕ) → is_marked now e ≡ true → is_marked (set now def true) e ≡ true
      still e g = elim (cases_eq e def) [ inl same ↦ ap (is_marked (set now def true)) same ∙ here | inr ne ↦ get_or-set_other now def e true false ne ∙ g ]

-- ---- a round

pub round_none : (holders : List (List ℕ)) (marks : List Bool) → Round holders marks marks [] []
round_none holders marks = record {
  long = refl;
  kept = λ d h. h;
  marked = λ e d c h. absurd (none_in_empty e c);
  only = λ d h. inl h;
  from = λ d c. absurd (none_in_empty d c);
}

-- those that hold one more
pub round_more : (holders : List (List ℕ)) (marks now marks2 : List Bool) (front found found2 : List ℕ) (i d : ℕ) → i < length front → Round holders marks now (take i front) found
    → Finds now marks2 found found2 (holders_at holders (get_or front i d)) → Round holders marks marks2 (take (i + 1) front) found2
round_more holders marks now marks2 front found found2 i d l r f = record {
  long = f.long ∙ r.long;
  kept = λ k h. f.kept k (r.kept k h);
  marked = λ e k c h. elim (Contains-push_cases (take i front) (get_or front i d) e (subst (λ xs. Contains xs e) (take_more front i d l) c)) [
    | inl q ↦ f.kept k (r.marked e k q h)
    | inr same ↦ All-contains (λ x. is_marked marks2 x ≡ true) (holders_at holders (get_or front i d)) k f.marked (subst (λ x. Contains (holders_at holders x) k) (sym same) h)
  ];
  only = λ k h. elim (f.only k h) [
    | inl q ↦ elim (r.only k q) [ inl p ↦ inl p | inr p ↦ inr (f.stay k p) ]
    | inr q ↦ inr q.1
  ];
  from = λ k c. elim (f.from k c) [
    | inl q ↦ (let p = r.from k q in (p.0, subst (λ xs. Contains xs p.0) (sym (take_more front i d l)) (Contains-append_left (take i front) (get_or front i d ∷ []) p.0 p.1), p.2))
    | inr q ↦ (get_or front i d, subst (λ xs. Contains xs (get_or front i d)) (sym (take_more front i d l)) (Contains-push (take i front) (get_or front i d)), q)
  ];
}

-- ---- round after round

-- the marks are those of so many rounds; those that hold a marked one are marked, but for those that hold one of `front`
pub record IsSpread (D : List Shape) (holders : List (List ℕ)) (own : ℕ → Bool) (marks : List Bool) (front : List ℕ) (n : ℕ) : Type 0 where
  pub long : length marks ≡ length holders
  pub marks_are : (d : ℕ) → is_marked marks d ≡ spread D own own n d
  pub front_marked : (e : ℕ) → Contains front e → is_marked marks e ≡ true
  pub closed : (e : ℕ) → is_marked marks e ≡ true → Contains front e ⊎ ((d : ℕ) → Contains (holders_at holders e) d → is_marked marks d ≡ true)

module _ (D : List Shape) (holders : List (List ℕ)) (own : ℕ → Bool) (are : AreHolders D holders) where
  own_spread : (n d : ℕ) → own d ≡ true → spread D own own n d ≡ true
  own_spread zero d h = h
  own_spread (suc n) d h = or_left (own d) (holds_one (spread D own own n) (slice_get D d)) h

  spread_more : (n d : ℕ) → spread D own own n d ≡ true → spread D own own (suc n) d ≡ true
  spread_more zero d h = own_spread 1 d h
  spread_more (suc n) d h = elim (or_cases (own d) (holds_one (spread D own own n) (slice_get D d)) h) [
    | inl o ↦ own_spread (suc (suc n)) d o
    | inr held ↦ or_right (own d) (holds_one (spread D own own (suc n)) (slice_get D d)) (one_mono (spread D own own n) (spread D own own (suc n)) (spread_more n) (slice_get D d) held)
  ]

  module _ (marks marks2 : List Bool) (front found : List ℕ) (n : ℕ) (s : IsSpread D holders own marks front n) (r : Round holders marks marks2 front found) where
    held_marked : (e d : ℕ) → is_marked marks e ≡ true → Contains (holders_at holders e) d → is_marked marks2 d ≡ true
    held_marked e d h c = elim (s.closed e h) [ inl q ↦ r.marked e d q c | inr q ↦ r.kept d (q d c) ]

    to : (d : ℕ) → is_marked marks2 d ≡ true → spread D own own (suc n) d ≡ true
    to d h = elim (r.only d h) [
      | inl q ↦ spread_more n d (sym (s.marks_are d) ∙ q)
      | inr q ↦ (
          let p = r.from d q in
          let here : spread D own own n p.0 ≡ true = sym (s.marks_are p.0) ∙ s.front_marked p.0 p.1 in
          or_right (own d) (holds_one (spread D own own n) (slice_get D d))
          (one_mono (λ k. k == p.0) (spread D own own n) (λ k e. ap (spread D own own n) (eqb-true k p.0 e) ∙ here) (slice_get D d) (are.only p.0 d p.2))
          )
    ]

    back : (d : ℕ) → spread D own own (suc n) d ≡ true → is_marked marks2 d ≡ true
    back d h = elim (or_cases (own d) (holds_one (spread D own own n) (slice_get D d)) h) [
      | inl o ↦ r.kept d (s.marks_are d ∙ own_spread n d o)
      | inr held ↦ (
          let q = one_one (spread D own own n) (slice_get D d) held in
          let here : is_marked marks q.0 ≡ true = s.marks_are q.0 ∙ q.1 in
          let below : q.0 < length D = omega (arith, s.long, are.long, marked_inside marks q.0 here) in
          held_marked q.0 d here (are.all q.0 d below q.2)
          )
    ]

    pub spread_round : IsSpread D holders own marks2 found (suc n)
    spread_round = record {
      long = r.long ∙ s.long;
      marks_are = λ d. same_tests (is_marked marks2 d) (spread D own own (suc n) d) (to d) (back d);
      front_marked = λ d c. (let p = r.from d c in r.marked p.0 d p.1 p.2);
      closed = λ e h. elim (r.only e h) [ inl q ↦ inr (λ d c. held_marked e d q c) | inr q ↦ inl q ];
    }

  -- where nothing new was marked, no round changes anything
  pub spread_over : (marks : List Bool) (n m : ℕ) → n ≤ m → IsSpread D holders own marks [] n → (d : ℕ) → is_marked marks d ≡ spread D own own m d
  spread_over marks n m below s d =
      let next = spread_round marks marks [] [] n s (round_none holders marks) in
      s.marks_are d ∙ stable D own own n m below (λ k. sym (next.marks_are k) ∙ s.marks_are k) d

pub spread_begins : (D : List Shape) (holders : List (List ℕ)) (own : List Bool) (front : List ℕ) → length own ≡ length holders → ((d : ℕ) → is_marked own d ≡ true → Contains front d) → ((d : ℕ) → Contains front d → is_marked own d ≡ true)
    → IsSpread D holders (is_marked own) own front 0
spread_begins D holders own front long found marked = record {
  long = long;
  marks_are = λ d. refl;
  front_marked = marked;
  closed = λ e h. inl (found e h);
}

pub list_at : (holders : List (List ℕ)) (e : ℕ) (d : List ℕ) → e < length holders → get_or holders e d ≡ holders_at holders e
list_at [] e d l = absurd (omega arith)
list_at (x ∷ holders) zero d l = refl
list_at (x ∷ holders) (suc e) d l = list_at holders e d (omega (arith, l))

pub mark_at : (marks : List Bool) (d : ℕ) (x : Bool) → d < length marks → x ≡ get_or marks d x → is_marked marks d ≡ x
mark_at [] d x l h = absurd (omega arith)
mark_at (m ∷ marks) zero x l h = sym h
mark_at (m ∷ marks) (suc d) x l h = mark_at marks d x (omega (arith, l)) h
