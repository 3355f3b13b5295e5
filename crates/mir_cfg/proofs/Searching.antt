-- Blocks that are found from bb0.
use Rattle.std.proofs.Common.{◌≡◌, ◌⊎◌, inl, inr, refl, sym, ap, ◌∙◌, subst, ℕ, zero, suc, ◌+◌, ◌<◌, List, [], ◌∷◌, ◌++◌, Bool, true, false, length, get_or, set, take, replicate, arith, length-append}
use Rattle.std.specs.List.{All, Contains}
use Rattle.std.proofs.lemmas.Bool.{cases_eq, cases_lt, both_ways}
use Rattle.std.proofs.lemmas.List.{length-set, get_or-set_same, get_or-set_other, get_or-replicate, get_or_past, length-replicate, take_more}
use Rattle.std.proofs.lemmas.List.Elements.{Contains-push, Contains-push_cases, Contains-append_left, Contains-get_or, All-nil, All-push, All-weaker, All-contains}
use Rattle.std.proofs.lemmas.List.Sums.{sum_by-set}
use Rattle.bit_rows.specs.Rows.{row_at, HasSize}
use Rattle.mir_syntax.specs.declared.body.Term.{Term}
use Rattle.mir_cfg.specs.Paths.{exits, ReachedBy, Reached}
use Rattle.mir_cfg.specs.Search.{is_found, IsSearch, one_if_not, missing, Finds}

none_in_empty : (x : ℕ) → Contains {X = ℕ} [] x → ⊥
none_in_empty x p = absurd (omega (arith, p.1))

pub finds_none : (found : List Bool) (opened : List ℕ) → Finds found found opened opened []
finds_none found opened = record {
  long = refl;
  kept = λ b h. h;
  marked = All-nil (λ b. is_found found b ≡ true);
  only = λ b h. inl h;
  stay = λ b h. h;
  from = λ b h. inl h;
  fewer = omega arith;
}

missing-set : (found : List Bool) (b : ℕ) → b < length found → is_found found b ≡ false → missing (set found b true) + 1 ≡ missing found
missing-set found b l e = subst (λ v. missing (set found b true) + v ≡ missing found + 0) (ap one_if_not e) (sum_by-set one_if_not found b true false l) ∙ (let z : missing found + 0 ≡ missing found = omega arith in z)

contains_in : (xs : List ℕ) (x y : ℕ) → Contains (xs ++ x ∷ []) y → Contains xs y ⊎ (x ≡ y)
contains_in xs x y c = Contains-push_cases xs x y c

module _ (found now : List Bool) (opened open_now blocks : List ℕ) (i d : ℕ) (l : i < length blocks) (f : Finds found now opened open_now (take i blocks)) where
  abbrev block : ℕ
  block = get_or blocks i d

  abbrev done : List ℕ
  done = take (i + 1) blocks

  earlier : (b : ℕ) → Contains (take i blocks) b → Contains done b
  earlier b c = subst (λ xs. Contains xs b) (sym (take_more blocks i d l)) (Contains-append_left (take i blocks) (block ∷ []) b c)

  last : Contains done block
  last = subst (λ xs. Contains xs block) (sym (take_more blocks i d l)) (Contains-push (take i blocks) block)

  -- a block that was found already
  pub finds_old : is_found now block ≡ true → Finds found now opened open_now done
  finds_old h = record {
    long = f.long;
    kept = f.kept;
    marked = subst (All (λ b. is_found now b ≡ true)) (sym (take_more blocks i d l)) (All-push (λ b. is_found now b ≡ true) (take i blocks) block f.marked h);
    only = λ b g. elim (f.only b g) [ inl q ↦ inl q | inr q ↦ inr (earlier b q.0, q.1) ];
    stay = f.stay;
    from = λ b c. elim (f.from b c) [ inl q ↦ inl q | inr q ↦ inr (earlier b q) ];
    fewer = f.fewer;
  }

  -- a block that is found now
  pub finds_new : is_found now block ≡ false → block < length found → Finds found (set now block true) opened (open_now ++ block ∷ []) done
  finds_new h m = record {
    long = length-set now block true ∙ f.long;
    kept = λ b g. still b (f.kept b g);
    marked = subst (All (λ b. is_found (set now block true) b ≡ true)) (sym (take_more blocks i d l)) (All-push (λ b. is_found (set now block true) b ≡ true) (take i blocks) block (All-weaker (λ b. is_found now b ≡ true) (λ b. is_found (set now block true) b ≡ true) still (take i blocks) f.marked) here);
    only = λ b g. elim (cases_eq b block) [
      | inl e ↦ inr (subst (Contains done) (sym e) last, subst (Contains (open_now ++ block ∷ [])) (sym e) (Contains-push open_now block))
      | inr ne ↦ elim (f.only b (sym (get_or-set_other now block b true false ne) ∙ g)) [ inl q ↦ inl q | inr q ↦ inr (earlier b q.0, Contains-append_left open_now (block ∷ []) b q.1) ]
    ];
    stay = λ b c. Contains-append_left open_now (block ∷ []) b (f.stay b c);
    from = λ b c. elim (contains_in open_now block b c) [
      | inl q ↦ elim (f.from b q) [ inl p ↦ inl p | inr p ↦ inr (earlier b p) ]
      | inr e ↦ inr (subst (Contains done) e last)
    ];
    fewer = omega (arith, f.fewer, missing-set now block in_now h, length-append open_now (block ∷ []));
  }
    where
      in_now : block < length now
      in_now = omega (arith, f.long, m)

      here : is_found (set now block true) block ≡ true
      here = get_or-set_same now block true false in_now

      still : (b : ℕ) → is_found now b ≡ true → is_found (set now block true) b ≡ true
      still b g = elim (cases_eq b block) [ inl e ↦ ap (is_found (set now block true)) e ∙ here | inr ne ↦ get_or-set_other now block b true false ne ∙ g ]

-- ---- the search

pub reached_next : (terms : List Term) (a b : ℕ) → Reached terms a → Contains (exits terms a) b → Reached terms b
reached_next terms a b (n, p) c = (suc n, (a, p, c))

pub search_begins : (terms : List Term) → 0 < length terms → IsSearch terms (set (replicate (length terms) false) 0 true) (0 ∷ [])
search_begins terms some = record {
  long = length-set (replicate (length terms) false) 0 true ∙ length-replicate (length terms) false;
  first = get_or-set_same (replicate (length terms) false) 0 true false (omega (arith, length-replicate (length terms) false));
  path = λ b h. elim (only b h) [ inl e ↦ (0, e) | inr w ↦ absurd w ];
  within = λ k d m. (let z : k ≡ 0 = omega arith in rw z some);
  open_found = λ b c. (let z : c.0 ≡ 0 = omega (arith, c.1) in let e : 0 ≡ b = sym (ap (λ k. get_or (0 ∷ []) k b) z) ∙ c.2 in ap (is_found (set (replicate (length terms) false) 0 true)) (sym e) ∙ get_or-set_same (replicate (length terms) false) 0 true false (omega (arith, length-replicate (length terms) false)));
  closed = λ a h. elim (only a h) [ inl e ↦ inl (0, omega arith, sym e) | inr w ↦ absurd w ];
}
  where
    blank : (b : ℕ) → get_or (replicate (length terms) false) b false ≡ false
    blank b = elim (cases_lt b (length terms)) [ inl l ↦ get_or-replicate (length terms) b false false l | inr l ↦ get_or_past (replicate (length terms) false) b false (omega (arith, length-replicate (length terms) false)) ]

    only : (b : ℕ) → is_found (set (replicate (length terms) false) 0 true) b ≡ true → (b ≡ 0) ⊎ ⊥
    only b h = elim (cases_eq b 0) [ inl e ↦ inl e | inr ne ↦ absurd (both_ways (get_or (replicate (length terms) false) b false) (blank b) (sym (get_or-set_other (replicate (length terms) false) 0 b true false ne) ∙ h)) ]

pub popped_found : (terms : List Term) (found : List Bool) (opened rest : List ℕ) (a : ℕ) → IsSearch terms found opened → opened ≡ rest ++ a ∷ [] → is_found found a ≡ true
popped_found terms found opened rest a s e = s.open_found a (subst (λ xs. Contains xs a) (sym e) (Contains-push rest a))

pub popped_within : (terms : List Term) (found : List Bool) (opened rest : List ℕ) (a : ℕ) → IsSearch terms found opened → opened ≡ rest ++ a ∷ [] → a < length terms
popped_within terms found opened rest a s e = All-contains (λ b. b < length terms) opened a s.within (subst (λ xs. Contains xs a) (sym e) (Contains-push rest a))

-- a block's edges were gone over
pub search_step : (terms : List Term) (found found2 : List Bool) (opened rest opened2 : List ℕ) (a : ℕ) → IsSearch terms found opened → opened ≡ rest ++ a ∷ [] → Finds found found2 rest opened2 (exits terms a) → All (λ b. b < length terms) (exits terms a) → IsSearch terms found2 opened2
search_step terms found found2 opened rest opened2 a s e f inside = record {
  long = f.long ∙ s.long;
  first = f.kept 0 s.first;
  path = λ b h. elim (f.only b h) [ inl q ↦ s.path b q | inr q ↦ reached_next terms a b (s.path a (popped_found terms found opened rest a s e)) q.0 ];
  within = λ k d m. elim (f.from (get_or opened2 k d) (Contains-get_or opened2 k d m)) [
    | inl c ↦ All-contains (λ b. b < length terms) opened (get_or opened2 k d) s.within (subst (λ xs. Contains xs (get_or opened2 k d)) (sym e) (Contains-append_left rest (a ∷ []) (get_or opened2 k d) c))
    | inr c ↦ All-contains (λ b. b < length terms) (exits terms a) (get_or opened2 k d) inside c
  ];
  open_found = λ b c. elim (f.from b c) [
    | inl q ↦ f.kept b (s.open_found b (subst (λ xs. Contains xs b) (sym e) (Contains-append_left rest (a ∷ []) b q)))
    | inr q ↦ All-contains (λ t. is_found found2 t ≡ true) (exits terms a) b f.marked q
  ];
  closed = λ b h. elim (f.only b h) [
    | inl q ↦ elim (s.closed b q) [
      | inl c ↦ elim (contains_in rest a b (subst (λ xs. Contains xs b) e c)) [
        | inl c2 ↦ inl (f.stay b c2)
        | inr same ↦ inr (subst (λ b. All (λ t. is_found found2 t ≡ true) (exits terms b)) same f.marked)
      ]
      | inr all ↦ inr (All-weaker (λ t. is_found found t ≡ true) (λ t. is_found found2 t ≡ true) f.kept (exits terms b) all)
    ]
    | inr q ↦ inl q.1
  ];
}

-- at the end the found blocks are those that are reached
pub search_ends : (terms : List Term) (found : List Bool) → IsSearch terms found [] → (b : ℕ) → Reached terms b → is_found found b ≡ true
search_ends terms found s b (n, p) = by n b p
  where
    by : (n b : ℕ) → ReachedBy terms n b → is_found found b ≡ true
    by zero b e = ap (is_found found) e ∙ s.first
    by (suc n) b (a, p, c) = elim (s.closed a (by n a p)) [ inl w ↦ absurd (none_in_empty a w) | inr all ↦ All-contains (λ t. is_found found t ≡ true) (exits terms a) b all c ]

-- a bit of the one row is written
pub one_row : (rows rows2 : List (List Bool)) (n : ℕ) (row : List Bool) → HasSize rows 1 n → rows2 ≡ set rows 0 row → length row ≡ n → HasSize rows2 1 n × (row_at rows2 0 ≡ row)
one_row rows rows2 n row s e l = (record { count_is = ap length e ∙ length-set rows 0 row ∙ s.count_is; bits_is = λ r m. (let z : r ≡ 0 = omega arith in rw z (ap length here ∙ l)) }, here)
  where
    here : row_at rows2 0 ≡ row
    here = ap (λ t. row_at t 0) e ∙ get_or-set_same rows 0 row [] (omega (arith, s.count_is))

pub search_made : (terms : List Term) (n : ℕ) (rows rows2 : List (List Bool)) (opened : List ℕ) → 0 < length terms → n ≡ length terms → rows ≡ replicate 1 (replicate n false) → rows2 ≡ set rows 0 (set (row_at rows 0) 0 true) → opened ≡ 0 ∷ [] → HasSize rows2 1 (length terms) × IsSearch terms (row_at rows2 0) opened
search_made terms n rows rows2 opened some e f g o =
    let row : rows2 ≡ set (replicate (length terms) false) 0 true ∷ [] = g ∙ ap (λ t. set t 0 (set (row_at t 0) 0 true)) (f ∙ ap (λ k. replicate 1 (replicate k false)) e) in (
      record {
        count_is = ap length row;
        bits_is = λ r m. (let z : r ≡ 0 = omega arith in rw z (ap (λ t. length (row_at t 0)) row ∙ length-set (replicate (length terms) false) 0 true ∙ length-replicate (length terms) false));
      },
      subst (λ r. IsSearch terms r opened) (sym (ap (λ t. row_at t 0) row)) (subst (IsSearch terms (set (replicate (length terms) false) 0 true)) (sym o) (search_begins terms some)),
    )
