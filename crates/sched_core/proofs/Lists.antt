-- Lists of needs, and the count of borrowers.
use Rattle.std.proofs.Common.{◌≡◌, ◌≢◌, ℕ, zero, suc, ◌+◌, ◌<◌, ◌≤◌, Bool, true, false, List, [], ◌∷◌, ◌++◌, ◌⊎◌, inl, inr, refl, sym, subst, ap, arith}
use Rattle.std.specs.Prelude.{Option, Some, None, if◌then◌else◌}
use Rattle.std.proofs.lemmas.Bool.Decides.{nat_tests}
use Rattle.sched_core.specs.Plan.{Plan, IsLawful, has, next_need}
use Rattle.sched_core.specs.State.{Entry, upd, next_of_top, is, borrowers}
use Rattle.sched_core.specs.Good.{Stands}
use Rattle.sched_core.proofs.Upd.{upd_same, upd_other, upd_tells}

-- a test, with what it came to
pub bool_tells : (b : Bool) → (b ≡ true) ⊎ (b ≡ false)
bool_tells true = inl refl
bool_tells false = inr refl

pub nat_cases : (a b : ℕ) → (a ≡ b) ⊎ (a ≢ b)
nat_cases a b = grind (arith, nat_tests)

pub has_tells : (x : ℕ) (y : ℕ) (ys : List ℕ) → has x (y ∷ ys) ≡ true → (x ≡ y) ⊎ (has x ys ≡ true)
has_tells x y ys h = grind (arith, nat_tests)

pub has_first : (x : ℕ) (ys : List ℕ) → has x (x ∷ ys) ≡ true
has_first x ys = grind (arith, nat_tests)

pub has_last : (xs : List ℕ) (s : ℕ) → has s (xs ++ s ∷ []) ≡ true
has_last [] s = grind (arith, nat_tests)
has_last (x ∷ xs) s = let r = has_last xs s in grind (arith, nat_tests)

-- what a query steals is one of its needs
pub stolen_in : (p : Plan) → IsLawful p → (q s : ℕ) → p.steals q ≡ Some s → has s (p.needs q) ≡ true
stolen_in p l q s h = let k = l.stolen_last s q h in subst (λ (xs : List ℕ). has s xs ≡ true) (sym k.1) (has_last k.0 s)

pub next_in : (ns given : List ℕ) (q : ℕ) → next_need ns given ≡ Some q → has q ns ≡ true
next_in [] given q h = absurd (cc)
next_in (n ∷ ns) given q h = let r = next_in ns given q in grind (arith, nat_tests, bool_tells (has n given), r)

pub next_out : (ns given : List ℕ) (q : ℕ) → next_need ns given ≡ Some q → has q given ≡ false
next_out [] given q h = absurd (cc)
next_out (n ∷ ns) given q h = let r = next_out ns given q in grind (arith, nat_tests, bool_tells (has n given), r)

pub next_none : (ns given : List ℕ) → next_need ns given ≡ None → (q : ℕ) → has q ns ≡ true → has q given ≡ true
next_none [] given h q i = absurd (cc)
next_none (n ∷ ns) given h q i = let r = λ (k : next_need ns given ≡ None). next_none ns given k q in grind (arith, nat_tests, bool_tells (has n given), r)

-- where the next need is the last one, all before it are given
pub next_last : (ns : List ℕ) (s : ℕ) (given : List ℕ) → has s ns ≡ false → next_need (ns ++ s ∷ []) given ≡ Some s → (q : ℕ) → has q ns ≡ true → has q given ≡ true
next_last [] s given o h q i = absurd (cc)
next_last (n ∷ ns) s given o h q i =
    let r = λ (k : has s ns ≡ false) (m : next_need (ns ++ s ∷ []) given ≡ Some s). next_last ns s given k m q in
    grind (arith, nat_tests, bool_tells (has n given), r)

pub has_snoc : (ns : List ℕ) (s q : ℕ) → has q (ns ++ s ∷ []) ≡ true → (has q ns ≡ true) ⊎ (q ≡ s)
has_snoc [] s q h = grind (arith, nat_tests)
has_snoc (n ∷ ns) s q h = let r = has_snoc ns s q in grind (arith, nat_tests)

pub next_stands : (p : Plan) (es : List Entry) (root : Option ℕ) (q : ℕ) → next_of_top p es root ≡ Some q → Stands p root q es
next_stands p [] root q h = h
next_stands p (e ∷ es) root q h = (next_in (p.needs e.0) e.1 q h, next_out (p.needs e.0) e.1 q h)

-- one more or none
abbrev pub one : Option ℕ → ℕ → ℕ
one o s = if is o s then 1 else 0

module _ (f : ℕ → Option ℕ) (w : ℕ) (o : Option ℕ) (s : ℕ) where
  pub borrowers_else : (n : ℕ) → n ≤ w → borrowers (upd f w o) n s ≡ borrowers f n s
  borrowers_else zero h = refl
  borrowers_else (suc n) h =
      let r : borrowers (upd f w o) n s ≡ borrowers f n s = borrowers_else n (omega arith) in
      let e : upd f w o n ≡ f n = upd_other f w o n (λ k. omega arith) in
      λ i. one (e i) s + r i

  last : (n a b : ℕ) → n ≡ w → a ≡ b → (one (upd f w o n) s + a) + one (f w) s ≡ (one (f n) s + b) + one o s
  last n a b e r =
      let u : one (upd f w o n) s ≡ one o s = subst (λ (k : ℕ). one (upd f w o k) s ≡ one o s) (sym e) (ap (λ k. one k s) (upd_same f w o)) in
      let v : one (f w) s ≡ one (f n) s = ap (λ k. one (f k) s) (sym e) in
      grind arith

  earlier : (n a b : ℕ) → n ≢ w → a + one (f w) s ≡ b + one o s → (one (upd f w o n) s + a) + one (f w) s ≡ (one (f n) s + b) + one o s
  earlier n a b e r = let u : one (upd f w o n) s ≡ one (f n) s = ap (λ k. one k s) (upd_other f w o n e) in grind arith

  pub borrowers_set : (n : ℕ) → w < n → borrowers (upd f w o) n s + one (f w) s ≡ borrowers f n s + one o s
  borrowers_set zero h = absurd (omega arith)
  borrowers_set (suc n) h =
      let r = λ (lt : w < n). borrowers_set n lt in
      elim (upd_tells f w o n) [
        | inl e ↦ last n (borrowers (upd f w o) n s) (borrowers f n s) e.0 (borrowers_else n (let k = e.0 in omega arith))
        | inr e ↦ earlier n (borrowers (upd f w o) n s) (borrowers f n s) e.0 (r (let k = e.0 in omega arith))
      ]

one_none : (o : Option ℕ) (s : ℕ) → o ≢ Some s → one o s ≡ 0
one_none None s h = refl
one_none (Some t) s h = let ne : t ≢ s = λ k. h (cc) in grind (arith, nat_tests)

one_some : (o : Option ℕ) (s : ℕ) → o ≡ Some s → one o s ≡ 1
one_some None s h = absurd (cc)
one_some (Some t) s h = let e : t ≡ s = cc in grind (arith, nat_tests)

pub borrowers_none : (f : ℕ → Option ℕ) (s n : ℕ) → ((w : ℕ) → w < n → f w ≢ Some s) → borrowers f n s ≡ 0
borrowers_none f s zero h = refl
borrowers_none f s (suc n) h =
    let r : borrowers f n s ≡ 0 = borrowers_none f s n (λ w lt. h w (omega arith)) in
    let e : one (f n) s ≡ 0 = one_none (f n) s (h n (omega arith)) in λ i. e i + r i

sum_pos : (a b : ℕ) → (a ≡ 1) ⊎ (0 < b) → 0 < a + b
sum_pos a b h = grind arith

-- a borrower counts
pub borrowers_some : (f : ℕ → Option ℕ) (s w n : ℕ) → w < n → f w ≡ Some s → 0 < borrowers f n s
borrowers_some f s w zero lt h = absurd (omega arith)
borrowers_some f s w (suc n) lt h =
    let r = λ (k : w < n). borrowers_some f s w n k h in
    sum_pos (one (f n) s) (borrowers f n s)
    (elim (nat_cases w n) [ inl e ↦ inl (one_some (f n) s (subst (λ (k : ℕ). f k ≡ Some s) e h)) | inr e ↦ inr (r (omega arith)) ])
