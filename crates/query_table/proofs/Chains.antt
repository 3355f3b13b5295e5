-- Claims in a list and the stack of a seat's view.
use Rattle.std.proofs.Common.{◌≡◌, ◌≢◌, ℕ, Bool, true, false, List, [], ◌∷◌, ◌++◌, length, inl, inr, refl, sym, subst, ap, ◌∙◌, arith}
use Rattle.std.specs.Prelude.{Some, None, slice_get, ◌-◌}
use Rattle.std.proofs.lemmas.List.{length_push}
use Rattle.std.proofs.lemmas.Option.{slice_get-get_or}
use Rattle.std.proofs.Math.Seq.{get_or-append_seam}
use Rattle.std.proofs.lemmas.Bool.Decides.{nat_tests}
use Rattle.sched_core.specs.Plan.{Plan, IsLawful, has}
use Rattle.sched_core.specs.State.{Entry, queries_of, next_of_top}
use Rattle.sched_core.proofs.Lists.{next_in, has_tells}
use Rattle.query_table.specs.Chain.{Matches, Rising, StandsOn}

-- the last items of equal lists are equal, and what is before them
snoc_both : {H : Type 0} (xs ys : List H) (x y : H) → xs ++ x ∷ [] ≡ ys ++ y ∷ [] → (xs ≡ ys) × (x ≡ y)
snoc_both [] [] x y h = (refl, (cc))
snoc_both [] (b ∷ []) x y h = absurd (cc)
snoc_both [] (b ∷ c ∷ ys) x y h = absurd (cc)
snoc_both (a ∷ []) [] x y h = absurd (cc)
snoc_both (a ∷ c ∷ xs) [] x y h = absurd (cc)
snoc_both (a ∷ xs) (b ∷ ys) x y h =
    let tails : xs ++ x ∷ [] ≡ ys ++ y ∷ [] = cc in
    let heads : a ≡ b = cc in
    let (same, last) = snoc_both xs ys x y tails in
    ((λ i. heads i ∷ same i), last)

snoc_some : {H : Type 0} (xs : List H) (x : H) → xs ++ x ∷ [] ≢ []
snoc_some [] x h = cc
snoc_some (a ∷ xs) x h = cc

-- the latest claim matches the top
pub match_top : {H : Type 0} (R : H → Entry → Type 0) (es : List Entry) (items hs : List H) (h : H) → Matches R es items → items ≡ hs ++ h ∷ []
    → (e : Entry) × ((rest : List Entry) × ((es ≡ e ∷ rest) × R h e × Matches R rest hs))
match_top R [] items hs h m same = absurd (snoc_some hs h (sym same ∙ m))
match_top {H = H} R (e ∷ es) items hs h m same =
    let both = snoc_both m.1.0 hs m.0 h (sym m.1.1.0 ∙ same) in
    (e, (es, (refl, subst (λ (x : H). R x e) both.1 m.1.1.1, subst (λ (xs : List H). Matches R es xs) both.0 m.1.1.2)))

-- where nothing is claimed the stack is empty
pub match_none : {H : Type 0} (R : H → Entry → Type 0) (es : List Entry) (items : List H) → Matches R es items → items ≡ [] → es ≡ []
match_none R [] items m none = refl
match_none R (e ∷ es) items m none = absurd (snoc_some m.1.0 m.0 (sym m.1.1.0 ∙ none))

pub match_empty : {H : Type 0} (R : H → Entry → Type 0) (es : List Entry) (items : List H) → Matches R es items → es ≡ [] → items ≡ []
match_empty R [] items m none = m
match_empty R (e ∷ es) items m none = absurd (cc)

-- one more claim on top
pub match_more : {H : Type 0} (R : H → Entry → Type 0) (es : List Entry) (items hs : List H) (h : H) (e : Entry) → Matches R es hs → items ≡ hs ++ h ∷ [] → R h e → Matches R (e ∷ es) items
match_more R es items hs h e m same r = (h, (hs, (same, r, m)))

-- what matches in one way matches in a weaker one
pub match_weaker : {H : Type 0} (R S : H → Entry → Type 0) → ((h : H) (e : Entry) → R h e → S h e) → (es : List Entry) (items : List H) → Matches R es items → Matches S es items
match_weaker R S weaker [] items m = m
match_weaker R S weaker (e ∷ es) items m = (m.0, (m.1.0, (m.1.1.0, weaker m.0 e m.1.1.1, match_weaker R S weaker es m.1.0 m.1.1.2)))

pub stands_below : (q : ℕ) (e : Entry) (es : List Entry) → StandsOn q (e ∷ es) → StandsOn q es
stands_below q e [] h = tt
stands_below q e (f ∷ es) h = h

-- the one entry is that of the root
pub stands_alone : (q : ℕ) (e : Entry) (es : List Entry) → StandsOn q (e ∷ es) → es ≡ [] → e.0 ≡ q
stands_alone q e [] h none = h
stands_alone q e (f ∷ es) h none = absurd (cc)

-- a claim of the next need stands on the same root
pub stands_more : (p : Plan) (q n : ℕ) (es : List Entry) → next_of_top p es (Some q) ≡ Some n → StandsOn q es → StandsOn q ((n, []) ∷ es)
stands_more p q n [] next h = (cc)
stands_more p q n (e ∷ es) next h = h

pub none_left : {H : Type 0} (items : List H) → length items ≡ 0 → items ≡ []
none_left [] h = refl
none_left (x ∷ xs) h = absurd (omega arith)

pub has_first : (q : ℕ) (qs : List ℕ) → has q (q ∷ qs) ≡ true
has_first q qs = grind (arith, nat_tests)

has_not : (q : ℕ) (qs : List ℕ) → (has q qs ≡ true → ⊥) → has q qs ≡ false
has_not q qs never = go (has q qs) refl
  where
    go : (b : Bool) → has q qs ≡ b → has q qs ≡ false
    go true e = absurd (never e)
    go false e = e

-- the next need isn't claimed by the seat itself
pub next_not_own : (p : Plan) → IsLawful p → (q n : ℕ) (es : List Entry) → next_of_top p es (Some q) ≡ Some n → Rising p es → has n (queries_of es) ≡ false
next_not_own p laws q n [] next rising = refl
next_not_own p laws q n (e ∷ es) next rising =
    let lower = laws.no_cycle e.0 n (next_in (p.needs e.0) e.1 n next) in
    has_not n (e.0 ∷ queries_of es) (λ own. elim (has_tells n e.0 (queries_of es) own) [
      | inl same ↦ (let again : p.rank n ≡ p.rank e.0 = ap p.rank same in omega arith)
      | inr there ↦ (let above = rising.0 n there in omega arith)
    ])

-- a claim of the next need keeps the ranks rising
pub rising_more : (p : Plan) → IsLawful p → (q n : ℕ) (es : List Entry) → next_of_top p es (Some q) ≡ Some n → Rising p es → Rising p ((n, []) ∷ es)
rising_more p laws q n [] next rising = ((λ r own. absurd (cc)), tt)
rising_more p laws q n (e ∷ es) next rising =
    let lower = laws.no_cycle e.0 n (next_in (p.needs e.0) e.1 n next) in (
      (λ r own. elim (has_tells r e.0 (queries_of es) own) [
        | inl same ↦ (let again : p.rank r ≡ p.rank e.0 = ap p.rank same in omega arith)
        | inr there ↦ (let above = rising.0 r there in omega arith)
      ]),
      rising,
    )

last_is : {H : Type 0} (hs : List H) (h : H) → slice_get (hs ++ h ∷ []) (length (hs ++ h ∷ []) - 1) ≡ Some h
last_is hs h =
    let long = length_push hs h in
    let n : length (hs ++ h ∷ []) - 1 ≡ length hs = omega (arith, long) in
    ap (slice_get (hs ++ h ∷ [])) n ∙ (slice_get-get_or (hs ++ h ∷ []) (length hs) h (omega (arith, long)) ∙ ap (λ x. Some x) (get_or-append_seam hs h [] h))

-- the latest claim, read by its index, matches the top
pub match_last : {H : Type 0} (R : H → Entry → Type 0) (es : List Entry) (items : List H) (h : H) → Matches R es items → Some h ≡ slice_get items (length items - 1)
    → (e : Entry) × ((rest : List Entry) × ((es ≡ e ∷ rest) × R h e))
match_last {H = H} R [] items h m at = let none : slice_get items (length items - 1) ≡ None = ap (λ (xs : List H). slice_get xs (length xs - 1)) m in let both : Some h ≡ None = at ∙ none in absurd (cc)
match_last {H = H} R (e ∷ es) items h m at =
    let here : slice_get items (length items - 1) ≡ Some m.0 = ap (λ (xs : List H). slice_get xs (length xs - 1)) m.1.1.0 ∙ last_is m.1.0 m.0 in
    let both : Some h ≡ Some m.0 = at ∙ here in
    let same : h ≡ m.0 = cc in
    (e, (es, (refl, subst (λ (x : H). R x e) (sym same) m.1.1.1)))

-- a top by its parts
pub top_is : (e : Entry) (c : ℕ) (given : List ℕ) (rest es : List Entry) → es ≡ e ∷ rest → e.0 ≡ c → e.1 ≡ given → es ≡ (c, given) ∷ rest
top_is e c given rest es h a b = h ∙ (λ i. (a i, b i) ∷ rest)
