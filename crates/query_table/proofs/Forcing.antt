-- What each step of a seat that forces a root leaves.
use Rattle.std.proofs.Common.{◌≡◌, ◌≢◌, ℕ, ◌<◌, Bool, true, false, List, [], ◌∷◌, ◌++◌, ◌⊎◌, inl, inr, refl, sym, subst, ap, ◌∙◌, arith}
use Rattle.std.specs.Prelude.{Option, Some, None, if◌then◌else◌, ◌==◌, nat_lt}
use Rattle.std.proofs.lemmas.Bool.Decides.{nat_tests}
use Rattle.atomic_table.specs.Seated.{TableId}
use Rattle.sched_core.specs.Plan.{Plan, IsLawful, has, next_need}
use Rattle.sched_core.specs.State.{Entry, below_top, give, next_of_top}
use Rattle.sched_core.proofs.Lists.{next_in, next_none, next_last, has_snoc, bool_tells, stolen_in}
use Rattle.query_table.specs.declared.view.View.{View}
use Rattle.query_table.specs.declared.table.Seat.{Seat}
use Rattle.query_table.specs.Rule.{last_root, failed_word}
use Rattle.query_table.specs.Steps.{without, with_top, claim_view, look_view, borrow_view, release_view, steal_view, publish_view, fail_view, AllSeenAs, IsRipe}
use Rattle.query_table.specs.Answers.{IsSeatOf}
use Rattle.query_table.specs.Chain.{Matches, HasTaken, Rising, StandsOn, IsForcing, IsGivingUp, IsIdle}
use Rattle.query_table.proofs.Chains.{stands_below, stands_alone, stands_more, rising_more, has_first}

-- what both outcomes of a test have
pub either_way : {A : Type 0} (b : Bool) (f : View → A) (x y : View) (a : A) → f x ≡ a → f y ≡ a → f (if b then x else y) ≡ a
either_way true f x y a h k = h
either_way false f x y a h k = k

-- a look changes neither stack nor borrow, nor what was stolen or drawn
look_stack : (v : View) (q found : ℕ) → (look_view v q found).stack ≡ v.stack
look_stack v q found = either_way (nat_lt found 2) (λ w. w.stack) _ _ v.stack refl (either_way (found == failed_word) (λ w. w.stack) _ _ v.stack refl refl)

look_borrow : (v : View) (q found : ℕ) → (look_view v q found).borrow ≡ v.borrow
look_borrow v q found = either_way (nat_lt found 2) (λ w. w.borrow) _ _ v.borrow refl (either_way (found == failed_word) (λ w. w.borrow) _ _ v.borrow refl refl)

look_thieves : (v : View) (q found : ℕ) → (look_view v q found).thieves ≡ v.thieves
look_thieves v q found = either_way (nat_lt found 2) (λ w. w.thieves) _ _ v.thieves refl (either_way (found == failed_word) (λ w. w.thieves) _ _ v.thieves refl refl)

look_drawn : (v : View) (q found : ℕ) → (look_view v q found).drawn ≡ v.drawn
look_drawn v q found = either_way (nat_lt found 2) (λ w. w.drawn) _ _ v.drawn refl (either_way (found == failed_word) (λ w. w.drawn) _ _ v.drawn refl refl)

-- a seat whose view kept these is still on its way
forcing_same : (p : Plan) (table : TableId) (q : ℕ) (s t : Seat) → IsForcing p table q s → IsSeatOf table t
    → t.token.me.0.stack ≡ s.token.me.0.stack → t.token.me.0.borrow ≡ s.token.me.0.borrow → t.token.me.0.thieves ≡ s.token.me.0.thieves
    → t.token.me.0.drawn ≡ s.token.me.0.drawn → IsForcing p table q t
forcing_same p table q s t f sits stack borrow thieves drawn = record {
  of_table = sits;
  root = ap (last_root p) drawn ∙ f.root;
  free = borrow ∙ f.free;
  thieves = thieves ∙ f.thieves;
  rising = subst (λ (es : List Entry). Rising p es) (sym stack) f.rising;
  stands = subst (λ (es : List Entry). StandsOn q es) (sym stack) f.stands;
}

pub match_at : {H : Type 0} (R : H → Entry → Type 0) (es fs : List Entry) (items : List H) → fs ≡ es → Matches R es items → Matches R fs items
match_at R es fs items same m = subst (λ (gs : List Entry). Matches R gs items) (sym same) m

-- after a look
pub forcing_looked : (p : Plan) (table : TableId) (q n found : ℕ) (s t : Seat) → IsForcing p table q s → IsSeatOf table t
    → t.token.me.0 ≡ look_view s.token.me.0 n found
    → IsForcing p table q t × (t.token.me.0.stack ≡ s.token.me.0.stack) × (t.token.me.0.drawn ≡ s.token.me.0.drawn)
forcing_looked p table q n found s t f sits step =
    let stack = ap (λ w. w.stack) step ∙ look_stack s.token.me.0 n found in
    let drawn = ap (λ w. w.drawn) step ∙ look_drawn s.token.me.0 n found in (
      forcing_same p table q s t f sits stack (ap (λ w. w.borrow) step ∙ look_borrow s.token.me.0 n found) (ap (λ w. w.thieves) step ∙ look_thieves s.token.me.0 n found) drawn,
      stack,
      drawn,
    )

-- a seat with something claimed may give up
pub giving_up : (p : Plan) (table : TableId) (q : ℕ) (t : Seat) (e : Entry) (rest : List Entry) → IsForcing p table q t → t.token.me.0.stack ≡ e ∷ rest → IsGivingUp table q t
giving_up p table q t e rest f top = record {
  of_table = f.of_table;
  free = f.free;
  thieves = f.thieves;
  stands = f.stands;
  failed = λ none. let both : e ∷ rest ≡ [] = sym top ∙ none in absurd (cc);
}

-- after a look that found the need failed
pub looked_failed : (p : Plan) (table : TableId) (q n : ℕ) (s t : Seat) → IsForcing p table q s → IsSeatOf table t
    → t.token.me.0 ≡ look_view s.token.me.0 n failed_word → next_of_top p s.token.me.0.stack (Some q) ≡ Some n → IsGivingUp table q t
looked_failed p table q n s t f sits step next =
    let looked = forcing_looked p table q n failed_word s t f sits step in
    let g = looked.0 in record {
      of_table = g.of_table;
      free = g.free;
      thieves = g.thieves;
      stands = g.stands;
      failed = λ none.
          let root : Some q ≡ Some n = ap (λ (es : List Entry). next_of_top p es (Some q)) (sym none ∙ looked.1) ∙ next in
          let same : q ≡ n = cc in
          ap (λ w. has q w.gone) step ∙ (subst (λ (r : ℕ). has r (n ∷ s.token.me.0.gone) ≡ true) (sym same) (has_first n s.token.me.0.gone));
    }

-- after a claim that was won
pub forcing_claimed : (p : Plan) → IsLawful p → (table : TableId) (q n found : ℕ) (s t : Seat) → IsForcing p table q s → IsSeatOf table t
    → t.token.me.0 ≡ claim_view s.token.me.0 n found → found ≡ 0 → next_of_top p s.token.me.0.stack (Some q) ≡ Some n
    → IsForcing p table q t × (t.token.me.0.stack ≡ (n, []) ∷ s.token.me.0.stack)
forcing_claimed p laws table q n found s t f sits step nought next =
    let v = s.token.me.0 in
    let won : t.token.me.0 ≡ claim_view v n 0 = step ∙ ap (claim_view v n) nought in
    let stack : t.token.me.0.stack ≡ (n, []) ∷ v.stack = ap (λ w. w.stack) won in (
      record {
        of_table = sits;
        root = ap (λ w. last_root p w.drawn) won ∙ f.root;
        free = ap (λ w. w.borrow) won ∙ f.free;
        thieves = ap (λ w. w.thieves) won ∙ f.thieves;
        rising = subst (λ (es : List Entry). Rising p es) (sym stack) (rising_more p laws q n v.stack next f.rising);
        stands = subst (λ (es : List Entry). StandsOn q es) (sym stack) (stands_more p q n v.stack next f.stands);
      },
      stack,
    )

-- after the latest claim was failed
pub gave_up : (table : TableId) (q c : ℕ) (given : List ℕ) (rest : List Entry) (s t : Seat) → StandsOn q s.token.me.0.stack
    → s.token.me.0.borrow ≡ None → without c s.token.me.0.thieves ≡ [] → IsSeatOf table t → t.token.me.0 ≡ fail_view s.token.me.0 c
    → s.token.me.0.stack ≡ (c, given) ∷ rest → IsGivingUp table q t × (t.token.me.0.stack ≡ rest)
gave_up table q c given rest s t stands free thieves sits step top =
    let v = s.token.me.0 in
    let stack : t.token.me.0.stack ≡ rest = ap (λ w. w.stack) step ∙ ap below_top top in
    let whole = subst (λ (es : List Entry). StandsOn q es) top stands in (
      record {
        of_table = sits;
        free = ap (λ w. w.borrow) step ∙ free;
        thieves = ap (λ w. w.thieves) step ∙ thieves;
        stands = subst (λ (es : List Entry). StandsOn q es) (sym stack) (stands_below q (c, given) rest whole);
        failed = λ none.
            let same = stands_alone q (c, given) rest whole (sym stack ∙ none) in
            ap (λ w. has q w.gone) step ∙ subst (λ (r : ℕ). has r (c ∷ v.gone) ≡ true) same (has_first c v.gone);
      },
      stack,
    )

rising_given : (p : Plan) (c : ℕ) (given more : List ℕ) (rest : List Entry) → Rising p ((c, given) ∷ rest) → Rising p ((c, more) ∷ rest)
rising_given p c given more rest r = (r.0, r.1)

stands_given : (q c : ℕ) (given more : List ℕ) (rest : List Entry) → StandsOn q ((c, given) ∷ rest) → StandsOn q ((c, more) ∷ rest)
stands_given q c given more [] h = h
stands_given q c given more (e ∷ es) h = h

-- after the latest claim's need was borrowed and released
pub forcing_given : (p : Plan) (table : TableId) (q c n found again : ℕ) (given : List ℕ) (rest : List Entry) (s u t : Seat)
    → IsForcing p table q s → s.token.me.0.stack ≡ (c, given) ∷ rest → u.token.me.0 ≡ borrow_view s.token.me.0 n found → IsSeatOf table t
    → t.token.me.0 ≡ release_view u.token.me.0 n again
    → IsForcing p table q t × (t.token.me.0.stack ≡ (c, given ++ n ∷ []) ∷ rest) × (t.token.me.0.drawn ≡ s.token.me.0.drawn)
forcing_given p table q c n found again given rest s u t f top lent sits back =
    let v = s.token.me.0 in
    let both : t.token.me.0 ≡ release_view (borrow_view v n found) n again = back ∙ ap (λ w. release_view w n again) lent in
    let stack : t.token.me.0.stack ≡ (c, given ++ n ∷ []) ∷ rest = ap (λ w. w.stack) both ∙ ap (give n) top in (
      record {
        of_table = sits;
        root = ap (λ w. last_root p w.drawn) both ∙ f.root;
        free = ap (λ w. w.borrow) both;
        thieves = ap (λ w. w.thieves) both ∙ f.thieves;
        rising = subst (λ (es : List Entry). Rising p es) (sym stack) (rising_given p c given (given ++ n ∷ []) rest (subst (λ (es : List Entry). Rising p es) top f.rising));
        stands = subst (λ (es : List Entry). StandsOn q es) (sym stack) (stands_given q c given (given ++ n ∷ []) rest (subst (λ (es : List Entry). StandsOn q es) top f.stands));
      },
      stack,
      ap (λ w. w.drawn) both,
    )

-- what is not to be given still wasn't
pub kept_more : (given : List ℕ) (n s : ℕ) → has s given ≡ false → s ≢ n → has s (given ++ n ∷ []) ≡ false
kept_more given n s out other = elim (bool_tells (has s (given ++ n ∷ []))) [
  | inl here ↦ (elim (has_snoc given n s here) [ inl old ↦ absurd (let both : true ≡ false = sym old ∙ out in cc) | inr same ↦ absurd (other same) ])
  | inr none ↦ none
]

without_all : (q : ℕ) → without q (q ∷ []) ≡ []
without_all q = grind (arith, nat_tests)

-- where nothing is stolen
pub took_nothing : (p : Plan) (v : View) (q : ℕ) → v.thieves ≡ [] → p.steals q ≡ None → HasTaken p v v q
took_nothing p v q thieves none = record {
  stack = refl;
  free = refl;
  seen = refl;
  drawn = refl;
  taken = λ s steals. let both : None ≡ Some s = sym none ∙ steals in absurd (cc);
  others = ap (without q) thieves;
}

-- where a slot is stolen
pub took_one : (p : Plan) (v w : View) (q n : ℕ) (given : List ℕ) (rest : List Entry) → v.thieves ≡ [] → v.stack ≡ (q, given) ∷ rest → w ≡ steal_view v n 2 → HasTaken p v w q
took_one p v w q n given rest thieves top step =
    let now : w.thieves ≡ q ∷ [] = ap (λ x. x.thieves) step ∙ (ap (λ (es : List Entry). with_top es v.thieves) top ∙ ap (λ (qs : List ℕ). q ∷ qs) thieves) in record {
      stack = ap (λ x. x.stack) step;
      free = ap (λ x. x.borrow) step;
      seen = ap (λ x. x.seen) step;
      drawn = ap (λ x. x.drawn) step;
      taken = λ s steals. ap (has q) now ∙ has_first q [];
      others = ap (without q) now ∙ without_all q;
    }

-- the latest claim is ripe once what it steals was taken
pub ripe_taken : (p : Plan) (v w : View) (q : ℕ) (given : List ℕ) (rest : List Entry) → HasTaken p v w q → v.stack ≡ (q, given) ∷ rest → v.borrow ≡ None → AllSeenAs p v q given → IsRipe p w q
ripe_taken p v w q given rest h top free all = record {
  given = given;
  rest = rest;
  top = h.stack ∙ top;
  all_seen = (all.0, λ s steals. ap (has s) h.seen ∙ all.1 s steals);
  taken = h.taken;
  free = h.free ∙ free;
}

-- after the latest claim was published
pub forcing_published : (p : Plan) (table : TableId) (q c : ℕ) (given : List ℕ) (rest : List Entry) (s u t : Seat) → IsForcing p table q s
    → s.token.me.0.stack ≡ (c, given) ∷ rest → HasTaken p s.token.me.0 u.token.me.0 c → IsSeatOf table t → t.token.me.0 ≡ publish_view u.token.me.0 c
    → IsForcing p table q t × (t.token.me.0.stack ≡ rest) × (t.token.me.0.drawn ≡ s.token.me.0.drawn)
forcing_published p table q c given rest s u t f top h sits step =
    let stack : t.token.me.0.stack ≡ rest = ap (λ w. w.stack) step ∙ ap below_top (h.stack ∙ top) in
    let drawn : t.token.me.0.drawn ≡ s.token.me.0.drawn = ap (λ w. w.drawn) step ∙ h.drawn in
    let rising = subst (λ (es : List Entry). Rising p es) top f.rising in (
      record {
        of_table = sits;
        root = ap (last_root p) drawn ∙ f.root;
        free = ap (λ w. w.borrow) step ∙ (h.free ∙ f.free);
        thieves = ap (λ w. w.thieves) step ∙ h.others;
        rising = subst (λ (es : List Entry). Rising p es) (sym stack) rising.1;
        stands = subst (λ (es : List Entry). StandsOn q es) (sym stack) (stands_below q (c, given) rest (subst (λ (es : List Entry). StandsOn q es) top f.stands));
      },
      stack,
      drawn,
    )

-- the root was the one claim, and is published
pub published_root : (q c : ℕ) (given : List ℕ) (rest : List Entry) (s u t : Seat) → StandsOn q s.token.me.0.stack → s.token.me.0.stack ≡ (c, given) ∷ rest
    → t.token.me.0 ≡ publish_view u.token.me.0 c → rest ≡ [] → has q t.token.me.0.seen ≡ true
published_root q c given rest s u t stands top step none =
    let same = stands_alone q (c, given) rest (subst (λ (es : List Entry). StandsOn q es) top stands) none in
    ap (λ w. has q w.seen) step ∙ subst (λ (r : ℕ). has r (c ∷ u.token.me.0.seen) ≡ true) same (has_first c u.token.me.0.seen)

pub idle_of : (p : Plan) (table : TableId) (q : ℕ) (t : Seat) → IsForcing p table q t → t.token.me.0.stack ≡ [] → IsIdle table t
idle_of p table q t f empty = record {
  of_table = f.of_table;
  empty = empty;
  free = f.free;
  thieves = f.thieves;
}

-- nothing is left to be read: all needs were seen
pub all_seen : (p : Plan) → IsLawful p → (v : View) (c : ℕ) (given : List ℕ) (need : Option ℕ) → next_need (p.needs c) given ≡ need
    → (need ≡ None) ⊎ (p.steals c ≡ need) → ((n : ℕ) → need ≡ Some n → has n v.seen ≡ true) → ((s : ℕ) → p.steals c ≡ Some s → has s given ≡ false)
    → AllSeenAs p v c given
all_seen p laws v c given None next last seen kept = (
  (λ n here other. next_none (p.needs c) given next n here),
  (λ s steals. let both : true ≡ false = sym (next_none (p.needs c) given next s (stolen_in p laws c s steals)) ∙ kept s steals in absurd (cc)),
)
all_seen p laws v c given (Some n) next last seen kept = elim last [
  | inl none ↦ absurd (cc)
  | inr steals ↦ (
      let l = laws.stolen_last n c steals in
      let next' : next_need (l.0 ++ n ∷ []) given ≡ Some n = ap (λ (ns : List ℕ). next_need ns given) (sym l.1) ∙ next in (
        (λ m here other. elim (has_snoc l.0 n m (ap (has m) (sym l.1) ∙ here)) [
          | inl before ↦ next_last l.0 n given l.2 next' m before
          | inr same ↦ absurd (other (steals ∙ ap (λ (x : ℕ). Some x) (sym same)))
        ]),
        (λ s again. let both : Some n ≡ Some s = sym steals ∙ again in let same : n ≡ s = cc in seen s (ap (λ (x : ℕ). Some x) same)),
      ))
]

-- the next need is a query
pub next_below : {H : Type 0} (p : Plan) → IsLawful p → (R : H → Entry → Type 0) → ((h : H) (e : Entry) → R h e → e.0 < p.queries) → (q n : ℕ) (es : List Entry) (items : List H)
    → Matches R es items → q < p.queries → next_of_top p es (Some q) ≡ Some n → n < p.queries
next_below p laws R below q n [] items m lt next = let same : q ≡ n = cc in subst (λ (x : ℕ). x < p.queries) same lt
next_below p laws R below q n (e ∷ es) items m lt next = laws.needs_below e.0 n (below m.0 e m.1.1.1) (next_in (p.needs e.0) e.1 n next)

-- a drawn root is a query
pub last_root_below : (p : Plan) → IsLawful p → (drawn : List ℕ) (q : ℕ) → last_root p drawn ≡ Some q → q < p.queries
last_root_below p laws [] q h = absurd (cc)
last_root_below p laws (n ∷ ns) q h = let r = last_root_below p laws ns q in let below = laws.roots_below n in grind (arith, nat_tests, r, below)

-- a seat that has just drawn its root
pub forcing_first : (p : Plan) (table : TableId) (q : ℕ) (s : Seat) → IsIdle table s → last_root p s.token.me.0.drawn ≡ Some q → IsForcing p table q s
forcing_first p table q s i root = record {
  of_table = i.of_table;
  root = root;
  free = i.free;
  thieves = i.thieves;
  rising = subst (λ (es : List Entry). Rising p es) (sym i.empty) tt;
  stands = subst (λ (es : List Entry). StandsOn q es) (sym i.empty) tt;
}
