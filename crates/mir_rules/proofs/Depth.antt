-- In a crate in which no definition holds itself by value, definitions inside one another are at most as deep as their number. So what is
-- defined to the depth of that number no longer changes with more depth.
use Rattle.std.proofs.Common.{◌≡◌, ◌⊎◌, inl, inr, refl, sym, ap, ◌∙◌, subst, ℕ, zero, suc, ◌+◌, ◌-◌, ◌<◌, ◌≤◌, Bool, true, false, ◌||◌, ◌==◌, List, [], ◌∷◌, length, Option, Some, None, is_some, slice_get, arith}
use Rattle.std.proofs.Common.{eqb-true, eq-eqb}
use Rattle.std.specs.List.{AllByRecursion, IsDistinct, list_any}
use Rattle.std.proofs.lemmas.Map.Steps.{length-le_from_distinct_below}
use Rattle.std.proofs.lemmas.Option.{slice_get_within}
use Rattle.std.proofs.lemmas.Bool.{or_cases, or_right, or_left}
use Rattle.mir_syntax.specs.Tree.{Tree, more, named}
use Rattle.mir_syntax.specs.Shapes.{Shape, needs_by, any_needs}
use Rattle.mir_rules.specs.DefinitionRules.{holds_one, holds}

or_map : (a b c d : Bool) → (a ≡ true → c ≡ true) → (b ≡ true → d ≡ true) → (a || b) ≡ true → (c || d) ≡ true
or_map true b c d f g e = or_left c d (f refl)
or_map false b c d f g e = or_right c d (g e)

-- ---- what a definition names by value

module _ (p q : ℕ → Bool) (f : (k : ℕ) → p k ≡ true → q k ≡ true) where
  by_mono : (t : Tree) → needs_by p t ≡ true → needs_by q t ≡ true
  by_mono (more t ts) h = or_map (needs_by p t) (needs_by p ts) (needs_by q t) (needs_by q ts) (by_mono t) (by_mono ts) h
  by_mono (named d) h = f d h
  by_mono t h = absurd (grind arith)

  pub any_mono : (ts : List Tree) → any_needs p ts ≡ true → any_needs q ts ≡ true
  any_mono [] h = absurd (grind arith)
  any_mono (t ∷ ts) h = or_map (needs_by p t) (any_needs p ts) (needs_by q t) (any_needs q ts) (by_mono t) (any_mono ts) h

  pub one_mono : (o : Option Shape) → holds_one p o ≡ true → holds_one q o ≡ true
  one_mono None h = absurd (grind arith)
  one_mono (Some s) h = any_mono s.variants h

-- one that it names passes the test
module _ (p : ℕ → Bool) where
  by_one : (t : Tree) → needs_by p t ≡ true → (k : ℕ) × (p k ≡ true) × (needs_by (λ j. j == k) t ≡ true)
  by_one (more t ts) h = go (or_cases (needs_by p t) (needs_by p ts) h) (λ e. by_one t e) (λ e. by_one ts e)
    where
      go : (needs_by p t ≡ true) ⊎ (needs_by p ts ≡ true) → (needs_by p t ≡ true → (k : ℕ) × (p k ≡ true) × (needs_by (λ j. j == k) t ≡ true)) → (needs_by p ts ≡ true → (k : ℕ) × (p k ≡ true) × (needs_by (λ j. j == k) ts ≡ true)) → (k : ℕ) × (p k ≡ true) × ((needs_by (λ j. j == k) t || needs_by (λ j. j == k) ts) ≡ true)
      go (inl e) f g = let (k, pk, n) = f e in (k, pk, or_left (needs_by (λ j. j == k) t) (needs_by (λ j. j == k) ts) n)
      go (inr e) f g = let (k, pk, n) = g e in (k, pk, or_right (needs_by (λ j. j == k) t) (needs_by (λ j. j == k) ts) n)
  by_one (named d) h = (d, h, eq-eqb d d refl)
  by_one t h = absurd (grind arith)

  any_one : (ts : List Tree) → any_needs p ts ≡ true → (k : ℕ) × (p k ≡ true) × (any_needs (λ j. j == k) ts ≡ true)
  any_one [] h = absurd (grind arith)
  any_one (t ∷ ts) h = go (or_cases (needs_by p t) (any_needs p ts) h) (λ e. any_one ts e)
    where
      go : (needs_by p t ≡ true) ⊎ (any_needs p ts ≡ true) → (any_needs p ts ≡ true → (k : ℕ) × (p k ≡ true) × (any_needs (λ j. j == k) ts ≡ true)) → (k : ℕ) × (p k ≡ true) × ((needs_by (λ j. j == k) t || any_needs (λ j. j == k) ts) ≡ true)
      go (inl e) g = let (k, pk, n) = by_one t e in (k, pk, or_left (needs_by (λ j. j == k) t) (any_needs (λ j. j == k) ts) n)
      go (inr e) g = let (k, pk, n) = g e in (k, pk, or_right (needs_by (λ j. j == k) t) (any_needs (λ j. j == k) ts) n)

  pub one_one : (o : Option Shape) → holds_one p o ≡ true → (k : ℕ) × (p k ≡ true) × (holds_one (λ j. j == k) o ≡ true)
  one_one None h = absurd (grind arith)
  one_one (Some s) h = any_one s.variants h

module _ (D : List Shape) where
  -- d names e by value
  abbrev pub Names : ℕ → ℕ → Type 0
  Names d e = holds_one (λ j. j == e) (slice_get D d) ≡ true

  pub there : (p : ℕ → Bool) (d : ℕ) (o : Option Shape) → slice_get D d ≡ o → holds_one p o ≡ true → d < length D
  there p d None e h = absurd (grind arith)
  there p d (Some s) e h = slice_get_within D d s e

  -- ---- reached in so many steps

  names_reach : (n d e : ℕ) → Names d e → holds D (suc n) e d ≡ true
  names_reach n d e h = one_mono (λ j. j == e) (λ j. j == e || holds D n e j) (λ k x. or_left (k == e) (holds D n e k) x) (slice_get D d) h

  reach_more : (n d e : ℕ) → holds D n e d ≡ true → holds D (suc n) e d ≡ true
  reach_more zero d e h = absurd (grind arith)
  reach_more (suc n) d e h =
      one_mono (λ j. j == e || holds D n e j) (λ j. j == e || holds D (suc n) e j)
      (λ k x. or_map (k == e) (holds D n e k) (k == e) (holds D (suc n) e k) (λ y. y) (reach_more n k e) x) (slice_get D d) h

  reach_within : (m n d e : ℕ) → holds D n e d ≡ true → holds D (m + n) e d ≡ true
  reach_within zero n d e h = let z : zero + n ≡ n = omega arith in rw z h
  reach_within (suc m) n d e h = let z : suc m + n ≡ suc (m + n) = omega arith in rw z (reach_more (m + n) d e (reach_within m n d e h))

  -- a step after those
  reach_after : (n d e f : ℕ) → holds D n e d ≡ true → Names e f → holds D (suc n) f d ≡ true
  reach_after zero d e f h k = absurd (grind arith)
  reach_after (suc n) d e f h k =
      one_mono (λ j. j == e || holds D n e j) (λ j. j == f || holds D (suc n) f j)
      (λ j x. or_right (j == f) (holds D (suc n) f j) (next j (or_cases (j == e) (holds D n e j) x) (λ y. reach_after n j e f y k)))
      (slice_get D d) h
    where
      next : (j : ℕ) → ((j == e) ≡ true) ⊎ (holds D n e j ≡ true) → (holds D n e j ≡ true → holds D (suc n) f j ≡ true) → holds D (suc n) f j ≡ true
      next j (inl same) far = let z : j ≡ e = eqb-true j e same in rw z (names_reach n e f k)
      next j (inr h) far = far h

  -- ---- chains

  -- each names the next, and the last is there
  abbrev Chain : ℕ → List ℕ → Type 0
  Chain d [] = is_some (slice_get D d) ≡ true
  Chain d (e ∷ rest) = Names d e × Chain e rest

  -- so many definitions stand inside one another below this one
  abbrev pub is_deep : ℕ → ℕ → Bool
  is_deep zero d = is_some (slice_get D d)
  is_deep (suc n) d = holds_one (is_deep n) (slice_get D d)

  chain_below : (n d : ℕ) → is_deep n d ≡ true → (rest : List ℕ) × (length rest ≡ n) × Chain d rest
  chain_below zero d h = ([], refl, h)
  chain_below (suc n) d h =
      let (k, deep, names) = one_one (is_deep n) (slice_get D d) h in
      let (rest, long, chain) = chain_below n k deep in
      (k ∷ rest, ap suc long, (names, chain))

  some_there : (d : ℕ) (o : Option Shape) → slice_get D d ≡ o → is_some o ≡ true → d < length D
  some_there d None e h = absurd (grind arith)
  some_there d (Some s) e h = slice_get_within D d s e

  chain_there : (d : ℕ) (rest : List ℕ) → Chain d rest → (q : ℕ) → list_any (λ y. q == y) (d ∷ rest) ≡ true → q < length D
  chain_there d [] chain q h = go (or_cases (q == d) false h)
    where
      go : ((q == d) ≡ true) ⊎ (false ≡ true) → q < length D
      go (inl same) = let z : q ≡ d = eqb-true q d same in rw z (some_there d (slice_get D d) refl chain)
      go (inr none) = absurd (grind arith)
  chain_there d (e ∷ rest) chain q h = go (or_cases (q == d) (list_any (λ y. q == y) (e ∷ rest)) h) (chain_there e rest chain.1 q)
    where
      go : ((q == d) ≡ true) ⊎ (list_any (λ y. q == y) (e ∷ rest) ≡ true) → (list_any (λ y. q == y) (e ∷ rest) ≡ true → q < length D) → q < length D
      go (inl same) later = let z : q ≡ d = eqb-true q d same in rw z (there (λ j. j == e) d (slice_get D d) refl chain.0)
      go (inr far) later = later far

  -- ---- no definition holds itself

  module _ (apart : (d : ℕ) → holds D (length D) d d ≡ false) where
    not_reached : (n d e : ℕ) → n ≤ length D → holds D n e d ≡ true → (d == e) ≡ false
    not_reached n d e below h = go (d == e) refl
      where
        go : (b : Bool) → (d == e) ≡ b → b ≡ false
        go true same =
            let z : d ≡ e = eqb-true d e same in
            let m : (length D - n) + n ≡ length D = omega arith in
            let self : holds D (length D) d d ≡ true = rw m at (reach_within (length D - n) n d d (subst (λ x. holds D n x d ≡ true) (sym z) h)) in
            absurd (let k : true ≡ false = sym self ∙ apart d in grind arith)
        go false same = refl

    rest_apart : (d e : ℕ) (rest : List ℕ) (n : ℕ) → n + length rest ≤ length D → holds D n e d ≡ true → Chain e rest → AllByRecursion (λ y. (d == y) ≡ false) (e ∷ rest)
    rest_apart d e [] n below h chain = (not_reached n d e (omega arith) h, tt)
    rest_apart d e (f ∷ rest) n below h chain = (not_reached n d e (omega arith) h, rest_apart d f rest (suc n) (omega arith) (reach_after n d e f h chain.0) chain.1)

    chain_distinct : (d : ℕ) (rest : List ℕ) → length rest ≤ length D → Chain d rest → IsDistinct ◌==◌ (d ∷ rest)
    unfolding IsDistinct
    chain_distinct d [] below chain = (tt, tt)
    chain_distinct d (e ∷ rest) below chain = (rest_apart d e rest 1 (omega arith) (names_reach 0 d e chain.0) chain.1, chain_distinct e rest (omega arith) chain.1)

    -- no definition is as deep as there are definitions
    pub not_deep : (d : ℕ) → is_deep (length D) d ≡ false
    not_deep d = go (is_deep (length D) d) refl
      where
        go : (b : Bool) → is_deep (length D) d ≡ b → b ≡ false
        go false e = refl
        go true e =
            let (rest, long, chain) = chain_below (length D) d e in
            let few = length-le_from_distinct_below (d ∷ rest) (length D) (chain_distinct d rest (omega (arith, long)) chain) (chain_there d rest chain) in
            absurd (omega (arith, long, few))
