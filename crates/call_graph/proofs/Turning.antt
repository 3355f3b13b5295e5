-- Blocks go round where an edge joins two of one component.
use Rattle.std.proofs.Common.{◌≡◌, ◌≢◌, refl, sym, ap, subst, ◌∙◌, ℕ, zero, suc, ◌+◌, ◌<◌, ◌≤◌, Bool, true, false, ◌==◌, ◌||◌, cond, List, [], ◌∷◌, ◌++◌, map, length, get_or, ◌⊎◌, inl, inr, arith}
use Rattle.std.specs.List.{list_any, range_with_len, flat_map, filter}
use Rattle.std.proofs.lemmas.Bool.Decides.{nat_tests}
use Rattle.std.proofs.lemmas.Bool.{eq-eqb}
use Rattle.std.proofs.lemmas.List.{length-map, get_or-map, get_or_past, map-id}
use Rattle.std.proofs.lemmas.List.FromFn.{get_or-range_with_len, length-range_with_len}
use Rattle.bit_rows.specs.Rows.{stands}
use Rattle.mir_syntax.specs.declared.body.Block.{Block}
use Rattle.mir_syntax.specs.declared.body.Term.{Term}
use Rattle.mir_cfg.specs.Paths.{exits, block_term, Closed, edges_between, sources}
use Rattle.call_graph.specs.Graph.{Graph, Chain, Reaches, IsComponents, HasLists, StaysInside, component_in}
use Rattle.call_graph.specs.Qualif.{goes_on, has_cycle}
use Rattle.call_graph.specs.Search.{is_with, turns}
use Rattle.call_graph.proofs.Once.{bool_tells, both, stands_cases, stands_first, stands_later, stands_append, stands_left, stands_right}
use Rattle.call_graph.proofs.Rising.{stands_at, stands_where}

-- ---- lists

any_of : (p : ℕ → Bool) (xs : List ℕ) (x : ℕ) → stands x xs ≡ true → p x ≡ true → list_any p xs ≡ true
any_of p [] x s e = absurd (cc)
any_of p (y ∷ xs) x s e = go (stands_cases x y xs s) (any_of p xs x)
  where
    go : (x ≡ y) ⊎ (stands x xs ≡ true) → (stands x xs ≡ true → p x ≡ true → list_any p xs ≡ true) → (p y || list_any p xs) ≡ true
    go (inl k) r = let h : p y ≡ true = subst (λ z. p z ≡ true) k e in grind arith
    go (inr k) r = let h = r k e in grind arith

any_where : (p : ℕ → Bool) (xs : List ℕ) → list_any p xs ≡ true → (x : ℕ) × (stands x xs ≡ true) × (p x ≡ true)
any_where p [] e = absurd (cc)
any_where p (y ∷ xs) e = go (bool_tells (p y)) (any_where p xs)
  where
    go : (p y ≡ true) ⊎ (p y ≡ false) → (list_any p xs ≡ true → (x : ℕ) × (stands x xs ≡ true) × (p x ≡ true)) → (x : ℕ) × (stands x (y ∷ xs) ≡ true) × (p x ≡ true)
    go (inl k) r = (y, stands_first y xs, k)
    go (inr k) r = let h = r (grind arith) in (h.0, stands_later h.0 y xs h.1, h.2)

flat_of : (f : ℕ → List ℕ) (xs : List ℕ) (x y : ℕ) → stands y xs ≡ true → stands x (f y) ≡ true → stands x (flat_map f xs) ≡ true
flat_of f [] x y s e = absurd (cc)
flat_of f (z ∷ xs) x y s e = go (stands_cases y z xs s) (flat_of f xs x y)
  where
    go : (y ≡ z) ⊎ (stands y xs ≡ true) → (stands y xs ≡ true → stands x (f y) ≡ true → stands x (flat_map f xs) ≡ true) → stands x (f z ++ flat_map f xs) ≡ true
    go (inl k) r = stands_left x (f z) (flat_map f xs) (subst (λ w. stands x (f w) ≡ true) k e)
    go (inr k) r = stands_right x (f z) (flat_map f xs) (r k e)

flat_where : (f : ℕ → List ℕ) (xs : List ℕ) (x : ℕ) → stands x (flat_map f xs) ≡ true → (y : ℕ) × (stands y xs ≡ true) × (stands x (f y) ≡ true)
flat_where f [] x e = absurd (cc)
flat_where f (z ∷ xs) x e = go (stands_append x (f z) (flat_map f xs) e) (flat_where f xs x)
  where
    go : (stands x (f z) ≡ true) ⊎ (stands x (flat_map f xs) ≡ true) → (stands x (flat_map f xs) ≡ true → (y : ℕ) × (stands y xs ≡ true) × (stands x (f y) ≡ true)) → (y : ℕ) × (stands y (z ∷ xs) ≡ true) × (stands x (f y) ≡ true)
    go (inl k) r = (z, stands_first z xs, k)
    go (inr k) r = let h = r k in (h.0, stands_later h.0 z xs h.1, h.2)

range_has : (n x : ℕ) → x < n → stands x (range_with_len 0 n) ≡ true
range_has n x l =
    subst (λ y. stands y (range_with_len 0 n) ≡ true) (get_or-range_with_len 0 n x 0 l ∙ (let z : 0 + x ≡ x = omega arith in z))
    (stands_at (range_with_len 0 n) x (let k = length-range_with_len 0 n in omega (arith, k, l)))

range_low : (n x : ℕ) → stands x (range_with_len 0 n) ≡ true → x < n
range_low n x e =
    let w = stands_where x (range_with_len 0 n) e in
    let l : w.0 < n = (let k = length-range_with_len 0 n in let m = w.1 in omega (arith, k, m)) in
    let s = sym (get_or-range_with_len 0 n w.0 0 l) ∙ w.2 in
    omega (arith, s, l)

pub some_below : (p : ℕ → Bool) (n b : ℕ) → b < n → p b ≡ true → list_any p (range_with_len 0 n) ≡ true
some_below p n b l e = any_of p (range_with_len 0 n) b (range_has n b l) e

none_below : (p : ℕ → Bool) (n : ℕ) → list_any p (range_with_len 0 n) ≡ false → (b : ℕ) → b < n → p b ≡ false
none_below p n none b l = elim (bool_tells (p b)) [
  | inr e ↦ e
  | inl e ↦ absurd (both (list_any p (range_with_len 0 n)) (some_below p n b l e) none)
]

pub none_at_all : (p : ℕ → Bool) (n : ℕ) → ((b : ℕ) → b < n → p b ≡ false) → list_any p (range_with_len 0 n) ≡ false
none_at_all p n none = elim (bool_tells (list_any p (range_with_len 0 n))) [
  | inr e ↦ e
  | inl e ↦ (let w = any_where p (range_with_len 0 n) e in absurd (both (p w.0) w.2 (none w.0 (range_low n w.0 w.1))))
]

-- ---- edges and their ends

between_of : (a b : ℕ) (ts : List ℕ) → stands b ts ≡ true → stands a (map (λ _. a) (filter (λ c. c == b) ts)) ≡ true
between_of a b [] e = absurd (cc)
between_of a b (t ∷ ts) e = go (t == b) refl (stands_cases b t ts e) (between_of a b ts)
  where
    go : (q : Bool) → (t == b) ≡ q → (b ≡ t) ⊎ (stands b ts ≡ true) → (stands b ts ≡ true → stands a (map (λ _. a) (filter (λ c. c == b) ts)) ≡ true)
        → stands a (map (λ _. a) (cond q (t ∷ filter (λ c. c == b) ts) (filter (λ c. c == b) ts))) ≡ true
    go true k u r = stands_first a (map (λ _. a) (filter (λ c. c == b) ts))
    go false k (inl u) r = absurd (grind (arith, nat_tests))
    go false k (inr u) r = r u

between_where : (a b x : ℕ) (ts : List ℕ) → stands x (map (λ _. a) (filter (λ c. c == b) ts)) ≡ true → (x ≡ a) × (stands b ts ≡ true)
between_where a b x [] e = absurd (cc)
between_where a b x (t ∷ ts) e = go (t == b) refl e (between_where a b x ts)
  where
    go : (q : Bool) → (t == b) ≡ q → stands x (map (λ _. a) (cond q (t ∷ filter (λ c. c == b) ts) (filter (λ c. c == b) ts))) ≡ true
        → (stands x (map (λ _. a) (filter (λ c. c == b) ts)) ≡ true → (x ≡ a) × (stands b ts ≡ true)) → (x ≡ a) × (stands b (t ∷ ts) ≡ true)
    go true k h r = elim (stands_cases x a (map (λ _. a) (filter (λ c. c == b) ts)) h) [
      | inl u ↦ (u, (let same : b ≡ t = grind (arith, nat_tests) in subst (λ z. stands z (t ∷ ts) ≡ true) (sym same) (stands_first t ts)))
      | inr u ↦ (let w = r u in (w.0, stands_later b t ts w.1))
    ]
    go false k h r = let w = r h in (w.0, stands_later b t ts w.1)

module _ (terms : List Term) (closed : Closed terms) where
  source_of : (a b : ℕ) → a < length terms → stands b (exits terms a) ≡ true → stands a (sources terms b) ≡ true
  source_of a b l e = flat_of (edges_between terms b) (range_with_len 0 (length terms)) a a (range_has (length terms) a l) (between_of a b (exits terms a) e)

  source_where : (a b : ℕ) → stands a (sources terms b) ≡ true → (a < length terms) × (stands b (exits terms a) ≡ true)
  source_where a b e =
      let w = flat_where (edges_between terms b) (range_with_len 0 (length terms)) a e in
      let u = between_where w.0 b a (exits terms w.0) w.2 in
      ((let l = range_low (length terms) w.0 w.1 in let s = u.0 in omega (arith, l, s)), subst (λ x. stands b (exits terms x) ≡ true) (sym u.0) u.1)

  exit_low : (a b : ℕ) → stands b (exits terms a) ≡ true → b < length terms
  exit_low a b e = let w = stands_where b (exits terms a) e in subst (λ x. x < length terms) w.2 (closed a w.0 0 w.1)

  -- a path goes on one edge before
  goes_before : (n a b : ℕ) → stands b (exits terms a) ≡ true → goes_on terms n b ≡ true → goes_on terms (suc n) a ≡ true
  goes_before n a b e k = any_of (goes_on terms n) (exits terms a) b e k

  -- a path has shorter ones
  goes_less : (n a : ℕ) → goes_on terms (suc n) a ≡ true → goes_on terms n a ≡ true
  goes_less zero a e = refl
  goes_less (suc n) a e = let w = any_where (goes_on terms (suc n)) (exits terms a) e in goes_before n a w.0 w.1 (goes_less n w.0 w.2)

  goes_fewer : (k n a : ℕ) → goes_on terms (k + n) a ≡ true → goes_on terms n a ≡ true
  goes_fewer zero n a e = subst (λ m. goes_on terms m a ≡ true) (let z : 0 + n ≡ n = omega arith in z) e
  goes_fewer (suc k) n a e = goes_fewer k n a (goes_less (k + n) a (subst (λ m. goes_on terms m a ≡ true) (let z : suc k + n ≡ suc (k + n) = omega arith in z) e))

  module _ (G : Graph) (nodes : G.functions ≡ length terms) (edges : (b : ℕ) → b < length terms → G.callees b ≡ sources terms b) (component : ℕ → ℕ) (c : IsComponents G component) (low : (a : ℕ) → a < length terms → component a < length terms) where
    -- against the edges a chain leads back along a path
    goes_along : (k n b a : ℕ) → b < length terms → Chain G k b a → goes_on terms n b ≡ true → goes_on terms (k + n) a ≡ true
    goes_along zero n b a l h e = subst (λ m. goes_on terms m a ≡ true) (let z : n ≡ 0 + n = omega arith in z) (subst (λ x. goes_on terms n x ≡ true) h e)
    goes_along (suc k) n b a l h e =
        let s = source_where h.0 b (subst (λ xs. stands h.0 xs ≡ true) (edges b l) h.1) in
        subst (λ m. goes_on terms m a ≡ true) (let z : k + suc n ≡ suc k + n = omega arith in z) (goes_along k (suc n) h.0 a s.0 h.2 (goes_before n h.0 b s.1 e))

    -- an edge within a component is on a path that never ends
    pub goes_round : (a b : ℕ) → b < length terms → stands a (sources terms b) ≡ true → component a ≡ component b → has_cycle terms ≡ true
    goes_round a b l e same = any_of (goes_on terms (length terms)) (range_with_len 0 (length terms)) a (range_has (length terms) a s.0) (forever (length terms))
      where
        s : (a < length terms) × (stands b (exits terms a) ≡ true)
        s = source_where a b e

        back : Reaches G a b
        back = c.both a b (let x = s.0 in omega (arith, nodes, x)) (omega (arith, nodes, l)) same

        forever : (n : ℕ) → goes_on terms n a ≡ true
        forever zero = refl
        forever (suc n) = goes_before n a b s.1 (goes_fewer back.0 n b (goes_along back.0 n a b s.0 back.1 (forever n)))

    module _ (none : (a b : ℕ) → b < length terms → stands a (sources terms b) ≡ true → component a ≢ component b) where
      -- along an edge components rise
      up : (a b : ℕ) → a < length terms → stands b (exits terms a) ≡ true → component a < component b
      up a b l e =
          let m = exit_low a b e in
          let s = source_of a b l e in
          let o = c.earlier b a (omega (arith, nodes, m)) (subst (λ xs. stands a xs ≡ true) (sym (edges b m)) s) in
          let ne = none a b m s in
          elim (let d : (component a ≡ component b) ⊎ (component a < component b) = grind arith in d) [ inl k ↦ absurd (ne k) | inr k ↦ k ]

      ends : (n a : ℕ) → a < length terms → goes_on terms n a ≡ true → component a + n < length terms
      ends zero a l e = let k = low a l in omega (arith, k)
      ends (suc n) a l e =
          let w = any_where (goes_on terms n) (exits terms a) e in
          let r = ends n w.0 (exit_low a w.0 w.1) w.2 in
          let u = up a w.0 l w.1 in
          omega (arith, r, u)

      pub ends_all : has_cycle terms ≡ false
      ends_all = elim (bool_tells (has_cycle terms)) [
        | inr e ↦ e
        | inl e ↦ (let w = any_where (goes_on terms (length terms)) (range_with_len 0 (length terms)) e in
            let r = ends (length terms) w.0 (range_low (length terms) w.0 w.1) w.2 in absurd (omega (arith, r)))
      ]

-- ---- the graph of the edges, each from its end to its source

-- as many terminators as blocks
pub by_terms : (blocks : List Block) (lists : List (List ℕ)) → lists ≡ map (sources (map block_term blocks)) (range_with_len 0 (length blocks))
    → lists ≡ map (sources (map block_term blocks)) (range_with_len 0 (length (map block_term blocks)))
by_terms blocks lists is = is ∙ ap (λ n. map (sources (map block_term blocks)) (range_with_len 0 n)) (sym (length-map blocks block_term))

module _ (terms : List Term) (closed : Closed terms) (lists : List (List ℕ)) (is : lists ≡ map (sources terms) (range_with_len 0 (length terms))) where
  pub lists_long : length lists ≡ length terms
  lists_long = ap length is ∙ length-map (range_with_len 0 (length terms)) (sources terms) ∙ length-range_with_len 0 (length terms)

  pub lists_at : (b : ℕ) → b < length terms → get_or lists b [] ≡ sources terms b
  lists_at b l =
      ap (λ xs. get_or xs b []) is
      ∙ get_or-map (sources terms) (range_with_len 0 (length terms)) b 0 [] (let k = length-range_with_len 0 (length terms) in omega (arith, k, l))
      ∙ ap (sources terms) (get_or-range_with_len 0 (length terms) b 0 l ∙ (let z : 0 + b ≡ b = omega arith in z))

  pub inside : StaysInside (λ n. n) lists
  inside f g e = elim (let d : (f < length terms) ⊎ (length terms ≤ f) = grind arith in d) [
    | inl l ↦ (let w = source_where terms closed g f (subst (λ xs. stands g xs ≡ true) (map-id (get_or lists f []) ∙ lists_at f l) e) in let k = lists_long in let m = w.0 in omega (arith, k, m))
    | inr out ↦ (let k = lists_long in let past : get_or lists f [] ≡ [] = get_or_past lists f [] (omega (arith, k, out)) in absurd (let none = subst (λ xs. stands g (map (λ n. n) xs) ≡ true) past e in cc))
  ]

  abbrev pub turned : Graph
  turned = record { functions = length terms; callees = sources terms; below = λ f g. false }

  pub has_lists : HasLists (λ n. n) turned lists
  has_lists = record { nodes = sym lists_long; listed = λ f l. (let k = lists_long in sym (lists_at f (omega (arith, k, l))) ∙ sym (map-id (get_or lists f []))) }

  module _ (numbers : List ℕ) (c : IsComponents turned (component_in numbers)) (low : (a : ℕ) → a < length lists → component_in numbers a < length lists) where
    below : (a : ℕ) → a < length terms → component_in numbers a < length terms
    below a l = let k = lists_long in let m = low a (omega (arith, k, l)) in omega (arith, k, m)

    cycle_there : (b : ℕ) → b < length terms → list_any (is_with numbers b) (sources terms b) ≡ true → has_cycle terms ≡ true
    cycle_there b l e =
        let w = any_where (is_with numbers b) (sources terms b) e in
        let same : component_in numbers w.0 ≡ component_in numbers b = (let t = w.2 in grind (arith, nat_tests)) in
        goes_round terms closed turned refl (λ b l. refl) (component_in numbers) c below w.0 b l w.1 same

    no_cycle : ((b : ℕ) → b < length terms → list_any (is_with numbers b) (sources terms b) ≡ false) → has_cycle terms ≡ false
    no_cycle none = ends_all terms closed turned refl (λ b l. refl) (component_in numbers) c below (λ a b l e same.
        both (list_any (is_with numbers b) (sources terms b))
        (any_of (is_with numbers b) (sources terms b) a e (eq-eqb (component_in numbers a) (component_in numbers b) same)) (none b l))

    pub cycle_is : list_any (turns numbers lists) (range_with_len 0 (length lists)) ≡ has_cycle terms
    cycle_is = elim (bool_tells (list_any (turns numbers lists) (range_with_len 0 (length lists)))) [
      | inl e ↦ (let w = any_where (turns numbers lists) (range_with_len 0 (length lists)) e in
          let l : w.0 < length terms = (let k = range_low (length lists) w.0 w.1 in let n = lists_long in omega (arith, k, n)) in
          e ∙ sym (cycle_there w.0 l (subst (λ xs. list_any (is_with numbers w.0) xs ≡ true) (lists_at w.0 l) w.2)))
      | inr e ↦ e ∙ sym (no_cycle (λ b l. subst (λ xs. list_any (is_with numbers b) xs ≡ false) (lists_at b l)
          (none_below (turns numbers lists) (length lists) e b (let n = lists_long in omega (arith, n, l)))))
    ]
