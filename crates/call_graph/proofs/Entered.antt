-- A function is found in the search for components.
use Rattle.std.proofs.Common.{◌≡◌, ◌≢◌, sym, ap, subst, ◌∙◌, ℕ, ◌+◌, ◌<◌, true, false, List, [], ◌∷◌, ◌++◌, length, get_or, set, ◌⊎◌, inl, inr, arith, length-append, get_or-set_same, get_or-set_other}
use Rattle.std.proofs.Math.ListN.{get_or-append, length-set}
use Rattle.std.proofs.Math.Seq.{get_or-append_seam}
use Rattle.std.proofs.lemmas.List.Sums.{sum_by-set}
use Rattle.std.proofs.lemmas.Bool.{cases_eq}
use Rattle.bit_rows.specs.Rows.{stands}
use Rattle.call_graph.specs.declared.components.Mark.{Mark}
use Rattle.call_graph.specs.declared.components.Mark.TheVariants.{Unseen, OnStack, Closed}
use Rattle.call_graph.specs.Graph.{Graph, Reaches}
use Rattle.call_graph.specs.Search.{State, mark_of, on_stack, Ahead, IsLed, unseen_one, unseen, IsSized, IsStack, IsPath, IsLooked, IsClosed, IsSearch, entered}
use Rattle.call_graph.proofs.Once.{both, stands_first, stands_append, stands_left, stands_right}
use Rattle.call_graph.proofs.Rising.{stands_one, not_left, rising_snoc}

pub unseen_less : (marks : List Mark) (f i : ℕ) → f < length marks → get_or marks f Unseen ≡ Unseen → unseen (set marks f (OnStack i)) + 1 ≡ unseen marks
unseen_less marks f i l e = let s = sum_by-set unseen_one marks f (OnStack i) Unseen l in let k = ap unseen_one e in omega (arith, s, k)

place_cases : (n i : ℕ) → i < n + 1 → (i < n) ⊎ (i ≡ n)
place_cases n i l = grind arith

module _ (G : Graph) (s : State) (f : ℕ) (c : IsSearch G s) (lt : f < G.functions) (fresh : mark_of s f ≡ Unseen) (from : (a : ℕ) → a < length s.stack → Reaches G (on_stack s a) f) where
  long : length (s.stack ++ f ∷ []) ≡ length s.stack + 1
  long = length-append s.stack (f ∷ [])

  here : mark_of (entered s f) f ≡ OnStack (length s.stack)
  here = get_or-set_same s.marks f (OnStack (length s.stack)) Unseen (let e = c.sized.marks in omega (arith, e, lt))

  elsewhere : (g : ℕ) → g ≢ f → mark_of (entered s f) g ≡ mark_of s g
  elsewhere g ne = get_or-set_other s.marks f g (OnStack (length s.stack)) Unseen ne

  old : (i : ℕ) → i < length s.stack → on_stack (entered s f) i ≡ on_stack s i
  old i l = get_or-append s.stack (f ∷ []) 0 i l

  new : on_stack (entered s f) (length s.stack) ≡ f
  new = get_or-append_seam s.stack f [] 0

  other : (i : ℕ) → i < length s.stack → on_stack s i ≢ f
  other i l e = let m = sym (c.stack.marked i l) ∙ ap (mark_of s) e ∙ fresh in absurd (cc)

  -- who is closed is another one
  closed_other : (g : ℕ) → mark_of s g ≡ Closed → g ≢ f
  closed_other g m e = let k = sym m ∙ ap (mark_of s) e ∙ fresh in absurd (cc)

  stacked_other : (g b : ℕ) → mark_of s g ≡ OnStack b → g ≢ f
  stacked_other g b m e = let k = sym m ∙ ap (mark_of s) e ∙ fresh in absurd (cc)

  now_closed : (g : ℕ) → mark_of (entered s f) g ≡ Closed → mark_of s g ≡ Closed
  now_closed g m = elim (cases_eq g f) [
    | inl e ↦ (let k = sym m ∙ ap (mark_of (entered s f)) e ∙ here in absurd (cc))
    | inr ne ↦ sym (elsewhere g ne) ∙ m
  ]

  still_closed : (g : ℕ) → mark_of s g ≡ Closed → mark_of (entered s f) g ≡ Closed
  still_closed g m = elsewhere g (closed_other g m) ∙ m

  sized : IsSized G (entered s f)
  sized = record { marks = length-set s.marks f (OnStack (length s.stack)) ∙ c.sized.marks; looked = c.sized.looked; component = c.sized.component }

  stack : IsStack G (entered s f)
  stack = record { within = within; marked = marked; placed = placed }
    where
      within : (i : ℕ) → i < length (s.stack ++ f ∷ []) → on_stack (entered s f) i < G.functions
      within i l = elim (place_cases (length s.stack) i (let e = long in omega (arith, e, l))) [
        | inl a ↦ subst (λ x. x < G.functions) (sym (old i a)) (c.stack.within i a)
        | inr e ↦ subst (λ x. x < G.functions) (sym (ap (on_stack (entered s f)) e ∙ new)) lt
      ]

      marked : (i : ℕ) → i < length (s.stack ++ f ∷ []) → mark_of (entered s f) (on_stack (entered s f) i) ≡ OnStack i
      marked i l = elim (place_cases (length s.stack) i (let e = long in omega (arith, e, l))) [
        | inl a ↦ ap (mark_of (entered s f)) (old i a) ∙ elsewhere (on_stack s i) (other i a) ∙ c.stack.marked i a
        | inr e ↦ ap (mark_of (entered s f)) (ap (on_stack (entered s f)) e ∙ new) ∙ here ∙ ap OnStack (sym e)
      ]

      placed : (g i : ℕ) → mark_of (entered s f) g ≡ OnStack i → (i < length (s.stack ++ f ∷ [])) × (on_stack (entered s f) i ≡ g)
      placed g i m = elim (cases_eq g f) [
        | inl e ↦ (let k = sym here ∙ ap (mark_of (entered s f)) (sym e) ∙ m in let n : length s.stack ≡ i = cc in ((let l = long in omega (arith, l, n)), ap (on_stack (entered s f)) (sym n) ∙ new ∙ sym e))
        | inr ne ↦ (let k = c.stack.placed g i (sym (elsewhere g ne) ∙ m) in ((let l = long in let a = k.0 in omega (arith, l, a)), old i k.0 ∙ k.1))
      ]

  path : IsPath (entered s f)
  path = record {
    on_stack = λ p e. elim (stands_append p s.path (length s.stack ∷ []) e) [
      | inl a ↦ (let l = long in let b = c.path.on_stack p a in omega (arith, l, b))
      | inr a ↦ (let l = long in let b = stands_one p (length s.stack) a in omega (arith, l, b))
    ];
    rises = rising_snoc s.path (length s.stack) c.path.rises c.path.on_stack;
    starts_rise = rising_snoc s.starts (length s.stack) c.path.starts_rise (λ p e. c.path.on_stack p (c.path.starts_on p e));
    starts_on = λ p e. elim (stands_append p s.starts (length s.stack ∷ []) e) [
      | inl a ↦ stands_left p s.path (length s.stack ∷ []) (c.path.starts_on p a)
      | inr a ↦ stands_right p s.path (length s.stack ∷ []) a
    ];
    first = λ l. elim (let d : (0 ≡ length s.stack) ⊎ (0 < length s.stack) = grind arith in d) [
      | inl e ↦ stands_right 0 s.starts (length s.stack ∷ []) (subst (λ n. stands 0 (n ∷ []) ≡ true) e (stands_first 0 []))
      | inr a ↦ stands_left 0 s.starts (length s.stack ∷ []) (c.path.first a)
    ];
  }

  -- what was led to is so still
  led_still : (i g : ℕ) → i < length s.stack → IsLed s i g → IsLed (entered s f) i g
  led_still i g l (inl m) = inl (still_closed g m)
  led_still i g l (inr u) = inr (
    u.0,
    elsewhere g (stacked_other g u.0 u.1) ∙ u.1,
    λ p e q. elim (stands_append p s.starts (length s.stack ∷ []) e) [
      | inl a ↦ u.2 p a q
      | inr a ↦ (let b = stands_one p (length s.stack) a in absurd (omega (arith, b, q, l)))
    ],
  )

  looked : IsLooked G (entered s f)
  looked = record { none = none; most = c.looked.most; all = all; led = led }
    where
      none : (g : ℕ) → mark_of (entered s f) g ≡ Unseen → get_or s.looked g 0 ≡ 0
      none g m = elim (cases_eq g f) [
        | inl e ↦ (let k = sym m ∙ ap (mark_of (entered s f)) e ∙ here in absurd (cc))
        | inr ne ↦ c.looked.none g (sym (elsewhere g ne) ∙ m)
      ]

      all : (i : ℕ) → i < length (s.stack ++ f ∷ []) → stands i (s.path ++ length s.stack ∷ []) ≡ false → get_or s.looked (on_stack (entered s f) i) 0 ≡ length (G.callees (on_stack (entered s f) i))
      all i l e = elim (place_cases (length s.stack) i (let k = long in omega (arith, k, l))) [
        | inl a ↦ subst (λ x. get_or s.looked x 0 ≡ length (G.callees x)) (sym (old i a)) (c.looked.all i a (not_left i s.path (length s.stack ∷ []) e))
        | inr k ↦ absurd (both (stands i (s.path ++ length s.stack ∷ [])) (stands_right i s.path (length s.stack ∷ []) (subst (λ n. stands i (n ∷ []) ≡ true) k (stands_first i []))) e)
      ]

      led : (i k : ℕ) → i < length (s.stack ++ f ∷ []) → k < get_or s.looked (on_stack (entered s f) i) 0 → IsLed (entered s f) i (get_or (G.callees (on_stack (entered s f) i)) k 0)
      led i k l h = elim (place_cases (length s.stack) i (let e = long in omega (arith, e, l))) [
        | inl a ↦ subst (λ x. IsLed (entered s f) i (get_or (G.callees x) k 0)) (sym (old i a)) (led_still i (get_or (G.callees (on_stack s i)) k 0) a (c.looked.led i k a (subst (λ x. k < get_or s.looked x 0) (old i a) h)))
        | inr e ↦ (let z = ap (λ x. get_or s.looked x 0) (ap (on_stack (entered s f)) e ∙ new) ∙ c.looked.none f fresh in absurd (omega (arith, z, h)))
      ]

  reaches : (a b : ℕ) → a < length (s.stack ++ f ∷ []) → b < length (s.stack ++ f ∷ []) → Ahead (s.starts ++ length s.stack ∷ []) a b → Reaches G (on_stack (entered s f) a) (on_stack (entered s f) b)
  reaches a b la lb ahead = go (place_cases (length s.stack) a (let e = long in omega (arith, e, la))) (place_cases (length s.stack) b (let e = long in omega (arith, e, lb)))
    where
      go : (a < length s.stack) ⊎ (a ≡ length s.stack) → (b < length s.stack) ⊎ (b ≡ length s.stack) → Reaches G (on_stack (entered s f) a) (on_stack (entered s f) b)
      go (inl x) (inl y) =
          subst (λ g. Reaches G g (on_stack (entered s f) b)) (sym (old a x)) (subst (λ g. Reaches G (on_stack s a) g) (sym (old b y))
          (c.reaches a b x y (λ p e q. ahead p (stands_left p s.starts (length s.stack ∷ []) e) q)))
      go (inl x) (inr y) =
          subst (λ g. Reaches G g (on_stack (entered s f) b)) (sym (old a x)) (subst (λ g. Reaches G (on_stack s a) g) (sym (ap (on_stack (entered s f)) y ∙ new)) (from a x))
      go (inr x) (inl y) =
          let l = ahead (length s.stack) (stands_right (length s.stack) s.starts (length s.stack ∷ []) (stands_first (length s.stack) [])) (omega (arith, x)) in
          absurd (omega (arith, l, y))
      go (inr x) (inr y) = (0, ap (on_stack (entered s f)) (x ∙ sym y))

  closed : IsClosed G (entered s f)
  closed = record {
    calls = λ g k m l. (let r = c.closed.calls g k (now_closed g m) l in (still_closed (get_or (G.callees g) k 0) r.0, r.1));
    both = λ g h m n e. c.closed.both g h (now_closed g m) (now_closed h n) e;
    below = λ g m. c.closed.below g (now_closed g m);
  }

  pub entering : IsSearch G (entered s f)
  entering = record {
    sized = sized;
    stack = stack;
    path = path;
    looked = looked;
    reaches = reaches;
    closed = closed;
    few = (let e = long in let u = unseen_less s.marks f (length s.stack) (let z = c.sized.marks in omega (arith, z, lt)) fresh in let w = c.few in omega (arith, e, u, w));
  }
