-- Parts are joined, and a callee more was looked at, in the search for components.
use Rattle.std.proofs.Common.{◌≡◌, ◌≢◌, refl, sym, ap, subst, ◌∙◌, ℕ, suc, ◌+◌, ◌<◌, ◌≤◌, true, false, List, length, get_or, ◌⊎◌, inl, inr, arith, get_or-set_same, get_or-set_other}
use Rattle.std.proofs.Math.ListN.{length-set}
use Rattle.std.proofs.lemmas.Bool.{cases_eq}
use Rattle.bit_rows.specs.Rows.{stands}
use Rattle.call_graph.specs.declared.components.Mark.TheVariants.{Unseen, OnStack}
use Rattle.call_graph.specs.Graph.{Graph, Reaches}
use Rattle.call_graph.specs.Search.{State, mark_of, on_stack, Ahead, IsLed, IsSearch, Joined, looked_more}
use Rattle.call_graph.proofs.Once.{both}
use Rattle.call_graph.proofs.Reached.{reaches_trans}
use Rattle.call_graph.proofs.Rising.{Joins, rising_last}

-- a call is a chain
pub called_reached : (G : Graph) (f g : ℕ) → stands g (G.callees f) ≡ true → Reaches G f g
called_reached G f g e = (1, (g, e, refl))

-- the last function of the path stands at this place, and no part begins behind it
pub record IsTop (s : State) (p f : ℕ) : Type 0 where
  pub on_path : stands p s.path ≡ true
  pub place : p < length s.stack
  pub at_place : on_stack s p ≡ f
  pub last : (q : ℕ) → stands q s.path ≡ true → q ≤ p

-- once the last part begins at or before the place, all are joined
pub joins_end : (s t : State) (place i : ℕ) → t ≡ record s { starts = t.starts } → Joins s.starts t.starts place → suc i ≡ length t.starts → get_or t.starts i 0 ≤ place → Joined s t place
joins_end s t place i rest j many low = record {
  rest = rest;
  rises = j.rises;
  kept = j.kept;
  old = λ p e. (j.were p e, (let l = rising_last t.starts i many j.rises p e in omega (arith, l, low)));
}

module _ (G : Graph) (s : State) (c : IsSearch G s) where
  -- each function of the stack reaches the last one of the path
  pub reaches_top : (p f : ℕ) → IsTop s p f → (a : ℕ) → a < length s.stack → Reaches G (on_stack s a) f
  reaches_top p f t a l = subst (Reaches G (on_stack s a)) t.at_place (c.reaches a p l t.place (λ q e _. t.last q (c.path.starts_on q e)))

  module _ (p f g place : ℕ) (t : IsTop s p f) (calls : stands g (G.callees f) ≡ true) (there : mark_of s g ≡ OnStack place) where
    joined : (starts : List ℕ) → Joined s (record s { starts = starts }) place → IsSearch G (record s { starts = starts })
    joined starts j = record {
      sized = record { marks = c.sized.marks; looked = c.sized.looked; component = c.sized.component };
      stack = record { within = c.stack.within; marked = c.stack.marked; placed = c.stack.placed };
      path = record {
        on_stack = c.path.on_stack;
        rises = c.path.rises;
        starts_rise = j.rises;
        starts_on = λ q e. c.path.starts_on q (j.old q e).0;
        first = λ l. j.kept 0 (c.path.first l) (omega arith);
      };
      looked = record { none = c.looked.none; most = c.looked.most; all = c.looked.all; led = λ i k l h. led i (get_or (G.callees (on_stack s i)) k 0) (c.looked.led i k l h) };
      reaches = reaches;
      closed = record { calls = c.closed.calls; both = c.closed.both; below = c.closed.below };
      few = c.few;
    }
      where
        led : (i x : ℕ) → IsLed s i x → IsLed (record s { starts = starts }) i x
        led i x (inl m) = inl m
        led i x (inr u) = inr (u.0, u.1, λ q e l. u.2 q (j.old q e).0 l)

        target : (place < length s.stack) × (on_stack s place ≡ g)
        target = c.stack.placed g place there

        reaches : (a b : ℕ) → a < length s.stack → b < length s.stack → Ahead starts a b → Reaches G (on_stack s a) (on_stack s b)
        reaches a b la lb ahead = elim (let d : (a ≤ place) ⊎ (place < a) = grind arith in d) [
          | inl low ↦ c.reaches a b la lb (λ q e l. ahead q (j.kept q e (omega (arith, l, low))) l)
          | inr high ↦
              reaches_trans G (on_stack s a) f (on_stack s b) (reaches_top p f t a la)
              (reaches_trans G f g (on_stack s b) (called_reached G f g calls)
              (subst (λ x. Reaches G x (on_stack s b)) target.1
              (c.reaches place b target.0 lb (λ q e l. ahead q (j.kept q e l) (omega (arith, l, high))))))
        ]

    pub joining : (u : State) → Joined s u place → IsSearch G u
    joining u j = subst (IsSearch G) (sym j.rest) (joined u.starts (subst (λ v. Joined s v place) j.rest j))

    pub joined_led : (u : State) → Joined s u place → IsLed u p g
    joined_led u j = inr (place, ap (λ v. mark_of v g) j.rest ∙ there, λ q e l. (j.old q e).1)

  -- ---- a callee more

  module _ (p f : ℕ) (t : IsTop s p f) (more : get_or s.looked f 0 < length (G.callees f)) (led : IsLed s p (get_or (G.callees f) (get_or s.looked f 0) 0)) where
    within : f < length s.looked
    within = let w = c.stack.within p t.place in let e = t.at_place in let z = c.sized.looked in omega (arith, w, e, z)

    here : get_or (looked_more s f).looked f 0 ≡ get_or s.looked f 0 + 1
    here = get_or-set_same s.looked f (get_or s.looked f 0 + 1) 0 within

    elsewhere : (g : ℕ) → g ≢ f → get_or (looked_more s f).looked g 0 ≡ get_or s.looked g 0
    elsewhere g ne = get_or-set_other s.looked f g (get_or s.looked f 0 + 1) 0 ne

    -- it stands at one place of the stack
    at_top : (i : ℕ) → i < length s.stack → on_stack s i ≡ f → i ≡ p
    at_top i l e = let m = sym (c.stack.marked i l) ∙ ap (mark_of s) (e ∙ sym t.at_place) ∙ c.stack.marked p t.place in cc

    pub looking : IsSearch G (looked_more s f)
    looking = record {
      sized = record { marks = c.sized.marks; looked = length-set s.looked f (get_or s.looked f 0 + 1) ∙ c.sized.looked; component = c.sized.component };
      stack = record { within = c.stack.within; marked = c.stack.marked; placed = c.stack.placed };
      path = record { on_stack = c.path.on_stack; rises = c.path.rises; starts_rise = c.path.starts_rise; starts_on = c.path.starts_on; first = c.path.first };
      looked = record { none = none; most = most; all = all; led = leads };
      reaches = c.reaches;
      closed = record { calls = c.closed.calls; both = c.closed.both; below = c.closed.below };
      few = c.few;
    }
      where
        none : (g : ℕ) → mark_of s g ≡ Unseen → get_or (looked_more s f).looked g 0 ≡ 0
        none g m = elim (cases_eq g f) [
          | inl e ↦ (let k = sym (c.stack.marked p t.place) ∙ ap (mark_of s) (t.at_place ∙ sym e) ∙ m in absurd (cc))
          | inr ne ↦ elsewhere g ne ∙ c.looked.none g m
        ]

        most : (g : ℕ) → get_or (looked_more s f).looked g 0 ≤ length (G.callees g)
        most g = elim (cases_eq g f) [
          | inl e ↦ subst (λ x. get_or (looked_more s f).looked x 0 ≤ length (G.callees x)) (sym e) (let h = here in omega (arith, h, more))
          | inr ne ↦ (let h = elsewhere g ne in let m = c.looked.most g in omega (arith, h, m))
        ]

        all : (i : ℕ) → i < length s.stack → stands i s.path ≡ false → get_or (looked_more s f).looked (on_stack s i) 0 ≡ length (G.callees (on_stack s i))
        all i l e = elsewhere (on_stack s i) (λ k. absurd (both (stands i s.path) (subst (λ x. stands x s.path ≡ true) (sym (at_top i l k)) t.on_path) e)) ∙ c.looked.all i l e

        leads : (i k : ℕ) → i < length s.stack → k < get_or (looked_more s f).looked (on_stack s i) 0 → IsLed s i (get_or (G.callees (on_stack s i)) k 0)
        leads i k l h = elim (cases_eq (on_stack s i) f) [
          | inr ne ↦ c.looked.led i k l (let e = elsewhere (on_stack s i) ne in omega (arith, e, h))
          | inl e ↦ elim (let d : (k < get_or s.looked f 0) ⊎ (k ≡ get_or s.looked f 0) = (let w = here in let v = ap (λ x. get_or (looked_more s f).looked x 0) e in grind arith) in d) [
            | inl less ↦ c.looked.led i k l (let v = ap (λ x. get_or s.looked x 0) e in omega (arith, v, less))
            | inr same ↦
                subst (λ x. IsLed s i (get_or (G.callees x) k 0)) (sym e)
                (subst (λ n. IsLed s i (get_or (G.callees f) n 0)) (sym same) (subst (λ j. IsLed s j (get_or (G.callees f) (get_or s.looked f 0) 0)) (sym (at_top i l e)) led))
          ]
        ]
