-- What the search for components has found at its end.
use Rattle.std.proofs.Common.{◌≡◌, ◌≢◌, refl, sym, subst, ℕ, zero, suc, ◌<◌, ◌≤◌, true, List, [], length, arith}
use Rattle.std.specs.Prelude.{◌↔◌}
use Rattle.bit_rows.specs.Rows.{stands}
use Rattle.call_graph.specs.declared.components.Mark.{Mark}
use Rattle.call_graph.specs.declared.components.Mark.TheVariants.{Unseen, OnStack, Closed}
use Rattle.call_graph.specs.Graph.{Graph, Chain, Reaches, IsComponents, HasLists, StaysInside, listed, component_in}
use Rattle.call_graph.specs.Search.{State, graph_by, mark_of, IsSearch}
use Rattle.call_graph.proofs.Rising.{stands_where}
use Rattle.call_graph.proofs.Stepped.{stack_empty}
use Rattle.call_graph.proofs.Told.{chain_earlier}

module _ {A : Type 0} (number : A → ℕ) (lists : List (List A)) (inside : StaysInside number lists) (G : Graph) (has : HasLists number G lists) where
  -- chains are the same
  same_chain : (n f g : ℕ) → f < length lists → Chain (graph_by number lists) n f g → Chain G n f g
  same_chain zero f g l k = k
  same_chain (suc n) f g l k = (k.0, subst (λ xs. stands k.0 xs ≡ true) (sym (has.listed f l)) k.1, same_chain n k.0 g (inside f k.0 k.1) k.2)

  module _ (s : State) (c : IsSearch (graph_by number lists) s) (ended : s.path ≡ []) (seen : (f : ℕ) → f < length lists → mark_of s f ≢ Unseen) where
    all_closed : (f : ℕ) → f < length lists → mark_of s f ≡ Closed
    all_closed f l = go (mark_of s f) refl
      where
        go : (m : Mark) → mark_of s f ≡ m → m ≡ Closed
        go Unseen e = absurd (seen f l e)
        go (OnStack i) e = absurd (stack_empty number lists s c ended i (c.stack.placed f i e).0)
        go Closed e = refl

    earlier : (f g : ℕ) → f < length lists → stands g (listed number lists f) ≡ true → component_in s.component g ≤ component_in s.component f
    earlier f g l k = let w = stands_where g (listed number lists f) k in subst (λ x. component_in s.component x ≤ component_in s.component f) w.2 (c.closed.calls f w.0 (all_closed f l) w.1).1

    pub numbers_low : (f : ℕ) → f < length lists → component_in s.component f < length lists
    numbers_low f l = let b = c.closed.below f (all_closed f l) in let w = c.few in omega (arith, b, w)

    pub are_components : IsComponents G (component_in s.component)
    are_components = record {
      earlier = λ f g l k. (let a : f < length lists = (let e = has.nodes in omega (arith, e, l)) in earlier f g a (subst (λ xs. stands g xs ≡ true) (has.listed f a) k));
      both = λ f g l m same.
          (let a : f < length lists = (let e = has.nodes in omega (arith, e, l)) in
          let b : g < length lists = (let e = has.nodes in omega (arith, e, m)) in
          let r = c.closed.both f g (all_closed f a) (all_closed g b) same in (r.0, same_chain r.0 f g a r.1));
    }

-- two functions are in one component exactly where each reaches the other
module _ {A : Type 0} (number : A → ℕ) (lists : List (List A)) (inside : StaysInside number lists) (G : Graph) (has : HasLists number G lists) (component : ℕ → ℕ) (c : IsComponents G component) where
  within : (f g : ℕ) → f < G.functions → stands g (G.callees f) ≡ true → g < G.functions
  within f g l s =
      let e = has.nodes in
      let a : f < length lists = omega (arith, e, l) in
      let i = inside f g (subst (λ xs. stands g xs ≡ true) (has.listed f a) s) in
      omega (arith, e, i)

  pub both_ways : (f g : ℕ) → f < G.functions → g < G.functions → (component f ≡ component g) ↔ (Reaches G f g × Reaches G g f)
  both_ways f g a b = ((λ e. (c.both f g a b e, c.both g f b a (sym e))), λ r. (let x = chain_earlier G within component c r.0.0 f g a r.0.1 in let y = chain_earlier G within component c r.1.0 g f b r.1.1 in omega (arith, x, y)))
