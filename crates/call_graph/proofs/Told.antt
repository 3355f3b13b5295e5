-- Whom a function asks for is told by components.
use Rattle.std.proofs.Common.{◌≡◌, refl, sym, ap, ◌∙◌, ℕ, zero, suc, ◌<◌, ◌≤◌, Bool, true, false, not, ◌==◌, ◌||◌, ◌&&◌, List, length, ◌⊎◌, inl, inr, arith}
use Rattle.std.proofs.lemmas.Bool.Decides.{nat_tests}
use Rattle.bit_rows.specs.Rows.{stands}
use Rattle.mir_syntax.specs.Crate.{Crate}
use Rattle.call_graph.specs.Graph.{Graph, IsGraph, Chain, Reaches, IsComponents, graph_of, path_at, reach, some_reaches, asks, asks_by}
use Rattle.call_graph.proofs.Once.{bool_tells}
use Rattle.call_graph.proofs.Reached.{reach_all, reach_only, reach_grows}
use Rattle.call_graph.proofs.Falls.{callee_of, asks_another}
use Rattle.call_graph.proofs.PathOrder.{bytes_irreflexive, bytes_transitive}

pub in_order : (C : Crate) (callees : ℕ → List ℕ) → ((f g : ℕ) → stands g (callees f) ≡ true → g < length C.functions) → IsGraph (graph_of C callees)
in_order C callees below = record {
  callees_below = below;
  irreflexive = λ f. bytes_irreflexive (path_at C f);
  transitive = λ f g h. bytes_transitive (path_at C f) (path_at C g) (path_at C h);
}

pub not_itself : (G : Graph) → IsGraph G → (f : ℕ) → f < G.functions → asks G f f ≡ false
not_itself G l f lt = go (asks G f f) refl
  where
    go : (b : Bool) → asks G f f ≡ b → b ≡ false
    go false e = refl
    go true e = absurd (asks_another G l f lt e)

-- along a chain of calls components only come earlier
pub chain_earlier : (G : Graph) (inside : (f g : ℕ) → f < G.functions → stands g (G.callees f) ≡ true → g < G.functions) (component : ℕ → ℕ) → IsComponents G component → (n f g : ℕ) → f < G.functions → Chain G n f g → component g ≤ component f
chain_earlier G inside component c zero f g lt k = let e : component f ≡ component g = ap component k in omega (arith, e)
chain_earlier G inside component c (suc n) f g lt k =
    let a = c.earlier f k.0 lt k.1 in
    let b = chain_earlier G inside component c n k.0 g (inside f k.0 lt k.1) k.2 in
    omega (arith, a, b)

module _ (G : Graph) (l : IsGraph G) (component : ℕ → ℕ) (c : IsComponents G component) where
  pub reaches_earlier : (f g : ℕ) → f < G.functions → Reaches G f g → component g ≤ component f
  reaches_earlier f g lt r = chain_earlier G (λ f g _ s. l.callees_below f g s) component c r.0 f g lt r.1

  -- whom f reaches reaches f exactly where they have one component
  back_is : (f g : ℕ) → f < G.functions → g < G.functions → Reaches G f g → stands f (reach G g) ≡ (component f == component g)
  back_is f g a b r = go (bool_tells (stands f (reach G g))) (bool_tells (component f == component g))
    where
      go : (stands f (reach G g) ≡ true) ⊎ (stands f (reach G g) ≡ false) → ((component f == component g) ≡ true) ⊎ ((component f == component g) ≡ false) → stands f (reach G g) ≡ (component f == component g)
      go (inl h) (inl k) = h ∙ sym k
      go (inr h) (inr k) = h ∙ sym k
      go (inl h) (inr k) = absurd (let x = reaches_earlier f g a r in let y = reaches_earlier g f b (reach_only G l g b f h) in grind (arith, nat_tests))
      go (inr h) (inl k) = absurd (let e : component g ≡ component f = grind (arith, nat_tests) in let t = reach_all G l g b f (c.both g f b a e) in grind arith)

  pub told : (f g : ℕ) → f < G.functions → some_reaches G (G.callees f) g ≡ true → asks G f g ≡ asks_by G component f g
  unfolding asks
  told f g lt some =
      let u = callee_of G l f (G.callees f) g some in
      let m = l.callees_below f u.0 u.1 in
      let k = reach_only G l u.0 m g u.2 in
      let b = back_is f g lt ((reach_grows G l u.0 m).below g u.2) (suc k.0, (u.0, u.1, k.1)) in
      ap (λ (t : Bool). t && (G.below f g || not (stands f (reach G g)))) some ∙ ap (λ (t : Bool). G.below f g || not t) b

  -- the code's answer, where the first path isn't below the second
  pub told_back : (f g : ℕ) (b same : Bool) → f < G.functions → some_reaches G (G.callees f) g ≡ true → b ≡ G.below f g → b ≡ false → same ≡ (component f == component g) → not same ≡ asks G f g
  told_back f g b same lt some e unlike k =
      ap not k ∙ ap (λ (t : Bool). t || not (component f == component g)) (sym unlike ∙ e) ∙ sym (told f g lt some)

-- ---- what the code answers

asked_is : (G : Graph) (f g : ℕ) → some_reaches G (G.callees f) g ≡ true → asks G f g ≡ (G.below f g || not (stands f (reach G g)))
unfolding asks
asked_is G f g some = ap (λ (t : Bool). t && (G.below f g || not (stands f (reach G g)))) some

pub asked_below_is : (G : Graph) (f g : ℕ) (b : Bool) → some_reaches G (G.callees f) g ≡ true → b ≡ G.below f g → b ≡ true → b ≡ asks G f g
asked_below_is G f g b some e t = let a = asked_is G f g some in grind arith

pub asked_back_is : (G : Graph) (f g : ℕ) (b r : Bool) → some_reaches G (G.callees f) g ≡ true → b ≡ G.below f g → b ≡ false → r ≡ stands f (reach G g) → not r ≡ asks G f g
asked_back_is G f g b r some e t k = let a = asked_is G f g some in grind arith
