-- What a problem's facts and flows keep.
use Rattle.std.proofs.Common.{◌≡◌, ◌≢◌, inl, inr, sym, subst, ℕ, ◌+◌, ◌≤◌, List, Some, slice_get, arith}
use Rattle.std.proofs.lemmas.Bool.{cases_eq}
use Rattle.flow_engine.specs.declared.edges.Edge.{Edge}
use Rattle.flow_engine.specs.Flow.{Arrow, Flow, Lawful, problem}
use Rattle.flow_engine.proofs.Lists.{start_at, arrow_is}

pub record Laws {A : Type 0} (Ok : A → Type 0) (Below : A → A → Type 0) (rank : A → ℕ) (h : ℕ) (p : Flow A) : Type 0 where
  pub same : (x : A) → Ok x → Below x x
  pub then_below : (x y z : A) → Below x y → Below y z → Below x z
  pub join_ok : (x y : A) → Ok x → Ok y → Ok (p.join x y)
  pub left : (x y : A) → Ok x → Ok y → Below x (p.join x y)
  pub right : (x y : A) → Ok x → Ok y → Below y (p.join x y)
  pub least : (x y z : A) → Ok x → Ok y → Below x z → Below y z → Below (p.join x y) z
  pub rank_below : (x y : A) → Below x y → rank x ≤ rank y
  pub rank_same : (x y : A) → Below x y → rank x ≡ rank y → x ≡ y
  pub height : (x : A) → Ok x → rank x ≤ h
  pub starts_ok : (b : ℕ) (s : A) → slice_get p.starts b ≡ Some s → Ok s
  pub flow_ok : (i : ℕ) (e : Arrow A) (x : A) → slice_get p.arrows i ≡ Some e → Ok x → Ok (e.flow x)
  pub flow_below : (i : ℕ) (e : Arrow A) (x y : A) → slice_get p.arrows i ≡ Some e → Ok x → Ok y → Below x y → Below (e.flow x) (e.flow y)

-- the laws of a trait's members are those of the problem that `solve` is given
pub laws_of : {A : Type 0} (Ok : A → Type 0) (Below : A → A → Type 0) (rank : A → ℕ) (h : ℕ) (start : ℕ → A) (join : A → A → A) (flow : ℕ → A → A) → Lawful Ok Below rank h start join flow → (blocks : ℕ) (es : List Edge) → Laws Ok Below rank h (problem join start flow blocks es)
unfolding problem
laws_of Ok Below rank h start join flow l blocks es = record {
  same = l.same;
  then_below = l.then_below;
  join_ok = l.join_ok;
  left = l.left;
  right = l.right;
  least = l.least;
  rank_below = l.rank_below;
  rank_same = l.rank_same;
  height = l.rank_high;
  starts_ok = λ b s e. subst Ok (sym (start_at start 0 blocks b s e)) (l.start_ok (0 + b));
  flow_ok = λ i e x is ox. (let a = arrow_is flow es i e is in subst (λ g. Ok (g x)) (sym a.flows) (l.flow_ok i x ox));
  flow_below = λ i e x y is ox oy le. (let a = arrow_is flow es i e is in subst (λ g. Below (g x) (g y)) (sym a.flows) (l.flow_below i x y ox oy le));
}

module _ {A : Type 0} (Ok : A → Type 0) (Below : A → A → Type 0) (rank : A → ℕ) (h : ℕ) (p : Flow A) (laws : Laws Ok Below rank h p) where
  -- what is below adds nothing
  pub absorbs : (z w : A) → Ok z → Ok w → Below w z → p.join z w ≡ z
  absorbs z w oz ow le =
      let up = laws.left z w oz ow in
      let down = laws.least z w z oz ow (laws.same z oz) le in
      sym (laws.rank_same z (p.join z w) up (omega (arith, laws.rank_below z (p.join z w) up, laws.rank_below (p.join z w) z down)))

  -- a change makes the rank larger
  pub climbs : (z w : A) → Ok z → Ok w → p.join z w ≢ z → rank z + 1 ≤ rank (p.join z w)
  climbs z w oz ow ne =
      let up = laws.left z w oz ow in
      let le = laws.rank_below z (p.join z w) up in
      elim (cases_eq (rank z) (rank (p.join z w))) [
        | inl e ↦ absurd (ne (sym (laws.rank_same z (p.join z w) up e)))
        | inr d ↦ omega arith
      ]
