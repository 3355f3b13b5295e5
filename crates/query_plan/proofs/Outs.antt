-- The optimised bodies solve their own equation.
use Rattle.std.proofs.Common.{◌≡◌, refl, sym, ap, ap₂, ◌∙◌, ℕ, zero, suc, ◌<◌, Bool, true, false, ◌&&◌, List, [], ◌∷◌, ◌++◌, ◌⊎◌, inl, inr, arith}
use Rattle.std.specs.Prelude.{Option, Some, None, if◌then◌else◌}
use Rattle.bit_rows.specs.Rows.{stands}
use Rattle.call_graph.specs.Callees.{once_after}
use Rattle.call_graph.specs.Graph.{IsGraph, asks, weight}
use Rattle.call_graph.proofs.Once.{bool_tells}
use Rattle.call_graph.proofs.Falls.{weight_falls, asked_below}
use Rattle.query_plan.specs.Queries.{Pipeline, is_large, qualifies, elab, graph, callees_of, may_take, takes, brought, brought_after, cands, lent, if_taken, taken, inlined, optimised, opt_at, opt}

module _ {B : Type 0} (P : Pipeline B) where
  -- two ways to answer that agree on whom f asks for
  module _ (one two : ℕ → B) (f : ℕ) (same : (g : ℕ) → asks (graph P) f g ≡ true → one g ≡ two g) where
    takes_same : (g : ℕ) → takes P one f g ≡ takes P two f g
    takes_same g = go (bool_tells (asks (graph P) f g))
      where
        go : (asks (graph P) f g ≡ true) ⊎ (asks (graph P) f g ≡ false) → takes P one f g ≡ takes P two f g
        go (inl a) = ap (λ b. may_take P f g && P.takes (is_large P f) (P.inlining g) (qualifies P g) b) (same g a)
        go (inr a) = grind arith

    calls_same : (g : ℕ) → ◌≡◌ {A = List ℕ} (if takes P one f g then P.callees (one g) else []) (if takes P two f g then P.callees (two g) else [])
    calls_same g = go (bool_tells (asks (graph P) f g))
      where
        go : (asks (graph P) f g ≡ true) ⊎ (asks (graph P) f g ≡ false) → ◌≡◌ {A = List ℕ} (if takes P one f g then P.callees (one g) else []) (if takes P two f g then P.callees (two g) else [])
        go (inl a) = λ i. if takes_same g i then P.callees (same g a i) else []
        go (inr a) =
            let no : takes P one f g ≡ false = grind arith in
            let no2 : takes P two f g ≡ false = grind arith in
            ap (λ (b : Bool). let xs : List ℕ = if b then P.callees (one g) else [] in xs) no ∙ sym (ap (λ (b : Bool). let xs : List ℕ = if b then P.callees (two g) else [] in xs) no2)

    brought_same : (gs : List ℕ) → brought P one f gs ≡ brought P two f gs
    brought_same [] = refl
    brought_same (g ∷ gs) = ap₂ (λ (xs ys : List ℕ). xs ++ ys) (calls_same g) (brought_same gs)

    after_same : (seen gs : List ℕ) → brought_after P one f seen gs ≡ brought_after P two f seen gs
    after_same seen gs = ap (once_after seen) (brought_same gs)

    pub cands_same : cands P one f ≡ cands P two f
    cands_same =
        let first = callees_of P f in
        let second = brought_after P two f first first in
        ap (λ s. first ++ (s ++ brought_after P one f (first ++ s) s)) (after_same first first)
        ∙ ap (λ t. first ++ (second ++ t)) (after_same (first ++ second) second)

    lent_same : (g : ℕ) → lent P one f g ≡ lent P two f g
    unfolding lent
    lent_same g = go (bool_tells (asks (graph P) f g))
      where
        go : (asks (graph P) f g ≡ true) ⊎ (asks (graph P) f g ≡ false) → lent P one f g ≡ lent P two f g
        go (inl a) = λ i. if stands g (cands_same i) && may_take P f g then Some (same g a i) else None
        go (inr a) =
            let no : (stands g (cands P one f) && may_take P f g) ≡ false = grind arith in
            let no2 : (stands g (cands P two f) && may_take P f g) ≡ false = grind arith in
            ap (λ (b : Bool). let o : Option B = if b then Some (one g) else None in o) no ∙ sym (ap (λ (b : Bool). let o : Option B = if b then Some (two g) else None in o) no2)

    taken_same : (g : ℕ) → taken P one f g ≡ taken P two f g
    taken_same g = ap (if_taken P f g) (lent_same g)

    inlined_same : inlined P one f ≡ inlined P two f
    unfolding inlined
    inlined_same = ap (λ ts. P.spliced ts (elab P f)) (let k : taken P one f ≡ taken P two f = λ i g. taken_same g i in k)

    pub optimised_same : optimised P one f ≡ optimised P two f
    unfolding optimised
    optimised_same = ap P.rest inlined_same

  module _ (l : IsGraph (graph P)) where
    -- the depth doesn't matter once it is above the weight
    same_depth : (n m f : ℕ) → f < P.functions → weight (graph P) f < n → weight (graph P) f < m → opt_at P n f ≡ opt_at P m f
    same_depth zero m f lt a b = absurd (omega arith)
    same_depth (suc n) zero f lt a b = absurd (omega arith)
    same_depth (suc n) (suc m) f lt a b =
        optimised_same (opt_at P n) (opt_at P m) f
        (λ g k. let w = weight_falls (graph P) l f g lt k in same_depth n m g (asked_below (graph P) l f g k) (omega (arith, w, a)) (omega (arith, w, b)))

    -- an optimised body is made of the optimised bodies of others
    pub opt_is : (f : ℕ) → f < P.functions → opt P f ≡ optimised P (opt P) f
    unfolding opt
    opt_is f lt =
        optimised_same (opt_at P (weight (graph P) f)) (opt P) f
        (λ g k. let w = weight_falls (graph P) l f g lt k in same_depth (weight (graph P) f) (suc (weight (graph P) g)) g (asked_below (graph P) l f g k) w (omega arith))
