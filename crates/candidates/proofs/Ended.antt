-- The work of an optimised body begins with the callees, and in the end it has what it may take.
use Rattle.std.proofs.Common.{◌≡◌, ◌≢◌, refl, sym, ap, ◌∙◌, subst, ℕ, ◌<◌, Bool, true, false, ◌==◌, ◌&&◌, ◌||◌, List, [], ◌∷◌, ◌++◌, append-nil, map, drop, ◌⊎◌, inl, inr, arith}
use Rattle.std.specs.Prelude.{if◌then◌else◌}
use Rattle.std.proofs.lemmas.Bool.Decides.{nat_tests}
use Rattle.bit_rows.specs.Rows.{marked, stands}
use Rattle.mir_syntax.specs.Drops.{fn_number}
use Rattle.mir_syntax.specs.declared.types.FnId.{FnId}
use Rattle.call_graph.specs.Graph.{asks}
use Rattle.query_plan.specs.declared.kind.Kind.TheVariants as kind
use Rattle.query_plan.specs.Queries.{Pipeline, is_never, is_large, graph, callees_of, may_take, cands, opt}
use Rattle.query_plan.specs.Needs.{query, asked, asked_of, needs_of}
use Rattle.query_plan.specs.Source.{IsSource}
use Rattle.candidates.specs.declared.walk.Walk.{Walk}
use Rattle.candidates.specs.declared.asking.Asking.{Asking}
use Rattle.candidates.specs.declared.asking.Part.{Part}
use Rattle.candidates.specs.declared.asking.Part.TheVariants as part
use Rattle.candidates.specs.Walk.{IsFresh, Brings, coming_from, new_by}
use Rattle.candidates.specs.Comes.{wanted, never_of, brings_of, all_of, comes_in}
use Rattle.candidates.specs.Asking.{lent_of, left_with, ahead, Known, IsAsking, Asks}
use Rattle.candidates.proofs.Walking.{brings_walk, brings_coming}
use Rattle.candidates.proofs.Layers.{comes_all}

module _ {B : Type 0} (P : Pipeline B) where
  -- ---- the work begins

  asked_wanted : (f : ℕ) (gs : List ℕ) → asked_of P f (wanted (never_of P) gs) ≡ asked_of P f gs
  asked_wanted f [] = refl
  asked_wanted f (g ∷ gs) = go (is_never (P.inlining g)) refl (asked_wanted f gs)
    where
      go : (b : Bool) → is_never (P.inlining g) ≡ b → asked_of P f (wanted (never_of P) gs) ≡ asked_of P f gs → asked_of P f (if b then wanted (never_of P) gs else g ∷ wanted (never_of P) gs) ≡ asked P f g ++ asked_of P f gs
      go true e r =
          let none : asked P f g ≡ [] = ap (λ (b : Bool). let xs : List ℕ = if b then [] else (if P.below f g then [] else query P.functions kind.Reach g ∷ []) ++ (if asks (graph P) f g then query P.functions kind.Qualif g ∷ query P.functions kind.Opt g ∷ [] else []) in xs) e in
          r ∙ ap (λ (xs : List ℕ). xs ++ asked_of P f gs) (sym none)
      go false e r = ap (λ (xs : List ℕ). asked P f g ++ xs) r

  pub needs_wanted : (f : ℕ) → needs_of P kind.Opt f ≡ query P.functions kind.Callees f ∷ query P.functions kind.Cost f ∷ left_with P f (all_of P f)
  needs_wanted f = ap (λ (xs : List ℕ). query P.functions kind.Callees f ∷ query P.functions kind.Cost f ∷ (xs ++ query P.functions kind.Elab f ∷ [])) (sym (asked_wanted f (cands P (opt P) f)))

  pub comes_first : IsSource P → (f : ℕ) → f < P.functions → (w v : Walk) (list : List ℕ) → list ≡ callees_of P f → IsFresh P.functions w → Brings (never_of P) P.functions w v list → comes_in P f v ≡ all_of P f
  comes_first is f lt w v list el fresh br =
      let ek = fresh.known in
      let ey = fresh.layers in
      let ef = fresh.fresh in
      let ea = fresh.layer in
      let et = fresh.at in
      brings_coming (never_of P) P.functions w v list br (brings_of P f)
      ∙ (λ i. coming_from (never_of P) (brings_of P f) (ey i) (marked (ek i) (el i)) (ef i ++ new_by (never_of P) (ek i) (el i)) (drop (et i) (ea i)))
      ∙ comes_all P is f lt

  pub started : IsSource P → (f : ℕ) → f < P.functions → (w v : Walk) (list : List ℕ) → list ≡ callees_of P f → IsFresh P.functions w → Brings (never_of P) P.functions w v list
      → (lent : List FnId) → lent ≡ [] → Asks P f (record { part = part.Cost; walk = v; large = false; lent = lent }) (query P.functions kind.Cost f ∷ left_with P f (all_of P f))
  started is f lt w v list el fresh br lent en =
      let comes = comes_first is f lt w v list el fresh br in
      record {
        is = record { done = []; all = sym comes; stays = record { walk = brings_walk (never_of P) P.functions w v list fresh.walk br; part = tt }; known = tt; lent = ap (map fn_number) en };
        needs = ap (λ (xs : List ℕ). query P.functions kind.Cost f ∷ left_with P f xs) comes;
      }

  -- ---- all candidates are done

  stands_wanted : (g : ℕ) (gs : List ℕ) → is_never (P.inlining g) ≡ false → stands g (wanted (never_of P) gs) ≡ stands g gs
  stands_wanted g [] e = refl
  stands_wanted g (x ∷ xs) e = go (never_of P x) refl (stands_wanted g xs e) (let c : (g ≡ x) ⊎ (g ≢ x) = grind (arith, nat_tests) in c)
    where
      go : (b : Bool) → never_of P x ≡ b → stands g (wanted (never_of P) xs) ≡ stands g xs → (g ≡ x) ⊎ (g ≢ x) → stands g (if b then wanted (never_of P) xs else x ∷ wanted (never_of P) xs) ≡ stands g (x ∷ xs)
      go true k r (inl s) = absurd (let a : never_of P x ≡ false = subst (λ (y : ℕ). never_of P y ≡ false) s e in let c : true ≡ false = sym k ∙ a in cc)
      go true k r (inr s) = r ∙ (let q : stands g xs ≡ stands g (x ∷ xs) = grind (arith, nat_tests) in q)
      go false k r s = ap (λ (b : Bool). (g == x) || b) r

  lent_found : (f g : ℕ) (gs : List ℕ) → stands g (lent_of P f gs) ≡ (stands g gs && may_take P f g)
  lent_found f g [] = refl
  lent_found f g (x ∷ xs) = go (may_take P f x) refl (lent_found f g xs) (let c : (g ≡ x) ⊎ (g ≢ x) = grind (arith, nat_tests) in c)
    where
      neither : (a b m : Bool) → m ≡ false → (a && m) ≡ (b && m)
      neither a b m e = ap (λ (c : Bool). a && c) e ∙ both a b ∙ sym (ap (λ (c : Bool). b && c) e)
        where
          both : (a b : Bool) → (a && false) ≡ (b && false)
          both true true = refl
          both true false = refl
          both false true = refl
          both false false = refl

      go : (b : Bool) → may_take P f x ≡ b → stands g (lent_of P f xs) ≡ (stands g xs && may_take P f g) → (g ≡ x) ⊎ (g ≢ x) → stands g ((if b then x ∷ [] else []) ++ lent_of P f xs) ≡ (stands g (x ∷ xs) && may_take P f g)
      go true k r (inl s) =
          let here : (g == x) ≡ true = grind (arith, nat_tests) in
          let may : may_take P f g ≡ true = subst (λ (y : ℕ). may_take P f y ≡ true) (sym s) k in
          ap (λ (b : Bool). b || stands g (lent_of P f xs)) here ∙ sym (ap (λ (b : Bool). (b || stands g xs) && may_take P f g) here ∙ may)
      go true k r (inr s) =
          let here : (g == x) ≡ false = grind (arith, nat_tests) in
          ap (λ (b : Bool). b || stands g (lent_of P f xs)) here ∙ r ∙ sym (ap (λ (b : Bool). (b || stands g xs) && may_take P f g) here)
      go false k r (inl s) =
          let may : may_take P f g ≡ false = subst (λ (y : ℕ). may_take P f y ≡ false) (sym s) k in
          r ∙ neither (stands g xs) (stands g (x ∷ xs)) (may_take P f g) may
      go false k r (inr s) =
          let here : (g == x) ≡ false = grind (arith, nat_tests) in
          r ∙ sym (ap (λ (b : Bool). (b || stands g xs) && may_take P f g) here)

  pub lent_all : (f : ℕ) (a : Asking) → IsAsking P f a → a.part ≡ part.Elab → (g : ℕ) → stands g (map fn_number a.lent) ≡ (stands g (cands P (opt P) f) && may_take P f g)
  lent_all f a i p g =
      let none : all_of P f ≡ i.done = i.all ∙ ap (λ (q : Part). i.done ++ ahead P f q a.walk) p ∙ append-nil i.done in
      ap (stands g) i.lent ∙ lent_found f g i.done ∙ ap (λ (xs : List ℕ). stands g xs && may_take P f g) (sym none) ∙ same (is_never (P.inlining g)) refl
    where
      same : (b : Bool) → is_never (P.inlining g) ≡ b → (stands g (all_of P f) && may_take P f g) ≡ (stands g (cands P (opt P) f) && may_take P f g)
      same true e = let no : may_take P f g ≡ false = grind arith in grind arith
      same false e = ap (λ (b : Bool). b && may_take P f g) (stands_wanted g (cands P (opt P) f) e)

  pub large_all : (f : ℕ) (a : Asking) → IsAsking P f a → a.part ≡ part.Elab → a.large ≡ is_large P f
  large_all f a i p = subst (λ (q : Part). Known P f q a.large) p i.known
