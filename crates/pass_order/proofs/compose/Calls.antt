-- The callees of a body are its calls, where it holds no `drop`.
use Rattle.std.proofs.Common.{◌≡◌, ◌⊎◌, inl, inr, refl, sym, ap, ◌∙◌, subst, ℕ, zero, suc, ◌<◌, true, false, ◌==◌, List, [], ◌∷◌, Some, slice_get, arith}
use Rattle.std.specs.Prelude.{if◌then◌else◌}
use Rattle.std.specs.List.{All, flat_map}
use Rattle.std.proofs.lemmas.Bool.Decides.{nat_tests}
use Rattle.bit_rows.specs.Rows.{stands}
use Rattle.liveness.specs.Bits.{stands_has}
use Rattle.mir_syntax.specs.declared.body.Callee.TheVariants.{Local, Outside}
use Rattle.mir_syntax.specs.declared.body.Term.{Term}
use Rattle.mir_syntax.specs.declared.body.Term.TheVariants.{Goto, Switch, Return, Unreachable, Drop, Call, Assert}
use Rattle.mir_syntax.specs.Crate.{TypedBlock, TypedBody}
use Rattle.mir_syntax.specs.Shapes.{Shape}
use Rattle.mir_rules.specs.Calls.{Calls}
use Rattle.mir_rules.specs.Drops.{is_drop, NoDrops}
use Rattle.call_graph.specs.Callees.{called, called_in, all_called, once_after, callees}
use Rattle.call_graph.proofs.Once.{bool_tells, stands_cases, stands_first, stands_later, stands_append, stands_left, stands_right}
use Rattle.query_plan.proofs.Calls.{in_once_after}

-- the body calls the function of a number
abbrev pub CallsFn : TypedBody → ℕ → Type 0
CallsFn b g = Calls b (Local (record { 0 = g }))

-- ---- lists

pub after_has : (seen xs : List ℕ) (x : ℕ) → stands x xs ≡ true → stands x seen ≡ false → stands x (once_after seen xs) ≡ true
after_has seen [] x h out = absurd (cc)
after_has seen (y ∷ ys) x h out = go (bool_tells (stands y seen)) (stands_cases x y ys h) (after_has seen ys x) (after_has (y ∷ seen) ys x)
  where
    go : (stands y seen ≡ true) ⊎ (stands y seen ≡ false) → (x ≡ y) ⊎ (stands x ys ≡ true) → (stands x ys ≡ true → stands x seen ≡ false → stands x (once_after seen ys) ≡ true) → (stands x ys ≡ true → stands x (y ∷ seen) ≡ false → stands x (once_after (y ∷ seen) ys) ≡ true) → stands x (if stands y seen then once_after seen ys else y ∷ once_after (y ∷ seen) ys) ≡ true
    go (inl s) (inl e) r t = absurd (let k : stands x seen ≡ true = subst (λ (z : ℕ). stands z seen ≡ true) (sym e) s in grind arith)
    go (inl s) (inr m) r t = let k = r m out in grind arith
    go (inr s) (inl e) r t = let k : stands x (y ∷ once_after (y ∷ seen) ys) ≡ true = subst (λ (z : ℕ). stands x (z ∷ once_after (y ∷ seen) ys) ≡ true) e (stands_first x (once_after (y ∷ seen) ys)) in grind arith
    go (inr s) (inr m) r t = elim (bool_tells (x == y)) [
      | inl e ↦ (let k : stands x (y ∷ once_after (y ∷ seen) ys) ≡ true = grind (arith, nat_tests) in grind arith)
      | inr e ↦ (let a : stands x (y ∷ seen) ≡ false = grind (arith, nat_tests) in let k = stands_later x y (once_after (y ∷ seen) ys) (t m a) in grind arith)
    ]

module _ {A : Type 0} (f : A → List ℕ) where
  flat_of : (xs : List A) (i : ℕ) (a : A) (x : ℕ) → slice_get xs i ≡ Some a → stands x (f a) ≡ true → stands x (flat_map f xs) ≡ true
  flat_of [] i a x e h = absurd (grind arith)
  flat_of (y ∷ xs) zero a x e h = stands_left x (f y) (flat_map f xs) (subst (λ z. stands x (f z) ≡ true) (let z : a ≡ y = grind arith in z) h)
  flat_of (y ∷ xs) (suc i) a x e h = stands_right x (f y) (flat_map f xs) (flat_of xs i a x e h)

  flat_is : (xs : List A) (x : ℕ) → stands x (flat_map f xs) ≡ true → (i : ℕ) × (a : A) × (slice_get xs i ≡ Some a) × (stands x (f a) ≡ true)
  flat_is [] x h = absurd (cc)
  flat_is (y ∷ xs) x h = elim (stands_append x (f y) (flat_map f xs) h) [
    | inl k ↦ (0, y, refl, k)
    | inr k ↦ (let r = flat_is xs x k in (suc r.0, r.1, r.2, r.3))
  ]

-- all numbers of a list are below another one
pub below_all : (n : ℕ) (xs : List ℕ) → All (λ x. x < n) xs → (x : ℕ) → stands x xs ≡ true → x < n
below_all n xs h x s = let at = stands_has x xs s in subst (λ (y : ℕ). y < n) at.2 (h at.0 x at.1)

-- ---- bodies

module _ (D : List Shape) (b : TypedBody) where
  pub calls_listed : (g : ℕ) → CallsFn b g → stands g (callees D b) ≡ true
  unfolding callees
  calls_listed g (i, k, p, os, next, at, ends) =
      let here : stands g (called_in D b.locals k) ≡ true = ap (λ t. stands g (called D b.locals t)) ends ∙ stands_first g [] in
      after_has [] (all_called D b) g (flat_of (called_in D b.locals) b.blocks i k g at here) refl

  one_call : (g i : ℕ) (k : TypedBlock) (t : Term) → slice_get b.blocks i ≡ Some k → k.term ≡ t → is_drop t ≡ false → stands g (called D b.locals t) ≡ true → CallsFn b g
  one_call g i k (Call p (Local f) os next) at ends none h = elim (stands_cases g f.0 [] h) [
    | inl e ↦ (i, k, p, os, next, at, ends ∙ ap (λ (x : ℕ). Call p (Local (record { 0 = x })) os next) (sym e))
    | inr m ↦ absurd (cc)
  ]
  one_call g i k (Call p (Outside o) os next) at ends none h = absurd (cc)
  one_call g i k (Goto t) at ends none h = absurd (cc)
  one_call g i k (Switch a arms t) at ends none h = absurd (cc)
  one_call g i k Return at ends none h = absurd (cc)
  one_call g i k Unreachable at ends none h = absurd (cc)
  one_call g i k (Assert a x w os t) at ends none h = absurd (cc)
  one_call g i k (Drop p t) at ends none h = absurd (cc)

  pub listed_calls : (g : ℕ) → NoDrops b → stands g (callees D b) ≡ true → CallsFn b g
  unfolding callees
  listed_calls g none h =
      let r = flat_is (called_in D b.locals) b.blocks g (in_once_after [] (all_called D b) g h) in
      one_call g r.0 r.1 r.1.term r.2 refl (none.none r.0 r.1 r.2) r.3

  -- callees are called or may be run by a drop
  pub listed_called : (g : ℕ) → stands g (callees D b) ≡ true → stands g (all_called D b) ≡ true
  unfolding callees
  listed_called g h = in_once_after [] (all_called D b) g h
