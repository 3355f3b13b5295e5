-- The slots of a new frame on both sides: arguments keep their numbers, and the others are blank.
use Rattle.std.proofs.Common.{◌≡◌, ◌⊎◌, inl, inr, refl, sym, ap, ◌∙◌, subst, ℕ, zero, suc, ◌<◌, ◌≤◌, List, [], ◌∷◌, ◌++◌, length, drop, Option, Some, None, slice_get, arith}
use Rattle.std.proofs.lemmas.Option.{slice_get_within}
use Rattle.mir_syntax.specs.Tree.{Tree}
use Rattle.mir_syntax.specs.Shapes.{Shape}
use Rattle.mir_semantics.specs.Values.{Value, blank}
use Rattle.mir_semantics.specs.Step.{blanks, new_slots}
use Rattle.mir_renaming.specs.Renaming.{Renaming, ValueRel, SomeRel}
use Rattle.mir_renaming.proofs.Statements.{ValuesRel, blank_rel}
use Rattle.mir_renaming.proofs.Agree.{Agree, Tight, tight_agree, tight_self}
use Rattle.mir_renaming.proofs.Slots.{value_in, same_length}
use Rattle.mir_renaming.proofs.Tight.{tight_in}
use Rattle.mir_relate.specs.Alike.{AllSame}
use Rattle.mir_relate.proofs.Leaves.{some_val}
use Rattle.trim_locals.proofs.Renumbered.{NonEmpty}

module _ (D : List Shape) where
  blank_at : (ts : List Tree) (x : ℕ) (v : Value) → slice_get (blanks D ts) x ≡ Some v → (t : Tree) × (slice_get ts x ≡ Some t) × (blank D t ≡ v)
  blank_at [] x v e = absurd (grind arith)
  blank_at (t ∷ ts) zero v e = (t, refl, grind arith)
  blank_at (t ∷ ts) (suc x) v e = blank_at ts x v e

  pub at_blank : (ts : List Tree) (x : ℕ) (t : Tree) → slice_get ts x ≡ Some t → slice_get (blanks D ts) x ≡ Some (blank D t)
  at_blank [] x t e = absurd (grind arith)
  at_blank (u ∷ ts) zero t e = ap (λ t. Some (blank D t)) (let z : u ≡ t = grind arith in z)
  at_blank (u ∷ ts) (suc x) t e = at_blank ts x t e

  -- behind the result
  abbrev pub rest : List Value → List Tree → List Value
  rest vs ts = vs ++ blanks D (drop (length vs) ts)

  pub in_rest : (vs : List Value) (ts : List Tree) (x : ℕ) (v : Value) → slice_get (rest vs ts) x ≡ Some v → (slice_get vs x ≡ Some v) ⊎ ((length vs ≤ x) × ((t : Tree) × (slice_get ts x ≡ Some t) × (blank D t ≡ v)))
  in_rest [] ts x v e = inr (omega arith, blank_at ts x v e)
  in_rest (w ∷ vs) ts zero v e = inl e
  in_rest (w ∷ vs) [] (suc x) v e = go (in_rest vs [] x v (subst (λ ts. slice_get (vs ++ blanks D ts) x ≡ Some v) (sym (nothing (length vs))) e))
    where
      nothing : (n : ℕ) → ◌≡◌ {A = List Tree} (drop n []) []
      nothing zero = refl
      nothing (suc n) = refl

      go : (slice_get vs x ≡ Some v) ⊎ ((length vs ≤ x) × ((t : Tree) × (None ≡ Some t) × (blank D t ≡ v))) → (slice_get vs x ≡ Some v) ⊎ ((suc (length vs) ≤ suc x) × ((t : Tree) × (None ≡ Some t) × (blank D t ≡ v)))
      go (inl h) = inl h
      go (inr (l, h)) = inr (omega (arith, l), h)
  in_rest (w ∷ vs) (t ∷ ts) (suc x) v e = go (in_rest vs ts x v e)
    where
      go : (slice_get vs x ≡ Some v) ⊎ ((length vs ≤ x) × ((t : Tree) × (slice_get ts x ≡ Some t) × (blank D t ≡ v))) → (slice_get vs x ≡ Some v) ⊎ ((suc (length vs) ≤ suc x) × ((t : Tree) × (slice_get ts x ≡ Some t) × (blank D t ≡ v)))
      go (inl h) = inl h
      go (inr (l, h)) = inr (omega (arith, l), h)

  pub rest_arg : (vs : List Value) (us : List Value) (x : ℕ) (v : Value) → slice_get vs x ≡ Some v → slice_get (vs ++ us) x ≡ Some v
  rest_arg [] us x v e = absurd (grind arith)
  rest_arg (w ∷ vs) us zero v e = e
  rest_arg (w ∷ vs) us (suc x) v e = rest_arg vs us x v e

  pub rest_blank : (vs : List Value) (ts : List Tree) (x : ℕ) (t : Tree) → length vs ≤ x → slice_get ts x ≡ Some t → slice_get (vs ++ blanks D (drop (length vs) ts)) x ≡ Some (blank D t)
  rest_blank [] ts x t l e = at_blank ts x t e
  rest_blank (w ∷ vs) ts zero t l e = absurd (omega (arith, l))
  rest_blank (w ∷ vs) [] (suc x) t l e = absurd (grind arith)
  rest_blank (w ∷ vs) (u ∷ ts) (suc x) t l e = rest_blank vs ts x t (omega (arith, l)) e

  below : (a b : ℕ) → (a ≤ b) ⊎ (b < a)
  below zero b = inl (omega arith)
  below (suc a) zero = inr (omega arith)
  below (suc a) (suc b) = up (below a b)
    where
      up : (a ≤ b) ⊎ (b < a) → (suc a ≤ suc b) ⊎ (suc b < suc a)
      up (inl h) = inl (omega (arith, h))
      up (inr h) = inr (omega (arith, h))

  -- what stands for a local of the function, and which locals keep their numbers
  module _ (B : ℕ → Option ℕ) (once : (x x' y : ℕ) → B x ≡ Some y → B x' ≡ Some y → x ≡ x') (args : ℕ) (fixed : (x : ℕ) → x ≤ args → B x ≡ Some x) (t1 t2 : Tree) (ts1 ts2 : List Tree) (types : (x y : ℕ) → B x ≡ Some y → slice_get (t1 ∷ ts1) x ≡ slice_get (t2 ∷ ts2) y) where
    only : (a b : ℕ) → Some a ≡ Some b → a ≡ b
    only a b e = grind arith

    only_ty : (a b : Tree) → Some a ≡ Some b → a ≡ b
    only_ty a b e = grind arith

    kept : (x y : ℕ) → B x ≡ Some y → x ≤ args → x ≡ y
    kept x y e l = only x y (sym (fixed x l) ∙ e)

    -- a local behind the arguments stands for one behind them
    behind : (x y : ℕ) → B x ≡ Some y → args < x → args < y
    behind x y e l = go (below y args)
      where
        go : (y ≤ args) ⊎ (args < y) → args < y
        go (inl h) = let z : x ≡ y = once x y y e (fixed y h) in absurd (omega (arith, z, h, l))
        go (inr h) = h

    slots_to : (j : Renaming) (vs ws : List Value) → ValuesRel j vs ws → length vs ≤ args → (x y : ℕ) → B x ≡ Some y → (v : Value) → slice_get (new_slots D (t1 ∷ ts1) vs) x ≡ Some v → SomeRel j v (slice_get (new_slots D (t2 ∷ ts2) ws) y)
    unfolding new_slots
    slots_to j vs ws h few zero zero b v e =
        let same : t1 ≡ t2 = only_ty t1 t2 (types 0 0 b) in
        (blank D t2, refl, subst (λ y. ValueRel j y (blank D t2)) (ap (blank D) (sym same) ∙ (let z : blank D t1 ≡ v = grind arith in z)) (blank_rel j D t2))
    slots_to j vs ws h few zero (suc y) b v e = let z : 0 ≡ suc y = kept 0 (suc y) b (omega arith) in absurd (omega (arith, z))
    slots_to j vs ws h few (suc x) zero b v e = let z : suc x ≡ 0 = once (suc x) 0 0 b (fixed 0 (omega arith)) in absurd (omega (arith, z))
    slots_to j vs ws h few (suc x) (suc y) b v e = go (in_rest vs ts1 x v e)
      where
        long : length vs ≡ length ws
        long = same_length j vs ws h

        reach : (suc x ≤ args) ⊎ (args < suc x) → length vs ≤ x → length ws ≤ y
        reach (inl k) l = let z : suc x ≡ suc y = kept (suc x) (suc y) b k in let n = long in omega (arith, l, z, n)
        reach (inr k) l = let z = behind (suc x) (suc y) b k in let n = long in omega (arith, z, n, few)

        go : (slice_get vs x ≡ Some v) ⊎ ((length vs ≤ x) × ((t : Tree) × (slice_get ts1 x ≡ Some t) × (blank D t ≡ v))) → SomeRel j v (slice_get (rest ws ts2) y)
        go (inl a) =
            let l = slice_get_within vs x v a in
            let z : suc x ≡ suc y = kept (suc x) (suc y) b (omega (arith, l, few)) in
            let q : x ≡ y = omega (arith, z) in
            let (w, aw, rel) = value_in j vs ws x v h a in
            (w, subst (λ y. slice_get (rest ws ts2) y ≡ Some w) q (rest_arg ws (blanks D (drop (length ws) ts2)) x w aw), rel)
        go (inr (l, (t, at, is))) = (blank D t, rest_blank ws ts2 y t (reach (below (suc x) args) l) (sym (types (suc x) (suc y) b) ∙ at), subst (λ y. ValueRel j y (blank D t)) is (blank_rel j D t))

pub slots_of : (D : List Shape) (B : ℕ → Option ℕ) (once : (x x' y : ℕ) → B x ≡ Some y → B x' ≡ Some y → x ≡ x') (args : ℕ) (fixed : (x : ℕ) → x ≤ args → B x ≡ Some x) (us1 us2 : List Tree) → NonEmpty us1 → NonEmpty us2 → ((x y : ℕ) → B x ≡ Some y → slice_get us1 x ≡ slice_get us2 y) → (j : Renaming) (vs ws : List Value) → ValuesRel j vs ws → length vs ≤ args → (x y : ℕ) → B x ≡ Some y → (v : Value) → slice_get (new_slots D us1 vs) x ≡ Some v → SomeRel j v (slice_get (new_slots D us2 ws) y)
slots_of D B once args fixed (t1 ∷ ts1) (t2 ∷ ts2) n1 n2 types j vs ws h few x y b v e = slots_to D B once args fixed t1 t2 ts1 ts2 types j vs ws h few x y b v e
slots_of D B once args fixed [] us2 n1 n2 types j vs ws h few x y b v e = absurd n1
slots_of D B once args fixed us1 [] n1 n2 types j vs ws h few x y b v e = absurd n2

-- ---- and they agree where they stand for each other

module _ (D : List Shape) where
  -- a slot is that of an argument, or the blank of its type
  abbrev FromArgs : List Tree → List Value → ℕ → Value → Type 0
  FromArgs ts vs x v = ((k : ℕ) × (x ≡ suc k) × (slice_get vs k ≡ Some v)) ⊎ (((x ≡ 0) ⊎ (length vs < x)) × ((t : Tree) × (slice_get ts x ≡ Some t) × (blank D t ≡ v)))

  slot_is : (ts : List Tree) (vs : List Value) (x : ℕ) (v : Value) → NonEmpty ts → slice_get (new_slots D ts vs) x ≡ Some v → FromArgs ts vs x v
  unfolding new_slots
  slot_is [] vs x v ne e = absurd ne
  slot_is (t ∷ ts) vs zero v ne e = inr (inl refl, (t, refl, some_val e))
  slot_is (t ∷ ts) vs (suc x) v ne e = go (in_rest D vs ts x v e)
    where
      go : (slice_get vs x ≡ Some v) ⊎ ((length vs ≤ x) × ((u : Tree) × (slice_get ts x ≡ Some u) × (blank D u ≡ v))) → FromArgs (t ∷ ts) vs (suc x) v
      go (inl h) = inl (x, refl, h)
      go (inr (l, h)) = inr (inr (omega (arith, l)), h)

  pub slots_agree : (B : ℕ → Option ℕ) (once : (x x' y : ℕ) → B x ≡ Some y → B x' ≡ Some y → x ≡ x') (args : ℕ) (fixed : (x : ℕ) → x ≤ args → B x ≡ Some x) (ts1 ts2 : List Tree) → NonEmpty ts1 → NonEmpty ts2 → ((x y : ℕ) → B x ≡ Some y → slice_get ts1 x ≡ slice_get ts2 y) → (j : Renaming) (vs ws : List Value) → AllSame j vs ws → length vs ≤ args → (x y : ℕ) (t : Tree) (v w : Value) → B x ≡ Some y → slice_get (new_slots D ts1 vs) x ≡ Some v → slice_get (new_slots D ts2 ws) y ≡ Some w → Agree D t v w
  slots_agree B once args fixed ts1 ts2 n1 n2 types j vs ws hv few x y t v w b e1 e2 = go (slot_is ts1 vs x v n1 e1) (slot_is ts2 ws y w n2 e2)
    where
      long : length vs ≡ length ws
      long = same_length j vs ws hv.0

      go : FromArgs ts1 vs x v → FromArgs ts2 ws y w → Agree D t v w
      go (inl (k, ex, a1)) (inl (i, ey, a2)) =
          let l = slice_get_within vs k v a1 in
          let z : x ≡ y = some_val (sym (fixed x (omega (arith, l, few, ex))) ∙ b) in
          let q : i ≡ k = omega (arith, z, ex, ey) in
          tight_agree D v w t (tight_in vs ws k v w hv.1 a1 (subst (λ i. slice_get ws i ≡ Some w) q a2))
      go (inl (k, ex, a1)) (inr (far, _)) =
          let l = slice_get_within vs k v a1 in
          let z : x ≡ y = some_val (sym (fixed x (omega (arith, l, few, ex))) ∙ b) in
          absurd (outside k l ex z far)
        where
          outside : (k : ℕ) → k < length vs → x ≡ suc k → x ≡ y → (y ≡ 0) ⊎ (length ws < y) → ⊥
          outside k l ex z (inl q) = absurd (omega (arith, ex, z, q))
          outside k l ex z (inr q) = (let n = long in absurd (omega (arith, l, ex, z, q, n)))
      go (inr (far, _)) (inl (i, ey, a2)) =
          let l = slice_get_within ws i w a2 in
          let n = long in
          let z : x ≡ y = once x y y b (fixed y (omega (arith, l, n, few, ey))) in
          absurd (outside i l ey z far)
        where
          outside : (i : ℕ) → i < length ws → y ≡ suc i → x ≡ y → (x ≡ 0) ⊎ (length vs < x) → ⊥
          outside i l ey z (inl q) = absurd (omega (arith, ey, z, q))
          outside i l ey z (inr q) = (let n = long in absurd (omega (arith, l, ey, z, q, n)))
      go (inr (_, (u1, t1, s1))) (inr (_, (u2, t2, s2))) =
          let same : u1 ≡ u2 = some_val (sym t1 ∙ types x y b ∙ t2) in
          tight_agree D v w t (subst (λ v. Tight v w) s1 (subst (λ w. Tight (blank D u1) w) s2 (subst (λ u. Tight (blank D u1) (blank D u)) same (tight_self (blank D u1)))))
