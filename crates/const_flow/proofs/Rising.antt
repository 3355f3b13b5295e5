-- The flow problem keeps its laws, so the rounds end in its least solution.
use Rattle.std.proofs.Common.{◌≡◌, ◌⊎◌, inl, inr, refl, ap, ap₂, subst, ℕ, zero, suc, ◌*◌, List, [], ◌∷◌, ◌++◌, map, length, Some, None, slice_get, arith}
use Rattle.mir_syntax.specs.Crate.{TypedBlock, TypedBody}
use Rattle.mir_syntax.specs.Shapes.{Shape}
use Rattle.mir_syntax.specs.Parts.{targets}
use Rattle.mir_semantics.specs.Step.{Here}
use Rattle.flow_engine.specs.Flow.{Arrow, Least}
use Rattle.flow_engine.proofs.Laws.{Laws}
use Rattle.const_flow.specs.ConstAt.{Reached, tracked, text, unreached, begins, arrow, arrows_from, const_flow, const_at}
use Rattle.const_flow.specs.Rounds.{round, repeated}
use Rattle.const_flow.specs.Order.{BelowReached, OkReached, rank, height}
use Rattle.const_flow.proofs.Ends.{bottoms, rounds, enough, ends, least_solution}
use Rattle.const_flow.specs.Rises.{some_one, sent_below, sent_ok, joined_ok, same_reached, then_reached, left_reached, right_reached, least_reached, rank_reached, rank_equal, rank_high, first_places}

-- members of lists
get_append : {A : Type 0} (xs ys : List A) (i : ℕ) (x : A) → slice_get (xs ++ ys) i ≡ Some x → ((n : ℕ) × (slice_get xs n ≡ Some x)) ⊎ ((n : ℕ) × (slice_get ys n ≡ Some x))
get_append [] ys i x e = inr (i, e)
get_append (a ∷ xs) ys zero x e = inl (0, e)
get_append (a ∷ xs) ys (suc i) x e = up (get_append xs ys i x e)
  where
    up : ((n : ℕ) × (slice_get xs n ≡ Some x)) ⊎ ((n : ℕ) × (slice_get ys n ≡ Some x)) → ((n : ℕ) × (slice_get (a ∷ xs) n ≡ Some x)) ⊎ ((n : ℕ) × (slice_get ys n ≡ Some x))
    up (inl (n, q)) = inl (suc n, q)
    up (inr h) = inr h

get_map : {A B : Type 0} (g : A → B) (xs : List A) (i : ℕ) (y : B) → slice_get (map g xs) i ≡ Some y → (x : A) × (g x ≡ y)
get_map g [] i y e = absurd (grind arith)
get_map g (x ∷ xs) zero y e = (x, some_one e)
get_map g (x ∷ xs) (suc i) y e = get_map g xs i y e

-- an edge is a block's
arrow_is : (T : Here) (a : ℕ) (ks : List TypedBlock) (i : ℕ) (e : Arrow Reached) → slice_get (arrows_from T a ks) i ≡ Some e → (k : TypedBlock) × (n t : ℕ) × (arrow T n k t ≡ e)
arrow_is T a [] i e q = absurd (grind arith)
arrow_is T a (k ∷ ks) i e q = go (get_append (map (arrow T a k) (targets k.term)) (arrows_from T (suc a) ks) i e q) (λ n q. arrow_is T (suc a) ks n e q)
  where
    go : ((n : ℕ) × (slice_get (map (arrow T a k) (targets k.term)) n ≡ Some e)) ⊎ ((n : ℕ) × (slice_get (arrows_from T (suc a) ks) n ≡ Some e)) → ((n : ℕ) → slice_get (arrows_from T (suc a) ks) n ≡ Some e → (k : TypedBlock) × (n t : ℕ) × (arrow T n k t ≡ e)) → (k : TypedBlock) × (n t : ℕ) × (arrow T n k t ≡ e)
    go (inl (n, h)) ih = let (t, s) = get_map (arrow T a k) (targets k.term) n e h in (k, a, t, s)
    go (inr (n, h)) ih = ih n h

module _ (D : List Shape) (b : TypedBody) where
  abbrev pub Ok : Reached → Type 0
  Ok = OkReached (tracked D b)

  unreached_none : (ks : List TypedBlock) (i : ℕ) (s : Reached) → slice_get (unreached ks) i ≡ Some s → Ok s
  unreached_none [] i s e = absurd (grind arith)
  unreached_none (k ∷ ks) zero s e = subst Ok (some_one e) tt
  unreached_none (k ∷ ks) (suc i) s e = unreached_none ks i s e

  begins_ok : (ks : List TypedBlock) (i : ℕ) (s : Reached) → slice_get (begins D b ks) i ≡ Some s → Ok s
  begins_ok [] i s e = absurd (grind arith)
  begins_ok (k ∷ ks) zero s e = subst Ok (some_one e) (first_places b (tracked D b))
  begins_ok (k ∷ ks) (suc i) s e = unreached_none ks i s e

  pub const_laws : Laws Ok BelowReached rank (height (tracked D b)) (const_flow D b)
  unfolding const_flow
  const_laws = record {
    same = λ x h. same_reached (tracked D b) x;
    then_below = then_reached (tracked D b);
    join_ok = joined_ok (tracked D b);
    left = left_reached (tracked D b);
    right = right_reached (tracked D b);
    least = λ x y z h k. least_reached (tracked D b) x y z;
    rank_below = rank_reached (tracked D b);
    rank_same = rank_equal (tracked D b);
    height = rank_high (tracked D b);
    starts_ok = begins_ok b.blocks;
    flow_ok = λ i e x is h. (let (k, n, t, s) = arrow_is (text D b) 0 b.blocks i e is in subst (λ e. Ok (e.flow x)) s (sent_ok (tracked D b) (text D b) k t x h));
    flow_below = λ i e x y is h h' le. (let (k, n, t, s) = arrow_is (text D b) 0 b.blocks i e is in subst (λ e. BelowReached (e.flow x) (e.flow y)) s (sent_below (text D b) k t x y le));
  }

  unreached_bottoms : (ks : List TypedBlock) → bottoms Ok BelowReached rank (height (tracked D b)) (const_flow D b) const_laws None tt (λ x h. tt) (unreached ks) ≡ unreached ks
  unreached_bottoms [] = refl
  unreached_bottoms (k ∷ ks) = ap (λ xs. None ∷ xs) (unreached_bottoms ks)

  begins_bottoms : (ks : List TypedBlock) → bottoms Ok BelowReached rank (height (tracked D b)) (const_flow D b) const_laws None tt (λ x h. tt) (begins D b ks) ≡ unreached ks
  begins_bottoms [] = refl
  begins_bottoms (k ∷ ks) = ap (λ xs. None ∷ xs) (unreached_bottoms ks)

  unreached_length : (ks : List TypedBlock) → length (unreached ks) ≡ length ks
  unreached_length [] = refl
  unreached_length (k ∷ ks) = ap suc (unreached_length ks)

  pub begins_length : (ks : List TypedBlock) → length (begins D b ks) ≡ length ks
  begins_length [] = refl
  begins_length (k ∷ ks) = ap suc (unreached_length ks)

  const_rounds : rounds Ok BelowReached rank (height (tracked D b)) (const_flow D b) const_laws None tt (λ x h. tt) (enough Ok BelowReached rank (height (tracked D b)) (const_flow D b) const_laws None tt (λ x h. tt)) ≡ const_at D b
  unfolding const_at const_flow
  const_rounds = ap₂ (λ n xs. repeated (n * height (tracked D b)) (round (const_flow D b)) xs) (begins_length b.blocks) (begins_bottoms b.blocks)

  -- after these rounds nothing changes
  pub const_ends : round (const_flow D b) (const_at D b) ≡ const_at D b
  const_ends = subst (λ xs. round (const_flow D b) xs ≡ xs) const_rounds (ends Ok BelowReached rank (height (tracked D b)) (const_flow D b) const_laws None tt (λ x h. tt))

  -- and it is what the engine gives
  pub const_least : Least Ok BelowReached (const_flow D b) (const_at D b)
  const_least = subst (Least Ok BelowReached (const_flow D b)) const_rounds (least_solution Ok BelowReached rank (height (tracked D b)) (const_flow D b) const_laws None tt (λ x h. tt))
