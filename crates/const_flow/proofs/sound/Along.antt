-- A solution of the flow problem holds along the edges.
use Rattle.std.proofs.Common.{◌≡◌, refl, sym, ap, ap₂, ◌∙◌, subst, ℕ, zero, suc, ◌+◌, Bool, true, false, nat_eq, ◌||◌, ◌&&◌, List, [], ◌∷◌, ◌++◌, map, length, Some, None, slice_get, arith}
use Rattle.std.proofs.lemmas.Bool.{eqb-true}
use Rattle.mir_syntax.specs.declared.body.Arm.{Arm}
use Rattle.mir_syntax.specs.declared.body.Term.{Term}
use Rattle.mir_syntax.specs.declared.body.Term.TheVariants.{Goto, Switch, Return, Unreachable, Drop, Call, Assert}
use Rattle.mir_syntax.specs.Crate.{TypedBlock, TypedBody, Crate}
use Rattle.mir_syntax.specs.Shapes.{Shape}
use Rattle.mir_syntax.specs.Parts.{arm_block, targets}
use Rattle.mir_syntax.proofs.Lists.{map_there}
use Rattle.mir_rules.specs.Formed.{body_formed}
use Rattle.mir_rules.proofs.Terminators.{slice_get_there}
use Rattle.mir_rules.proofs.ValidCrates.{first_block, target_there}
use Rattle.mir_semantics.specs.Step.{Here}
use Rattle.flow_engine.specs.Flow.{Solves}
use Rattle.const_flow.specs.declared.cell.Cell.{Cell}
use Rattle.const_flow.specs.declared.cell.Cell.TheVariants.{Nothing, Num, Many}
use Rattle.const_flow.specs.Facts.{Facts, known, after_all, after_term, any_arm, switch_to, can_be, leads}
use Rattle.const_flow.specs.ConstAt.{Reached, sent_if, sent, text, first_facts, unreached, begins, arrow, arrows_from, const_flow, const_at}
use Rattle.const_flow.specs.Order.{BelowFacts, BelowReached}
use Rattle.const_flow.specs.Holding.{IsSound}
use Rattle.const_flow.proofs.Same.{arm_there}
use Rattle.const_flow.proofs.Rising.{const_least}

some_one : {A : Type 0} {x y : A} → Some x ≡ Some y → x ≡ y
some_one e = grind arith

left_there : {A : Type 0} (xs ys : List A) (i : ℕ) (x : A) → slice_get xs i ≡ Some x → (n : ℕ) × (slice_get (xs ++ ys) n ≡ Some x)
left_there [] ys i x e = absurd (grind arith)
left_there (a ∷ xs) ys zero x e = (0, e)
left_there (a ∷ xs) ys (suc i) x e = let (n, q) = left_there xs ys i x e in (suc n, q)

right_there : {A : Type 0} (xs ys : List A) (i : ℕ) (x : A) → slice_get ys i ≡ Some x → (n : ℕ) × (slice_get (xs ++ ys) n ≡ Some x)
right_there [] ys i x e = (i, e)
right_there (a ∷ xs) ys i x e = let (n, q) = right_there xs ys i x e in (suc n, q)

-- ---- what a block leads to is among its targets

any_target : (b : ℕ) (arms : List Arm) (other : ℕ) → any_arm b arms other ≡ true → (m : ℕ) × (slice_get (map arm_block arms ++ other ∷ []) m ≡ Some b)
any_target b [] other e = (0, ap Some (eqb-true other b e))
any_target b (a ∷ arms) other e = go (nat_eq a.block b) refl e (λ q. any_target b arms other q)
  where
    go : (c : Bool) → nat_eq a.block b ≡ c → (c || any_arm b arms other) ≡ true → (any_arm b arms other ≡ true → (m : ℕ) × (slice_get (map arm_block arms ++ other ∷ []) m ≡ Some b)) → (m : ℕ) × (slice_get (map arm_block (a ∷ arms) ++ other ∷ []) m ≡ Some b)
    go true h q ih = (0, ap Some (eqb-true a.block b h))
    go false h q ih = let (m, q) = ih q in (suc m, q)

switch_target : (b : ℕ) (k : Cell) (arms : List Arm) (other : ℕ) → switch_to b k arms other ≡ true → any_arm b arms other ≡ true
switch_target b Nothing arms other e = absurd (grind arith)
switch_target b (Num n) arms other e = subst (λ b. any_arm b arms other ≡ true) (eqb-true _ b e) (arm_there n arms other)
switch_target b Many arms other e = e

and_second : (a b : Bool) → (a && b) ≡ true → b ≡ true
and_second true b e = e
and_second false b e = absurd (grind arith)

leads_target : (fs : Facts) (t : Term) (b : ℕ) → leads fs t b ≡ true → (m : ℕ) × (slice_get (targets t) m ≡ Some b)
unfolding leads
leads_target fs (Goto t) b e = (0, ap Some (eqb-true t b e))
leads_target fs (Switch o arms t) b e = any_target b arms t (switch_target b (known fs o) arms t e)
leads_target fs Return b e = absurd (grind arith)
leads_target fs Unreachable b e = absurd (grind arith)
leads_target fs (Drop p t) b e = (0, ap Some (eqb-true t b e))
leads_target fs (Call p g os t) b e = (0, ap Some (eqb-true t b e))
leads_target fs (Assert o ex x os t) b e = (0, ap Some (eqb-true t b (and_second (can_be ex (known fs o)) (nat_eq t b) e)))

-- ---- each edge is an arrow

arrow_there : (T : Here) (a : ℕ) (ks : List TypedBlock) (i m t : ℕ) (k : TypedBlock) → slice_get ks i ≡ Some k → slice_get (targets k.term) m ≡ Some t → (n : ℕ) × (slice_get (arrows_from T a ks) n ≡ Some (arrow T (a + i) k t))
arrow_there T a [] i m t k e q = absurd (grind arith)
arrow_there T a (b ∷ ks) zero m t k e q =
    let h : slice_get (targets b.term) m ≡ Some t = ap (λ (b : TypedBlock). slice_get (targets b.term) m) (some_one e) ∙ q in
    let (n, s) = left_there (map (arrow T a b) (targets b.term)) (arrows_from T (suc a) ks) m (arrow T a b t) (map_there (arrow T a b) (targets b.term) m t h) in
    (n, s ∙ ap₂ (λ a b. Some (arrow T a b t)) (let z : a ≡ a + 0 = omega arith in z) (some_one e))
arrow_there T a (b ∷ ks) (suc i) m t k e q =
    let (n, s) = arrow_there T (suc a) ks i m t k e q in
    let (n', s') = right_there (map (arrow T a b) (targets b.term)) (arrows_from T (suc a) ks) n (arrow T (suc a + i) k t) s in
    (n', s' ∙ ap (λ a. Some (arrow T a k t)) (let z : suc a + i ≡ a + suc i = omega arith in z))

module _ (D : List Shape) (b : TypedBody) where
  -- there is a first block, and the blocks to which the body goes
  pub record InRange : Type 0 where
    pub first : TypedBlock
    pub is_first : slice_get b.blocks 0 ≡ Some first
    pub next : (i m t : ℕ) (k : TypedBlock) → slice_get b.blocks i ≡ Some k → slice_get (targets k.term) m ≡ Some t → (k' : TypedBlock) × (slice_get b.blocks t ≡ Some k')

  unreached_length : (ks : List TypedBlock) → length (unreached ks) ≡ length ks
  unreached_length [] = refl
  unreached_length (k ∷ ks) = ap suc (unreached_length ks)

  begins_length : (ks : List TypedBlock) → length (begins D b ks) ≡ length ks
  begins_length [] = refl
  begins_length (k ∷ ks) = ap suc (unreached_length ks)

  same_there : {X Y : Type 0} (xs : List X) (ys : List Y) (i : ℕ) (x : X) → length xs ≡ length ys → slice_get xs i ≡ Some x → (y : Y) × (slice_get ys i ≡ Some y)
  same_there [] ys i x e q = absurd (grind arith)
  same_there (a ∷ xs) [] i x e q = absurd (grind arith)
  same_there (a ∷ xs) (c ∷ ys) zero x e q = (c, refl)
  same_there (a ∷ xs) (c ∷ ys) (suc i) x e q = same_there xs ys i x (grind arith) q

  begins_first : (k : TypedBlock) → slice_get b.blocks 0 ≡ Some k → slice_get (begins D b b.blocks) 0 ≡ Some (Some (first_facts D b))
  begins_first k e = go b.blocks e
    where
      go : (ks : List TypedBlock) → slice_get ks 0 ≡ Some k → slice_get (begins D b ks) 0 ≡ Some (Some (first_facts D b))
      go [] e = absurd (grind arith)
      go (c ∷ ks) e = refl

  reached_below : (fs : Facts) (y : Reached) → BelowReached (Some fs) y → (gs : Facts) × (y ≡ Some gs) × BelowFacts fs gs
  reached_below fs (Some gs) h = (gs, refl, h)
  reached_below fs None h = absurd h

  pub sound_facts : InRange → (xs : List Reached) → Solves BelowReached (const_flow D b) xs → IsSound D b xs
  unfolding const_flow sent
  sound_facts r xs s = record {
    first =
        (let (y, iy) = same_there b.blocks xs 0 r.first (sym (begins_length b.blocks) ∙ sym s.same_length) r.is_first in
        let (gs, e, le) = reached_below (first_facts D b) y (s.start 0 (Some (first_facts D b)) y (begins_first r.first r.is_first) iy) in
        (gs, iy ∙ ap (λ y. Some y) e, le));
    next = λ a t k fs is_k is_fs l.
        (let (m, im) = leads_target (after_all (text D b) k.stmts fs) k.term t l in
        let (k', ik') = r.next a m t k is_k im in
        let (n, ia) = arrow_there (text D b) 0 b.blocks a m t k is_k im in
        let (y, iy) = same_there b.blocks xs t k' (sym (begins_length b.blocks) ∙ sym s.same_length) ik' in
        let is_fs' : slice_get xs (0 + a) ≡ Some (Some fs) = ap (slice_get xs) (let z : 0 + a ≡ a = omega arith in z) ∙ is_fs in
        let le = s.edge n (arrow (text D b) (0 + a) k t) (Some fs) y ia is_fs' iy in
        let out = after_term k.term (after_all (text D b) k.stmts fs) in
        let (gs, e, below) = reached_below out y (subst (λ c. BelowReached (sent_if c out) y) l le) in
        (gs, iy ∙ ap (λ y. Some y) e, below));
  }

  pub const_sound : InRange → IsSound D b (const_at D b)
  const_sound r = sound_facts r (const_at D b) (const_least D b).solves

-- the least facts of a formed body hold along its edges
pub formed_sound : (C : Crate) (D : List Shape) (b : TypedBody) → body_formed C b ≡ true → IsSound D b (const_at D b)
formed_sound C D b formed =
    let (k, e) = first_block C b formed in
    const_sound D b (record { first = k; is_first = e; next = λ i m t k e1 e2. slice_get_there b.blocks t (target_there C b formed i m t k e1 e2) })
