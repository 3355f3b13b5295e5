-- The threads of a body: what each one says.
use Rattle.std.proofs.Common.{◌≡◌, ◌⊎◌, inl, inr, refl, sym, ap, ◌∙◌, subst, ℕ, zero, suc, ◌+◌, ◌-◌, nat_eq, nat_le, Bool, true, false, if◌then◌else◌, List, [], ◌∷◌, ◌++◌, map, length, Option, Some, None, slice_get, arith}
use Rattle.mir_syntax.specs.declared.body.Arm.{Arm}
use Rattle.mir_syntax.specs.declared.body.Operand.{Operand}
use Rattle.mir_syntax.specs.declared.body.Term.{Term}
use Rattle.mir_syntax.specs.declared.body.Term.TheVariants.{Goto, Switch, Return, Unreachable, Drop, Call, Assert}
use Rattle.mir_syntax.specs.Crate.{TypedBlock, TypedBody}
use Rattle.mir_syntax.specs.Shapes.{Shape}
use Rattle.mir_syntax.specs.Parts.{arm_block, targets}
use Rattle.mir_syntax.proofs.Binds.{bind_some}
use Rattle.mir_rules.specs.Limits.{most_in_body}
use Rattle.mir_semantics.specs.Step.{Here, take_arm}
use Rattle.place_map.proofs.Rises.{take_back}
use Rattle.const_flow.specs.declared.cell.Cell.{Cell}
use Rattle.const_flow.specs.declared.cell.Cell.TheVariants.{Nothing, Num, Many}
use Rattle.const_flow.specs.Facts.{Facts, known, after_all}
use Rattle.const_flow.specs.ConstAt.{Reached, text}
use Rattle.jump_threading.specs.Threaded.{arm_known, taken, jump, Thread, goes_through, thread_of, and_then, threads_from, threads}

some_one : {A : Type 0} {x y : A} → Some x ≡ Some y → x ≡ y
some_one e = grind arith

-- ---- a switch on a known number

pub record Taken (fs : Facts) (t : Term) (u : ℕ) : Type 0 where
  pub operand : Operand
  pub arms : List Arm
  pub other : ℕ
  pub number : ℕ
  pub is_switch : t ≡ Switch operand arms other
  pub is_known : known fs operand ≡ Num number
  pub target : take_arm number arms other ≡ u

pub taken_is : (fs : Facts) (t : Term) (u : ℕ) → taken fs t ≡ Some u → Taken fs t u
unfolding taken
taken_is fs (Switch o arms other) u e = go (known fs o) refl e
  where
    go : (k : Cell) → known fs o ≡ k → arm_known k arms other ≡ Some u → Taken fs (Switch o arms other) u
    go (Num n) eq q = record { operand = o; arms = arms; other = other; number = n; is_switch = refl; is_known = eq; target = some_one q }
    go Nothing eq q = absurd (grind arith)
    go Many eq q = absurd (grind arith)
taken_is fs (Goto t) u e = absurd (grind arith)
taken_is fs Return u e = absurd (grind arith)
taken_is fs Unreachable u e = absurd (grind arith)
taken_is fs (Drop p t) u e = absurd (grind arith)
taken_is fs (Call p g os t) u e = absurd (grind arith)
taken_is fs (Assert o c words os t) u e = absurd (grind arith)

-- the taken block is one of the switch's
arm_target : (n : ℕ) (arms : List Arm) (other : ℕ) → (m : ℕ) × (slice_get (map arm_block arms ++ other ∷ []) m ≡ Some (take_arm n arms other))
arm_target n [] other = (0, refl)
arm_target n (a ∷ arms) other = go (nat_eq a.value n) (arm_target n arms other)
  where
    go : (b : Bool) → (m : ℕ) × (slice_get (map arm_block arms ++ other ∷ []) m ≡ Some (take_arm n arms other)) → (m : ℕ) × (slice_get (map arm_block (a ∷ arms) ++ other ∷ []) m ≡ Some (if b then a.block else take_arm n arms other))
    go true ih = (0, refl)
    go false (m, e) = (suc m, e)

pub taken_target : (fs : Facts) (t : Term) (u : ℕ) → taken fs t ≡ Some u → (m : ℕ) × (slice_get (targets t) m ≡ Some u)
taken_target fs t u e =
    let k = taken_is fs t u e in
    let (m, q) = arm_target k.number k.arms k.other in
    (m, ap (λ t. slice_get (targets t) m) k.is_switch ∙ q ∙ ap Some k.target)

-- ---- a thread

-- a block that is reached goes to another one, and there the switch is known
pub record IsThread (h : Here) (ks : List TypedBlock) (xs : List Reached) (t : Thread) : Type 0 where
  pub block : TypedBlock
  pub is_block : slice_get ks t.from ≡ Some block
  pub facts : Facts
  pub reached : slice_get xs t.from ≡ Some (Some facts)
  pub next : ℕ
  pub goes : block.term ≡ Goto next
  pub is_next : slice_get ks next ≡ Some t.through
  pub is_taken : taken (after_all h t.through.stmts (after_all h block.stmts facts)) t.through.term ≡ Some t.to

jump_taken : (h : Here) (fs : Facts) (k : TypedBlock) (u : ℕ) → jump h fs k ≡ Some u → taken (after_all h k.stmts fs) k.term ≡ Some u
unfolding jump
jump_taken h fs k u e = go (nat_le (length k.stmts) 8) e
  where
    go : (b : Bool) → (if b then taken (after_all h k.stmts fs) k.term else None) ≡ Some u → taken (after_all h k.stmts fs) k.term ≡ Some u
    go true q = q
    go false q = absurd (grind arith)

through_goto : (ks : List TypedBlock) (t : Term) (k : TypedBlock) → goes_through ks t ≡ Some k → (n : ℕ) × (t ≡ Goto n) × (slice_get ks n ≡ Some k)
through_goto ks (Goto zero) k e = absurd (grind arith)
through_goto ks (Goto (suc b)) k e = (suc b, refl, e)
through_goto ks (Switch o arms other) k e = absurd (grind arith)
through_goto ks Return k e = absurd (grind arith)
through_goto ks Unreachable k e = absurd (grind arith)
through_goto ks (Drop p t) k e = absurd (grind arith)
through_goto ks (Call p g os t) k e = absurd (grind arith)
through_goto ks (Assert o c words os t) k e = absurd (grind arith)

module _ (h : Here) (all : List TypedBlock) (facts : List Reached) where
  thread_is : (a : ℕ) (k : TypedBlock) (x : Reached) (t : Thread) → slice_get all a ≡ Some k → slice_get facts a ≡ Some x → thread_of h all a k x ≡ Some t → IsThread h all facts t
  unfolding thread_of
  thread_is a k x t ek ex e =
      let (fs, e1, k1) = bind_some e in
      let (b, e2, k2) = bind_some k1 in
      let (u, e3, k3) = bind_some k2 in
      let (n, is, at) = through_goto all k.term b e2 in
      subst (IsThread h all facts) (some_one k3) (record { block = k; is_block = ek; facts = fs; reached = ex ∙ ap Some e1; next = n; goes = is; is_next = at; is_taken = jump_taken h (after_all h k.stmts fs) b u e3 })

  then_parts : (o : Option Thread) (ts : List Thread) (i : ℕ) (t : Thread) → slice_get (and_then o ts) i ≡ Some t → (o ≡ Some t) ⊎ ((m : ℕ) × (slice_get ts m ≡ Some t))
  then_parts None ts i t e = inr (i, e)
  then_parts (Some s) ts zero t e = inl e
  then_parts (Some s) ts (suc i) t e = inr (i, e)

  -- the rest of two lists from a number on
  abbrev RestOf : {A : Type 0} → ℕ → List A → List A → Type 0
  RestOf a xs all = (n : ℕ) → slice_get xs n ≡ slice_get all (a + n)

  one_on : {A : Type 0} (a : ℕ) (x : A) (xs all : List A) → RestOf a (x ∷ xs) all → RestOf (suc a) xs all
  one_on a x xs all h = λ n. h (suc n) ∙ ap (slice_get all) (let z : a + suc n ≡ suc a + n = omega arith in z)

  first_of : {A : Type 0} (a : ℕ) (x : A) (xs all : List A) → RestOf a (x ∷ xs) all → slice_get all a ≡ Some x
  first_of a x xs all h = ap (slice_get all) (let z : a ≡ a + 0 = omega arith in z) ∙ sym (h 0)

  from_is : (a : ℕ) (ks : List TypedBlock) (xs : List Reached) → RestOf a ks all → RestOf a xs facts → (i : ℕ) (t : Thread) → slice_get (threads_from h all a ks xs) i ≡ Some t → IsThread h all facts t
  from_is a [] xs hk hx i t e = absurd (grind arith)
  from_is a (k ∷ ks) [] hk hx i t e = absurd (grind arith)
  from_is a (k ∷ ks) (x ∷ xs) hk hx i t e = go (then_parts (thread_of h all a k x) (threads_from h all (suc a) ks xs) i t e) (λ m q. from_is (suc a) ks xs (one_on a k ks all hk) (one_on a x xs facts hx) m t q)
    where
      go : (thread_of h all a k x ≡ Some t) ⊎ ((m : ℕ) × (slice_get (threads_from h all (suc a) ks xs) m ≡ Some t)) → ((m : ℕ) → slice_get (threads_from h all (suc a) ks xs) m ≡ Some t → IsThread h all facts t) → IsThread h all facts t
      go (inl q) ih = thread_is a k x t (first_of a k ks all hk) (first_of a x xs facts hx) q
      go (inr (m, q)) ih = ih m q

pub each_thread : (D : List Shape) (xs : List Reached) (b : TypedBody) (i : ℕ) (t : Thread) → slice_get (threads D xs b) i ≡ Some t → IsThread (text D b) b.blocks xs t
unfolding threads
each_thread D xs b i t e =
    let all = threads_from (text D b) b.blocks 0 b.blocks xs in
    from_is (text D b) b.blocks xs 0 b.blocks xs (λ n. ap (slice_get b.blocks) (let z : n ≡ 0 + n = omega arith in z)) (λ n. ap (slice_get xs) (let z : n ≡ 0 + n = omega arith in z)) i t (take_back (most_in_body - length b.blocks) all i t e)
