-- The blocks of a threaded body, and those that they come from.
use Rattle.std.proofs.Common.{◌≡◌, ◌⊎◌, inl, inr, refl, sym, ap, ap₂, ◌∙◌, subst, ℕ, zero, suc, ◌+◌, ◌-◌, ◌<◌, ◌≤◌, nat_eq, Bool, true, false, if◌then◌else◌, List, [], ◌∷◌, ◌++◌, map, length, Option, Some, None, slice_get, arith}
use Rattle.std.proofs.lemmas.Bool.{eqb-true}
use Rattle.std.proofs.lemmas.List.{length-append, length-map, length-take}
use Rattle.std.proofs.lemmas.Option.{slice_get_within}
use Rattle.std.proofs.Math.Nat.{min-le_left}
use Rattle.mir_syntax.specs.declared.body.Term.TheVariants.{Goto}
use Rattle.mir_syntax.specs.Crate.{TypedBlock, TypedBody}
use Rattle.mir_syntax.specs.Shapes.{Shape}
use Rattle.mir_syntax.specs.Parts.{targets}
use Rattle.mir_syntax.proofs.Lists.{map_there, map_back, slice_get-behind}
use Rattle.mir_syntax.proofs.Trees.{slice_get-front}
use Rattle.mir_rules.specs.Limits.{most_in_body}
use Rattle.mir_semantics.specs.Step.{Here}
use Rattle.const_flow.specs.Facts.{Facts, after_all}
use Rattle.const_flow.specs.ConstAt.{Reached, text}
use Rattle.jump_threading.specs.Threaded.{taken, Thread, threads_from, threads, copy_for, going_to, redirected, copied, threaded_blocks, threaded_by}
use Rattle.jump_threading.proofs.Threads.{IsThread, each_thread, taken_target}

some_one : {A : Type 0} {x y : A} → Some x ≡ Some y → x ≡ y
some_one e = grind arith

-- ---- lists

-- what stands in two lists stands in one of them
either_there : {A : Type 0} (xs ys : List A) (i : ℕ) (z : A) → slice_get (xs ++ ys) i ≡ Some z → (slice_get xs i ≡ Some z) ⊎ ((m : ℕ) × (slice_get ys m ≡ Some z))
either_there [] ys i z e = inr (i, e)
either_there (x ∷ xs) ys zero z e = inl e
either_there (x ∷ xs) ys (suc i) z e = either_there xs ys i z e

redirected_there : (n : ℕ) (ts : List Thread) (a : ℕ) (ks : List TypedBlock) (i : ℕ) (k : TypedBlock) → slice_get ks i ≡ Some k → slice_get (redirected n ts a ks) i ≡ Some (going_to (copy_for n ts (a + i)) k)
redirected_there n ts a [] i k e = absurd (grind arith)
redirected_there n ts a (b ∷ ks) zero k e = ap₂ (λ a b. Some (going_to (copy_for n ts a) b)) (let z : a ≡ a + 0 = omega arith in z) (some_one e)
redirected_there n ts a (b ∷ ks) (suc i) k e = redirected_there n ts (suc a) ks i k e ∙ ap (λ a. Some (going_to (copy_for n ts a) k)) (let z : suc a + i ≡ a + suc i = omega arith in z)

redirected_back : (n : ℕ) (ts : List Thread) (a : ℕ) (ks : List TypedBlock) (i : ℕ) (k2 : TypedBlock) → slice_get (redirected n ts a ks) i ≡ Some k2 → (k : TypedBlock) × (slice_get ks i ≡ Some k) × (going_to (copy_for n ts (a + i)) k ≡ k2)
redirected_back n ts a [] i k2 e = absurd (grind arith)
redirected_back n ts a (b ∷ ks) zero k2 e = (b, refl, ap (λ a. going_to (copy_for n ts a) b) (let z : a + 0 ≡ a = omega arith in z) ∙ some_one e)
redirected_back n ts a (b ∷ ks) (suc i) k2 e =
    let (k, at, same) = redirected_back n ts (suc a) ks i k2 e in
    (k, at, ap (λ a. going_to (copy_for n ts a) k) (let z : a + suc i ≡ suc a + i = omega arith in z) ∙ same)

redirected_long : (n : ℕ) (ts : List Thread) (a : ℕ) (ks : List TypedBlock) → length (redirected n ts a ks) ≡ length ks
redirected_long n ts a [] = refl
redirected_long n ts a (k ∷ ks) = ap suc (redirected_long n ts (suc a) ks)

-- a copy is that of a thread
copy_is : (n : ℕ) (ts : List Thread) (a c : ℕ) → copy_for n ts a ≡ Some c → (m : ℕ) × (t : Thread) × (slice_get ts m ≡ Some t) × (t.from ≡ a) × (n + m ≡ c)
copy_is n [] a c e = absurd (grind arith)
copy_is n (t ∷ ts) a c e = go (nat_eq t.from a) refl e (λ q. copy_is (suc n) ts a c q)
  where
    go : (b : Bool) → nat_eq t.from a ≡ b → (if b then Some n else copy_for (suc n) ts a) ≡ Some c → (copy_for (suc n) ts a ≡ Some c → (m : ℕ) × (s : Thread) × (slice_get ts m ≡ Some s) × (s.from ≡ a) × (suc n + m ≡ c)) → (m : ℕ) × (s : Thread) × (slice_get (t ∷ ts) m ≡ Some s) × (s.from ≡ a) × (n + m ≡ c)
    go true q h ih = (0, t, refl, eqb-true t.from a q, (let z : n + 0 ≡ n = omega arith in z) ∙ some_one h)
    go false q h ih = let (m, s, at, from, is) = ih h in (suc m, s, at, from, (let z : n + suc m ≡ suc n + m = omega arith in z) ∙ is)

-- an edge of a body that goes through a copy: out of a reached block to one whose switch is known, of which the copy goes on to the target
pub record Redirected (D : List Shape) (xs : List Reached) (b b2 : TypedBody) (a : ℕ) (k : TypedBlock) : Type 0 where
  pub facts : Facts
  pub reached : slice_get xs a ≡ Some (Some facts)
  pub next : ℕ
  pub goes : k.term ≡ Goto next
  pub through : TypedBlock
  pub is_next : slice_get b.blocks next ≡ Some through
  pub to : ℕ
  pub is_taken : taken (after_all (text D b) through.stmts (after_all (text D b) k.stmts facts)) through.term ≡ Some to
  pub copy : ℕ
  pub redirected : slice_get b2.blocks a ≡ Some (record { stmts = k.stmts; term = Goto copy })
  pub copied : slice_get b2.blocks copy ≡ Some (record { stmts = through.stmts; term = Goto to })

module _ (D : List Shape) (xs : List Reached) (b : TypedBody) where
  abbrev T : Here
  T = text D b

  abbrev n : ℕ
  n = length b.blocks

  abbrev ts : List Thread
  ts = threads D xs b

  abbrev b2 : TypedBody
  b2 = record b { blocks = threaded_blocks ts b.blocks }

  -- ---- to the threaded body

  old_there : (a : ℕ) (k : TypedBlock) → slice_get b.blocks a ≡ Some k → slice_get b2.blocks a ≡ Some (going_to (copy_for n ts a) k)
  old_there a k e = slice_get-front (redirected n ts 0 b.blocks) (map copied ts) a (going_to (copy_for n ts a) k) (redirected_there n ts 0 b.blocks a k e ∙ ap (λ i. Some (going_to (copy_for n ts i) k)) (let z : 0 + a ≡ a = omega arith in z))

  copy_there : (m : ℕ) (t : Thread) → slice_get ts m ≡ Some t → slice_get b2.blocks (n + m) ≡ Some (copied t)
  copy_there m t e = ap (λ i. slice_get b2.blocks (i + m)) (sym (redirected_long n ts 0 b.blocks)) ∙ slice_get-behind (redirected n ts 0 b.blocks) (map copied ts) m ∙ map_there copied ts m t e

  edge_through : (a : ℕ) (k : TypedBlock) (t : Thread) (c : ℕ) → slice_get b.blocks a ≡ Some k → IsThread T b.blocks xs t → t.from ≡ a → slice_get b2.blocks a ≡ Some (record { stmts = k.stmts; term = Goto c }) → slice_get b2.blocks c ≡ Some (copied t) → Redirected D xs b b2 a k
  edge_through a k t c e is from old new =
      let same : is.block ≡ k = some_one (sym is.is_block ∙ ap (slice_get b.blocks) from ∙ e) in
      record {
        facts = is.facts;
        reached = ap (slice_get xs) (sym from) ∙ is.reached;
        next = is.next;
        goes = ap (λ (k : TypedBlock). k.term) (sym same) ∙ is.goes;
        through = t.through;
        is_next = is.is_next;
        to = t.to;
        is_taken = ap (λ (k : TypedBlock). taken (after_all T t.through.stmts (after_all T k.stmts is.facts)) t.through.term) (sym same) ∙ is.is_taken;
        copy = c;
        redirected = old;
        copied = new;
      }

  -- each block stays, but for edges that go through copies
  pub block_there : (a : ℕ) (k : TypedBlock) → slice_get b.blocks a ≡ Some k → (slice_get (threaded_by D xs b).blocks a ≡ Some k) ⊎ Redirected D xs b (threaded_by D xs b) a k
  unfolding threaded_by
  block_there a k e = go (copy_for n ts a) refl
    where
      go : (o : Option ℕ) → copy_for n ts a ≡ o → (slice_get b2.blocks a ≡ Some k) ⊎ Redirected D xs b b2 a k
      go None q = inl (old_there a k e ∙ ap (λ o. Some (going_to o k)) q)
      go (Some c) q =
          let (m, t, at, from, is) = copy_is n ts a c q in
          inr (edge_through a k t c e (each_thread D xs b m t at) from (old_there a k e ∙ ap (λ o. Some (going_to o k)) q) (ap (slice_get b2.blocks) (sym is) ∙ copy_there m t at))

  pub same_locals : (threaded_by D xs b).locals ≡ b.locals
  unfolding threaded_by
  same_locals = refl

  pub same_args : (threaded_by D xs b).args ≡ b.args
  unfolding threaded_by
  same_args = refl

  long_is : length b2.blocks ≡ n + length ts
  long_is = length-append (redirected n ts 0 b.blocks) (map copied ts) ∙ ap₂ (λ i j. i + j) (redirected_long n ts 0 b.blocks) (length-map ts copied)

  pub as_long : length (threaded_by D xs b).blocks ≡ length b.blocks + length (threads D xs b)
  unfolding threaded_by
  as_long = long_is

  few_threads : length ts ≤ most_in_body - n
  unfolding threads
  few_threads = subst (λ i. i ≤ most_in_body - n) (sym (length-take (most_in_body - n) (threads_from T b.blocks 0 b.blocks xs))) (min-le_left (most_in_body - n) (length (threads_from T b.blocks 0 b.blocks xs)))

  -- it has room
  pub within : length b.blocks ≤ most_in_body → length (threaded_by D xs b).blocks ≤ most_in_body
  within h = (let few = few_threads in let long = as_long in omega (arith, few, long, h))

  -- ---- from the threaded body

  -- a terminator is the old one, or a goto to a copy, or to a target of the old one
  abbrev pub TermFrom : TypedBlock → TypedBlock → Type 0
  TermFrom k k2 = (k2.term ≡ k.term) ⊎ (((c : ℕ) × (k2.term ≡ Goto c) × (length b.blocks ≤ c) × (c < length (threaded_by D xs b).blocks)) ⊎ ((u m : ℕ) × (k2.term ≡ Goto u) × (slice_get (targets k.term) m ≡ Some u)))

  -- a block that has the statements of an old one
  pub record BlockFrom (k2 : TypedBlock) : Type 0 where
    pub at : ℕ
    pub block : TypedBlock
    pub is_block : slice_get b.blocks at ≡ Some block
    pub stmts : k2.stmts ≡ block.stmts
    pub term : TermFrom block k2

  from_old : (i : ℕ) (k k2 : TypedBlock) → slice_get b.blocks i ≡ Some k → going_to (copy_for n ts i) k ≡ k2 → BlockFrom k2
  from_old i k k2 e h = go (copy_for n ts i) refl h
    where
      go : (o : Option ℕ) → copy_for n ts i ≡ o → going_to o k ≡ k2 → BlockFrom k2
      go None q h = record { at = i; block = k; is_block = e; stmts = ap (λ (k : TypedBlock). k.stmts) (sym h); term = inl (ap (λ (k : TypedBlock). k.term) (sym h)) }
      go (Some c) q h =
          let (m, t, at, from, is) = copy_is n ts i c q in
          let few = slice_get_within ts m t at in
          let long = as_long in
          record { at = i; block = k; is_block = e; stmts = ap (λ (k : TypedBlock). k.stmts) (sym h); term = inr (inl (c, ap (λ (k : TypedBlock). k.term) (sym h), omega (arith, is), omega (arith, is, few, long))) }

  from_copy : (t : Thread) (k2 : TypedBlock) → IsThread T b.blocks xs t → copied t ≡ k2 → BlockFrom k2
  from_copy t k2 is h =
      let (m, q) = taken_target (after_all T t.through.stmts (after_all T is.block.stmts is.facts)) t.through.term t.to is.is_taken in
      record { at = is.next; block = t.through; is_block = is.is_next; stmts = ap (λ (k : TypedBlock). k.stmts) (sym h); term = inr (inr (t.to, m, ap (λ (k : TypedBlock). k.term) (sym h), q)) }

  pub block_from : (i : ℕ) (k2 : TypedBlock) → slice_get (threaded_by D xs b).blocks i ≡ Some k2 → BlockFrom k2
  unfolding threaded_by
  block_from i k2 e = go (either_there (redirected n ts 0 b.blocks) (map copied ts) i k2 e)
    where
      go : (slice_get (redirected n ts 0 b.blocks) i ≡ Some k2) ⊎ ((m : ℕ) × (slice_get (map copied ts) m ≡ Some k2)) → BlockFrom k2
      go (inl q) = (let (k, at, same) = redirected_back n ts 0 b.blocks i k2 q in from_old i k k2 at (ap (λ i. going_to (copy_for n ts i) k) (let z : i ≡ 0 + i = omega arith in z) ∙ same))
      go (inr (m, q)) = let (t, at, same) = map_back copied ts m k2 q in from_copy t k2 (each_thread D xs b m t at) same
