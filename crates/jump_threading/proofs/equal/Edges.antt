-- The edges that the code threads stand for the threads of the definition.
use Rattle.std.proofs.Common.{◌≡◌, refl, sym, ap, ap₂, ◌∙◌, subst, ℕ, zero, suc, ◌+◌, ◌-◌, ◌<◌, ◌≤◌, Bool, true, false, nat_le, ◌&&◌, if◌then◌else◌, List, [], ◌∷◌, ◌++◌, take, length, get_or, Option, Some, None, option_map, slice_get, arith}
use Rattle.std.proofs.lemmas.List.{length-map, take_more, length-take-le, take_all, append-nil}
use Rattle.mir_syntax.specs.declared.body.Arm.{Arm}
use Rattle.mir_syntax.specs.declared.body.Operand.{Operand}
use Rattle.mir_syntax.specs.declared.body.Block.{Block}
use Rattle.mir_syntax.specs.declared.body.Term.{Term}
use Rattle.mir_syntax.specs.declared.body.Term.TheVariants.{Goto, Switch, Return, Unreachable, Drop, Call, Assert}
use Rattle.mir_syntax.specs.Tree.{Tree}
use Rattle.mir_syntax.specs.Crate.{TypedStmt, TypedBlock, TypedBody, stmt_of, block_of}
use Rattle.mir_syntax.specs.Shapes.{Shape, ◌>>=◌}
use Rattle.mir_rules.specs.Limits.{most_in_body}
use Rattle.mir_semantics.specs.Step.{Here}
use Rattle.const_flow.specs.declared.cell.Cell.{Cell}
use Rattle.const_flow.specs.declared.cell.Cell.TheVariants.{Nothing, Num, Many}
use Rattle.const_flow.specs.Facts.{Facts, known, after_stmt, after_all}
use Rattle.const_flow.specs.ConstAt.{Reached, text}
use Rattle.const_flow.specs.Cells.{told}
use Rattle.jump_threading.specs.declared.thread.Edge.{Edge}
use Rattle.jump_threading.specs.Threaded.{arm_known, taken, most_copied, jump, Thread, goes_through, thread_of, and_then, threads_from, threads}
use Rattle.jump_threading.specs.Code.{arm_told, taken_at, jump_at, is_switch, is_short_switch, next_number, IsEdgeOf, StandFor}

-- ---- a walk

pub walk_more : (h : Here) (s : TypedStmt) (ss : List TypedStmt) (x : Reached) → option_map (after_all h ss) (option_map (after_stmt h s) x) ≡ option_map (after_all h (s ∷ ss)) x
walk_more h s ss None = refl
walk_more h s ss (Some fs) = refl

-- ---- the switch at its end

pub arm_is : (x : Reached) (o : Operand) (arms : List Arm) (other : ℕ) → arm_told (told (option_map (λ fs. known fs o) x)) arms other ≡ taken_at x (Switch o arms other)
unfolding taken ◌>>=◌
arm_is None o arms other = refl
arm_is (Some fs) o arms other = go (known fs o)
  where
    go : (k : Cell) → arm_told (told (Some k)) arms other ≡ arm_known k arms other
    go Nothing = refl
    go (Num n) = refl
    go Many = refl

none_taken : (fs : Facts) (t : Term) → is_switch t ≡ false → taken fs t ≡ None
unfolding taken
none_taken fs (Switch o arms other) e = absurd (grind arith)
none_taken fs (Goto u) e = refl
none_taken fs Return e = refl
none_taken fs Unreachable e = refl
none_taken fs (Drop p u) e = refl
none_taken fs (Call p g os u) e = refl
none_taken fs (Assert o x words os u) e = refl

none_at : (x : Reached) (t : Term) → is_switch t ≡ false → None ≡ taken_at x t
unfolding ◌>>=◌
none_at None t e = refl
none_at (Some fs) t e = sym (none_taken fs t e)

not_switch : (t : Term) → ((o : Operand) (arms : List Arm) (other : ℕ) → t ≡ Switch o arms other → ⊥) → is_switch t ≡ false
not_switch (Switch o arms other) h = absurd (h o arms other refl)
not_switch (Goto u) h = refl
not_switch Return h = refl
not_switch Unreachable h = refl
not_switch (Drop p u) h = refl
not_switch (Call p g os u) h = refl
not_switch (Assert o x words os u) h = refl

pub none_taken_at : (x : Reached) (t : Term) → ((o : Operand) (arms : List Arm) (other : ℕ) → t ≡ Switch o arms other → ⊥) → None ≡ taken_at x t
none_taken_at x t h = none_at x t (not_switch t h)

-- ---- a jump through a block

pub short_same : (trees : List Tree) (k : Block) → (nat_le (length (block_of trees k).stmts) most_copied && is_switch k.term) ≡ is_short_switch k
short_same trees k = ap (λ n. nat_le n most_copied && is_switch k.term) (length-map k.stmts (stmt_of trees))

module _ (h : Here) (first second : TypedBlock) where
  pub jump_is : (x : Reached) → (nat_le (length second.stmts) most_copied && is_switch second.term) ≡ true → taken_at (option_map (after_all h second.stmts) (option_map (after_all h first.stmts) x)) second.term ≡ jump_at h x first second
  unfolding jump ◌>>=◌
  jump_is None e = refl
  jump_is (Some fs) e = go (nat_le (length second.stmts) most_copied) e
    where
      go : (b : Bool) → (b && is_switch second.term) ≡ true → taken (after_all h second.stmts (after_all h first.stmts fs)) second.term ≡ (if b then taken (after_all h second.stmts (after_all h first.stmts fs)) second.term else None)
      go true e = refl
      go false e = absurd (grind arith)

  pub no_jump : (x : Reached) → (nat_le (length second.stmts) most_copied && is_switch second.term) ≡ false → None ≡ jump_at h x first second
  unfolding jump ◌>>=◌
  no_jump None e = refl
  no_jump (Some fs) e = go (nat_le (length second.stmts) most_copied) e
    where
      go : (b : Bool) → (b && is_switch second.term) ≡ false → None ≡ (if b then taken (after_all h second.stmts (after_all h first.stmts fs)) second.term else None)
      go true e = sym (none_taken (after_all h second.stmts (after_all h first.stmts fs)) second.term e)
      go false e = refl

-- ---- the edge out of a block

through_is : (ks : List TypedBlock) (t : Term) → goes_through ks t ≡ (next_number t >>= λ n. slice_get ks n)
unfolding ◌>>=◌
through_is ks (Goto zero) = refl
through_is ks (Goto (suc b)) = refl
through_is ks (Switch o arms other) = refl
through_is ks Return = refl
through_is ks Unreachable = refl
through_is ks (Drop p u) = refl
through_is ks (Call p g os u) = refl
through_is ks (Assert o x words os u) = refl

module _ (h : Here) (ks : List TypedBlock) (a : ℕ) (k : TypedBlock) where
  -- none, where nothing is gone through
  pub none_through : (x : Reached) → goes_through ks k.term ≡ None → thread_of h ks a k x ≡ None
  unfolding thread_of ◌>>=◌
  none_through None e = refl
  none_through (Some fs) e = ap (λ o. o >>= λ b. jump h (after_all h k.stmts fs) b >>= λ t. Some (record { from = a; through = b; to = t })) e

  abbrev onward : TypedBlock → ℕ → Option Thread
  onward b t = Some (record { from = a; through = b; to = t })

  pub one_through : (x : Reached) (b : TypedBlock) → goes_through ks k.term ≡ Some b → thread_of h ks a k x ≡ (jump_at h x k b >>= onward b)
  unfolding thread_of ◌>>=◌
  one_through None b e = refl
  one_through (Some fs) b e = ap (λ o. o >>= λ b. jump h (after_all h k.stmts fs) b >>= onward b) e

  pub none_is : (x : Reached) → next_number k.term ≡ None → IsEdgeOf ks None (thread_of h ks a k x)
  unfolding ◌>>=◌
  none_is x e = subst (IsEdgeOf ks None) (sym (none_through x (through_is ks k.term ∙ ap (λ o. o >>= λ n. slice_get ks n) e))) tt

  goes_to : (n : ℕ) → next_number k.term ≡ Some n → goes_through ks k.term ≡ slice_get ks n
  unfolding ◌>>=◌
  goes_to n e = through_is ks k.term ∙ ap (λ o. o >>= λ n. slice_get ks n) e

  pub gone_is : (x : Reached) (n : ℕ) → next_number k.term ≡ Some n → slice_get ks n ≡ None → IsEdgeOf ks None (thread_of h ks a k x)
  gone_is x n e gone = subst (IsEdgeOf ks None) (sym (none_through x (goes_to n e ∙ gone))) tt

  pub stays_is : (x : Reached) (n : ℕ) (b : TypedBlock) → next_number k.term ≡ Some n → slice_get ks n ≡ Some b → jump_at h x k b ≡ None → IsEdgeOf ks None (thread_of h ks a k x)
  unfolding ◌>>=◌
  stays_is x n b e there j = subst (IsEdgeOf ks None) (sym (one_through x b (goes_to n e ∙ there) ∙ ap (λ o. o >>= onward b) j)) tt

  pub edge_is : (x : Reached) (n to : ℕ) (b : TypedBlock) → next_number k.term ≡ Some n → slice_get ks n ≡ Some b → jump_at h x k b ≡ Some to → IsEdgeOf ks (Some (record { from = a; through = n; to = to })) (thread_of h ks a k x)
  unfolding ◌>>=◌
  edge_is x n to b e there j = subst (IsEdgeOf ks (Some (record { from = a; through = n; to = to }))) (sym (one_through x b (goes_to n e ∙ there) ∙ ap (λ o. o >>= onward b) j)) (refl, there, refl)

-- ---- edges one after another

module _ (ks : List TypedBlock) where
  pub stand_length : (es : List Edge) (ts : List Thread) → StandFor ks es ts → length es ≡ length ts
  stand_length [] [] h = refl
  stand_length (e ∷ es) (t ∷ ts) h = ap suc (stand_length es ts h.1)
  stand_length [] (t ∷ ts) h = absurd h
  stand_length (e ∷ es) [] h = absurd h

  stand_more : (es es2 : List Edge) (ts ts2 : List Thread) → StandFor ks es ts → StandFor ks es2 ts2 → StandFor ks (es ++ es2) (ts ++ ts2)
  stand_more [] es2 [] ts2 h g = g
  stand_more (e ∷ es) es2 (t ∷ ts) ts2 h g = (h.0, stand_more es es2 ts ts2 h.1 g)
  stand_more [] es2 (t ∷ ts) ts2 h g = absurd h
  stand_more (e ∷ es) es2 [] ts2 h g = absurd h

  pub stand_take : (n : ℕ) (es : List Edge) (ts : List Thread) → StandFor ks es ts → StandFor ks (take n es) (take n ts)
  stand_take zero es ts h = tt
  stand_take (suc n) [] [] h = tt
  stand_take (suc n) (e ∷ es) (t ∷ ts) h = (h.0, stand_take n es ts h.1)
  stand_take (suc n) [] (t ∷ ts) h = absurd h
  stand_take (suc n) (e ∷ es) [] h = absurd h

  abbrev one_edge : Option Edge → List Edge
  one_edge None = []
  one_edge (Some e) = e ∷ []

  one_stands : (e : Option Edge) (t : Option Thread) → IsEdgeOf ks e t → StandFor ks (one_edge e) (and_then t [])
  one_stands None None h = tt
  one_stands (Some e) (Some t) h = (h, tt)
  one_stands None (Some t) h = absurd h
  one_stands (Some e) None h = absurd h

then_more : (o : Option Thread) (ts us : List Thread) → and_then o ts ++ us ≡ and_then o (ts ++ us)
then_more None ts us = refl
then_more (Some t) ts us = refl

module _ (h : Here) (all : List TypedBlock) where
  threads_more : (a : ℕ) (ks : List TypedBlock) (k : TypedBlock) (xs : List Reached) → threads_from h all a (ks ++ k ∷ []) xs ≡ threads_from h all a ks xs ++ and_then (thread_of h all (a + length ks) k (get_or xs (length ks) None)) []
  unfolding thread_of ◌>>=◌
  threads_more a [] k [] = refl
  threads_more a [] k (x ∷ xs) = ap (λ n. and_then (thread_of h all n k x) []) (let z : a ≡ a + 0 = omega arith in z)
  threads_more a (b ∷ ks) k [] = refl
  threads_more a (b ∷ ks) k (x ∷ xs) =
      ap (and_then (thread_of h all a b x)) (threads_more (suc a) ks k xs ∙ ap (λ n. threads_from h all (suc a) ks xs ++ and_then (thread_of h all n k (get_or xs (length ks) None)) []) (let z : suc a + length ks ≡ a + suc (length ks) = omega arith in z))
      ∙ sym (then_more (thread_of h all a b x) (threads_from h all (suc a) ks xs) (and_then (thread_of h all (a + suc (length ks)) k (get_or xs (length ks) None)) []))

-- the edges so far stand for the threads of the first blocks
abbrev pub SoFar : Here → List TypedBlock → List Reached → ℕ → List Edge → Type 0
SoFar h ks xs i es = StandFor ks es (threads_from h ks 0 (take i ks) xs)

module _ (h : Here) (ks : List TypedBlock) (xs : List Reached) where
  so_far : (i : ℕ) (k : TypedBlock) (es : List Edge) (e : Option Edge) → i < length ks → get_or ks i k ≡ k → SoFar h ks xs i es → IsEdgeOf ks e (thread_of h ks i k (get_or xs i None)) → SoFar h ks xs (i + 1) (es ++ one_edge ks e)
  so_far i k es e lt item s is =
      let long : length (take i ks) ≡ i = length-take-le i ks (omega arith) in
      let more : take (i + 1) ks ≡ take i ks ++ k ∷ [] = take_more ks i k lt ∙ ap (λ x. take i ks ++ x ∷ []) item in
      let ts : threads_from h ks 0 (take (i + 1) ks) xs ≡ threads_from h ks 0 (take i ks) xs ++ and_then (thread_of h ks i k (get_or xs i None)) [] = ap (λ bs. threads_from h ks 0 bs xs) more ∙ threads_more h ks 0 (take i ks) k xs ∙ ap₂ (λ n m. threads_from h ks 0 (take i ks) xs ++ and_then (thread_of h ks n k (get_or xs m None)) []) (let z : 0 + length (take i ks) ≡ i = omega (arith, long) in z) long in
      subst (StandFor ks (es ++ one_edge ks e)) (sym ts) (stand_more ks es (one_edge ks e) (threads_from h ks 0 (take i ks) xs) (and_then (thread_of h ks i k (get_or xs i None)) []) s (one_stands ks e (thread_of h ks i k (get_or xs i None)) is))

  -- one edge more, or none
  pub so_far_some : (i : ℕ) (k : TypedBlock) (es : List Edge) (o : Option Edge) (e : Edge) → i < length ks → get_or ks i k ≡ k → SoFar h ks xs i es → IsEdgeOf ks o (thread_of h ks i k (get_or xs i None)) → o ≡ Some e → SoFar h ks xs (i + 1) (es ++ e ∷ [])
  so_far_some i k es o e lt item s is at = so_far i k es (Some e) lt item s (subst (λ o. IsEdgeOf ks o (thread_of h ks i k (get_or xs i None))) at is)

  pub so_far_none : (i : ℕ) (k : TypedBlock) (es : List Edge) (o : Option Edge) → i < length ks → get_or ks i k ≡ k → SoFar h ks xs i es → IsEdgeOf ks o (thread_of h ks i k (get_or xs i None)) → o ≡ None → SoFar h ks xs (i + 1) es
  so_far_none i k es o lt item s is at = subst (SoFar h ks xs (i + 1)) (append-nil es) (so_far i k es None lt item s (subst (λ o. IsEdgeOf ks o (thread_of h ks i k (get_or xs i None))) at is))

  all_so_far : (i : ℕ) (es : List Edge) → length ks ≤ i → SoFar h ks xs i es → StandFor ks es (threads_from h ks 0 ks xs)
  all_so_far i es le s = subst (λ bs. StandFor ks es (threads_from h ks 0 bs xs)) (take_all i ks le) s

-- as many as there is room for
pub stands_for : (D : List Shape) (xs : List Reached) (b : TypedBody) (i n : ℕ) (es : List Edge) → length b.blocks ≤ i → n ≡ most_in_body - length b.blocks → SoFar (text D b) b.blocks xs i es → StandFor b.blocks (take n es) (threads D xs b)
unfolding threads
stands_for D xs b i n es le room s = subst (λ m. StandFor b.blocks (take n es) (take m (threads_from (text D b) b.blocks 0 b.blocks xs))) room (stand_take b.blocks n es (threads_from (text D b) b.blocks 0 b.blocks xs) (all_so_far (text D b) b.blocks xs i es le s))
