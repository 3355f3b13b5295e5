-- Blocks that edges leave go to the copies for them: one edge after another, and all at once.
use Rattle.std.proofs.Common.{◌≡◌, ◌⊎◌, inl, inr, refl, sym, ap, ap₂, ◌∙◌, subst, ℕ, zero, suc, ◌+◌, ◌<◌, ◌≤◌, nat_eq, true, false, if◌then◌else◌, List, [], ◌∷◌, map, take, length, get_or, set, Some, None, slice_get, arith}
use Rattle.std.proofs.lemmas.List.{length-set, map-set}
use Rattle.mir_syntax.specs.declared.body.Block.{Block}
use Rattle.mir_syntax.specs.declared.body.Term.TheVariants.{Goto}
use Rattle.mir_syntax.specs.Tree.{Tree}
use Rattle.mir_syntax.specs.Crate.{stmt_of, block_of, TypedBlock}
use Rattle.mir_syntax.proofs.Lists.{map_back, map_there}
use Rattle.mir_rules.proofs.Terminators.{slice_get_there}
use Rattle.const_flow.proofs.Same.{same_or_not}
use Rattle.jump_threading.specs.declared.thread.Edge.{Edge}
use Rattle.jump_threading.specs.Threaded.{Thread, copy_for, going_to, redirected, copied}
use Rattle.jump_threading.specs.Code.{stmts_of, bare_copy, bare_link, bare_redirected, StandFor}

some_one : {A : Type 0} {x y : A} → Some x ≡ Some y → x ≡ y
some_one e = grind arith

-- ---- one after another

pub bare_long : (ks : List Block) (n : ℕ) (es : List Edge) → length (bare_redirected ks n es) ≡ length ks
bare_long ks n [] = refl
bare_long ks n (e ∷ es) = bare_long (bare_link ks e.from n) (suc n) es ∙ length-set ks e.from _

pub bare_more : (ks : List Block) (n i : ℕ) (es : List Edge) (d : Edge) → i < length es → bare_redirected ks n (take (suc i) es) ≡ bare_link (bare_redirected ks n (take i es)) (get_or es i d).from (n + i)
bare_more ks n i [] d lt = absurd (omega arith)
bare_more ks n zero (e ∷ []) d lt = ap (bare_link ks e.from) (let z : n ≡ n + 0 = omega arith in z)
bare_more ks n zero (e ∷ e' ∷ es) d lt = ap (bare_link ks e.from) (let z : n ≡ n + 0 = omega arith in z)
bare_more ks n (suc i) (e ∷ es) d lt = bare_more (bare_link ks e.from n) (suc n) i es d (omega arith) ∙ ap (bare_link (bare_redirected (bare_link ks e.from n) (suc n) (take i es)) (get_or es i d).from) (let z : suc n + i ≡ n + suc i = omega arith in z)

-- ---- all at once

-- threads out of later blocks than this, in order
abbrev pub After : ℕ → List Thread → Type 0
After a [] = Unit {0}
After a (t ∷ ts) = (a ≤ t.from) × After (suc t.from) ts

none_before : (n : ℕ) (ts : List Thread) (a b : ℕ) → After b ts → a < b → copy_for n ts a ≡ None
none_before n [] a b h lt = refl
none_before n (t ∷ ts) a b h lt = (let le = h.0 in go (same_or_not t.from a) (none_before (suc n) ts a (suc t.from) h.1 (omega (arith, lt, le))))
  where
    go : ((nat_eq t.from a ≡ true) × (t.from ≡ a)) ⊎ ((nat_eq t.from a ≡ false) × (t.from ≡ a → ⊥)) → copy_for (suc n) ts a ≡ None → (if nat_eq t.from a then Some n else copy_for (suc n) ts a) ≡ None
    go (inl z) ih = absurd (let le = h.0 in let same = z.1 in omega (arith, le, lt, same))
    go (inr z) ih = ap (λ b. if b then Some n else copy_for (suc n) ts a) z.0 ∙ ih

other_copy : (n : ℕ) (t : Thread) (ts : List Thread) (a : ℕ) → (t.from ≡ a → ⊥) → copy_for n (t ∷ ts) a ≡ copy_for (suc n) ts a
other_copy n t ts a ne = elim (same_or_not t.from a) [ inl z ↦ absurd (ne z.1) | inr z ↦ ap (λ b. if b then Some n else copy_for (suc n) ts a) z.0 ]

this_copy : (n : ℕ) (t : Thread) (ts : List Thread) (a : ℕ) → t.from ≡ a → copy_for n (t ∷ ts) a ≡ Some n
this_copy n t ts a same = elim (same_or_not t.from a) [ inl z ↦ ap (λ b. if b then Some n else copy_for (suc n) ts a) z.0 | inr z ↦ absurd (z.1 same) ]

-- past the first thread's block it doesn't matter
past_first : (n : ℕ) (t : Thread) (ts : List Thread) (a : ℕ) (ks : List TypedBlock) → t.from < a → redirected (suc n) ts a ks ≡ redirected n (t ∷ ts) a ks
past_first n t ts a [] lt = refl
past_first n t ts a (k ∷ ks) lt = ap₂ (λ o rest. going_to o k ∷ rest) (sym (other_copy n t ts a (λ z. absurd (omega (arith, lt, z))))) (past_first n t ts (suc a) ks (omega (arith, lt)))

first_linked : (n : ℕ) (t : Thread) (ts : List Thread) (a i : ℕ) (ks : List TypedBlock) (k : TypedBlock) → t.from ≡ a + i → slice_get ks i ≡ Some k → After (suc t.from) ts → redirected (suc n) ts a (set ks i (going_to (Some n) k)) ≡ redirected n (t ∷ ts) a ks
first_linked n t ts a i [] k from e h = absurd (grind arith)
first_linked n t ts a zero (b ∷ ks) k from e h =
    let at : t.from ≡ a = from ∙ (let z : a + 0 ≡ a = omega arith in z) in
    let old : redirected (suc n) ts a (set (b ∷ ks) 0 (going_to (Some n) k)) ≡ going_to (Some n) k ∷ redirected (suc n) ts (suc a) ks = ap (λ o. going_to o (going_to (Some n) k) ∷ redirected (suc n) ts (suc a) ks) (none_before (suc n) ts a (suc t.from) h (omega (arith, at))) in
    old ∙ ap₂ (λ o rest. going_to o k ∷ rest) (sym (this_copy n t ts a at)) (past_first n t ts (suc a) ks (omega (arith, at))) ∙ ap (λ b. going_to (copy_for n (t ∷ ts) a) b ∷ redirected n (t ∷ ts) (suc a) ks) (sym (some_one e))
first_linked n t ts a (suc i) (b ∷ ks) k from e h =
    ap₂ (λ o rest. going_to o b ∷ rest) (sym (other_copy n t ts a (λ z. absurd (omega (arith, from, z))))) (first_linked n t ts (suc a) i ks k (from ∙ (let z : a + suc i ≡ suc a + i = omega arith in z)) e h)

-- they leave blocks that are there
abbrev pub FromThere : ℕ → List Thread → Type 0
FromThere n [] = Unit {0}
FromThere n (t ∷ ts) = (t.from < n) × FromThere n ts

abbrev SameFrom : List Edge → List Thread → Type 0
SameFrom [] [] = Unit {0}
SameFrom (e ∷ es) (t ∷ ts) = (e.from ≡ t.from) × SameFrom es ts
SameFrom _ _ = ⊥

same_from : (ks : List TypedBlock) (es : List Edge) (ts : List Thread) → StandFor ks es ts → SameFrom es ts
same_from ks [] [] h = tt
same_from ks (e ∷ es) (t ∷ ts) h = (h.0.0, same_from ks es ts h.1)
same_from ks [] (t ∷ ts) h = absurd h
same_from ks (e ∷ es) [] h = absurd h

none_redirected : (n a : ℕ) (ks : List TypedBlock) → redirected n [] a ks ≡ ks
none_redirected n a [] = refl
none_redirected n a (k ∷ ks) = ap (λ ks. k ∷ ks) (none_redirected n (suc a) ks)

module _ (trees : List Tree) where
  -- the copies are those of the threads
  pub copies_are : (ks : List Block) (es : List Edge) (ts : List Thread) → StandFor (map (block_of trees) ks) es ts → map (block_of trees) (map (bare_copy ks) es) ≡ map copied ts
  copies_are ks [] [] h = refl
  copies_are ks (e ∷ es) (t ∷ ts) h = ap₂ (λ k rest. k ∷ rest) one (copies_are ks es ts h.1)
    where
      one : block_of trees (bare_copy ks e) ≡ copied t
      one =
          let (from, at, to) = h.0 in
          let (k, ek, same) = map_back (block_of trees) ks e.through t.through at in
          ap₂ (λ ss u. let b : TypedBlock = record { stmts = ss; term = Goto u } in b) (ap (λ o. map (stmt_of trees) (stmts_of o)) ek ∙ ap (λ (k : TypedBlock). k.stmts) same) to
  copies_are ks [] (t ∷ ts) h = absurd h
  copies_are ks (e ∷ es) [] h = absurd h

  link_is : (ks : List Block) (a n : ℕ) (k : Block) → slice_get ks a ≡ Some k → map (block_of trees) (bare_link ks a n) ≡ set (map (block_of trees) ks) a (going_to (Some n) (block_of trees k))
  link_is ks a n k e = map-set (block_of trees) ks a _ ∙ ap (λ o. set (map (block_of trees) ks) a (let b : TypedBlock = record { stmts = map (stmt_of trees) (stmts_of o); term = Goto n } in b)) e

  -- the blocks are those of which the edges go to the copies
  redirects_from : (ks : List Block) (n : ℕ) (es : List Edge) (ts : List Thread) (a : ℕ) → SameFrom es ts → After a ts → FromThere (length ks) ts → map (block_of trees) (bare_redirected ks n es) ≡ redirected n ts 0 (map (block_of trees) ks)
  redirects_from ks n [] [] a h after there = sym (none_redirected n 0 (map (block_of trees) ks))
  redirects_from ks n (e ∷ es) (t ∷ ts) a h after there =
      let from = h.0 in
      let (k, ek) = slice_get_there ks t.from there.0 in
      let ek' : slice_get ks e.from ≡ Some k = ap (slice_get ks) from ∙ ek in
      let linked = link_is ks e.from n k ek' in
      let long : length (bare_link ks e.from n) ≡ length ks = length-set ks e.from _ in
      let same : map (block_of trees) (bare_link ks e.from n) ≡ set (map (block_of trees) ks) t.from (going_to (Some n) (block_of trees k)) = linked ∙ ap (λ i. set (map (block_of trees) ks) i (going_to (Some n) (block_of trees k))) from in
      let ih = redirects_from (bare_link ks e.from n) (suc n) es ts (suc t.from) h.1 after.1 (subst (λ i. FromThere i ts) (sym long) there.1) in
      ih ∙ ap (redirected (suc n) ts 0) same ∙ first_linked n t ts 0 t.from (map (block_of trees) ks) (block_of trees k) (let z : t.from ≡ 0 + t.from = omega arith in z) (map_there (block_of trees) ks t.from k ek) after.1
  redirects_from ks n [] (t ∷ ts) a h after there = absurd h
  redirects_from ks n (e ∷ es) [] a h after there = absurd h

  pub redirects_are : (ks : List Block) (n : ℕ) (es : List Edge) (ts : List Thread) → StandFor (map (block_of trees) ks) es ts → After 0 ts → FromThere (length ks) ts → map (block_of trees) (bare_redirected ks n es) ≡ redirected n ts 0 (map (block_of trees) ks)
  redirects_are ks n es ts h after there = redirects_from ks n es ts 0 (same_from (map (block_of trees) ks) es ts h) after there
