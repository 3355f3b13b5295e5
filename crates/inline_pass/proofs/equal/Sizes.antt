-- How large the body is in which a call was replaced.
use Rattle.std.proofs.Common.{◌≡◌, refl, sym, ap, ap₂, ◌∙◌, ℕ, suc, ◌+◌, ◌-◌, ◌<◌, ◌^◌, Bool, true, false, ◌&&◌, nat_le, if◌then◌else◌, List, [], ◌∷◌, ◌++◌, map, length, set, get_or, Some, slice_get, sum_by, arith}
use Rattle.std.proofs.Common.{leb-true}
use Rattle.std.proofs.lemmas.Bool.{le-leb, lt-leb, leb-false}
use Rattle.std.proofs.lemmas.List.{length-append, length-map, length-set}
use Rattle.std.proofs.lemmas.List.Sums.{sum_by-append, sum_by-set}
use Rattle.std.proofs.lemmas.Option.{slice_get_within, get_or_from_slice_get}
use Rattle.mir_syntax.specs.declared.body.Place.{Place}
use Rattle.mir_syntax.specs.declared.body.Operand.{Operand}
use Rattle.mir_syntax.specs.declared.body.Callee.{Callee}
use Rattle.mir_syntax.specs.declared.body.Term.{Term}
use Rattle.mir_syntax.specs.declared.body.Term.TheVariants.{Goto, Switch, Return, Unreachable, Drop, Call, Assert}
use Rattle.mir_syntax.specs.Tree.{Tree}
use Rattle.mir_syntax.specs.Crate.{ref_mut, assign, TypedStmt, TypedBlock, TypedBody}
use Rattle.mir_syntax.specs.Parts.{has_deref}
use Rattle.trim_locals.specs.Trimmed.{renamed_stmt}
use Rattle.inline_pass.specs.Spliced.{after, whole_local, first_mutable, kept_local, kept, kept_dest, handed, result_to, block_after, with_call, stmts_in, fits, most_blocks, most_locals, most_stmts}
use Rattle.inline_pass.specs.Code.{capped, returns, copied_in, kept_count, keeping}

-- ---- a number is compared as it is capped

pub capped_le : (n m : ℕ) → m < 2 ^ 64 - 1 → nat_le (capped n) m ≡ nat_le n m
capped_le n m lt = go (nat_le n m) refl
  where
    go : (b : Bool) → nat_le n m ≡ b → nat_le (capped n) m ≡ b
    go true e = le-leb (capped n) m (let l = leb-true n m e in omega (arith, l))
    go false e = lt-leb (capped n) m (let l = leb-false n m e in omega (arith, l, lt))

-- ---- parts

kept_long : (d : ℕ) (dest : Place) → length (kept d dest) ≡ kept_count dest
kept_long d dest = go (has_deref dest.proj)
  where
    go : (c : Bool) → length (if c then assign (whole_local d) (ref_mut dest) ∷ [] else []) ≡ (if c then 1 else 0)
    go true = refl
    go false = refl

handed_long : (x : ℕ) (os : List Operand) → length (handed x os) ≡ length os
handed_long x [] = refl
handed_long x (o ∷ os) = ap suc (handed_long (suc x) os)

local_long : (ts : List Tree) (dest : Place) → 0 < length ts → length (kept_local ts dest) ≡ kept_count dest
local_long [] dest lt = absurd (omega (arith, lt))
local_long (t ∷ ts) dest lt = go (has_deref dest.proj)
  where
    go : (c : Bool) → length (if c then first_mutable (t ∷ ts) else []) ≡ (if c then 1 else 0)
    go true = refl
    go false = refl

result_long : (locals : ℕ) (dest : Place) (t : Term) → length (result_to locals dest t) ≡ returns t
result_long locals dest Return = refl
result_long locals dest (Goto u) = refl
result_long locals dest (Switch a arms u) = refl
result_long locals dest Unreachable = refl
result_long locals dest (Drop p u) = refl
result_long locals dest (Call p c os u) = refl
result_long locals dest (Assert a w x os u) = refl

module _ (locals blocks : ℕ) (dest : Place) (next : ℕ) where
  block_long : (k : TypedBlock) → stmts_in (block_after locals blocks dest next k) ≡ copied_in k
  block_long k = length-append (map (renamed_stmt (after locals)) k.stmts) (result_to locals dest k.term) ∙ ap₂ (λ x y. x + y) (length-map k.stmts (renamed_stmt (after locals))) (result_long locals dest k.term)

  copies_long : (ks : List TypedBlock) → sum_by stmts_in (map (block_after locals blocks dest next) ks) ≡ sum_by copied_in ks
  copies_long [] = refl
  copies_long (k ∷ ks) =
      let copy = block_after locals blocks dest next k in
      let first = sum_by-append stmts_in (copy ∷ []) (map (block_after locals blocks dest next) ks) in
      let second = sum_by-append copied_in (k ∷ []) ks in
      let one = block_long k in
      let rest = copies_long ks in
      omega (arith, first, second, one, rest)

-- ---- the body

module _ (b : TypedBody) (i : ℕ) (k : TypedBlock) (there : slice_get b.blocks i ≡ Some k) (p : Place) (os : List Operand) (next : ℕ) (h : TypedBody) where
  abbrev b' : TypedBody
  b' = with_call b i k.stmts p os next h

  abbrev L : ℕ
  L = length b.locals

  abbrev B : ℕ
  B = length b.blocks

  abbrev extra : List TypedStmt
  extra = kept (L + length h.locals) p ++ handed (suc L) os

  calling : TypedBlock
  calling = record { stmts = k.stmts ++ extra; term = Goto B }

  copied : TypedBlock → TypedBlock
  copied = block_after L B (kept_dest (L + length h.locals) p) next

  extra_long : length extra ≡ kept_count p + length os
  extra_long = length-append (kept (L + length h.locals) p) (handed (suc L) os) ∙ ap₂ (λ x y. x + y) (kept_long (L + length h.locals) p) (handed_long (suc L) os)

  pub blocks_long : length b'.blocks ≡ B + length h.blocks
  unfolding calling copied
  blocks_long = length-append (set b.blocks i calling) (map copied h.blocks) ∙ ap₂ (λ x y. x + y) (length-set b.blocks i calling) (length-map h.blocks copied)

  pub locals_long : 0 < length h.locals → length b'.locals ≡ L + length h.locals + kept_count p
  locals_long some =
      let all = length-append b.locals (h.locals ++ kept_local h.locals p) in
      let rest = length-append h.locals (kept_local h.locals p) in
      let one = local_long h.locals p some in
      omega (arith, all, rest, one)

  set_sum : sum_by stmts_in (set b.blocks i calling) ≡ sum_by stmts_in b.blocks + length extra
  unfolding calling
  set_sum =
      let s = sum_by-set stmts_in b.blocks i calling k (slice_get_within b.blocks i k there) in
      let old : stmts_in (get_or b.blocks i k) ≡ length k.stmts = ap stmts_in (get_or_from_slice_get b.blocks i k k there) in
      let new : stmts_in calling ≡ length k.stmts + length extra = length-append k.stmts extra in
      omega (arith, s, old, new)

  pub stmts_long : sum_by stmts_in b'.blocks ≡ sum_by stmts_in b.blocks + (kept_count p + length os) + sum_by copied_in h.blocks
  unfolding calling copied
  stmts_long =
      let all = sum_by-append stmts_in (set b.blocks i calling) (map copied h.blocks) in
      let first = set_sum in
      let second = copies_long L B (kept_dest (L + length h.locals) p) next h.blocks in
      let more = extra_long in
      omega (arith, all, first, second, more)

  -- the test of the code, which knows the number of statements
  pub fits_is : (c : Callee) → 0 < length h.locals → (stmts : ℕ) → stmts ≡ capped (sum_by stmts_in b'.blocks) → (nat_le (capped (B + length h.blocks)) most_blocks && (nat_le (capped (L + length h.locals + keeping (Call p c os next))) most_locals && nat_le stmts most_stmts)) ≡ fits b'
  fits_is c some stmts is =
      ap₂ (λ x y. x && y) (capped_le (B + length h.blocks) most_blocks (omega arith) ∙ ap (λ n. nat_le n most_blocks) (sym blocks_long))
      (ap₂ (λ x y. x && y) (capped_le (L + length h.locals + kept_count p) most_locals (omega arith) ∙ ap (λ n. nat_le n most_locals) (sym (locals_long some)))
      (ap (λ n. nat_le n most_stmts) is ∙ capped_le (sum_by stmts_in b'.blocks) most_stmts (omega arith)))
