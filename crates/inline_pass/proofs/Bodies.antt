-- What stands in the body in which one call is replaced.
use Rattle.std.proofs.Common.{◌≡◌, ◌⊎◌, inl, inr, refl, sym, ap, ◌∙◌, subst, ℕ, zero, suc, ◌+◌, true, if◌then◌else◌, List, [], ◌∷◌, ◌++◌, map, length, set, Some, slice_get, arith}
use Rattle.std.proofs.lemmas.List.{length-append, length-set}
use Rattle.mir_syntax.specs.declared.types.FnId.{FnId}
use Rattle.mir_syntax.specs.declared.body.Place.{Place}
use Rattle.mir_syntax.specs.declared.body.Operand.{Operand}
use Rattle.mir_syntax.specs.declared.body.Callee.TheVariants as callee
use Rattle.mir_syntax.specs.declared.body.Term.TheVariants.{Goto, Call}
use Rattle.mir_syntax.specs.Tree.{Tree, ref_mut}
use Rattle.mir_syntax.specs.Crate.{TypedStmt, TypedBlock, TypedBody}
use Rattle.mir_syntax.proofs.Lists.{set_there, map_there, slice_get-behind}
use Rattle.mir_syntax.specs.Parts.{has_deref}
use Rattle.mir_syntax.proofs.Trees.{slice_get-front}
use Rattle.inline_pass.specs.Spliced.{block_after, first_mutable, kept_local, kept, kept_dest, handed, with_call}
use Rattle.inline_pass.proofs.refines.Onwards.{StandFrom}

-- a call of a function of the crate, at the end of a block
pub record Site (b : TypedBody) : Type 0 where
  pub block : ℕ
  pub found : TypedBlock
  pub is_found : slice_get b.blocks block ≡ Some found
  pub dest : Place
  pub called : FnId
  pub args : List Operand
  pub next : ℕ
  pub ends : found.term ≡ Call dest (callee.Local called) args next

-- the body in which the callee's body stands for it
abbrev pub inlined_body : (b : TypedBody) → Site b → TypedBody → TypedBody
inlined_body b s h = with_call b s.block s.found.stmts s.dest s.args s.next h

pub append_cases : {A : Type 0} (xs ys : List A) (m : ℕ) (n : A) → slice_get (xs ++ ys) m ≡ Some n → (slice_get xs m ≡ Some n) ⊎ ((j : ℕ) × (slice_get ys j ≡ Some n))
append_cases [] ys m n e = inr (m, e)
append_cases (x ∷ xs) ys zero n e = inl e
append_cases (x ∷ xs) ys (suc m) n e = append_cases xs ys m n e

pub set_other : {A : Type 0} (xs : List A) (i j : ℕ) (v : A) → (j ≡ i → ⊥) → slice_get (set xs i v) j ≡ slice_get xs j
set_other [] i j v ne = refl
set_other (x ∷ xs) zero zero v ne = absurd (ne refl)
set_other (x ∷ xs) zero (suc j) v ne = refl
set_other (x ∷ xs) (suc i) zero v ne = refl
set_other (x ∷ xs) (suc i) (suc j) v ne = set_other xs i j v (λ e. ne (ap suc e))

-- a list at the end of another stands there from its length on
pub stand_end : (pre ts : List TypedStmt) → StandFrom (pre ++ ts) (length pre) ts
stand_end pre [] = tt
stand_end pre (t ∷ ts) = (here, later pre t ts (stand_end (pre ++ t ∷ []) ts))
  where
    here : slice_get (pre ++ t ∷ ts) (length pre) ≡ Some t
    here = let at : length pre + 0 ≡ length pre = omega arith in ap (slice_get (pre ++ t ∷ ts)) (sym at) ∙ slice_get-behind pre (t ∷ ts) 0

    again : (pre : List TypedStmt) (t : TypedStmt) (ts : List TypedStmt) → (pre ++ t ∷ []) ++ ts ≡ pre ++ t ∷ ts
    again [] t ts = refl
    again (x ∷ pre) t ts = ap (λ xs. x ∷ xs) (again pre t ts)

    later : (pre : List TypedStmt) (t : TypedStmt) (ts : List TypedStmt) → StandFrom ((pre ++ t ∷ []) ++ ts) (length (pre ++ t ∷ [])) ts → StandFrom (pre ++ t ∷ ts) (suc (length pre)) ts
    later pre t ts q =
        let long : length (pre ++ t ∷ []) ≡ suc (length pre) = length-append pre (t ∷ []) ∙ (let z : length pre + 1 ≡ suc (length pre) = omega arith in z) in
        subst (λ xs. StandFrom xs (suc (length pre)) ts) (again pre t ts) (subst (λ n. StandFrom ((pre ++ t ∷ []) ++ ts) n ts) long q)

module _ (b1 h : TypedBody) (i : ℕ) (k : TypedBlock) (is_k : slice_get b1.blocks i ≡ Some k) (p : Place) (os : List Operand) (next : ℕ) where
  abbrev pub b2 : TypedBody
  b2 = with_call b1 i k.stmts p os next h

  abbrev L : ℕ
  L = length b1.locals

  abbrev B : ℕ
  B = length b1.blocks

  abbrev d : ℕ
  d = L + length h.locals

  abbrev pub extra : List TypedStmt
  extra = kept d p ++ handed (suc L) os

  abbrev pub calling : TypedBlock
  calling = record { stmts = k.stmts ++ extra; term = Goto B }

  pub own_locals : (x : ℕ) (t : Tree) → slice_get b1.locals x ≡ Some t → slice_get b2.locals x ≡ Some t
  own_locals x t e = slice_get-front b1.locals _ x t e

  pub copy_locals : (x : ℕ) (t : Tree) → slice_get h.locals x ≡ Some t → slice_get b2.locals (L + x) ≡ Some t
  copy_locals x t e = slice_get-behind b1.locals _ x ∙ slice_get-front h.locals _ x t e

  pub kept_there : has_deref p.proj ≡ true → (t : Tree) → slice_get h.locals 0 ≡ Some t → slice_get b2.locals d ≡ Some (ref_mut t)
  kept_there q t e =
      let at : length h.locals + 0 ≡ length h.locals = omega arith in
      slice_get-behind b1.locals _ (length h.locals) ∙ ap (slice_get (h.locals ++ kept_local h.locals p)) (sym at) ∙ slice_get-behind h.locals (kept_local h.locals p) 0
      ∙ ap (λ c. slice_get (if c then first_mutable h.locals else []) 0) q ∙ first h.locals e
    where
      first : (ts : List Tree) → slice_get ts 0 ≡ Some t → slice_get (first_mutable ts) 0 ≡ Some (ref_mut t)
      first [] e = absurd (grind arith)
      first (u ∷ us) e = ap (λ u. Some (ref_mut u)) (let z : u ≡ t = grind arith in z)

  pub own_blocks : (j : ℕ) (n : TypedBlock) → (j ≡ i → ⊥) → slice_get b1.blocks j ≡ Some n → slice_get b2.blocks j ≡ Some n
  own_blocks j n ne e = slice_get-front (set b1.blocks i calling) _ j n (set_other b1.blocks i j calling ne ∙ e)

  pub call_block : slice_get b2.blocks i ≡ Some calling
  call_block = slice_get-front (set b1.blocks i calling) _ i calling (set_there b1.blocks i calling k is_k)

  pub copy_blocks : (j : ℕ) (n : TypedBlock) → slice_get h.blocks j ≡ Some n → slice_get b2.blocks (B + j) ≡ Some (block_after L B (kept_dest d p) next n)
  copy_blocks j n e =
      let long : length (set b1.blocks i calling) ≡ B = length-set b1.blocks i calling in
      let copies = map (block_after L B (kept_dest d p) next) h.blocks in
      ap (λ a. slice_get (set b1.blocks i calling ++ copies) (a + j)) (sym long) ∙ slice_get-behind (set b1.blocks i calling) copies j ∙ map_there (block_after L B (kept_dest d p) next) h.blocks j n e
