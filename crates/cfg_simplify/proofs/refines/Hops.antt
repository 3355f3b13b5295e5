-- Edges that skip empty gotos: the body has the same statements under other jumps.
use Rattle.std.proofs.Common.{◌≡◌, ◌⊎◌, inl, inr, refl, sym, ap, ◌∙◌, subst, ℕ, zero, suc, [], Option, Some, None, slice_get, arith}
use Rattle.mir_syntax.specs.declared.body.Term.TheVariants.{Goto}
use Rattle.mir_syntax.specs.Crate.{TypedBody, TypedBlock, TypedStmt}
use Rattle.mir_relate.proofs.Leaves.{some_val}
use Rattle.mir_relate.proofs.Mirror.{To}
use Rattle.cfg_simplify.proofs.refines.Jumps.{SameTerm, same_term_map, Meets, BodyJumps}

-- a chain of so many blocks without statements, each of which goes to the next, leads from one block to another
abbrev pub Chain : TypedBody → ℕ → ℕ → ℕ → Type 0
Chain b zero t u = t ≡ u
Chain b (suc n) t u = (k : TypedBlock) × (next : ℕ) × (slice_get b.blocks t ≡ Some k) × (k.stmts ≡ []) × (k.term ≡ Goto next) × Chain b n next u

-- the target has the source's blocks, with edges that lead along chains of empty gotos
pub record Hops (target source : TypedBody) : Type 0 where
  pub locals : target.locals ≡ source.locals
  pub blocks : (i : ℕ) (k1 : TypedBlock) → slice_get source.blocks i ≡ Some k1 → (k2 : TypedBlock) × (slice_get target.blocks i ≡ Some k2) × (k2.stmts ≡ k1.stmts) × SameTerm (λ t2 t1. (n : ℕ) × Chain source n t1 t2) k2.term k1.term

module _ (b2 b1 : TypedBody) (hops : Hops b2 b1) where
  -- the same place, or the target has gone along a chain
  abbrev pub Place : ℕ → ℕ → ℕ → ℕ → ℕ → Type 0
  Place n i2 a2 i1 a1 = ((i2 ≡ i1) × (a2 ≡ a1)) ⊎ ((a2 ≡ 0) × (a1 ≡ 0) × Chain b1 n i1 i2)

  same_place : (n i a : ℕ) (k1 : TypedBlock) → slice_get b1.blocks i ≡ Some k1 → Meets Place n b2 i a i a k1.term (slice_get k1.stmts a)
  same_place n i a k1 ek =
      let (k2, ek2, stmts, term) = hops.blocks i k1 ek in
      go k2 ek2 (same_term_map _ _ (λ t2 t1 c. (c.0, inr (refl, refl, c.1))) k2.term k1.term term) (slice_get k1.stmts a) (ap (λ ss. slice_get ss a) stmts)
    where
      go : (k2 : TypedBlock) → slice_get b2.blocks i ≡ Some k2 → SameTerm (To Place) k2.term k1.term → (st : Option TypedStmt) → slice_get k2.stmts a ≡ st → Meets Place n b2 i a i a k1.term st
      go k2 ek2 term (Some x) es = (k2, n, ek2, es, inl (refl, refl))
      go k2 ek2 term None es = inr (k2, ek2, es, term)

  ahead : (n i2 i1 : ℕ) → Chain b1 n i1 i2 → (k1 : TypedBlock) → slice_get b1.blocks i1 ≡ Some k1 → Meets Place n b2 i2 0 i1 0 k1.term (slice_get k1.stmts 0)
  ahead zero i2 i1 c k1 ek = subst (λ i. Meets Place zero b2 i 0 i1 0 k1.term (slice_get k1.stmts 0)) c (same_place zero i1 0 k1 ek)
  ahead (suc n) i2 i1 (k, next, eb, es, et, c) k1 ek =
      let block : k ≡ k1 = some_val (sym eb ∙ ek) in
      let stmts : k1.stmts ≡ [] = subst (λ (x : TypedBlock). x.stmts ≡ []) block es in
      subst (λ ss. Meets Place (suc n) b2 i2 0 i1 0 k1.term (slice_get ss 0)) (sym stmts) (inl (next, n, subst (λ (x : TypedBlock). x.term ≡ Goto next) block et, inr (refl, refl, c), omega arith))

  pub body_hops : BodyJumps b2 b1 Place
  body_hops = record { starts = (0, inl (refl, refl)); meets = meet }
    where
      meet : (n i2 a2 i1 a1 : ℕ) → Place n i2 a2 i1 a1 → (k1 : TypedBlock) → slice_get b1.blocks i1 ≡ Some k1 → Meets Place n b2 i2 a2 i1 a1 k1.term (slice_get k1.stmts a1)
      meet n i2 a2 i1 a1 (inl (p, q)) k1 ek = subst (λ i. Meets Place n b2 i a2 i1 a1 k1.term (slice_get k1.stmts a1)) (sym p) (subst (λ a. Meets Place n b2 i1 a i1 a1 k1.term (slice_get k1.stmts a1)) (sym q) (same_place n i1 a1 k1 ek))
      meet n i2 a2 i1 a1 (inr (p, q, c)) k1 ek = subst (λ a. Meets Place n b2 i2 a i1 a1 k1.term (slice_get k1.stmts a1)) (sym p) (subst (λ a. Meets Place n b2 i2 0 i1 a k1.term (slice_get k1.stmts a)) (sym q) (ahead n i2 i1 c k1 ek))
