-- Bodies that hold the same statements and differ in their blocks and jumps: which place of the target's body stands for a place of the
-- source's.
use Rattle.std.proofs.Common.{◌≡◌, ◌⊎◌, ℕ, suc, ◌<◌, Option, Some, None, slice_get}
use Rattle.mir_syntax.specs.declared.body.Term.{Term}
use Rattle.mir_syntax.specs.declared.body.Term.TheVariants.{Goto, Switch, Return, Unreachable, Drop, Call, Assert}
use Rattle.mir_syntax.specs.Crate.{TypedBody, TypedBlock, TypedStmt}
use Rattle.mir_semantics.specs.Step.{take_arm}
use Rattle.mir_relate.proofs.Mirror.{Positions, To}

-- the same terminator, with targets that stand for each other
abbrev pub SameTerm : (ℕ → ℕ → Type 0) → Term → Term → Type 0
SameTerm To (Goto t2) (Goto t1) = To t2 t1
SameTerm To (Switch o2 arms2 t2) (Switch o1 arms1 t1) = (o2 ≡ o1) × ((n : ℕ) → To (take_arm n arms2 t2) (take_arm n arms1 t1))
SameTerm To Return Return = Unit {0}
SameTerm To Unreachable Unreachable = Unit {0}
SameTerm To (Drop p2 t2) (Drop p1 t1) = (p2 ≡ p1) × To t2 t1
SameTerm To (Call p2 g2 os2 t2) (Call p1 g1 os1 t1) = (p2 ≡ p1) × (g2 ≡ g1) × (os2 ≡ os1) × To t2 t1
SameTerm To (Assert o2 e2 x2 os2 t2) (Assert o1 e1 x1 os1 t1) = (o2 ≡ o1) × (e2 ≡ e1) × (x2 ≡ x1) × (os2 ≡ os1) × To t2 t1
SameTerm To _ _ = ⊥

-- targets that are related in one way are related in another
pub same_term_map : (P Q : ℕ → ℕ → Type 0) → ((t2 t1 : ℕ) → P t2 t1 → Q t2 t1) → (u t : Term) → SameTerm P u t → SameTerm Q u t
same_term_map P Q f (Goto t2) (Goto t1) h = f t2 t1 h
same_term_map P Q f (Switch o2 arms2 t2) (Switch o1 arms1 t1) h = (h.0, λ n. f _ _ (h.1 n))
same_term_map P Q f Return Return h = tt
same_term_map P Q f Unreachable Unreachable h = tt
same_term_map P Q f (Drop p2 t2) (Drop p1 t1) h = (h.0, f t2 t1 h.1)
same_term_map P Q f (Call p2 g2 os2 t2) (Call p1 g1 os1 t1) h = (h.0, h.1, h.2, f t2 t1 h.3)
same_term_map P Q f (Assert o2 e2 x2 os2 t2) (Assert o1 e1 x1 os1 t1) h = (h.0, h.1, h.2, h.3, f t2 t1 h.4)
same_term_map P Q f u t h = absurd h

-- at a statement of the source the target has the same one; at its terminator the same one too, or the source's is a goto to a block for whose
-- start the target's place stands already, at a smaller number
abbrev pub Meets : Positions → ℕ → TypedBody → ℕ → ℕ → ℕ → ℕ → Term → Option TypedStmt → Type 0
Meets Place n b2 i2 a2 i1 a1 t1 (Some x) = (k2 : TypedBlock) × (n' : ℕ) × (slice_get b2.blocks i2 ≡ Some k2) × (slice_get k2.stmts a2 ≡ Some x) × Place n' i2 (suc a2) i1 (suc a1)
Meets Place n b2 i2 a2 i1 a1 t1 None =
    ((u n' : ℕ) × (t1 ≡ Goto u) × Place n' i2 a2 u 0 × (n' < n))
    ⊎ ((k2 : TypedBlock) × (slice_get b2.blocks i2 ≡ Some k2) × (slice_get k2.stmts a2 ≡ None) × SameTerm (To Place) k2.term t1)

-- the target's body has the source's statements under other jumps
pub record BodyJumps (target source : TypedBody) (Place : Positions) : Type 0 where
  pub starts : To Place 0 0
  pub meets : (n i2 a2 i1 a1 : ℕ) → Place n i2 a2 i1 a1 → (k1 : TypedBlock) → slice_get source.blocks i1 ≡ Some k1 → Meets Place n target i2 a2 i1 a1 k1.term (slice_get k1.stmts a1)
