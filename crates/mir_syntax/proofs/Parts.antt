-- The parts of MIR: paths without a dereference, and terminators that go elsewhere.
use Rattle.std.proofs.Common.{◌≡◌, refl, ap, ℕ, true, false, List, [], ◌∷◌, ◌++◌, map}
use Rattle.mir_syntax.specs.declared.body.Proj.{Proj}
use Rattle.mir_syntax.specs.declared.body.Proj.TheVariants.{Field, Downcast, Deref}
use Rattle.mir_syntax.specs.declared.body.Arm.{Arm}
use Rattle.mir_syntax.specs.declared.body.Term.{Term}
use Rattle.mir_syntax.specs.declared.body.Term.TheVariants as term
use Rattle.mir_syntax.specs.Parts.{has_deref, is_direct, arm_block, targets, retargeted_arm, retargeted}

pub deref_other : (p : Proj) (ps : List Proj) → (p ≡ Deref → ⊥) → has_deref (p ∷ ps) ≡ has_deref ps
deref_other (Field i) ps h = refl
deref_other (Downcast k) ps h = refl
deref_other Deref ps h = absurd (h refl)

pub direct_no_deref : (ps : List Proj) → is_direct ps ≡ true → has_deref ps ≡ false
direct_no_deref [] h = refl
direct_no_deref (Field i ∷ ps) h = direct_no_deref ps h
direct_no_deref (Downcast k ∷ ps) h = absurd cc
direct_no_deref (Deref ∷ ps) h = absurd cc

arms_retargeted : (f : ℕ → ℕ) (arms : List Arm) (other : ℕ) → (map arm_block (map (retargeted_arm f) arms) ++ f other ∷ []) ≡ map f (map arm_block arms ++ other ∷ [])
arms_retargeted f [] other = refl
arms_retargeted f (a ∷ arms) other = ap (λ ns. f a.block ∷ ns) (arms_retargeted f arms other)

-- a terminator that goes elsewhere goes to just those blocks, in its order
pub targets_retargeted : (f : ℕ → ℕ) (t : Term) → targets (retargeted f t) ≡ map f (targets t)
targets_retargeted f (term.Goto next) = refl
targets_retargeted f (term.Switch a arms other) = arms_retargeted f arms other
targets_retargeted f term.Return = refl
targets_retargeted f term.Unreachable = refl
targets_retargeted f (term.Drop p next) = refl
targets_retargeted f (term.Call p callee args next) = refl
targets_retargeted f (term.Assert a expected text args next) = refl

arms_kept : (arms : List Arm) → map (retargeted_arm (λ n. n)) arms ≡ arms
arms_kept [] = refl
arms_kept (a ∷ arms) = ap (λ others. a ∷ others) (arms_kept arms)

-- and one that goes where it went is the same
pub retargeted_same : (t : Term) → retargeted (λ n. n) t ≡ t
retargeted_same (term.Goto next) = refl
retargeted_same (term.Switch a arms other) = ap (λ arms. term.Switch a arms other) (arms_kept arms)
retargeted_same term.Return = refl
retargeted_same term.Unreachable = refl
retargeted_same (term.Drop p next) = refl
retargeted_same (term.Call p callee args next) = refl
retargeted_same (term.Assert a expected text args next) = refl
