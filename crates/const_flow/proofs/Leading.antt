-- The blocks that a switch can lead to.
use Rattle.std.proofs.Common.{◌≡◌, refl, ap, ℕ, zero, suc, ◌<◌, Bool, true, false, ◌||◌, nat_eq, List, [], ◌∷◌, ◌++◌, map, length, arith}
use Rattle.std.specs.Prelude.{slice_index_or, Contains}
use Rattle.mir_syntax.specs.declared.body.Arm.{Arm}
use Rattle.mir_syntax.specs.Parts.{arm_block}
use Rattle.const_flow.specs.Facts.{any_arm}

or_right : (a b : Bool) → b ≡ true → (a || b) ≡ true
or_right true b e = refl
or_right false b e = e

same : (a b : ℕ) → a ≡ b → nat_eq a b ≡ true
same a b e = grind arith

any_at : (arms : List Arm) (other b k : ℕ) → k < length (map arm_block arms ++ other ∷ []) → slice_index_or (map arm_block arms ++ other ∷ []) k b ≡ b → any_arm b arms other ≡ true
any_at [] other b zero l e = same other b e
any_at [] other b (suc k) l e = absurd (omega arith)
any_at (a ∷ arms) other b zero l e = ap (λ t. t || any_arm b arms other) (same a.block b e)
any_at (a ∷ arms) other b (suc k) l e = or_right (nat_eq a.block b) (any_arm b arms other) (any_at arms other b k (omega arith) e)

-- anything may be chosen: each target
pub any_target : (arms : List Arm) (other b : ℕ) → Contains (map arm_block arms ++ other ∷ []) b → true ≡ any_arm b arms other
any_target arms other b h = let e = any_at arms other b h.0 h.1 h.2 in cc
