-- Members of a list, as the call graph and as the schedule tell them.
use Rattle.std.proofs.Common.{◌≡◌, inl, inr, refl, sym, ap, ◌∙◌, ℕ, true, false, ◌==◌, ◌||◌, List, [], ◌∷◌}
use Rattle.bit_rows.specs.Rows.{stands}
use Rattle.sched_core.specs.Plan.{has}
use Rattle.sched_core.specs.Good as schedule
use Rattle.call_graph.proofs.Once as calls

pub has_is_stands : (x : ℕ) (xs : List ℕ) → has x xs ≡ stands x xs
has_is_stands x [] = refl
has_is_stands x (y ∷ ys) = ap (λ b. (x == y) || b) (has_is_stands x ys)

pub once_is : (xs : List ℕ) → calls.IsOnce xs → schedule.IsOnce xs
once_is [] o = tt
once_is (x ∷ xs) o = (has_is_stands x xs ∙ o.0, once_is xs o.1)

pub is_once : (xs : List ℕ) → schedule.IsOnce xs → calls.IsOnce xs
is_once [] o = tt
is_once (x ∷ xs) o = (sym (has_is_stands x xs) ∙ o.0, is_once xs o.1)

pub not_in : (x : ℕ) (xs : List ℕ) → (stands x xs ≡ true → ⊥) → stands x xs ≡ false
not_in x xs h = elim (calls.bool_tells (stands x xs)) [ inl k ↦ absurd (h k) | inr k ↦ k ]
