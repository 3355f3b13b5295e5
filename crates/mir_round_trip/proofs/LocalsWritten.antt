-- Where no local is missing, the declared ones are as many as there are locals, and have the types with which they are declared.
use Rattle.mir_round_trip.specs.Names.{IsTy, Proper}
use Rattle.std.proofs.Common.{◌≡◌, ◌<◌, ◌+◌, ℕ, zero, suc, Bool, true, false, nat_eq, [], ◌∷◌, length, get_or, refl, ap, ◌∙◌, arith, Some, is_some}
use Rattle.mir_syntax.specs.Tree.{Tree, empty}
use Rattle.mir_syntax.specs.Crate.{Crate}
use Rattle.mir_text.specs.Grammar.{AllOf}
use Rattle.mir_text.specs.NamedBodies.{Declared, declared_ty}
use Rattle.mir_text.specs.Naming.{or_unit, locals_from}
use Rattle.mir_text.specs.NameFaults.{none_missing}
use Rattle.mir_text.specs.PlaceText.{local_ty}
use Rattle.mir_text.proofs.Counting.{declared_few, locals_from-length}

pub declared_there : (L : Declared) (x : ℕ) → none_missing L ≡ true → is_some (declared_ty L x) ≡ true → x < length (locals_from L 0 (length L))
declared_there L x h k =
    let few = declared_few L x h k in
    let all = locals_from-length L 0 (length L) in
    omega (arith, few, all)

-- ---- types

from-at : (L : Declared) (k n i : ℕ) → i < n → get_or (locals_from L k n) i empty ≡ or_unit (declared_ty L (k + i))
from-at L k zero i h = absurd (omega arith)
from-at L k (suc n) zero h = let e : k ≡ k + 0 = omega arith in ap (λ x. or_unit (declared_ty L x)) e
from-at L k (suc n) (suc i) h = let e : suc k + i ≡ k + suc i = omega arith in from-at L (suc k) n i (omega arith) ∙ ap (λ x. or_unit (declared_ty L x)) e

pub declared_typed : (L : Declared) (x : ℕ) (t : Tree) → declared_ty L x ≡ Some t → x < length (locals_from L 0 (length L)) → local_ty (locals_from L 0 (length L)) x ≡ t
unfolding local_ty
declared_typed L x t h less =
    let all = locals_from-length L 0 (length L) in
    let e : 0 + x ≡ x = omega arith in
    from-at L 0 (length L) x (omega (arith, all)) ∙ ap (λ y. or_unit (declared_ty L y)) e ∙ ap or_unit h

-- a declared type is one of those declared
all-by : (c : Crate) (d : ℕ × Tree) (ds : Declared) (x : ℕ) (b : Bool) → nat_eq d.0 x ≡ b → IsTy c d.1 → IsTy c (or_unit (declared_ty ds x)) → IsTy c (or_unit (declared_ty (d ∷ ds) x))
all-by c d ds x true e h later = rw e h
all-by c d ds x false e h later = rw e later

declared-all : (c : Crate) (L : Declared) (x : ℕ) → AllOf (λ d. IsTy c d.1) L → IsTy c (or_unit (declared_ty L x))
unfolding Proper
declared-all c [] x h = record { proper = tt; depth = omega arith }
declared-all c (d ∷ ds) x h = all-by c d ds x (nat_eq d.0 x) refl h.0 (declared-all c ds x h.1)

pub locals_written : (c : Crate) (L : Declared) (k n : ℕ) → AllOf (λ d. IsTy c d.1) L → AllOf (IsTy c) (locals_from L k n)
locals_written c L k zero h = tt
locals_written c L k (suc n) h = (declared-all c L k h, locals_written c L (suc k) n h)
