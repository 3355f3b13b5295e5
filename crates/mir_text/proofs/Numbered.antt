-- What a list of texts or of definitions has at a place.
use Rattle.std.proofs.Common.{◌≡◌, ◌<◌, ◌+◌, ℕ, zero, suc, Bool, true, false, bytes_eq, List, [], ◌∷◌, length, slice_get, Option, Some, None, refl, arith}
use Rattle.mir_syntax.specs.Crate.{TypedDef, TypedVariant}
use Rattle.mir_text.specs.Words.{place_from}
use Rattle.mir_text.specs.NamedBodies.{or_else}
use Rattle.mir_text.specs.NameFaults.{def_number, variant_number}

place-by : (k n : ℕ) (x : List ℕ) (xs : List (List ℕ)) (bytes : List ℕ) (b : Bool) → bytes_eq x bytes ≡ b → place_from k (x ∷ xs) bytes ≡ Some n → (place_from (suc k) xs bytes ≡ Some n → n < suc k + length xs) → n < k + length (x ∷ xs)
place-by k n x xs bytes true e h later = let first = rw e at h in let here : k ≡ n = cc in omega (arith, here)
place-by k n x xs bytes false e h later = let first = rw e at h in let less = later first in omega (arith, less)

-- the place of a text lies in the list
pub place_from-there : (k n : ℕ) (texts : List (List ℕ)) (bytes : List ℕ) → place_from k texts bytes ≡ Some n → n < k + length texts
place_from-there k n [] bytes h = absurd cc
place_from-there k n (x ∷ xs) bytes h = place-by k n x xs bytes (bytes_eq x bytes) refl h (λ e. place_from-there (suc k) n xs bytes e)

pub def_numbered : (defs : List TypedDef) (d : ℕ) → slice_get defs d ≡ def_number defs d
def_numbered [] d = refl
def_numbered (x ∷ defs) zero = refl
def_numbered (x ∷ defs) (suc d) = def_numbered defs d

pub variant_numbered : (vs : List TypedVariant) (k : ℕ) → slice_get vs k ≡ variant_number vs k
variant_numbered [] k = refl
variant_numbered (v ∷ vs) zero = refl
variant_numbered (v ∷ vs) (suc k) = variant_numbered vs k

pub or_else-none : {A : Type 0} (o : Option A) → or_else o None ≡ o
or_else-none None = refl
or_else-none (Some x) = refl
