-- How a type is found in the table without a walk over it: types with equal hashes stand in one chain.
-- It is kept behind the table, and no contract that callers see speaks of it.
use Rattle.std.specs.Prelude.{◌≡◌, ℕ, zero, suc, ◌%◌, ◌<◌, ◌≤◌, Bool, cond, nat_eq, List, [], ◌∷◌, map, length, fold, slice_index}
use Rattle.std.specs.Hash as fed
use Rattle.std.specs.Hash.FoldHasher as hashing
use Rattle.std.specs.declared.hash.FoldHasher.{FoldHasher}
use Rattle.mir_syntax.specs.declared.types.TyId.{TyId}
use Rattle.mir_syntax.specs.declared.types.IntTy.{IntTy}
use Rattle.mir_syntax.specs.declared.types.IntTy.TheVariants.{I8, I16, I32, I64, I128, Isize, U8, U16, U32, U64, U128, Usize}
use Rattle.mir_syntax.specs.declared.types.ScalarTy.{ScalarTy}
use Rattle.mir_syntax.specs.declared.types.ScalarTy.TheVariants.{Bool as bool, Int}
use Rattle.mir_syntax.specs.declared.types.Ty.{Ty}
use Rattle.mir_syntax.specs.declared.types.Ty.TheVariants.{Scalar, Tuple, Ref, RefMut, Named}

abbrev pub int_number : IntTy → ℕ
int_number I8 = 0
int_number I16 = 1
int_number I32 = 2
int_number I64 = 3
int_number I128 = 4
int_number Isize = 5
int_number U8 = 6
int_number U16 = 7
int_number U32 = 8
int_number U64 = 9
int_number U128 = 10
int_number Usize = 11

abbrev pub scalar_number : ScalarTy → ℕ
scalar_number bool = 12
scalar_number (Int ty) = int_number ty

abbrev pub number_of : TyId → ℕ
number_of id = id.0

-- the numbers that tell a type from another
abbrev pub numbers : Ty → List ℕ
numbers (Scalar s) = 0 ∷ scalar_number s ∷ []
numbers (Tuple ids) = 1 ∷ map number_of ids
numbers (Ref id) = 2 ∷ id.0 ∷ []
numbers (RefMut id) = 3 ∷ id.0 ∷ []
numbers (Named d) = 4 ∷ d ∷ []

-- a hasher after one number
abbrev pub with_number : FoldHasher → ℕ → FoldHasher
with_number hasher n = fold hashing.write hasher (fed.u32 n)

unfoldable pub type_hash : Ty → ℕ
type_hash ty = hashing.finish (fold with_number hashing.initial (numbers ty))

-- the chain of a type among so many
abbrev pub slot_of : ℕ → Ty → ℕ
slot_of n ty = type_hash ty % n

abbrev pub slots_of : ℕ → List Ty → List ℕ
slots_of n types = map (slot_of n) types

-- one more than the last place before a number that passes a test; 0 where none does
abbrev pub latest : (ℕ → Bool) → ℕ → ℕ
latest test zero = 0
latest test (suc n) = cond (test n) (suc n) (latest test n)

-- whether a slot stands at a place of a list of them
abbrev pub is_at : List ℕ → ℕ → ℕ → Bool
is_at slots s k = nat_eq (slice_index slots k) s

-- each chain begins at its latest type, and goes on from each type to the latest one before it
pub record IsIndex (types : List Ty) (heads next : List ℕ) : Type 0 where
  pub room : length types ≤ length heads
  pub paired : length next ≡ length heads
  pub begins : (s : ℕ) → s < length heads → slice_index heads s ≡ latest (is_at (slots_of (length heads) types) s) (length types)
  pub goes_on : (k : ℕ) → k < length types → slice_index next k ≡ latest (is_at (slots_of (length heads) types) (slice_index (slots_of (length heads) types) k)) k
