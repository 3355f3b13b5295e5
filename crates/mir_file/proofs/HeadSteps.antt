-- What is asked of the head of a function, declaration by declaration and block by block.
use Rattle.std.proofs.Common.{◌≡◌, ℕ, zero, suc, ◌+◌, ◌<◌, ◌&&◌, nat_eq, nat_lt, not, Bool, true, false, ◌-◌, List, Option, Some, None, option_map, is_some, [], ◌∷◌, map, length, get_or, ◌≤◌, refl, sym, ap, ◌∙◌, arith, add-one, eq-eqb}
use Rattle.std.proofs.Math.Numerals.{sub-one}
use Rattle.std.proofs.lemmas.Bool.Decides.{nat_tests}
use Rattle.mir_syntax.specs.declared.types.TyId.{TyId}
use Rattle.mir_syntax.specs.Tree.{Tree}
use Rattle.mir_text.specs.NamedBodies.{Declared, declared_ty}
use Rattle.mir_text.specs.NameFaults.{in_order, blocks_in_order, below_declared, none_missing_in, Fault}
use Rattle.mir_tree.specs.declared.body.BlockText.{BlockText}
use Rattle.mir_resolve.specs.Faults.{noted}
use Rattle.mir_resolve.proofs.Making.{later_of, first_left}
use Rattle.mir_file.specs.Declarations.{label_in, result_fault}

pub order_step : (n b : ℕ) (rest : List ℕ) (w : Bool) → b ≡ n → in_order n (b ∷ rest) ≡ w → in_order (n + 1) rest ≡ w
order_step n b rest w e h =
    ap (λ k. in_order k rest) (add-one n) ∙ sym (ap (λ t. t && in_order (suc n) rest) (eq-eqb b n e)) ∙ h

pub not-eq : (b n : ℕ) → (b ≡ n → ⊥) → nat_eq b n ≡ false
not-eq b n ne = grind (arith, nat_tests)

pub order_broken : (n b : ℕ) (rest : List ℕ) (w : Bool) → (b ≡ n → ⊥) → in_order n (b ∷ rest) ≡ w → false ≡ w
order_broken n b rest w ne h = sym (ap (λ t. t && in_order (suc n) rest) (not-eq b n ne)) ∙ h

some-above : (n : ℕ) → 0 < n → nat_lt 0 n ≡ true
some-above n h = grind (arith, nat_tests)

-- where no blocks are left they stand in order, if there were any
pub order_ended : (n : ℕ) (left all : List BlockText) → length left < 1 → n + length left ≡ length all → in_order n (map label_in left) ≡ in_order 0 (map label_in all)
    → nat_lt 0 n ≡ blocks_in_order (map label_in all)
order_ended n [] [] short size h = let z : n ≡ 0 = omega arith in ap (nat_lt 0) z
order_ended n [] (b ∷ bs) short size h = some-above n (omega arith) ∙ h
order_ended n (x ∷ left) all short size h = absurd (omega arith)

and-true : (b : Bool) → b ≡ (b && true)
and-true true = refl
and-true false = refl

pub missing_ended : {Z : Type 0} (of : List Z → Declared) (all : Declared) (left : List Z) (b w : Bool) → length left < 1 → of [] ≡ [] → (b && none_missing_in all (of left)) ≡ w → b ≡ w
missing_ended of all [] b w short nil h = and-true b ∙ ap (λ l. b && none_missing_in all l) (sym nil) ∙ h
missing_ended of all (x ∷ left) b w short nil h = absurd (omega arith)

pub not_same : (a b : Bool) → not a ≡ not b → a ≡ b
not_same true true h = refl
not_same false false h = refl
not_same true false h = sym h
not_same false true h = sym h

pub below_at : (ds : Declared) (x : ℕ) → (x ≡ 0 → ⊥) → is_some (declared_ty ds (x - 1)) ≡ below_declared ds x
below_at ds zero ne = absurd (ne refl)
below_at ds (suc x) ne = ap (λ n. is_some (declared_ty ds n)) (sub-one (suc x))

pub no_result : (of : TyId → Tree) (o : Option TyId) (result : Tree) (line : ℕ) (kept : Option Fault) → ((id : TyId) → o ≡ Some id → ⊥) → kept ≡ noted kept (result_fault (option_map of o) result line)
unfolding noted
no_result of None result line kept none = refl
no_result of (Some id) result line kept none = absurd (none id refl)

pub size_step : {Z : Type 0} (n : ℕ) (left : List Z) (x : Z) (later : List Z) (size : ℕ) → left ≡ x ∷ later → n + length left ≡ size → (n + 1) + length later ≡ size
size_step n left x later size first h = let long : length left ≡ suc (length later) = ap length first in omega arith

-- the first of what is left, where it is read by its place
pub first_read : {Z : Type 0} (left : List Z) (d : Z) → 1 ≤ length left → left ≡ get_or left 0 d ∷ later_of left
first_read [] d h = absurd (omega arith)
first_read (x ∷ left) d h = first_left (x ∷ left) x h refl

pub broken_all : (bs : List ℕ) → false ≡ in_order 0 bs → false ≡ blocks_in_order bs
broken_all [] h = refl
broken_all (b ∷ bs) h = h
