-- The locals of fields: where they stand, whose they are, and how many.
use Rattle.std.proofs.Common.{◌≡◌, refl, sym, ap, ap₂, ◌∙◌, subst, ℕ, zero, suc, ◌+◌, ◌≤◌, Bool, true, false, ◌&&◌, nat_lt, if◌then◌else◌, List, [], ◌∷◌, ◌++◌, length, get_or, Option, Some, None, slice_get, arith, ltb-true}
use Rattle.mir_syntax.proofs.Trees.{slice_get-front}
use Rattle.std.proofs.lemmas.List.{length-append}
use Rattle.mir_syntax.specs.Tree.{Tree}
use Rattle.mir_syntax.specs.Crate.{TypedBody}
use Rattle.mir_syntax.specs.Shapes.{Shape}
use Rattle.mir_syntax.proofs.Lists.{slice_get-behind}
use Rattle.mir_rules.proofs.Lists.{and_true-left, and_true-right}
use Rattle.sroa_pass.specs.Split.{field_types, most_locals, may_split, firsts_from, new_types}

val : {A : Type 0} {x y : A} → Some x ≡ Some y → x ≡ y
val e = grind arith

pub get_some : {A : Type 0} (xs : List (Option A)) (i : ℕ) (x : A) → get_or xs i None ≡ Some x → slice_get xs i ≡ Some (Some x)
get_some [] i x e = absurd (grind arith)
get_some (y ∷ xs) zero x e = ap Some e
get_some (y ∷ xs) (suc i) x e = get_some xs i x e

-- whose field each new local is
abbrev pub pairs : ℕ → ℕ → List Tree → List (ℕ × ℕ)
pairs x k [] = []
pairs x k (t ∷ ts) = (x, k) ∷ pairs x (suc k) ts

pub pairs_at : (x k : ℕ) (ts : List Tree) (i : ℕ) (t : Tree) → slice_get ts i ≡ Some t → slice_get (pairs x k ts) i ≡ Some (x, k + i)
pairs_at x k [] i t e = absurd (grind arith)
pairs_at x k (u ∷ ts) zero t e = ap (λ n. Some (x, n)) (let z : k ≡ k + 0 = omega arith in z)
pairs_at x k (u ∷ ts) (suc i) t e = pairs_at x (suc k) ts i t e ∙ ap (λ n. Some (x, n)) (let z : suc k + i ≡ k + suc i = omega arith in z)

pairs_long : (x k : ℕ) (ts : List Tree) → length (pairs x k ts) ≡ length ts
pairs_long x k [] = refl
pairs_long x k (t ∷ ts) = ap suc (pairs_long x (suc k) ts)

module _ (D : List Shape) (b : TypedBody) where
  -- whether the local is split, where so many stand
  abbrev Chosen : ℕ → ℕ → Tree → Bool
  Chosen n x t = may_split D b x t && nat_lt (n + length (field_types D t)) (suc most_locals)

  abbrev pub owners_from : List (Option ℕ) → ℕ → List Tree → List (ℕ × ℕ)
  owners_from (Some n ∷ fs) x (t ∷ ts) = pairs x 0 (field_types D t) ++ owners_from fs (suc x) ts
  owners_from (None ∷ fs) x (t ∷ ts) = owners_from fs (suc x) ts
  owners_from _ _ _ = []

  -- what is known of a split local
  pub record IsFirst (n x : ℕ) (ts : List Tree) (i y : ℕ) : Type 0 where
    pub ty : Tree
    pub there : slice_get ts i ≡ Some ty
    pub may : may_split D b (x + i) ty ≡ true
    pub behind : ℕ
    pub first : y ≡ n + behind
    pub types : (k : ℕ) (u : Tree) → slice_get (field_types D ty) k ≡ Some u → slice_get (new_types D (firsts_from D b n x ts) ts) (behind + k) ≡ Some u
    pub owner : (k : ℕ) (u : Tree) → slice_get (field_types D ty) k ≡ Some u → slice_get (owners_from (firsts_from D b n x ts) x ts) (behind + k) ≡ Some (x + i, k)

  pub is_first : (n x : ℕ) (ts : List Tree) (i y : ℕ) → slice_get (firsts_from D b n x ts) i ≡ Some (Some y) → IsFirst n x ts i y
  is_first n x [] i y e = absurd (grind arith)
  is_first n x (t ∷ ts) i y e = go (Chosen n x t) refl i (λ m j e. is_first m (suc x) ts j y e) e
    where
      us : List Tree
      us = field_types D t

      next : ℕ
      next = n + length (field_types D t)

      now : (c : Bool) → Chosen n x t ≡ c → firsts_from D b n x (t ∷ ts) ≡ (if c then Some n ∷ firsts_from D b next (suc x) ts else None ∷ firsts_from D b n (suc x) ts)
      now c q = ap (λ (c : Bool). if c then Some n ∷ firsts_from D b (n + length (field_types D t)) (suc x) ts else None ∷ firsts_from D b n (suc x) ts) q

      go : (c : Bool) → Chosen n x t ≡ c → (i : ℕ) → ((m j : ℕ) → slice_get (firsts_from D b m (suc x) ts) j ≡ Some (Some y) → IsFirst m (suc x) ts j y) → slice_get (firsts_from D b n x (t ∷ ts)) i ≡ Some (Some y) → IsFirst n x (t ∷ ts) i y
      go false q zero ih e = absurd (let z : ◌≡◌ {A = Option (Option ℕ)} (Some None) (Some (Some y)) = sym (ap (λ fs. slice_get fs 0) (now false q)) ∙ e in grind arith)
      go true q zero ih e =
          let z : ◌≡◌ {A = Option (Option ℕ)} (Some (Some n)) (Some (Some y)) = sym (ap (λ fs. slice_get fs 0) (now true q)) ∙ e in
          let ny : n ≡ y = val (val z) in
          let x0 : x ≡ x + 0 = omega arith in
          record {
            ty = t;
            there = refl;
            may = ap (λ x. may_split D b x t) (sym x0) ∙ and_true-left (may_split D b x t) (nat_lt (n + length (field_types D t)) (suc most_locals)) q;
            behind = 0;
            first = omega (arith, ny);
            types = λ k u f. ap₂ (λ fs n. slice_get (new_types D fs (t ∷ ts)) n) (now true q) (let z : 0 + k ≡ k = omega arith in z) ∙ slice_get-front us _ k u f;
            owner = λ k u f.
                let zk : 0 + k ≡ k = omega arith in
                ap₂ (λ fs n. slice_get (owners_from fs x (t ∷ ts)) n) (now true q) zk ∙ slice_get-front (pairs x 0 us) _ k (x, k) (pairs_at x 0 us k u f ∙ ap (λ n. Some (x, n)) zk) ∙ ap (λ x. Some (x, k)) x0;
          }
      go false q (suc i) ih e =
          let r = ih n i (sym (ap (λ fs. slice_get fs (suc i)) (now false q)) ∙ e) in
          let xs : suc x + i ≡ x + suc i = omega arith in
          record {
            ty = r.ty;
            there = r.there;
            may = ap (λ x. may_split D b x r.ty) (sym xs) ∙ r.may;
            behind = r.behind;
            first = r.first;
            types = λ k u f. ap (λ fs. slice_get (new_types D fs (t ∷ ts)) (r.behind + k)) (now false q) ∙ r.types k u f;
            owner = λ k u f. ap (λ fs. slice_get (owners_from fs x (t ∷ ts)) (r.behind + k)) (now false q) ∙ r.owner k u f ∙ ap (λ x. Some (x, k)) xs;
          }
      go true q (suc i) ih e =
          let r = ih next i (sym (ap (λ fs. slice_get fs (suc i)) (now true q)) ∙ e) in
          let xs : suc x + i ≡ x + suc i = omega arith in
          let long = length us in
          let first : y ≡ next + r.behind = r.first in
          record {
            ty = r.ty;
            there = r.there;
            may = ap (λ x. may_split D b x r.ty) (sym xs) ∙ r.may;
            behind = length us + r.behind;
            first = (let z : next + r.behind ≡ n + (length (field_types D t) + r.behind) = omega arith in first ∙ z);
            types = λ k u f. ap₂ (λ fs n. slice_get (new_types D fs (t ∷ ts)) n) (now true q) (let z : (length us + r.behind) + k ≡ length us + (r.behind + k) = omega arith in z) ∙ slice_get-behind us (new_types D (firsts_from D b next (suc x) ts) ts) (r.behind + k) ∙ r.types k u f;
            owner = λ k u f.
                let z : (length us + r.behind) + k ≡ length (pairs x 0 us) + (r.behind + k) = (let w = pairs_long x 0 us in omega (arith, w)) in
                ap₂ (λ fs n. slice_get (owners_from fs x (t ∷ ts)) n) (now true q) z ∙ slice_get-behind (pairs x 0 us) (owners_from (firsts_from D b next (suc x) ts) (suc x) ts) (r.behind + k) ∙ r.owner k u f ∙ ap (λ x. Some (x, k)) xs;
          }

  -- the new locals keep the limit
  pub few : (n x : ℕ) (ts : List Tree) → n ≤ most_locals → n + length (new_types D (firsts_from D b n x ts) ts) ≤ most_locals
  few n x [] l = omega (arith, l)
  few n x (t ∷ ts) l = go (Chosen n x t) refl (few n (suc x) ts) (few (n + length (field_types D t)) (suc x) ts)
    where
      go : (c : Bool) → Chosen n x t ≡ c → (n ≤ most_locals → n + length (new_types D (firsts_from D b n (suc x) ts) ts) ≤ most_locals) → (n + length (field_types D t) ≤ most_locals → (n + length (field_types D t)) + length (new_types D (firsts_from D b (n + length (field_types D t)) (suc x) ts) ts) ≤ most_locals) → n + length (new_types D (firsts_from D b n x (t ∷ ts)) (t ∷ ts)) ≤ most_locals
      go false q stays more = subst (λ c. n + length (new_types D (if c then Some n ∷ firsts_from D b (n + length (field_types D t)) (suc x) ts else None ∷ firsts_from D b n (suc x) ts) (t ∷ ts)) ≤ most_locals) (sym q) (stays l)
      go true q stays more =
          let room = ltb-true (n + length (field_types D t)) (suc most_locals) (and_true-right (may_split D b x t) (nat_lt (n + length (field_types D t)) (suc most_locals)) q) in
          let rest = more (omega (arith, room)) in
          let long = length-append (field_types D t) (new_types D (firsts_from D b (n + length (field_types D t)) (suc x) ts) ts) in
          subst (λ c. n + length (new_types D (if c then Some n ∷ firsts_from D b (n + length (field_types D t)) (suc x) ts else None ∷ firsts_from D b n (suc x) ts) (t ∷ ts)) ≤ most_locals) (sym q) (omega (arith, rest, long))
