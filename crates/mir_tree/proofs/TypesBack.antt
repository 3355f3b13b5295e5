-- A path and a type are what their trees say.
use Rattle.std.proofs.Common.{◌≡◌, ℕ, suc, List, [], ◌∷◌, ◌++◌, ◌+◌, refl, sym, ap, ◌∙◌, arith, append_assoc, append-nil}
use Rattle.mir_text.specs.GrammarTypes.{PathRule, name, name_in, TypeRule, int, bool, ref, path, unit, tuple, TypesRule, end, last, more, types_in}
use Rattle.mir_tree.specs.declared.ty.TypePart.{TypePart}
use Rattle.mir_tree.specs.declared.ty.TypePart.TheVariants as p
use Rattle.mir_tree.specs.Types.{path_rule, path_text, types_listed, taken, with_tuple, after_parts, top_of, type_of_parts, type_parts, types_parts, types_count, ends_in_comma}

pub path-back : (x : PathRule) → path_rule (path_text x) ≡ x
path-back (name n) = refl
path-back (name_in n (name k)) = refl
path-back (name_in n (name_in k x)) = ap (λ y. name_in n y) (path-back (name_in k x))

-- ---- types

-- the types of a list on a stack
abbrev pub pushed : TypesRule → List TypeRule → List TypeRule
pushed end stack = stack
pushed (last t) stack = t ∷ stack
pushed (more t ts) stack = pushed ts (t ∷ stack)

taken-pushed : (ts : TypesRule) (k : ℕ) (before stack : List TypeRule) → taken (types_count ts + k) before (pushed ts stack) ≡ taken k (types_in ts ++ before) stack
taken-pushed end k before stack = let z : 0 + k ≡ k = omega arith in ap (λ n. taken n before stack) z
taken-pushed (last t) k before stack = let z : 1 + k ≡ suc k = omega arith in ap (λ n. taken n before (t ∷ stack)) z
taken-pushed (more t ts) k before stack =
    let z : suc (types_count ts) + k ≡ types_count ts + suc k = omega arith in
    ap (λ n. taken n before (pushed ts (t ∷ stack))) z ∙ taken-pushed ts (suc k) before (t ∷ stack)

listed-back : (ts : TypesRule) → types_listed (types_in ts) (ends_in_comma ts) ≡ ts
listed-back end = refl
listed-back (last t) = refl
listed-back (more t end) = refl
listed-back (more t (last u)) = refl
listed-back (more t (more u ts)) = ap (λ l. more t l) (listed-back (more u ts))

tuple-taken : (t : TypeRule) (ts : TypesRule) (stack : List TypeRule) → taken (suc (types_count ts)) [] (pushed ts (t ∷ stack)) ≡ (t ∷ types_in ts, stack)
tuple-taken t ts stack =
    let z : suc (types_count ts) ≡ types_count ts + 1 = omega arith in
    ap (λ n. taken n [] (pushed ts (t ∷ stack))) z ∙ taken-pushed ts 1 [] (t ∷ stack) ∙ ap (λ l. (t ∷ l, stack)) (append-nil (types_in ts))

tuple-step : (t : TypeRule) (ts : TypesRule) (stack : List TypeRule) → with_tuple (ends_in_comma ts) (taken (suc (types_count ts)) [] (pushed ts (t ∷ stack))) ≡ tuple t ts ∷ stack
tuple-step t ts stack = ap (with_tuple (ends_in_comma ts)) (tuple-taken t ts stack) ∙ ap (λ l. tuple t l ∷ stack) (listed-back ts)

mutual
  pub type-after : (t : TypeRule) (rest : List TypePart) (stack : List TypeRule) → after_parts (type_parts t ++ rest) stack ≡ after_parts rest (t ∷ stack)
  type-after (int i) rest stack = refl
  type-after bool rest stack = refl
  type-after (ref m t) rest stack = ap (λ l. after_parts l stack) (append_assoc (type_parts t) (p.Ref m ∷ []) rest) ∙ type-after t (p.Ref m ∷ rest) stack
  type-after (path x) rest stack = ap (λ y. after_parts rest (path y ∷ stack)) (path-back x)
  type-after unit rest stack = refl
  type-after (tuple t ts) rest stack =
      let end_part = p.Tuple (suc (types_count ts)) (ends_in_comma ts) in
      ap (λ l. after_parts l stack) (append_assoc (type_parts t) (types_parts ts ++ end_part ∷ []) rest)
      ∙ type-after t ((types_parts ts ++ end_part ∷ []) ++ rest) stack
      ∙ ap (λ l. after_parts l (t ∷ stack)) (append_assoc (types_parts ts) (end_part ∷ []) rest)
      ∙ types-after ts (end_part ∷ rest) (t ∷ stack)
      ∙ ap (after_parts rest) (tuple-step t ts stack)

  pub types-after : (ts : TypesRule) (rest : List TypePart) (stack : List TypeRule) → after_parts (types_parts ts ++ rest) stack ≡ after_parts rest (pushed ts stack)
  types-after end rest stack = refl
  types-after (last t) rest stack = type-after t rest stack
  types-after (more t ts) rest stack =
      ap (λ l. after_parts l stack) (append_assoc (type_parts t) (types_parts ts) rest) ∙ type-after t (types_parts ts ++ rest) stack ∙ types-after ts rest (t ∷ stack)

-- the parts of a type make it
pub type-back : (t : TypeRule) → type_of_parts (type_parts t) ≡ t
unfolding type_of_parts
type-back t = ap top_of (ap (λ l. after_parts l []) (sym (append-nil (type_parts t))) ∙ type-after t [] [])
