-- Types that are read part by part are those of the rule.
use Rattle.std.proofs.Common.{IsTrue, ◌≡◌, ℕ, zero, suc, ◌+◌, ◌-◌, ◌<◌, ◌≤◌, Bool, true, false, ◌&&◌, List, [], ◌∷◌, ◌++◌, map, take, drop, length, refl, sym, ap, ◌∙◌, ◌⊎◌, arith, rules, inl, inr, Result, Ok, Err, OnOk, length-drop, take-append-drop}
use Rattle.std.proofs.lemmas.Bool.{cases_lt}
use Rattle.std.specs.List.{list_all}
use Rattle.mir_syntax.specs.declared.types.Ty.{Ty}
use Rattle.mir_syntax.specs.Tree.{Tree, node, empty, more, at_ids, trees_of, Extends}
use Rattle.mir_syntax.specs.Table.{all_below}
use Rattle.mir_syntax.proofs.Growth.{lt-more, all-weaker, at_id-extends}
use Rattle.mir_text.specs.GrammarTypes.{TypeRule, TypesRule}
use Rattle.mir_text.specs.Names.{Strings, types_named, are_known}
use Rattle.mir_tree.specs.declared.ty.TypePart.{TypePart}
use Rattle.mir_tree.specs.declared.ty.TypePart.TheVariants as p
use Rattle.mir_tree.specs.Types.{types_listed, tuple_listed, taken, after_part, after_parts, top_of, type_of_parts}
use Rattle.mir_resolve.specs.declared.types.ReadTy.{ReadTy}
use Rattle.mir_resolve.specs.Types.{Told, told, with_first, taken_told, put_told, ref_told, part_told, parts_told, top_told, read_id, read_known, read_below, read_in, piled, stack_in, ref_ty_of}

-- ---- rules

and-true : (b : Bool) → b && true ≡ b
and-true true = refl
and-true false = refl

-- the tuple of types
abbrev all_told : Strings → List (List ℕ) → List TypeRule → Told
all_told strings paths [] = (empty, true)
all_told strings paths (t ∷ ts) = with_first (told strings paths t) (all_told strings paths ts)

abbrev types_told : Strings → List (List ℕ) → TypesRule → Told
types_told strings paths us = (types_named strings paths us, are_known strings paths us)

listed-told : (strings : Strings) (paths : List (List ℕ)) (ts : List TypeRule) (b : Bool) → types_told strings paths (types_listed ts b) ≡ all_told strings paths ts
listed-told strings paths [] b = refl
listed-told strings paths (t ∷ []) false = ap (λ k. (more (told strings paths t).0 empty, k)) (sym (and-true (told strings paths t).1))
listed-told strings paths (t ∷ []) true = refl
listed-told strings paths (t ∷ u ∷ us) b = ap (with_first (told strings paths t)) (listed-told strings paths (u ∷ us) b)

tuple-told : (strings : Strings) (paths : List (List ℕ)) (ts : List TypeRule) (b : Bool) → told strings paths (tuple_listed ts b) ≡ all_told strings paths ts
tuple-told strings paths [] b = refl
tuple-told strings paths (t ∷ ts) b = ap (with_first (told strings paths t)) (listed-told strings paths ts b)

taken-told : (strings : Strings) (paths : List (List ℕ)) (n : ℕ) (before stack : List TypeRule)
    → taken_told n (all_told strings paths before) (map (told strings paths) stack)
    ≡ (all_told strings paths (taken n before stack).0, map (told strings paths) (taken n before stack).1)
taken-told strings paths zero before stack = refl
taken-told strings paths (suc n) before [] = refl
taken-told strings paths (suc n) before (t ∷ stack) = taken-told strings paths n (t ∷ before) stack

part-told : (strings : Strings) (paths : List (List ℕ)) (x : TypePart) (stack : List TypeRule)
    → map (told strings paths) (after_part x stack) ≡ part_told strings paths x (map (told strings paths) stack)
part-told strings paths (p.Int t) stack = refl
part-told strings paths p.Bool stack = refl
part-told strings paths (p.Path x) stack = refl
part-told strings paths p.Unit stack = refl
part-told strings paths (p.Ref m) [] = refl
part-told strings paths (p.Ref true) (t ∷ stack) = refl
part-told strings paths (p.Ref false) (t ∷ stack) = refl
part-told strings paths (p.Tuple n trailing) stack =
    ap (λ u. u ∷ map (told strings paths) (taken n [] stack).1) (tuple-told strings paths (taken n [] stack).0 trailing)
    ∙ sym (ap put_told (taken-told strings paths n [] stack))

parts-told : (strings : Strings) (paths : List (List ℕ)) (xs : List TypePart) (stack : List TypeRule)
    → map (told strings paths) (after_parts xs stack) ≡ parts_told strings paths xs (map (told strings paths) stack)
parts-told strings paths [] stack = refl
parts-told strings paths (x ∷ xs) stack = parts-told strings paths xs (after_part x stack) ∙ ap (parts_told strings paths xs) (part-told strings paths x stack)

top-told : (strings : Strings) (paths : List (List ℕ)) (stack : List TypeRule) → told strings paths (top_of stack) ≡ top_told (map (told strings paths) stack)
top-told strings paths [] = refl
top-told strings paths (t ∷ stack) = refl

-- the type of parts is the one on top after all of them
pub type_read : (strings : Strings) (paths : List (List ℕ)) (xs : List TypePart) → top_told (parts_told strings paths xs []) ≡ told strings paths (type_of_parts xs)
unfolding type_of_parts
type_read strings paths xs = sym (top-told strings paths (after_parts xs []) ∙ ap top_told (parts-told strings paths xs []))

-- ---- a stack

pub piled-push : (trees : List Tree) (xs : List ReadTy) (r : ReadTy) (below : List Told) → piled trees (xs ++ r ∷ []) below ≡ read_in trees r ∷ piled trees xs below
piled-push trees [] r below = refl
piled-push trees (x ∷ xs) r below = piled-push trees xs r (read_in trees x ∷ below)

piled-append : (trees : List Tree) (xs ys : List ReadTy) (below : List Told) → piled trees (xs ++ ys) below ≡ piled trees ys (piled trees xs below)
piled-append trees [] ys below = refl
piled-append trees (x ∷ xs) ys below = piled-append trees xs ys (read_in trees x ∷ below)

-- a stack tells the same in a table that has grown
pub piled-extends : (old new : List Ty) → Extends old new → (xs : List ReadTy) (below : List Told) → IsTrue (list_all (read_below (length old)) xs)
    → piled (trees_of new) xs below ≡ piled (trees_of old) xs below
piled-extends old new e [] below h = refl
piled-extends old new e (r ∷ xs) below h =
    let both : (r.id.0 < length old) × IsTrue (list_all (read_below (length old)) xs) = search rules in
    ap (λ t. piled (trees_of new) xs ((t, r.known) ∷ below)) (at_id-extends old new r.id e both.0)
    ∙ piled-extends old new e xs (read_in (trees_of old) r ∷ below) both.1

abbrev onto : List Tree → List ReadTy → Told → Told
onto trees [] q = q
onto trees (r ∷ rs) q = with_first (read_in trees r) (onto trees rs q)

taken-onto : (trees : List Tree) (xs : List ReadTy) (k : ℕ) (q : Told) (below : List Told)
    → taken_told (length xs + k) q (piled trees xs below) ≡ taken_told k (onto trees xs q) below
taken-onto trees [] k q below = let z : 0 + k ≡ k = omega arith in ap (λ n. taken_told n q below) z
taken-onto trees (r ∷ rs) k q below =
    let z : suc (length rs) + k ≡ length rs + suc k = omega arith in
    ap (λ n. taken_told n q (piled trees rs (read_in trees r ∷ below))) z ∙ taken-onto trees rs (suc k) q (read_in trees r ∷ below)

onto-ids : (trees : List Tree) (xs : List ReadTy) → onto trees xs (empty, true) ≡ (at_ids trees (map read_id xs), list_all read_known xs)
onto-ids trees [] = refl
onto-ids trees (r ∷ rs) = ap (with_first (read_in trees r)) (onto-ids trees rs)

none-taken : (k : ℕ) (q : Told) → taken_told k q [] ≡ (q, [])
none-taken zero q = refl
none-taken (suc k) q = refl

parted-taken : (trees : List Tree) (front back : List ReadTy) (n k : ℕ) → n ≡ length back + k → (k ≡ 0) ⊎ (front ≡ [])
    → put_told (taken_told n (empty, true) (stack_in trees (front ++ back)))
    ≡ (at_ids trees (map read_id back), list_all read_known back) ∷ stack_in trees front
parted-taken trees front back n k e (inl none) =
    ap (λ s. put_told (taken_told n (empty, true) s)) (piled-append trees front back [])
    ∙ ap (λ m. put_told (taken_told m (empty, true) (piled trees back (stack_in trees front)))) (e ∙ ap (λ j. length back + j) none)
    ∙ ap put_told (taken-onto trees back 0 (empty, true) (stack_in trees front))
    ∙ ap (λ q. q ∷ stack_in trees front) (onto-ids trees back)
parted-taken trees front back n k e (inr nothing) =
    ap (λ f. put_told (taken_told n (empty, true) (stack_in trees (f ++ back)))) nothing
    ∙ ap (λ m. put_told (taken_told m (empty, true) (stack_in trees back))) e
    ∙ ap put_told (taken-onto trees back k (empty, true) [])
    ∙ ap put_told (none-taken k (onto trees back (empty, true)))
    ∙ ap (λ q. q ∷ []) (onto-ids trees back)
    ∙ sym (ap (λ f. (at_ids trees (map read_id back), list_all read_known back) ∷ stack_in trees f) nothing)

none-left : (at : ℕ) (xs : List ReadTy) → at ≡ 0 → take at xs ≡ []
none-left at xs none = rw none refl

-- the last so many types of a stack, or all where it has fewer
pub tuple_taken : (trees : List Tree) (n : ℕ) (xs : List ReadTy)
    → put_told (taken_told n (empty, true) (stack_in trees xs))
    ≡ (at_ids trees (map read_id (drop (length xs - n) xs)), list_all read_known (drop (length xs - n) xs)) ∷ stack_in trees (take (length xs - n) xs)
tuple_taken trees n xs =
    let at : ℕ = length xs - n in
    let long : length (drop at xs) ≡ length xs - at = length-drop at xs in
    let k : ℕ = n - (length xs - at) in
    let whole : n ≡ length (drop at xs) + k = omega (arith, long) in
    let ends : (k ≡ 0) ⊎ (at ≡ 0) = elim (cases_lt (length xs) n) [ inl lt ↦ inr (omega arith) | inr le ↦ inl (omega arith) ] in
    ap (λ l. put_told (taken_told n (empty, true) (stack_in trees l))) (sym (take-append-drop at xs))
    ∙ parted-taken trees (take at xs) (drop at xs) n k whole
    (elim ends [ inl none ↦ inl none | inr none ↦ inr (none-left at xs none) ])

-- ---- ids

pub ids-below : (n : ℕ) (xs : List ReadTy) → IsTrue (list_all (read_below n) xs) → IsTrue (all_below n (map read_id xs))
ids-below n [] h = refl
ids-below n (r ∷ rs) h =
    let both : IsTrue (read_below n r) × IsTrue (list_all (read_below n) rs) = search rules in
    let others = ids-below n rs both.1 in
    search rules

pub all-parts : (n : ℕ) (xs ys : List ReadTy) → IsTrue (list_all (read_below n) (xs ++ ys)) → IsTrue (list_all (read_below n) xs) × IsTrue (list_all (read_below n) ys)
all-parts n [] ys h = (refl, h)
all-parts n (r ∷ rs) ys h =
    let both : IsTrue (read_below n r) × IsTrue (list_all (read_below n) (rs ++ ys)) = search rules in
    let parts = all-parts n rs ys both.1 in
    let first : IsTrue (list_all (read_below n) rs) = parts.0 in
    (search rules, parts.1)

pub all-joined : (n : ℕ) (xs ys : List ReadTy) → IsTrue (list_all (read_below n) xs) → IsTrue (list_all (read_below n) ys) → IsTrue (list_all (read_below n) (xs ++ ys))
all-joined n [] ys h k = k
all-joined n (r ∷ rs) ys h k =
    let both : IsTrue (read_below n r) × IsTrue (list_all (read_below n) rs) = search rules in
    let rest = all-joined n rs ys both.1 k in
    search rules

pub all-more : (n m : ℕ) → n ≤ m → (xs : List ReadTy) → IsTrue (list_all (read_below n) xs) → IsTrue (list_all (read_below m) xs)
all-more n m le xs h = all-weaker (read_below n) (read_below m) (λ r k. lt-more n m r.id.0 le k) xs h

pub ref-read : (trees : List Tree) (mutable : Bool) (r : ReadTy) (xs : List ReadTy)
    → (node trees (ref_ty_of mutable r.id), r.known) ∷ stack_in trees xs ≡ ref_told mutable (stack_in trees (xs ++ r ∷ []))
ref-read trees true r xs = sym (ap (ref_told true) (piled-push trees xs r []))
ref-read trees false r xs = sym (ap (ref_told false) (piled-push trees xs r []))

-- a call that is passed on says what equals what it says
pub on_ok-then : {U E A : Type 0} (found : Result U E) (x y z : A) → OnOk found (x ≡ y) → y ≡ z → OnOk found (x ≡ z)
on_ok-then (Ok u) x y z h e = h ∙ e
on_ok-then (Err u) x y z h e = tt

-- where no parts are left the stack is the last one
pub parts_ended : (strings : Strings) (paths : List (List ℕ)) (xs : List TypePart) (stack whole : List Told) → length xs < 1 → parts_told strings paths xs stack ≡ whole → stack ≡ whole
parts_ended strings paths [] stack whole short h = h
parts_ended strings paths (x ∷ xs) stack whole short h = absurd (omega arith)
