-- Parts that are opened, the last one first.
use Rattle.std.proofs.Common.{◌≡◌, refl, sym, ap, ◌∙◌, ℕ, zero, suc, ◌+◌, ◌-◌, ◌<◌, ◌≤◌, List, [], ◌∷◌, ◌++◌, append_assoc, append-nil, length, map, drop, get_or, arith}
use Rattle.std.specs.List.{flat_map}
use Rattle.std.proofs.lemmas.List.{map-append}
use Rattle.mir_syntax.specs.declared.types.TyId.{TyId}
use Rattle.call_graph.specs.declared.parts.Part.{Part}
use Rattle.call_graph.specs.Walk.{part_at, reversed}

pub drop_here : {A : Type 0} (xs : List A) (i : ℕ) (d : A) → i < length xs → drop i xs ≡ get_or xs i d ∷ drop (suc i) xs
drop_here [] i d l = absurd (omega arith)
drop_here (x ∷ xs) zero d l = refl
drop_here (x ∷ xs) (suc i) d l = drop_here xs i d (omega (arith, l))

pub drop_end : {A : Type 0} (xs : List A) → drop (length xs) xs ≡ []
drop_end [] = refl
drop_end (x ∷ xs) = drop_end xs

pub reversed_append : (xs ys : List Part) → reversed (xs ++ ys) ≡ reversed ys ++ reversed xs
reversed_append [] ys = sym (append-nil (reversed ys))
reversed_append (x ∷ xs) ys = ap (λ zs. zs ++ x ∷ []) (reversed_append xs ys) ∙ append_assoc (reversed ys) (reversed xs) (x ∷ [])

-- the types from a place on were opened
abbrev pub opened : {A : Type 0} → (A → List TyId) → ℕ → List A → ℕ → List Part
opened types depth items done = reversed (map (part_at depth) (flat_map types (drop (length items - done) items)))

pub opened_none : {A : Type 0} (types : A → List TyId) (depth : ℕ) (items : List A) → opened types depth items 0 ≡ []
opened_none types depth items = ap (λ n. reversed (map (part_at depth) (flat_map types (drop n items)))) (let e : length items - 0 ≡ length items = omega arith in e) ∙ ap (λ xs. reversed (map (part_at depth) (flat_map types xs))) (drop_end items)

pub opened_all : {A : Type 0} (types : A → List TyId) (depth : ℕ) (items : List A) (done : ℕ) → length items ≤ done → opened types depth items done ≡ reversed (map (part_at depth) (flat_map types items))
opened_all types depth items done l = ap (λ n. reversed (map (part_at depth) (flat_map types (drop n items)))) (let e : length items - done ≡ 0 = omega arith in e)

pub opened_more : {A : Type 0} (types : A → List TyId) (depth : ℕ) (items : List A) (done at : ℕ) (d : A) (stack now now2 : List Part) → done < length items → at ≡ length items - 1 - done → now ≡ stack ++ opened types depth items done → now2 ≡ now ++ reversed (map (part_at depth) (types (get_or items at d))) → now2 ≡ stack ++ opened types depth items (done + 1)
opened_more types depth items done at d stack now now2 l e is more =
    let here : length items - (done + 1) ≡ at = omega (arith, e) in
    let next : suc at ≡ length items - done = omega (arith, e, l) in
    let split : drop (length items - (done + 1)) items ≡ get_or items at d ∷ drop (length items - done) items =
    ap (λ n. drop n items) here ∙ drop_here items at d (omega (arith, e, l)) ∙ ap (λ n. get_or items at d ∷ drop n items) next in
    more ∙ ap (λ xs. xs ++ reversed (map (part_at depth) (types (get_or items at d)))) is
    ∙ append_assoc stack (opened types depth items done) (reversed (map (part_at depth) (types (get_or items at d))))
    ∙ ap (λ xs. stack ++ xs)
    (sym (reversed_append (map (part_at depth) (types (get_or items at d))) (map (part_at depth) (flat_map types (drop (length items - done) items))))
    ∙ ap reversed (sym (map-append (part_at depth) (types (get_or items at d)) (flat_map types (drop (length items - done) items))))
    ∙ ap (λ xs. reversed (map (part_at depth) (flat_map types xs))) (sym split))

-- where each item has one type
pub one_each : {A : Type 0} (f : A → TyId) (items : List A) → flat_map (λ x. f x ∷ []) items ≡ map f items
one_each f [] = refl
one_each f (x ∷ xs) = ap (λ ys. f x ∷ ys) (one_each f xs)

pub same_ids : (ids : List TyId) → map (λ (id : TyId). id) ids ≡ ids
same_ids [] = refl
same_ids (x ∷ xs) = ap (λ ys. x ∷ ys) (same_ids xs)
