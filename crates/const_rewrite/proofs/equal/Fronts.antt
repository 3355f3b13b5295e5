-- A list whose first items are others by now.
use Rattle.std.proofs.Common.{◌≡◌, refl, sym, ap, ◌∙◌, ℕ, suc, ◌+◌, ◌<◌, ◌≤◌, List, [], ◌∷◌, ◌++◌, map, length, get_or, set, take, drop, append_assoc, drop-cons, length-append, arith}
use Rattle.std.proofs.Math.Seq.{take-suc, set-append_seam, get_or-append_seam}
use Rattle.std.proofs.lemmas.List.{append-nil, drop_all, get_or_default, length-drop, length-map, length-take}
use Rattle.std.proofs.lemmas.List.Edits.{map_over_more}

pub record Front {A : Type 0} (old items front : List A) (at : ℕ) : Type 0 where
  pub split : items ≡ front ++ drop at old
  pub count : length front ≡ at
  pub within : at ≤ length old

next : {A : Type 0} (old items front : List A) (at : ℕ) (d : A) → at < length old → Front old items front at → items ≡ front ++ get_or old at d ∷ drop (suc at) old
next old items front at d l f = f.split ∙ ap (λ xs. front ++ xs) (drop-cons old at d l)

pub front_long : {A : Type 0} (old items front : List A) (at : ℕ) → Front old items front at → length items ≡ length old
front_long old items front at f = ap length f.split ∙ length-append front (drop at old) ∙ (let c = f.count in let w = f.within in omega (arith, length-drop at old))

-- the item that comes next is as it was
pub front_item : {A : Type 0} (old items front : List A) (at : ℕ) (d : A) → at < length old → Front old items front at → get_or items at d ≡ get_or old at d
front_item old items front at d l f =
    ap (λ xs. get_or xs at d) (next old items front at d l f)
    ∙ ap (λ n. get_or (front ++ get_or old at d ∷ drop (suc at) old) n d) (sym f.count)
    ∙ get_or-append_seam front (get_or old at d) (drop (suc at) old) d

pub front_set : {A : Type 0} (old items front : List A) (at : ℕ) (v : A) → at < length old → Front old items front at → Front old (set items at v) (front ++ v ∷ []) (at + 1)
front_set old items front at v l f = record {
  split =
      ap (λ xs. set xs at v) (next old items front at v l f)
      ∙ ap (λ n. set (front ++ get_or old at v ∷ drop (suc at) old) n v) (sym f.count)
      ∙ set-append_seam front (get_or old at v) (drop (suc at) old) v
      ∙ sym (append_assoc front (v ∷ []) (drop (suc at) old))
      ∙ ap (λ n. (front ++ v ∷ []) ++ drop n old) (let z : suc at ≡ at + 1 = omega arith in z);
  count = length-append front (v ∷ []) ∙ (let c = f.count in omega arith);
  within = omega arith;
}

pub front_none : {A : Type 0} (old items : List A) → items ≡ old → Front old items [] 0
front_none old items e = record { split = e; count = refl; within = omega arith }

pub front_all : {A : Type 0} (old items front : List A) (at : ℕ) → length items ≤ at → Front old items front at → items ≡ front
front_all old items front at m f = f.split ∙ ap (λ xs. front ++ xs) (drop_all at old (let long = front_long old items front at f in omega arith)) ∙ append-nil front

pub take_more : {A : Type 0} (old : List A) (at : ℕ) (d : A) → at < length old → take (at + 1) old ≡ take at old ++ get_or old at d ∷ []
take_more old at d l = ap (λ n. take n old) (let z : at + 1 ≡ suc at = omega arith in z) ∙ take-suc old at d l

-- a list whose first items are mapped
pub over_more : {A : Type 0} (f : A → A) (xs ys : List A) (i : ℕ) (d v : A) → i < length ys → ys ≡ map f (take i xs) ++ drop i xs → v ≡ f (get_or ys i d) → set ys i v ≡ map f (take (i + 1) xs) ++ drop (i + 1) xs
over_more f xs ys i d v l e h =
    let long : length ys ≡ length xs = omega (arith, ap length e, length-append (map f (take i xs)) (drop i xs), length-map (take i xs) f, length-take i xs, length-drop i xs) in
    ap (λ w. set ys i w) h ∙ map_over_more f xs ys i (get_or ys i d) (omega arith) e (get_or_default ys i d (get_or ys i d) l)
