-- The tracked places of a body are in order.
use Rattle.std.proofs.Common.{◌≡◌, inl, inr, refl, sym, ◌∙◌, subst, ℕ, zero, suc, ◌≤◌, ◌<◌, ◌/◌, Bool, true, false, nat_le, if◌then◌else◌, List, [], ◌∷◌, ◌++◌, map, length, Option, Some, None, IsTrue, slice_get, arith}
use Rattle.std.proofs.lemmas.Bool.{cases_Bool}
use Rattle.std.proofs.lemmas.List.{length-take}
use Rattle.mir_syntax.specs.declared.body.Proj.{Proj}
use Rattle.mir_syntax.specs.declared.body.Proj.TheVariants.{Field}
use Rattle.mir_syntax.specs.declared.body.Place.{Place}
use Rattle.mir_syntax.specs.Tree.{Tree, scalar, empty, more, ref, ref_mut, named}
use Rattle.mir_syntax.specs.Crate.{TypedBody}
use Rattle.mir_syntax.specs.Shapes.{Shape, fields_of}
use Rattle.mir_syntax.proofs.Lists.{map_back}
use Rattle.mir_syntax.specs.Parts.{is_direct}
use Rattle.place_map.specs.declared.side.Side.TheVariants.{Before}
use Rattle.place_map.specs.Order.{path_side, place_side, IsOrdered}
use Rattle.place_map.specs.Tracked.{deeper, scalars_by, scalars_in, scalars_def, scalars, place_at, untaken_scalars, most_tracked, tracked}
use Rattle.place_map.proofs.Rises.{append_back, take_back, Rises, rises_at, rises_take, rises_append, rises_map}
use Rattle.place_map.proofs.Sides.{before_is, same_is}

abbrev PathBefore : List Proj → List Proj → Type 0
PathBefore qs ps = path_side qs ps ≡ Before

abbrev PlaceBefore : Place → Place → Type 0
PlaceBefore q p = place_side q p ≡ Before

-- paths of fields, each before those after it
record IsAscending (paths : List (List Proj)) : Type 0 where
  direct : (i : ℕ) (ps : List Proj) → slice_get paths i ≡ Some ps → IsTrue (is_direct ps)
  rising : Rises PathBefore paths

none_ascend : IsAscending []
none_ascend = record { direct = λ i ps e. absurd cc; rising = tt }

-- paths that begin with a field of this number or a later one
abbrev Starts : ℕ → List Proj → Type 0
Starts i ps = (j : ℕ) × (r : List Proj) × (i ≤ j) × (ps ≡ Field j ∷ r)

module _ (f : ℕ → List (List Proj)) (defs : (d : ℕ) → IsAscending (f d)) where
  starts : (i : ℕ) (t : Tree) (k : ℕ) (ps : List Proj) → slice_get (scalars_by f (Some i) t) k ≡ Some ps → Starts i ps
  starts i (more t ts) k ps e = elim (append_back (map (deeper i) (scalars_by f None t)) (scalars_by f (Some (suc i)) ts) k ps e) [
    | inl h ↦ (let (r, at, is) = map_back (deeper i) (scalars_by f None t) h.0 ps h.1 in (i, r, omega arith, sym is))
    | inr h ↦ (let (j, r, le, is) = starts (suc i) ts h.0 ps h.1 in (j, r, omega arith, is))
  ]
  starts i (scalar s) k ps e = absurd cc
  starts i empty k ps e = absurd cc
  starts i (ref t) k ps e = absurd cc
  starts i (ref_mut t) k ps e = absurd cc
  starts i (named d) k ps e = absurd cc

  deeper_rises : (i : ℕ) (a b : List Proj) → PathBefore a b → PathBefore (deeper i a) (deeper i b)
  deeper_rises i a b h = same_is i i (path_side a b) refl ∙ h

  -- the scalars of a field, and then those of later ones
  field_first : (i : ℕ) (xs ys : List (List Proj)) → IsAscending xs → IsAscending ys → ((k : ℕ) (ps : List Proj) → slice_get ys k ≡ Some ps → Starts (suc i) ps) → IsAscending (map (deeper i) xs ++ ys)
  field_first i xs ys a b later = record {
    direct = λ k ps e. elim (append_back (map (deeper i) xs) ys k ps e) [
      | inl h ↦ (let (r, at, is) = map_back (deeper i) xs h.0 ps h.1 in subst (λ z. IsTrue (is_direct z)) is (a.direct h.0 r at))
      | inr h ↦ b.direct h.0 ps h.1
    ];
    rising = rises_append PathBefore (map (deeper i) xs) ys (rises_map PathBefore PathBefore (deeper i) (deeper_rises i) xs a.rising) b.rising (λ k l x y ex ey.
        let (r, at, is) = map_back (deeper i) xs k x ex in
        let (j, s, le, same) = later l y ey in
        subst (λ z. PathBefore z y) is (subst (PathBefore (deeper i r)) (sym same) (before_is i j (path_side r s) le)));
  }

  ascend : (m : Option ℕ) (t : Tree) → IsAscending (scalars_by f m t)
  ascend None (scalar s) = record { direct = one; rising = ((λ i y e. absurd cc), tt) }
    where
      one : (i : ℕ) (ps : List Proj) → slice_get ([] ∷ []) i ≡ Some ps → IsTrue (is_direct ps)
      one zero ps e = let same : [] ≡ ps = cc in subst (λ z. IsTrue (is_direct z)) same refl
      one (suc i) ps e = absurd cc
  ascend None (more t ts) = field_first 0 (scalars_by f None t) (scalars_by f (Some 1) ts) (ascend None t) (ascend (Some 1) ts) (starts 1 ts)
  ascend None (named d) = defs d
  ascend None empty = none_ascend
  ascend None (ref t) = none_ascend
  ascend None (ref_mut t) = none_ascend
  ascend (Some i) (more t ts) = field_first i (scalars_by f None t) (scalars_by f (Some (suc i)) ts) (ascend None t) (ascend (Some (suc i)) ts) (starts (suc i) ts)
  ascend (Some i) (scalar s) = none_ascend
  ascend (Some i) empty = none_ascend
  ascend (Some i) (ref t) = none_ascend
  ascend (Some i) (ref_mut t) = none_ascend
  ascend (Some i) (named d) = none_ascend

  ascend_in : (o : Option Tree) → IsAscending (scalars_in f o)
  ascend_in None = none_ascend
  ascend_in (Some t) = ascend (Some 0) t

ascend_def : (D : List Shape) (n d : ℕ) → IsAscending (scalars_def D n d)
ascend_def D zero d = none_ascend
ascend_def D (suc n) d = ascend_in (scalars_def D n) (λ e. ascend_def D n e) (fields_of D (named d))

ascend_type : (D : List Shape) (t : Tree) → IsAscending (scalars D t)
unfolding scalars
ascend_type D t = ascend (scalars_def D (length D)) (λ d. ascend_def D (length D) d) None t

-- ---- places

record IsRow (x : ℕ) (places : List Place) : Type 0 where
  later : (i : ℕ) (p : Place) → slice_get places i ≡ Some p → x ≤ p.local
  direct : (i : ℕ) (p : Place) → slice_get places i ≡ Some p → IsTrue (is_direct p.proj)
  rising : Rises PlaceBefore places

in_local : (x : ℕ) (a b : List Proj) → PathBefore a b → PlaceBefore (place_at x a) (place_at x b)
unfolding place_side
in_local x a b h = same_is x x (path_side a b) refl ∙ h

other_local : (q p : Place) → q.local < p.local → PlaceBefore q p
unfolding place_side
other_local q p l = before_is q.local p.local (path_side q.proj p.proj) l

local_first : (x : ℕ) (xs : List (List Proj)) (ys : List Place) → IsAscending xs → IsRow (suc x) ys → IsRow x (map (place_at x) xs ++ ys)
local_first x xs ys a b = record {
  later = λ i p e. elim (append_back (map (place_at x) xs) ys i p e) [
    | inl h ↦ (let (r, at, is) = map_back (place_at x) xs h.0 p h.1 in subst (λ (z : Place). x ≤ z.local) is (omega arith))
    | inr h ↦ (let l = b.later h.0 p h.1 in omega arith)
  ];
  direct = λ i p e. elim (append_back (map (place_at x) xs) ys i p e) [
    | inl h ↦ (let (r, at, is) = map_back (place_at x) xs h.0 p h.1 in subst (λ (z : Place). IsTrue (is_direct z.proj)) is (a.direct h.0 r at))
    | inr h ↦ b.direct h.0 p h.1
  ];
  rising = rises_append PlaceBefore (map (place_at x) xs) ys (rises_map PathBefore PlaceBefore (place_at x) (in_local x) xs a.rising) b.rising (λ i j q p eq ep.
      let (r, at, is) = map_back (place_at x) xs i q eq in
      let l = b.later j p ep in
      subst (λ z. PlaceBefore z p) is (other_local (place_at x r) p l));
}

nothing_first : (x : ℕ) (ys : List Place) → IsRow (suc x) ys → IsRow x ys
nothing_first x ys b = record { later = λ i p e. (let l = b.later i p e in omega arith); direct = b.direct; rising = b.rising }

row : (D : List Shape) (taken : ℕ → Bool) (x : ℕ) (ts : List Tree) → IsRow x (untaken_scalars D taken x ts)
row D taken x [] = record { later = λ i p e. absurd cc; direct = λ i p e. absurd cc; rising = tt }
row D taken x (t ∷ ts) = go (taken x) (row D taken (suc x) ts)
  where
    go : (c : Bool) → IsRow (suc x) (untaken_scalars D taken (suc x) ts) → IsRow x ((if c then [] else map (place_at x) (scalars D t)) ++ untaken_scalars D taken (suc x) ts)
    go true b = nothing_first x (untaken_scalars D taken (suc x) ts) b
    go false b = local_first x (scalars D t) (untaken_scalars D taken (suc x) ts) (ascend_type D t) b

few_tracked : (n : ℕ) → most_tracked n ≤ 1000
few_tracked n = elim (cases_Bool (nat_le 1000 (1000000 / n))) [ inl h ↦ rw h (omega arith) | inr h ↦ rw h (grind arith) ]

pub tracked_ordered : (D : List Shape) (taken : ℕ → Bool) (b : TypedBody) → IsOrdered (tracked D taken b)
unfolding tracked
tracked_ordered D taken b = (let all = row D taken 0 b.locals in record {
  direct = λ i q e. all.direct i q (take_back (most_tracked (length b.blocks)) (untaken_scalars D taken 0 b.locals) i q e);
  rising = λ i j q p l eq ep. rises_at PlaceBefore (tracked D taken b) (rises_take PlaceBefore (most_tracked (length b.blocks)) (untaken_scalars D taken 0 b.locals) all.rising) i j q p l eq ep;
  few = (let a = length-take (most_tracked (length b.blocks)) (untaken_scalars D taken 0 b.locals) in let b = few_tracked (length b.blocks) in omega arith);
})
