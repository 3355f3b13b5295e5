-- What a write makes of a unit: one that the written place is not above keeps its status, and one under it has the status that it has in the
-- written value.
use Rattle.std.proofs.Common.{◌≡◌, ◌⊎◌, inl, inr, refl, sym, ap, ◌∙◌, subst, ℕ, zero, suc, Bool, true, false, nat_eq, ◌&&◌, if◌then◌else◌, List, [], ◌∷◌, ◌++◌, Option, Some, None, option_map, arith}
use Rattle.mir_syntax.specs.declared.body.Proj.{Proj}
use Rattle.mir_syntax.specs.declared.body.Proj.TheVariants.{Field, Downcast, Deref}
use Rattle.mir_syntax.specs.Shapes.{◌>>=◌}
use Rattle.mir_semantics.specs.Values.{Value, number, nil, cons, variant, pointer, hole, is_hole, whole, part, payload, inner, at_path, change_part, change_payload, change_inner, put}
use Rattle.mir_syntax.proofs.Binds.{bind_some, some_bind}
use Rattle.mir_renaming.proofs.Memory.{same_or_not}

-- whether a hole stands at a path
abbrev pub hole_at : List Proj → Value → Option Bool
hole_at ps v = option_map is_hole (at_path ps v)

-- a path of fields goes on from the first
abbrev pub Above : List Proj → List Proj → Type 0
Above ps us = (rest : List Proj) × (us ≡ ps ++ rest)

-- ---- under the written place

part_changed : (i : ℕ) (f : Value → Value) (v u : Value) → part i v ≡ Some u → part i (change_part i f v) ≡ Some (f u)
part_changed zero f (cons v vs) u e = ap (λ v. Some (f v)) (let z : v ≡ u = grind arith in z)
part_changed (suc i) f (cons v vs) u e = part_changed i f vs u e
part_changed i f v u e = absurd (grind arith)

payload_changed : (k : ℕ) (f : Value → Value) (v u : Value) → payload k v ≡ Some u → payload k (change_payload k f v) ≡ Some (f u)
payload_changed k f (variant i v) u e = go (nat_eq i k) e
  where
    go : (b : Bool) → (if b then Some v else None) ≡ Some u → (if b then Some (if b then f v else v) else None) ≡ Some (f u)
    go true e = ap (λ v. Some (f v)) (let z : v ≡ u = grind arith in z)
    go false e = absurd (grind arith)
payload_changed k f v u e = absurd (grind arith)

inner_changed : (p : Proj) (f : Value → Value) (v u : Value) → inner p v ≡ Some u → inner p (change_inner p f v) ≡ Some (f u)
inner_changed (Field i) f v u e = part_changed i f v u e
inner_changed (Downcast k) f v u e = payload_changed k f v u e
inner_changed Deref f v u e = absurd (grind arith)

pub put_under : (ps rest : List Proj) (w v u : Value) → at_path ps v ≡ Some u → at_path (ps ++ rest) (put ps w v) ≡ at_path rest w
put_under [] rest w v u e = refl
put_under (p ∷ ps) rest w v u e =
    let (x, e1, e2) = bind_some e in
    some_bind _ (inner_changed p (put ps w) v x e1) (put_under ps rest w x u e2)

-- ---- elsewhere

change_hole : (p : Proj) (f : Value → Value) (v : Value) → is_hole (change_inner p f v) ≡ is_hole v
change_hole (Field i) f v = go i v
  where
    go : (i : ℕ) (v : Value) → is_hole (change_part i f v) ≡ is_hole v
    go zero (cons v vs) = refl
    go (suc i) (cons v vs) = refl
    go zero (number n) = refl
    go zero nil = refl
    go zero (variant k v) = refl
    go zero (pointer a) = refl
    go zero hole = refl
    go (suc i) (number n) = refl
    go (suc i) nil = refl
    go (suc i) (variant k v) = refl
    go (suc i) (pointer a) = refl
    go (suc i) hole = refl
change_hole (Downcast k) f (variant i v) = refl
change_hole (Downcast k) f (number n) = refl
change_hole (Downcast k) f nil = refl
change_hole (Downcast k) f (cons v vs) = refl
change_hole (Downcast k) f (pointer a) = refl
change_hole (Downcast k) f hole = refl
change_hole Deref f v = refl

part_other : (i j : ℕ) (f : Value → Value) (v : Value) → (i ≡ j → ⊥) → part j (change_part i f v) ≡ part j v
part_other zero zero f v ne = absurd (ne refl)
part_other zero (suc j) f (cons v vs) ne = refl
part_other (suc i) zero f (cons v vs) ne = refl
part_other (suc i) (suc j) f (cons v vs) ne = part_other i j f vs (λ e. ne (ap suc e))
part_other zero (suc j) f (number n) ne = refl
part_other zero (suc j) f nil ne = refl
part_other zero (suc j) f (variant k v) ne = refl
part_other zero (suc j) f (pointer a) ne = refl
part_other zero (suc j) f hole ne = refl
part_other (suc i) j f (number n) ne = refl
part_other (suc i) j f nil ne = refl
part_other (suc i) j f (variant k v) ne = refl
part_other (suc i) j f (pointer a) ne = refl
part_other (suc i) j f hole ne = refl

-- a change of a field, seen from a field: there, or elsewhere
pub field_cases : (i j : ℕ) → (i ≡ j) ⊎ (i ≡ j → ⊥)
field_cases i j = go (same_or_not i j)
  where
    go : ((nat_eq i j ≡ true) × (i ≡ j)) ⊎ ((nat_eq i j ≡ false) × (i ≡ j → ⊥)) → (i ≡ j) ⊎ (i ≡ j → ⊥)
    go (inl p) = inl p.1
    go (inr p) = inr p.1

-- a downcast changes no field
downcast_field : (k j : ℕ) (f : Value → Value) (v : Value) → part j (change_payload k f v) ≡ part j v
downcast_field k zero f (variant i v) = refl
downcast_field k (suc j) f (variant i v) = refl
downcast_field k j f (number n) = refl
downcast_field k j f nil = refl
downcast_field k j f (cons v vs) = refl
downcast_field k j f (pointer a) = refl
downcast_field k j f hole = refl

-- a unit's path is one of fields
abbrev pub Fields : List Proj → Type 0
Fields [] = Unit {0}
Fields (Field i ∷ ps) = Fields ps
Fields (_ ∷ ps) = ⊥

pub put_beside : (ps us : List Proj) (w v : Value) → Fields us → (Above ps us → ⊥) → hole_at us (put ps w v) ≡ hole_at us v
put_beside [] us w v h ne = absurd (ne (us, refl))
put_beside (p ∷ ps) [] w v h ne = ap Some (change_hole p (put ps w) v)
put_beside (Field i ∷ ps) (Field j ∷ us) w v h ne = go (λ x ne'. put_beside ps us w x h ne') (field_cases i j)
  where
    deeper : ((x : Value) → (Above ps us → ⊥) → hole_at us (put ps w x) ≡ hole_at us x) → (o : Option Value) → part i v ≡ o → (Above ps us → ⊥) → hole_at (Field i ∷ us) (put (Field i ∷ ps) w v) ≡ hole_at (Field i ∷ us) v
    deeper ih (Some x) e ne' =
        let l : at_path (Field i ∷ us) (put (Field i ∷ ps) w v) ≡ at_path us (put ps w x) = some_bind _ (part_changed i (put ps w) v x e) refl in
        let r : at_path (Field i ∷ us) v ≡ at_path us x = some_bind _ e refl in
        ap (option_map is_hole) l ∙ ih x ne' ∙ sym (ap (option_map is_hole) r)
    deeper ih None e ne' = ap (λ o. option_map is_hole (o >>= at_path us)) (gone i v e ∙ sym e)
      where
        gone : (i : ℕ) (v : Value) → part i v ≡ None → part i (change_part i (put ps w) v) ≡ None
        gone zero (cons v vs) e = absurd (grind arith)
        gone (suc i) (cons v vs) e = gone i vs e
        gone zero (number n) e = refl
        gone zero nil e = refl
        gone zero (variant k v) e = refl
        gone zero (pointer a) e = refl
        gone zero hole e = refl
        gone (suc i) (number n) e = refl
        gone (suc i) nil e = refl
        gone (suc i) (variant k v) e = refl
        gone (suc i) (pointer a) e = refl
        gone (suc i) hole e = refl

    go : ((x : Value) → (Above ps us → ⊥) → hole_at us (put ps w x) ≡ hole_at us x) → (i ≡ j) ⊎ (i ≡ j → ⊥) → hole_at (Field j ∷ us) (put (Field i ∷ ps) w v) ≡ hole_at (Field j ∷ us) v
    go ih (inl e) = subst (λ j. hole_at (Field j ∷ us) (put (Field i ∷ ps) w v) ≡ hole_at (Field j ∷ us) v) e (deeper ih (part i v) refl (λ a. ne (a.0, ap (λ i. Field i ∷ us) (sym e) ∙ ap (λ us. Field i ∷ us) a.1)))
    go ih (inr d) = ap (λ o. option_map is_hole (o >>= at_path us)) (part_other i j (put ps w) v d)
put_beside (Downcast k ∷ ps) (Field j ∷ us) w v h ne = ap (λ o. option_map is_hole (o >>= at_path us)) (downcast_field k j (put ps w) v)
put_beside (Deref ∷ ps) (Field j ∷ us) w v h ne = refl
put_beside (p ∷ ps) (Downcast k ∷ us) w v h ne = absurd h
put_beside (p ∷ ps) (Deref ∷ us) w v h ne = absurd h

-- a value without a hole has none at any path
pub whole_at : (ps : List Proj) (v u : Value) → whole v ≡ true → at_path ps v ≡ Some u → whole u ≡ true
whole_at [] v u h e = subst (λ v. whole v ≡ true) (let z : v ≡ u = grind arith in z) h
whole_at (p ∷ ps) v u h e = let (x, e1, e2) = bind_some e in whole_at ps x u (go p v x h e1) e2
  where
    and_first : (a b : Bool) → (a && b) ≡ true → a ≡ true
    and_first true b e = refl
    and_first false b e = absurd (grind arith)

    and_second : (a b : Bool) → (a && b) ≡ true → b ≡ true
    and_second true b e = e
    and_second false b e = absurd (grind arith)

    in_part : (i : ℕ) (v x : Value) → whole v ≡ true → part i v ≡ Some x → whole x ≡ true
    in_part zero (cons v vs) x h e = subst (λ v. whole v ≡ true) (let z : v ≡ x = grind arith in z) (and_first (whole v) (whole vs) h)
    in_part (suc i) (cons v vs) x h e = in_part i vs x (and_second (whole v) (whole vs) h) e
    in_part i v x h e = absurd (grind arith)

    in_payload : (k : ℕ) (v x : Value) → whole v ≡ true → payload k v ≡ Some x → whole x ≡ true
    in_payload k (variant i v) x h e = pick (nat_eq i k) e
      where
        pick : (b : Bool) → (if b then Some v else None) ≡ Some x → whole x ≡ true
        pick true e = subst (λ v. whole v ≡ true) (let z : v ≡ x = grind arith in z) h
        pick false e = absurd (grind arith)
    in_payload k v x h e = absurd (grind arith)

    go : (p : Proj) (v x : Value) → whole v ≡ true → inner p v ≡ Some x → whole x ≡ true
    go (Field i) v x h e = in_part i v x h e
    go (Downcast k) v x h e = in_payload k v x h e
    go Deref v x h e = absurd (grind arith)
