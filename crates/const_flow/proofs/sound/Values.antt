-- What is known of parts of values, where a part changes.
use Rattle.std.proofs.Common.{◌≡◌, inl, inr, refl, sym, ap, ◌∙◌, subst, ℕ, zero, suc, Bool, true, false, nat_eq, ◌||◌, if◌then◌else◌, List, [], ◌∷◌, ◌++◌, Option, Some, None, is_some, slice_get, option_map, arith}
use Rattle.std.proofs.lemmas.Bool.{eqb-true, eqb-false}
use Rattle.mir_syntax.specs.declared.types.ScalarTy.{ScalarTy}
use Rattle.mir_syntax.specs.declared.body.Proj.{Proj}
use Rattle.mir_syntax.specs.declared.body.Proj.TheVariants.{Field, Downcast, Deref}
use Rattle.mir_syntax.specs.Tree.{Tree, scalar, empty, more, ref, ref_mut, named}
use Rattle.mir_syntax.specs.Shapes.{Shape, ◌>>=◌, struct_fields, field_ty, fields_of_struct, fields_of, path_ty}
use Rattle.mir_syntax.specs.Parts.{is_direct}
use Rattle.mir_semantics.specs.Values.{Value, number, nil, cons, variant, pointer, hole, part, payload, inner, at_path, change_part, change_payload, change_inner, put, blank_by, blank_of, blank_def}
use Rattle.mir_syntax.proofs.Binds.{bind_some, some_bind}
use Rattle.const_flow.specs.declared.cell.Cell.{Cell}
use Rattle.const_flow.specs.declared.cell.Cell.TheVariants.{Nothing, Num, Many}
use Rattle.place_map.specs.Tracked.{same_proj, rest_of}
use Rattle.const_flow.specs.Holding.{IsKnown, Fits}

pub hole_known : (k : Cell) (v : Value) → v ≡ hole → IsKnown k v
hole_known Nothing v e = e
hole_known (Num n) v e = inl e
hole_known Many v e = tt

pub nothing_fits : (k : Cell) (o : Option Value) → Fits Nothing o → Fits k o
nothing_fits k None h = tt
nothing_fits k (Some v) h = hole_known k v h

pub many_fits : (o : Option Value) → Fits Many o
many_fits None = tt
many_fits (Some v) = tt

-- paths
same_proj_eq : (q p : Proj) → same_proj q p ≡ true → q ≡ p
same_proj_eq (Field i) (Field j) e = ap Field (eqb-true i j e)
same_proj_eq (Downcast i) (Downcast j) e = ap Downcast (eqb-true i j e)
same_proj_eq Deref Deref e = refl
same_proj_eq q p e = absurd (grind arith)

-- parts of a changed value
part_change : (i : ℕ) (g : Value → Value) (v : Value) → part i (change_part i g v) ≡ option_map g (part i v)
part_change zero g (cons v vs) = refl
part_change (suc i) g (cons v vs) = part_change i g vs
part_change zero g (number n) = refl
part_change zero g nil = refl
part_change zero g (variant k v) = refl
part_change zero g (pointer a) = refl
part_change zero g hole = refl
part_change (suc i) g (number n) = refl
part_change (suc i) g nil = refl
part_change (suc i) g (variant k v) = refl
part_change (suc i) g (pointer a) = refl
part_change (suc i) g hole = refl

payload_change : (k : ℕ) (g : Value → Value) (v : Value) → payload k (change_payload k g v) ≡ option_map g (payload k v)
payload_change k g (variant j v) = go (nat_eq j k)
  where
    go : (b : Bool) → (if b then Some (if b then g v else v) else None) ≡ option_map g (if b then Some v else None)
    go true = refl
    go false = refl
payload_change k g (number n) = refl
payload_change k g nil = refl
payload_change k g (cons v vs) = refl
payload_change k g (pointer a) = refl
payload_change k g hole = refl

inner_change : (p : Proj) (g : Value → Value) (v : Value) → inner p (change_inner p g v) ≡ option_map g (inner p v)
inner_change (Field i) g v = part_change i g v
inner_change (Downcast k) g v = payload_change k g v
inner_change Deref g v = refl

part_other : (i j : ℕ) (g : Value → Value) (v : Value) → (i ≡ j → ⊥) → part j (change_part i g v) ≡ part j v
part_other zero zero g v e = absurd (e refl)
part_other zero (suc j) g (cons v vs) e = refl
part_other (suc i) zero g (cons v vs) e = refl
part_other (suc i) (suc j) g (cons v vs) e = part_other i j g vs (λ q. e (ap suc q))
part_other zero (suc j) g (number n) e = refl
part_other zero (suc j) g nil e = refl
part_other zero (suc j) g (variant k v) e = refl
part_other zero (suc j) g (pointer a) e = refl
part_other zero (suc j) g hole e = refl
part_other (suc i) j g (number n) e = refl
part_other (suc i) j g nil e = refl
part_other (suc i) j g (variant k v) e = refl
part_other (suc i) j g (pointer a) e = refl
part_other (suc i) j g hole e = refl

no_part : (j : ℕ) (k : ℕ) (v : Value) → part j (variant k v) ≡ None
no_part zero k v = refl
no_part (suc j) k v = refl

part_of_payload : (k j : ℕ) (g : Value → Value) (v : Value) → part j (change_payload k g v) ≡ part j v
part_of_payload k j g (variant i v) = no_part j i _ ∙ sym (no_part j i v)
part_of_payload k j g (number n) = refl
part_of_payload k j g nil = refl
part_of_payload k j g (cons v vs) = refl
part_of_payload k j g (pointer a) = refl
part_of_payload k j g hole = refl

-- a change that isn't on the way; the way has fields alone
field_other : (q : Proj) (j : ℕ) (g : Value → Value) (v : Value) → same_proj q (Field j) ≡ false → part j (change_inner q g v) ≡ part j v
field_other (Field i) j g v e = part_other i j g v (eqb-false i j e)
field_other (Downcast k) j g v e = part_of_payload k j g v
field_other Deref j g v e = refl

change_hole : (q : Proj) (g : Value → Value) → change_inner q g hole ≡ hole
change_hole (Field zero) g = refl
change_hole (Field (suc i)) g = refl
change_hole (Downcast k) g = refl
change_hole Deref g = refl

change_num : (q : Proj) (g : Value → Value) (n : ℕ) → change_inner q g (number n) ≡ number n
change_num (Field zero) g n = refl
change_num (Field (suc i)) g n = refl
change_num (Downcast k) g n = refl
change_num Deref g n = refl

-- a part of a scalar isn't there
change_known : (k : Cell) (q : Proj) (g : Value → Value) (v : Value) → IsKnown k v → IsKnown k (change_inner q g v)
change_known Nothing q g v e = ap (change_inner q g) e ∙ change_hole q g
change_known (Num n) q g v (inl e) = inl (ap (change_inner q g) e ∙ change_hole q g)
change_known (Num n) q g v (inr e) = inr (ap (change_inner q g) e ∙ change_num q g n)
change_known Many q g v e = tt

pub put_apart : (k : Cell) (qs ps : List Proj) (v o : Value) → is_direct ps ≡ true → rest_of qs ps ≡ None → Fits k (at_path ps o) → Fits k (at_path ps (put qs v o))
unfolding ◌>>=◌
put_apart k [] ps v o f e h = absurd (grind arith)
put_apart k (q ∷ qs) [] v o f e h = change_known k q (put qs v) o h
put_apart k (q ∷ qs) (Field j ∷ ps) v o f e h = go (λ w e h. put_apart k qs ps v w f e h) (same_proj q (Field j)) refl e
  where
    on : ((w : Value) → rest_of qs ps ≡ None → Fits k (at_path ps w) → Fits k (at_path ps (put qs v w))) → (w : Option Value) → Fits k (w >>= at_path ps) → rest_of qs ps ≡ None → Fits k (option_map (put qs v) w >>= at_path ps)
    on ih None h e = tt
    on ih (Some w) h e = ih w e h

    go : ((w : Value) → rest_of qs ps ≡ None → Fits k (at_path ps w) → Fits k (at_path ps (put qs v w))) → (b : Bool) → same_proj q (Field j) ≡ b → (if b then rest_of qs ps else None) ≡ None → Fits k (part j (change_inner q (put qs v) o) >>= at_path ps)
    go ih true s e =
        let same : q ≡ Field j = same_proj_eq q (Field j) s in
        subst (λ z. Fits k (part j (change_inner z (put qs v) o) >>= at_path ps)) (sym same) (subst (λ w. Fits k (w >>= at_path ps)) (sym (part_change j (put qs v) o)) (on ih (part j o) h e))
    go ih false s e = subst (λ w. Fits k (w >>= at_path ps)) (sym (field_other q j (put qs v) o s)) h
put_apart k (q ∷ qs) (Downcast i ∷ ps) v o f e h = absurd (grind arith)
put_apart k (q ∷ qs) (Deref ∷ ps) v o f e h = absurd (grind arith)

pub put_under : (k : Cell) (qs r : List Proj) (v o : Value) → Fits k (at_path r v) → Fits k (at_path (qs ++ r) (put qs v o))
unfolding ◌>>=◌
put_under k [] r v o h = h
put_under k (q ∷ qs) r v o h = subst (λ w. Fits k (w >>= at_path (qs ++ r))) (sym (inner_change q (put qs v) o)) (on (λ w. put_under k qs r v w h) (inner q o))
  where
    on : ((w : Value) → Fits k (at_path (qs ++ r) (put qs v w))) → (w : Option Value) → Fits k (option_map (put qs v) w >>= at_path (qs ++ r))
    on ih None = tt
    on ih (Some w) = ih w

-- a path in two parts
pub at_append : (qs r : List Proj) (v w : Value) → at_path qs v ≡ Some w → at_path (qs ++ r) v ≡ at_path r w
at_append [] r v w e = ap (at_path r) (let k : v ≡ w = grind arith in k)
at_append (q ∷ qs) r v w e = let (u, e1, e2) = bind_some e in some_bind _ e1 (at_append qs r u w e2)

pub path_append : (D : List Shape) (t u : Tree) (qs r : List Proj) → path_ty D t qs ≡ Some u → path_ty D t (qs ++ r) ≡ path_ty D u r
path_append D t u [] r e = ap (λ t. path_ty D t r) (let k : t ≡ u = grind arith in k)
path_append D t u (q ∷ qs) r e = let (w, e1, e2) = bind_some e in some_bind _ e1 (path_append D w u qs r e2)

-- the blank of a type at a scalar
part_hole : (i : ℕ) → part i hole ≡ None
part_hole zero = refl
part_hole (suc i) = refl

part_num : (i n : ℕ) → part i (number n) ≡ None
part_num zero n = refl
part_num (suc i) n = refl

blank_row : (D : List Shape) (n i : ℕ) (t u : Tree) → field_ty t i ≡ Some u → part i (blank_by (blank_def D n) t) ≡ Some (blank_by (blank_def D n) u)
blank_row D n zero (more t ts) u e = ap (λ t. Some (blank_by (blank_def D n) t)) (let k : t ≡ u = grind arith in k)
blank_row D n (suc i) (more t ts) u e = blank_row D n i ts u e
blank_row D n i t u e = absurd (grind arith)

pub blank_scalar : (D : List Shape) (ps : List Proj) (n : ℕ) (t : Tree) (s : ScalarTy) → is_direct ps ≡ true → path_ty D t ps ≡ Some (scalar s) → Fits Nothing (at_path ps (blank_by (blank_def D n) t))
unfolding ◌>>=◌
blank_scalar D [] n t s f e = ap (blank_by (blank_def D n)) (let k : t ≡ scalar s = grind arith in k)
blank_scalar D (Field i ∷ ps) n t s f e =
    let (u, e1, e2) = bind_some e in
    let (us, e3, e4) = bind_some e1 in
    row (λ m u e2. blank_scalar D ps m u s f e2) t us u e3 e4 e2
  where
    deep : ((m : ℕ) (u : Tree) → path_ty D u ps ≡ Some (scalar s) → Fits Nothing (at_path ps (blank_by (blank_def D m) u))) → (m : ℕ) (us u : Tree) → field_ty us i ≡ Some u → path_ty D u ps ≡ Some (scalar s) → Fits Nothing (part i (blank_by (blank_def D m) us) >>= at_path ps)
    deep ih m us u e4 e2 = subst (λ w. Fits Nothing (w >>= at_path ps)) (sym (blank_row D m i us u e4)) (ih m u e2)

    holes : Fits Nothing (part i hole >>= at_path ps)
    holes = subst (λ w. Fits Nothing (w >>= at_path ps)) (sym (part_hole i)) tt

    of_def : ((m : ℕ) (u : Tree) → path_ty D u ps ≡ Some (scalar s) → Fits Nothing (at_path ps (blank_by (blank_def D m) u))) → (m : ℕ) (df : Shape) (us u : Tree) → fields_of_struct df ≡ Some us → field_ty us i ≡ Some u → path_ty D u ps ≡ Some (scalar s) → Fits Nothing (part i (blank_of (blank_def D m) (Some df)) >>= at_path ps)
    of_def ih m df us u e3 e4 e2 = go df.is_enum (is_some df.destructor) e3
      where
        go : (a b : Bool) → (if a then None else Some (struct_fields df)) ≡ Some us → Fits Nothing (part i (if a || b then hole else blank_by (blank_def D m) (struct_fields df)) >>= at_path ps)
        go true b e = absurd (grind arith)
        go false true e = holes
        go false false e = subst (λ us. Fits Nothing (part i (blank_by (blank_def D m) us) >>= at_path ps)) (let k : us ≡ struct_fields df = grind arith in k) (deep ih m us u e4 e2)

    defined : ((m : ℕ) (u : Tree) → path_ty D u ps ≡ Some (scalar s) → Fits Nothing (at_path ps (blank_by (blank_def D m) u))) → (m d : ℕ) (us u : Tree) → (slice_get D d >>= fields_of_struct) ≡ Some us → field_ty us i ≡ Some u → path_ty D u ps ≡ Some (scalar s) → Fits Nothing (part i (blank_def D m d) >>= at_path ps)
    defined ih zero d us u e3 e4 e2 = holes
    defined ih (suc m) d us u e3 e4 e2 = let (df, g1, g2) = bind_some e3 in subst (λ o. Fits Nothing (part i (blank_of (blank_def D m) o) >>= at_path ps)) (sym g1) (of_def ih m df us u g2 e4 e2)

    row : ((m : ℕ) (u : Tree) → path_ty D u ps ≡ Some (scalar s) → Fits Nothing (at_path ps (blank_by (blank_def D m) u))) → (t us u : Tree) → fields_of D t ≡ Some us → field_ty us i ≡ Some u → path_ty D u ps ≡ Some (scalar s) → Fits Nothing (part i (blank_by (blank_def D n) t) >>= at_path ps)
    row ih (more a as') us u e3 e4 e2 = deep ih n (more a as') u (subst (λ us. field_ty us i ≡ Some u) (let k : us ≡ more a as' = grind arith in k) e4) e2
    row ih (named d) us u e3 e4 e2 = defined ih n d us u e3 e4 e2
    row ih (scalar x) us u e3 e4 e2 = absurd (grind arith)
    row ih empty us u e3 e4 e2 = deep ih n empty u (subst (λ us. field_ty us i ≡ Some u) (let k : us ≡ empty = grind arith in k) e4) e2
    row ih (ref x) us u e3 e4 e2 = absurd (grind arith)
    row ih (ref_mut x) us u e3 e4 e2 = absurd (grind arith)
blank_scalar D (Downcast i ∷ ps) n t s f e = absurd (grind arith)
blank_scalar D (Deref ∷ ps) n t s f e = absurd (grind arith)
