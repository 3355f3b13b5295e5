-- The destructors in a part of a value are among those in the whole.
use Rattle.std.proofs.Common.{◌≡◌, inl, inr, refl, sym, ap, ◌∙◌, subst, ℕ, zero, suc, ◌+◌, ◌<◌, Bool, true, false, List, [], ◌∷◌, ◌++◌, length, Option, Some, None, slice_get, get_or, arith}
use Rattle.std.specs.Prelude.{nat_eq, cond, if◌then◌else◌, option_to_list}
use Rattle.std.specs.List.{flat_map, range_with_len}
use Rattle.std.proofs.lemmas.Bool.{and_parts}
use Rattle.std.proofs.lemmas.Bool.Decides.{nat_tests}
use Rattle.std.proofs.lemmas.List.FromFn.{length-range_with_len, get_or-range_with_len}
use Rattle.std.proofs.lemmas.Option.{slice_get_within}
use Rattle.bit_rows.specs.Rows.{stands}
use Rattle.mir_syntax.specs.declared.body.Proj.{Proj}
use Rattle.mir_syntax.specs.declared.body.Proj.TheVariants.{Field, Downcast, Deref}
use Rattle.mir_syntax.specs.declared.body.Place.{Place}
use Rattle.mir_syntax.specs.Tree.{Tree, scalar, empty, more, ref, ref_mut, named}
use Rattle.mir_syntax.specs.Shapes.{Shape, ◌>>=◌, first_variant, struct_fields, fields_of_struct, field_ty, fields_of, proj_ty, path_ty, place_ty, ends_in_downcast, whole_path_ty, whole_place_ty}
use Rattle.mir_syntax.specs.Parts.{is_direct}
use Rattle.liveness.proofs.Growing.{Each, each_all, enough}
use Rattle.move_paths.specs.Effects.{same_field, goes_on, is_under}
use Rattle.call_graph.specs.Callees.{destructors_by, destructors_of, destructors_def, destructors_in, dropped_in}
use Rattle.call_graph.proofs.Once.{stands_append, stands_left, stands_right}

same_from : (a b : Bool) → (a ≡ true → b ≡ true) → (b ≡ true → a ≡ true) → a ≡ b
same_from true b h k = sym (h refl)
same_from false true h k = k refl
same_from false false h k = refl

-- ---- depths of definitions inside one another

module _ (x : ℕ) where
  -- what stands in the first list stands in the second
  abbrev pub Leads : List ℕ → List ℕ → Type 0
  Leads xs ys = stands x xs ≡ true → stands x ys ≡ true

  joined : (as' bs cs ds : List ℕ) → Leads as' cs → Leads bs ds → Leads (as' ++ bs) (cs ++ ds)
  joined as' bs cs ds h k s = elim (stands_append x as' bs s) [ inl a ↦ stands_left x cs ds (h a) | inr b ↦ stands_right x cs ds (k b) ]

  module _ (p q : ℕ → List ℕ) (h : (d : ℕ) → Leads (p d) (q d)) where
    by_more : (t : Tree) → Leads (destructors_by p t) (destructors_by q t)
    by_more (more t ts) = joined (destructors_by p t) (destructors_by p ts) (destructors_by q t) (destructors_by q ts) (by_more t) (by_more ts)
    by_more (named d) = h d
    by_more (scalar s) = λ k. k
    by_more empty = λ k. k
    by_more (ref t) = λ k. k
    by_more (ref_mut t) = λ k. k

    any_more : (ts : List Tree) → Leads (flat_map (destructors_by p) ts) (flat_map (destructors_by q) ts)
    any_more [] = λ k. k
    any_more (t ∷ ts) = joined (destructors_by p t) (flat_map (destructors_by p) ts) (destructors_by q t) (flat_map (destructors_by q) ts) (by_more t) (any_more ts)

    of_more : (o : Option Shape) → Leads (destructors_of p o) (destructors_of q o)
    of_more None = λ k. k
    of_more (Some s) = joined (option_to_list s.destructor) (flat_map (destructors_by p) s.variants) (option_to_list s.destructor) (flat_map (destructors_by q) s.variants) (λ k. k) (any_more s.variants)

  module _ (D : List Shape) where
    S : ℕ → ℕ → Bool
    S m d = stands x (destructors_def D m d)

    grows : (m d : ℕ) → S m d ≡ true → S (suc m) d ≡ true
    unfolding S
    grows zero d h = absurd (cc)
    grows (suc m) d h = of_more (destructors_def D m) (destructors_def D (suc m)) (λ e. grows m e) (slice_get D d) h

    each_get : (P : ℕ → Type 0) (xs : List ℕ) (i : ℕ) → i < length xs → Each P xs → P (get_or xs i 0)
    each_get P [] i l h = absurd (omega arith)
    each_get P (y ∷ xs) zero l h = h.0
    each_get P (y ∷ xs) (suc i) l h = each_get P xs i (omega (arith, l)) h.1

    each_below : (P : ℕ → Type 0) (n d : ℕ) → d < n → Each P (range_with_len 0 n) → P d
    each_below P n d l h =
        subst P (get_or-range_with_len 0 n d 0 l ∙ (let z : 0 + d ≡ d = omega arith in z))
        (each_get P (range_with_len 0 n) d (omega (arith, l, length-range_with_len 0 n)) h)

    step : (m : ℕ) → Each (λ d. S m d ≡ S (suc m) d) (range_with_len 0 (length D)) → Each (λ d. S (suc m) d ≡ S (suc (suc m)) d) (range_with_len 0 (length D))
    unfolding S
    step m e = each_all (λ d. S (suc m) d ≡ S (suc (suc m)) d) one (range_with_len 0 (length D))
      where
        here : (d : ℕ) → S m d ≡ S (suc m) d
        here d = go (slice_get D d) refl m (λ s k. each_below (λ d. S m d ≡ S (suc m) d) (length D) d (slice_get_within D d s k) e)
          where
            go : (o : Option Shape) → slice_get D d ≡ o → (m : ℕ) → ((s : Shape) → slice_get D d ≡ Some s → S m d ≡ S (suc m) d) → S m d ≡ S (suc m) d
            go (Some s) k m h = h s k
            go None k zero h = sym (ap (λ o. stands x (destructors_of (destructors_def D zero) o)) k)
            go None k (suc m) h = ap (λ o. stands x (destructors_of (destructors_def D m) o)) k ∙ sym (ap (λ o. stands x (destructors_of (destructors_def D (suc m)) o)) k)

        one : (d : ℕ) → S (suc m) d ≡ S (suc (suc m)) d
        one d = same_from (S (suc m) d) (S (suc (suc m)) d)
            (of_more (destructors_def D m) (destructors_def D (suc m)) (λ e h. sym (here e) ∙ h) (slice_get D d))
            (of_more (destructors_def D (suc m)) (destructors_def D m) (λ e h. here e ∙ h) (slice_get D d))

    -- as many definitions as there are are deep enough
    deep : (m d : ℕ) → d < length D → Leads (destructors_def D m d) (destructors_def D (length D) d)
    unfolding S
    deep m d l h =
        let all = enough (range_with_len 0 (length D)) S grows step m in
        let at = each_below (λ d. S m d ≡ true → S (length (range_with_len 0 (length D))) d ≡ true) (length D) d l all in
        subst (λ (n : ℕ). S n d ≡ true) (length-range_with_len 0 (length D)) (at h)

    -- ---- parts of a type

    module _ (p : ℕ → List ℕ) where
      tuple_part : (t u : Tree) (i : ℕ) → field_ty t i ≡ Some u → Leads (destructors_by p u) (destructors_by p t)
      tuple_part (more t ts) u zero e h = stands_left x (destructors_by p t) (destructors_by p ts) (subst (λ v. stands x (destructors_by p v) ≡ true) (let z : u ≡ t = grind arith in z) h)
      tuple_part (more t ts) u (suc i) e h = stands_right x (destructors_by p t) (destructors_by p ts) (tuple_part ts u i e h)
      tuple_part (scalar s) u i e h = absurd (grind arith)
      tuple_part empty u i e h = absurd (grind arith)
      tuple_part (ref t) u i e h = absurd (grind arith)
      tuple_part (ref_mut t) u i e h = absurd (grind arith)
      tuple_part (named d) u i e h = absurd (grind arith)

      first_part : (ts : List Tree) → Leads (destructors_by p (first_variant ts)) (flat_map (destructors_by p) ts)
      first_part [] h = absurd (cc)
      first_part (t ∷ ts) h = stands_left x (destructors_by p t) (flat_map (destructors_by p) ts) h

    struct_part : (d : ℕ) (u : Tree) (i : ℕ) → (fields_of D (named d) >>= λ v. field_ty v i) ≡ Some u → Leads (destructors_in D u) (destructors_in D (named d))
    unfolding ◌>>=◌ destructors_in
    struct_part d u i e h = go (slice_get D d) refl e
      where
        own : (s : Shape) → slice_get D d ≡ Some s → field_ty (struct_fields s) i ≡ Some u → stands x (destructors_def D (length D) d) ≡ true
        own s at f =
            let inside = first_part (destructors_def D (length D)) s.variants (tuple_part (destructors_def D (length D)) (struct_fields s) u i f h) in
            let all : stands x (destructors_def D (suc (length D)) d) ≡ true = ap (λ o. stands x (destructors_of (destructors_def D (length D)) o)) at ∙ stands_right x (option_to_list s.destructor) (flat_map (destructors_by (destructors_def D (length D))) s.variants) inside in
            deep (suc (length D)) d (slice_get_within D d s at) all

        of_struct : (s : Shape) (c : Bool) → slice_get D d ≡ Some s → ((if c then None else Some (struct_fields s)) >>= λ v. field_ty v i) ≡ Some u → stands x (destructors_def D (length D) d) ≡ true
        of_struct s true at f = absurd (grind arith)
        of_struct s false at f = own s at f

        go : (o : Option Shape) → slice_get D d ≡ o → ((o >>= fields_of_struct) >>= λ v. field_ty v i) ≡ Some u → stands x (destructors_def D (length D) d) ≡ true
        go None at f = absurd (grind arith)
        go (Some s) at f = of_struct s s.is_enum at f

    field_part : (t u : Tree) (i : ℕ) → proj_ty D t (Field i) ≡ Some u → Leads (destructors_in D u) (destructors_in D t)
    unfolding ◌>>=◌ destructors_in
    field_part (more t ts) u i e h = tuple_part (destructors_def D (length D)) (more t ts) u i e h
    field_part (named d) u i e h = struct_part d u i e h
    field_part (scalar s) u i e h = absurd (grind arith)
    field_part empty u i e h = absurd (grind arith)
    field_part (ref t) u i e h = absurd (grind arith)
    field_part (ref_mut t) u i e h = absurd (grind arith)

    path_part : (ps : List Proj) (t u : Tree) → is_direct ps ≡ true → path_ty D t ps ≡ Some u → Leads (destructors_in D u) (destructors_in D t)
    unfolding ◌>>=◌
    path_part [] t u direct e h = subst (λ v. stands x (destructors_in D v) ≡ true) (let z : u ≡ t = grind arith in z) h
    path_part (Field i ∷ ps) t u direct e h = go (proj_ty D t (Field i)) refl e (λ v f. path_part ps v u direct f h)
      where
        go : (o : Option Tree) → proj_ty D t (Field i) ≡ o → (o >>= λ v. path_ty D v ps) ≡ Some u → ((v : Tree) → path_ty D v ps ≡ Some u → stands x (destructors_in D v) ≡ true) → stands x (destructors_in D t) ≡ true
        go None k f r = absurd (grind arith)
        go (Some v) k f r = field_part t v i k (r v f)
    path_part (Downcast k ∷ ps) t u direct e h = absurd (cc)
    path_part (Deref ∷ ps) t u direct e h = absurd (cc)

    -- ---- a unit under a place

    record Whole (t : Tree) (ps : List Proj) (u : Tree) : Type 0 where
      pub whole : Tree
      pub is : path_ty D t ps ≡ Some whole
      pub leads : Leads (destructors_in D u) (destructors_in D whole)

    on_the_way : (ps qs : List Proj) (t u : Tree) → goes_on ps qs ≡ true → is_direct qs ≡ true → path_ty D t qs ≡ Some u → Whole t ps u
    unfolding ◌>>=◌
    on_the_way [] qs t u on direct e = record { whole = t; is = refl; leads = path_part qs t u direct e }
    on_the_way (p ∷ ps) [] t u on direct e = absurd (cc)
    on_the_way (Field i ∷ ps) (Field j ∷ qs) t u on direct e = go (proj_ty D t (Field j)) refl e (λ v f. on_the_way ps qs v u (and_parts (same_field (Field i) (Field j)) (goes_on ps qs) on).1 direct f)
      where
        same : i ≡ j
        same = let a : nat_eq i j ≡ true = (and_parts (same_field (Field i) (Field j)) (goes_on ps qs) on).0 in grind (arith, nat_tests)

        go : (o : Option Tree) → proj_ty D t (Field j) ≡ o → (o >>= λ v. path_ty D v qs) ≡ Some u → ((v : Tree) → path_ty D v qs ≡ Some u → Whole v ps u) → Whole t (Field i ∷ ps) u
        go None k f r = absurd (grind arith)
        go (Some v) k f r =
            let w = r v f in
            record { whole = w.whole; is = ap (λ o. o >>= λ v. path_ty D v ps) (ap (λ (n : ℕ). proj_ty D t (Field n)) same ∙ k) ∙ w.is; leads = w.leads }
    on_the_way (Field i ∷ ps) (Downcast k ∷ qs) t u on direct e = absurd (cc)
    on_the_way (Field i ∷ ps) (Deref ∷ qs) t u on direct e = absurd (cc)
    on_the_way (Downcast k ∷ ps) (q ∷ qs) t u on direct e = absurd (cc)
    on_the_way (Deref ∷ ps) (q ∷ qs) t u on direct e = absurd (cc)

    no_downcast : (ps qs : List Proj) → goes_on ps qs ≡ true → ends_in_downcast ps ≡ false
    no_downcast [] qs on = refl
    no_downcast (p ∷ ps) [] on = absurd (cc)
    no_downcast (Field i ∷ []) (q ∷ qs) on = refl
    no_downcast (Field i ∷ (p ∷ ps)) (q ∷ qs) on = no_downcast (p ∷ ps) qs (and_parts (same_field (Field i) q) (goes_on (p ∷ ps) qs) on).1
    no_downcast (Downcast k ∷ ps) (q ∷ qs) on = absurd (cc)
    no_downcast (Deref ∷ ps) (q ∷ qs) on = absurd (cc)

    -- what a unit may run, a drop of a place above it may
    pub unit_leads : (locals : List Tree) (p u : Place) (t : Tree) → is_under p u ≡ true → is_direct u.proj ≡ true → place_ty D locals u ≡ Some t → Leads (destructors_in D t) (dropped_in D (whole_place_ty D locals p))
    unfolding ◌>>=◌ place_ty whole_path_ty
    unit_leads locals p u t under direct e h = go (slice_get locals u.local) refl e
      where
        parts : (nat_eq p.local u.local ≡ true) × (goes_on p.proj u.proj ≡ true)
        parts = and_parts (nat_eq p.local u.local) (goes_on p.proj u.proj) under

        same : p.local ≡ u.local
        same = let a = parts.0 in grind (arith, nat_tests)

        go : (o : Option Tree) → slice_get locals u.local ≡ o → (o >>= λ s. path_ty D s u.proj) ≡ Some t → stands x (dropped_in D (whole_place_ty D locals p)) ≡ true
        go None k f = absurd (grind arith)
        go (Some s) k f =
            let w = on_the_way p.proj u.proj s t parts.1 direct f in
            let is : whole_place_ty D locals p ≡ Some w.whole =
            ap (λ (n : ℕ). slice_get locals n >>= λ s. whole_path_ty D s p.proj) same
            ∙ ap (λ o. o >>= λ s. whole_path_ty D s p.proj) k
            ∙ ap (λ c. cond c None (path_ty D s p.proj)) (no_downcast p.proj u.proj parts.1)
            ∙ w.is in
            subst (λ o. stands x (dropped_in D o) ≡ true) (sym is) (w.leads h)
