-- The glue of a place that has the type keeps the rules.
use Rattle.std.proofs.Common.{◌≡◌, ◌⊎◌, inl, inr, refl, sym, ap, ◌∙◌, subst, ℕ, zero, suc, ◌+◌, ◌<◌, ◌≤◌, Bool, true, false, nat_lt, ◌^◌, if◌then◌else◌, List, [], ◌∷◌, ◌++◌, length, Option, Some, None, slice_get, arith, lt-ltb}
use Rattle.std.specs.Bool.{then_some}
use Rattle.std.proofs.lemmas.Bool.{and_from}
use Rattle.mir_syntax.specs.declared.body.Place.{Place}
use Rattle.mir_syntax.specs.declared.body.Proj.{Proj}
use Rattle.mir_syntax.specs.declared.body.Proj.TheVariants.{Field, Downcast, Deref}
use Rattle.mir_syntax.specs.Tree.{Tree, scalar, empty, more, named}
use Rattle.mir_syntax.specs.Tree as tree
use Rattle.mir_syntax.specs.Parts.{path_formed}
use Rattle.mir_syntax.specs.Crate.{TypedBody, Crate}
use Rattle.mir_syntax.specs.Shapes.{Shape, struct_fields, fields_of, field_ty, variant_ty, proj_ty, path_ty, place_ty, needs_drop}
use Rattle.mir_syntax.proofs.Binds.{bind_some, some_bind}
use Rattle.mir_rules.specs.Formed.{type_formed}
use Rattle.mir_rules.specs.Limits.{most_nodes}
use Rattle.mir_rules.specs.Typing.{enum_of}
use Rattle.mir_rules.proofs.Lists.{and_true-left, and_true-right}
use Rattle.drop_elab.specs.Plan.{Plan, done, destroy, choose, arm, guarded, clear, part, glue_from, arms_of, chosen, glue_inside, glue_shape, glue_of, glue_def, glue}
use Rattle.drop_elab.specs.Tupled.{FewVariants}
use Rattle.drop_elab.proofs.refines.Places.{Armed}
use Rattle.drop_elab.proofs.refines.Items.{IsTuple, Proper, ProperShapes, first_proper}
use Rattle.drop_elab.proofs.refines.Propers.{tuple_fields}
use Rattle.drop_elab.proofs.valid.Fine as fine
use Rattle.drop_elab.proofs.valid.LaidFine.{Rising, rising_less}
use Rattle.drop_elab.proofs.valid.LaidFine as laid

-- ---- paths

path_field : (ps : List Proj) (i : ℕ) → path_formed ps ≡ true → path_formed (ps ++ Field i ∷ []) ≡ true
path_field [] i h = refl
path_field (Field k ∷ ps) i h = path_field ps i h
path_field (Deref ∷ ps) i h = path_field ps i h
path_field (Downcast k ∷ []) i h = absurd (grind arith)
path_field (Downcast k ∷ Field j ∷ ps) i h = path_field ps i h
path_field (Downcast k ∷ Downcast j ∷ ps) i h = absurd (grind arith)
path_field (Downcast k ∷ Deref ∷ ps) i h = absurd (grind arith)

path_variant : (ps : List Proj) (k i : ℕ) → path_formed ps ≡ true → path_formed ((ps ++ Downcast k ∷ []) ++ Field i ∷ []) ≡ true
path_variant [] k i h = refl
path_variant (Field j ∷ ps) k i h = path_variant ps k i h
path_variant (Deref ∷ ps) k i h = path_variant ps k i h
path_variant (Downcast v ∷ []) k i h = absurd (grind arith)
path_variant (Downcast v ∷ Field j ∷ ps) k i h = path_variant ps k i h
path_variant (Downcast v ∷ Downcast j ∷ ps) k i h = absurd (grind arith)
path_variant (Downcast v ∷ Deref ∷ ps) k i h = absurd (grind arith)

pub path_end : (D : List Shape) (ps : List Proj) (q : Proj) (t u w : Tree) → path_ty D t ps ≡ Some u → proj_ty D u q ≡ Some w → path_ty D t (ps ++ q ∷ []) ≡ Some w
path_end D [] q t u w e f = some_bind _ (ap (λ t. proj_ty D t q) (let z : t ≡ u = grind arith in z) ∙ f) refl
path_end D (p ∷ ps) q t u w e f = (let (x, e1, e2) = bind_some e in some_bind _ e1 (path_end D ps q x u w e2 f))

module _ (C : Crate) (D : List Shape) (e : TypedBody) where
  -- a place, whose variants may have been chosen
  pub record Typed (p : Place) (t : Tree) : Type 0 where
    pub local : nat_lt p.local (length e.locals) ≡ true
    pub ty : place_ty D e.locals p ≡ Some t

  typed_part : (p : Place) (q : Proj) (t u : Tree) → Typed p t → proj_ty D t q ≡ Some u → Typed (part p q) u
  unfolding place_ty
  typed_part p q t u h f = (let (lt, e1, e2) = bind_some h.ty in record { local = h.local; ty = some_bind _ e1 (path_end D p.proj q lt t u e2 f) })

  pub placed : (p : Place) (t : Tree) → fine.PlaceFine C D e p t → Typed p t
  placed p t h = record { local = and_true-left (nat_lt p.local (length e.locals)) (path_formed p.proj) h.formed; ty = h.typed }

  -- the fields of a place
  abbrev pub Row : Place → ℕ → Tree → Type 0
  Row p i us = (j : ℕ) (u : Tree) → field_ty us j ≡ Some u → fine.PlaceFine C D e (part p (Field (i + j))) u

  type_row : (p : Place) (t us : Tree) → fine.PlaceFine C D e p t → fields_of D t ≡ Some us → Row p 0 us
  type_row p t us h f j u k =
      let a = typed_part p (Field j) t u (placed p t h) (some_bind _ f k) in
      let z : 0 + j ≡ j = omega arith in
      subst (λ n. fine.PlaceFine C D e (part p (Field n)) u) (sym z) (record { formed = and_from _ _ a.local (path_field p.proj j (and_true-right (nat_lt p.local (length e.locals)) (path_formed p.proj) h.formed)); typed = a.ty })

  variant_row : (p : Place) (t us : Tree) (k : ℕ) → fine.PlaceFine C D e p t → variant_ty D t k ≡ Some us → IsTuple us → Row (part p (Downcast k)) 0 us
  variant_row p t us k h f tu j u q =
      let a = typed_part p (Downcast k) t us (placed p t h) f in
      let b = typed_part (part p (Downcast k)) (Field j) us u a (some_bind _ (tuple_fields D us tu) q) in
      let z : 0 + j ≡ j = omega arith in
      subst (λ n. fine.PlaceFine C D e (part (part p (Downcast k)) (Field n)) u) (sym z) (record { formed = and_from _ _ b.local (path_variant p.proj k j (and_true-right (nat_lt p.local (length e.locals)) (path_formed p.proj) h.formed)); typed = b.ty })

  -- what is asked of a function that makes the glue of definitions
  abbrev OfDef : (ℕ → Place → Plan → Plan) → Type 0
  OfDef of_def = (d : ℕ) (p : Place) (rest : Plan) → fine.PlaceFine C D e p (named d) → laid.PlanFine C D e rest → laid.PlanFine C D e (of_def d p rest)

  -- a type at a place, or the rest of a tuple
  abbrev Stands : Place → ℕ → Tree → Type 0
  Stands p i t = (fine.PlaceFine C D e p t × (i ≡ 0)) ⊎ (IsTuple t × Row p i t)

  module _ (of_def : ℕ → Place → Plan → Plan) (ok : OfDef of_def) where
    row_of : (p : Place) (i : ℕ) (t ts : Tree) → Stands p i (more t ts) → Row p i (more t ts)
    row_of p i t ts (inl (h, z)) j u k = subst (λ i. fine.PlaceFine C D e (part p (Field (i + j))) u) (sym z) (type_row p (more t ts) (more t ts) h refl j u k)
    row_of p i t ts (inr h) j u k = h.1 j u k

    from_fine : (t : Tree) (p : Place) (i : ℕ) (rest : Plan) → Proper t → Stands p i t → laid.PlanFine C D e rest → laid.PlanFine C D e (glue_from of_def p i t rest)
    from_fine (more t ts) p i rest pr st h =
        let row = row_of p i t ts st in
        let z : i + 0 ≡ i = omega arith in
        from_fine t (part p (Field i)) 0 (glue_from of_def p (suc i) ts rest) pr.0 (inl (subst (λ n. fine.PlaceFine C D e (part p (Field n)) t) z (row 0 t refl), refl))
        (from_fine ts p (suc i) rest pr.2 (inr (pr.1, λ j u k. (let y : i + suc j ≡ suc i + j = omega arith in subst (λ n. fine.PlaceFine C D e (part p (Field n)) u) y (row (suc j) u k)))) h)
    from_fine (named d) p i rest pr (inl (q, z)) h = ok d p rest q h
    from_fine (named d) p i rest pr (inr (q, z)) h = absurd q
    from_fine (scalar s) p i rest pr st h = h
    from_fine empty p i rest pr st h = h
    from_fine (tree.ref t) p i rest pr st h = h
    from_fine (tree.ref_mut t) p i rest pr st h = h

    -- the arms of an enum
    abbrev Variants : Place → ℕ → List Tree → Type 0
    Variants p k ts = (j : ℕ) (us : Tree) → slice_get ts j ≡ Some us → IsTuple us × Proper us × Row (part p (Downcast (k + j))) 0 us

    arms_fine : (p : Place) (k : ℕ) (ts : List Tree) → Variants p k ts → k + length ts ≤ most_nodes → laid.PlanFine C D e (arms_of D of_def p k ts) × Armed (arms_of D of_def p k ts) × Rising k (arms_of D of_def p k ts)
    arms_fine p k [] vs l = (tt, tt, tt)
    arms_fine p k (t ∷ ts) vs l = go (needs_drop D t) (arms_fine p (suc k) ts (λ j us q. (let y : k + suc j ≡ suc k + j = omega arith in subst (λ n. IsTuple us × Proper us × Row (part p (Downcast n)) 0 us) y (vs (suc j) us q))) (omega (arith, l)))
      where
        first : laid.PlanFine C D e (glue_from of_def (part p (Downcast k)) 0 t done)
        first =
            let z : k + 0 ≡ k = omega arith in
            let (tu, pr, row) = subst (λ n. IsTuple t × Proper t × Row (part p (Downcast n)) 0 t) z (vs 0 t refl) in
            from_fine t (part p (Downcast k)) 0 done pr (inr (tu, row)) tt

        small : nat_lt k (2 ^ 64) ≡ true
        small = lt-ltb k (2 ^ 64) (less k (omega (arith, l)))
          where
            less : (k : ℕ) → k < most_nodes → k < 2 ^ 64
            less k l = omega (arith, l)

        go : (b : Bool) → laid.PlanFine C D e (arms_of D of_def p (suc k) ts) × Armed (arms_of D of_def p (suc k) ts) × Rising (suc k) (arms_of D of_def p (suc k) ts) → laid.PlanFine C D e (if b then arm k (glue_from of_def (part p (Downcast k)) 0 t done) (arms_of D of_def p (suc k) ts) else arms_of D of_def p (suc k) ts) × Armed (if b then arm k (glue_from of_def (part p (Downcast k)) 0 t done) (arms_of D of_def p (suc k) ts) else arms_of D of_def p (suc k) ts) × Rising k (if b then arm k (glue_from of_def (part p (Downcast k)) 0 t done) (arms_of D of_def p (suc k) ts) else arms_of D of_def p (suc k) ts)
        go true (a, b, c) = ((first, a), b, (omega arith, small, c))
        go false (a, b, c) = (a, b, rising_less k (suc k) (arms_of D of_def p (suc k) ts) (omega arith) c)

  chosen_fine : (p : Place) (t : Tree) (s : Shape) (arms rest : Plan) → fine.PlaceFine C D e p t → enum_of D t ≡ Some s → laid.PlanFine C D e arms → Armed arms → Rising 0 arms → laid.PlanFine C D e rest → laid.PlanFine C D e (chosen p arms rest)
  chosen_fine p t s done rest h en a b c r = r
  chosen_fine p t s (arm k q as') rest h en a b c r = ((t, s, h, en), b, c, a, r)
  chosen_fine p t s (destroy q u g as') rest h en a b c r = absurd b
  chosen_fine p t s (choose q as' qs) rest h en a b c r = absurd b
  chosen_fine p t s (guarded x q as') rest h en a b c r = absurd b
  chosen_fine p t s (clear x as') rest h en a b c r = absurd b

  -- what is asked of definitions
  pub record DefsFine : Type 0 where
    pub proper : ProperShapes D
    pub few : FewVariants D
    pub formed : (d : ℕ) (s : Shape) → slice_get D d ≡ Some s → type_formed C (named d) ≡ true
    pub destroys : (d : ℕ) (s : Shape) (g : ℕ) → slice_get D d ≡ Some s → s.destructor ≡ Some g → fine.Destroys C D e (named d) g

  module _ (defs : DefsFine) where
    inside_fine : (of_def : ℕ → Place → Plan → Plan) → OfDef of_def → (d : ℕ) (s : Shape) (p : Place) (rest : Plan) → slice_get D d ≡ Some s → fine.PlaceFine C D e p (named d) → laid.PlanFine C D e rest → laid.PlanFine C D e (glue_inside D of_def s p rest)
    inside_fine of_def ok d s p rest es h r = go s.is_enum refl
      where
        go : (b : Bool) → s.is_enum ≡ b → laid.PlanFine C D e (if b then chosen p (arms_of D of_def p 0 s.variants) rest else glue_from of_def p 0 (struct_fields s) rest)
        go true q =
            let (a, b, c) = arms_fine of_def ok p 0 s.variants (λ j us k. (let (tu, pr) = defs.proper d s es j us k in let z : 0 + j ≡ j = omega arith in (tu, pr, subst (λ n. Row (part p (Downcast n)) 0 us) (sym z) (variant_row p (named d) us j h (some_bind _ es (ap (λ b. if b then slice_get s.variants j else None) q ∙ k)) tu)))) (let f = defs.few d s es q in omega (arith, f)) in
            chosen_fine p (named d) s (arms_of D of_def p 0 s.variants) rest h (some_bind _ es (ap (λ b. then_some b s) q)) a b c r
        go false q =
            let (tu, pr) = first_proper s.variants (defs.proper d s es) in
            from_fine of_def ok (struct_fields s) p 0 rest pr (inr (tu, type_row p (named d) (struct_fields s) h (some_bind _ es (ap (λ b. if b then None else Some (struct_fields s)) q)))) r

    def_fine : (n : ℕ) → OfDef (glue_def D n)
    def_fine zero d p rest h r = r
    def_fine (suc n) d p rest h r = go (needs_drop D (named d)) (slice_get D d) refl (def_fine n)
      where
        shape : (s : Shape) (o : Option ℕ) → slice_get D d ≡ Some s → s.destructor ≡ o → OfDef (glue_def D n) → laid.PlanFine C D e (glue_shape D (glue_def D n) d s o p rest)
        shape s None es q ih = inside_fine (glue_def D n) ih d s p rest es h r
        shape s (Some g) es q ih = (h, defs.formed d s es, defs.destroys d s g es q, inside_fine (glue_def D n) ih d s p rest es h r)

        go : (b : Bool) (o : Option Shape) → slice_get D d ≡ o → OfDef (glue_def D n) → laid.PlanFine C D e (glue_of D (glue_def D n) d b o p rest)
        go true (Some s) es ih = shape s s.destructor es refl ih
        go true None es ih = r
        go false o es ih = r

    pub glue_fine : (p : Place) (t : Tree) (rest : Plan) → Proper t → fine.PlaceFine C D e p t → laid.PlanFine C D e rest → laid.PlanFine C D e (glue D p t rest)
    unfolding glue
    glue_fine p t rest pr h r = from_fine (glue_def D (length D)) (def_fine (length D)) t p 0 rest pr (inl (h, refl)) r
